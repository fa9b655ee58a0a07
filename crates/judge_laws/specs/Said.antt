-- What the rounds of a run say is what a pattern can meet (own).
use Rattle.std.specs.Prelude.{◌≡◌, ℕ, false, List, [], All, Ok}
use Rattle.line_wave.specs.Line.{Line}
use Rattle.line_reading.specs.Readings.{readings_of}
use Rattle.capture_monitor.specs.Watch.{reading_as}
use Rattle.capture_laws.specs.Dumps.{names_in}
use Rattle.room_script.specs.Topology.{Plan, topology_of}
use Rattle.room_run.specs.Happening.{Happening}
use Rattle.room_run.specs.Run.{Config}
use Rattle.expect_text.specs.Faults.{names_of}
use Rattle.expect_text.specs.Names.{is_meetable}
use Rattle.expect_text.specs.Said.{IsSaid}
use Rattle.expect_text.specs.Senders.Judged.{Run, Capture}
use Rattle.expect_judge.specs.Seen.{ends_seen}
use Rattle.expect_judge.specs.declared.seen.TimeSpan.{TimeSpan}
use Rattle.expect_told.specs.Said.{reading_said}
use Rattle.record_core.specs.declared.cell.Form.TheVariants.{Text}
use Rattle.expect_told.specs.Turns.{IsRunOf, told_by}

-- The devices of a topology that is accepted are those that its lines declare, in their order: those by which patterns are judged.
abbrev pub NamesAreDeclared : Type 0
NamesAreDeclared = (topology : List ℕ) (plan : Plan) → topology_of topology ≡ Ok plan → names_in plan.tree ≡ names_of topology

-- What each round of a run says is the text of a frame, or of bits, and then of some of the topology's devices, each once and in its
-- order, those that did not go on with a slot from 1 to 160.
abbrev pub RoundsAreSaid : Type 0
RoundsAreSaid = (topology plain : List ℕ) (happened : List Happening) (last : Config) → IsRunOf topology plain happened last
    → All (λ r. IsSaid (Run (names_of topology)) r.reported) (told_by Text false happened).rounds

-- What each reading of a line says, cut at an instant, is such a text without senders.
abbrev pub ReadingsAreSaid : Type 0
ReadingsAreSaid = (low : Line) (end : ℕ) → All (λ x. IsSaid Capture (reading_said (reading_as x))) (readings_of low end)

-- No round of a run meets a pattern that is refused.
abbrev pub RefusedAreNeverSeen : Type 0
RefusedAreNeverSeen = (topology plain pattern : List ℕ) (happened : List Happening) (last : Config) (span : TimeSpan) → IsRunOf topology plain happened last
    → is_meetable (Run (names_of topology)) pattern ≡ false → ends_seen (told_by Text false happened).rounds span pattern ≡ []
