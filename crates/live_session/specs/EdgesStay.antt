-- What is certain of the edges of a round that is on (this profile's own).
use Rattle.std.specs.Prelude.{◌≡◌, ℕ, ◌≤◌, List, ◌∷◌, Some, None}
use Rattle.line_wave.specs.declared.Stretch.{Stretch}
use Rattle.line_wave.specs.Bounds.{latest_event}
use Rattle.line_wave.specs.Line.{IsWave, line_of}
use Rattle.line_reading.specs.Reading.{reading_of}
use Rattle.line_rounds.specs.declared.Outcome.{Outcome}
use Rattle.room_net.specs.State.{NetState}
use Rattle.room_net.specs.Step.{IsNextRound}
use Rattle.record_core.specs.declared.cell.Form.{Form}
use Rattle.room_script.specs.declared.script.TimedEvent.{TimedEvent}
use Rattle.room_run.specs.declared.run.Turn.TheVariants.{Round}
use Rattle.room_run.specs.Run.{Config, turn_at}
use Rattle.room_run.specs.Certain.{ComesFrom, with_more, with_pulses}
use Rattle.live_session.specs.declared.edges.InstantRange.{InstantRange}
use Rattle.live_session.specs.Edges.{edges_reported}
use Rattle.live_session.specs.Turns.{HasEdges, MayCome, certain_until}

-- The round that comes next before an instant, and so has begun, comes next in every run that may still come, whatever comes for that
-- instant or later; and the edges of it that lie before the instant are its edges there, all that lie before it.
abbrev pub EdgesStay : Type 0
EdgesStay = (form : Form) (span : InstantRange) (until end begin : ℕ) (c : Config) (edges : List ℕ) (events : List TimedEvent) (later : List Stretch) → ComesFrom until events later end → span.until ≤ until
    → turn_at until c ≡ Round begin → HasEdges form span None begin c.net edges
    → (turn_at end (with_more events later c) ≡ Round begin)
    × ((outcome : Outcome) (after : NetState) → IsWave outcome.wave → IsNextRound (with_pulses later c.net) begin outcome after → edges ≡ edges_reported form span outcome.wave)

-- The same while the pin is low from an instant on, where its pull is of that round: where it goes low within the round's reading. However
-- long it is low, up to the horizon at least, the edges that lie before the horizon stay.
abbrev pub PinnedEdgesStay : Type 0
PinnedEdgesStay = (form : Form) (span : InstantRange) (low horizon end begin : ℕ) (c : Config) (edges : List ℕ) (pull : Stretch) (events : List TimedEvent) (later : List Stretch)
    → low ≤ latest_event → horizon ≤ latest_event → span.until ≤ horizon → MayCome (Some low) horizon events (pull ∷ later) end
    → turn_at (certain_until (Some low) horizon) c ≡ Round begin → HasEdges form span (Some low) begin c.net edges
    → (turn_at end (with_more events (pull ∷ later) c) ≡ Round begin)
    × ((outcome : Outcome) (after : NetState) → IsWave outcome.wave → IsNextRound (with_pulses (pull ∷ later) c.net) begin outcome after → low ≤ (reading_of (line_of outcome.wave) begin).until
    → edges ≡ edges_reported form span outcome.wave)
