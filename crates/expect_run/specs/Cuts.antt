-- What a script says that ends earlier (own): the events before then, all pulses and pulls, and that end. A pin that only the end
-- lets go, goes high at the earlier one.
use Rattle.std.specs.Prelude.{◌≡◌, ℕ, ◌≤◌, nat_lt, Bool, List, filter, Option, Ok}
use Rattle.line_wave.specs.declared.Stretch.{Stretch}
use Rattle.line_wave.specs.Bounds.{latest_event}
use Rattle.edid_tree.specs.Node.{Node}
use Rattle.room_script.specs.Script.{Course, IsScriptRead, pulses_ended}
use Rattle.room_script.specs.declared.script.TimedEvent.{TimedEvent}
use Rattle.expect_text.specs.Line.{cut_script}

abbrev pub is_early : ℕ → TimedEvent → Bool
is_early time event = nat_lt event.at time

-- the pulses and pulls before the end, and since when the pin is low there, if it is
pub record IsCut (time : ℕ) (course cut : Course) : Type 0 where
  pub pulses : List Stretch
  pub pin : Option ℕ
  pub whole : course.pulses ≡ pulses_ended pin pulses course.end
  pub cut_is : cut ≡ record { events = filter (is_early time) course.events; pulses = pulses_ended pin pulses time; end = time }

-- a script that is read is read so where it ends at a time
abbrev pub CutsAreRead : Type 0
CutsAreRead = (tree : List Node) (time : ℕ) (script : List ℕ) (course : Course) → time ≤ latest_event → IsScriptRead tree script (Ok course)
    → (cut : Course) × IsCut time course cut × IsScriptRead tree (cut_script time script) (Ok cut)
