-- The rounds and the events of a run, read once (own).
use Rattle.std.specs.Prelude.{ℕ, ◌==◌, ◌&&◌, nat_le, nat_eq, Bool, true, if◌then◌else◌, List, [], ◌∷◌, Option, Some, None, option_map}
use Rattle.std.specs.HashMap.{HashMap, get}
use Rattle.expect_judge.specs.Told.{EventLine, event_as}
use Rattle.expect_judge.specs.declared.lines.EventLine.{EventLine as EventRead}
use Rattle.expect_judge.specs.declared.lines.RoundLine.{RoundLine as RoundRead}

-- a round began and ended no later than the next one
abbrev pub leads : RoundRead → List RoundRead → Bool
leads r [] = true
leads r (next ∷ rounds) = nat_le r.begin next.begin && nat_le r.at next.at

-- each of these rounds did
abbrev pub are_in_order : List RoundRead → Bool
are_in_order [] = true
are_in_order (r ∷ rounds) = leads r rounds && are_in_order rounds

-- one event, or else another
abbrev pub or_event : Option EventLine → Option EventLine → Option EventLine
or_event None other = other
or_event (Some e) other = Some e

-- an event, where it is of this line
abbrev pub event_on : ℕ → EventLine → Option EventLine
event_on number e = if e.line == number then Some e else None

-- the event that a table has of a line
abbrev pub entry : {S : Type 0} → HashMap ℕ EventRead S → ℕ → Option EventLine
entry events number = option_map event_as (get nat_eq events number)
