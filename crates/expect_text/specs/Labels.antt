-- The labels of a script, read once (own).
use Rattle.std.specs.Prelude.{ℕ, ◌&&◌, Bool, true, if◌then◌else◌, List, Option, Some, None}
use Rattle.expect_text.specs.Faults.{has_label, is_event_line}

-- a line's number, where it has this label, or is an event with it
abbrev pub labelled_on : Bool → ℕ → List ℕ → List ℕ → Option ℕ
labelled_on of_events number line name = if has_label name line && (if of_events then is_event_line line else true) then Some number else None

-- one line, or else another
abbrev pub or_line : Option ℕ → Option ℕ → Option ℕ
or_line None other = other
or_line (Some line) other = Some line
