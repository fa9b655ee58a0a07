-- What is told of a run or of a capture (own): its rounds and its events, in order.
use Rattle.std.specs.Prelude.{ℕ, ◌==◌, Bool, List, Option, map}
use Rattle.std.specs.List.{find}
use Rattle.std.specs.Option.{option_copied}
use Rattle.expect_judge.specs.declared.lines.RoundLine.{RoundLine as RoundRead}
use Rattle.expect_judge.specs.declared.kept.KeptRound.{KeptRound}
use Rattle.expect_judge.specs.declared.lines.EventLine.{EventLine as EventRead}
use Rattle.expect_judge.specs.declared.lines.Told.{Told as ToldRead}

-- a round: when it began and ended, whether it is complete, what its line says after these, which patterns are met by, and what stands
-- of it below a test that failed
pub record RoundLine : Type 0 where
  pub begin : ℕ
  pub at : ℕ
  pub is_complete : Bool
  pub reported : List ℕ
  pub shown : List ℕ

-- an event: when it was applied, its line in the script, and the word with which it was refused, if it was
pub record EventLine : Type 0 where
  pub at : ℕ
  pub line : ℕ
  pub refused : Option (List ℕ)

pub record Told : Type 0 where
  pub rounds : List RoundLine
  pub events : List EventLine

-- the event of a line of the script
abbrev pub event_at : List EventLine → ℕ → Option EventLine
event_at events number = find (λ e. e.line == number) events

-- ---- as they are held

abbrev pub round_as : RoundRead → RoundLine
round_as r = record { begin = r.begin; at = r.at; is_complete = r.is_complete; reported = r.reported.now; shown = r.shown.now }

abbrev pub kept_as : KeptRound → RoundLine
kept_as r = record { begin = r.begin; at = r.at; is_complete = r.is_complete; reported = r.reported.items; shown = r.shown.items }

abbrev pub event_as : EventRead → EventLine
event_as e = record { at = e.at; line = e.line; refused = option_copied e.refused }

abbrev pub told_as : ToldRead → Told
told_as t = record { rounds = map round_as t.rounds.now; events = map event_as t.events.now }
