-- The rounds of a stepper are those of the run's trace, or of its objects (own).
use Rattle.std.specs.Prelude.{◌≡◌, ℕ, zero, suc, true, List, [], ◌++◌}
use Rattle.line_rounds.specs.declared.Outcome.{Outcome}
use Rattle.room_net.specs.State.{NetState}
use Rattle.room_run.specs.declared.run.Totals.{Totals}
use Rattle.room_run.specs.Run.{IsRunText, end_reported, start}
use Rattle.room_steps.specs.Steps.{IsOver, IsRoundStep, Point, Run, after_events, passed_text, reporting_of, start_text, step_text}

-- rounds one after another, and what a stepper writes of them
abbrev pub Rounds : Run → ℕ → Point → List ℕ → Point → Type 0
Rounds run zero p text q = (text ≡ []) × (q ≡ p)
Rounds run (suc rounds) p text q =
    (mid : Point) × (o : Outcome) × (front : List ℕ) × Rounds run rounds p front mid × IsRoundStep run.end mid o q × (text ≡ front ++ step_text run mid o q)

abbrev pub first_point : Run → NetState → Point
first_point run net = record { net = net; events = run.events; is_first = true }

-- what the trace has after the last round: the lines of the events after it, and what the end reports
abbrev pub rest_text : Run → Point → List ℕ
rest_text run p = (start_text run p ++ passed_text (reporting_of run) run.end p) ++ end_reported (reporting_of run) run.end (after_events run.end p).net

-- However many rounds are taken, the trace begins with what a stepper writes of them. After all of them it has the rest.
pub record RoundsAreTheTrace : Type 0 where
  pub front : (run : Run) (net : NetState) (rounds : ℕ) (text : List ℕ) (last : Point) → Rounds run rounds (first_point run net) text last
      → (whole : List ℕ) (totals : Totals) → IsRunText (reporting_of run) run.end (start net run.events) whole totals → (more : List ℕ) × (whole ≡ text ++ more)
  pub whole : (run : Run) (net : NetState) (rounds : ℕ) (text : List ℕ) (last : Point) → Rounds run rounds (first_point run net) text last → IsOver run.end last
      → (totals : Totals) × IsRunText (reporting_of run) run.end (start net run.events) (text ++ rest_text run last) totals × (totals.rounds ≡ rounds)
