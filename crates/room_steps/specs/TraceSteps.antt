-- What the steps of a text write of rounds is what the run's trace has of them, or its objects (own).
use Rattle.std.specs.Prelude.{◌≡◌, false, ℕ, ◌-◌, ◌≤◌, ◌⊎◌, List, [], ◌∷◌, ◌++◌, codes}
use Rattle.std.proofs.Common.{inl, inr}
use Rattle.std.specs.List.{repeat}
use Rattle.room_net.specs.State.{NetState}
use Rattle.room_run.specs.declared.run.Totals.{Totals}
use Rattle.room_run.specs.Emulate.{AreObjectsOf, IsTraceOf}
use Rattle.record_core.specs.declared.cell.Form.{Form}
use Rattle.record_core.specs.declared.cell.Form.TheVariants.{Text, Json}
use Rattle.room_step_text.specs.declared.commands.StepCommand.{StepCommand}
use Rattle.room_step_text.specs.declared.commands.StepCommand.TheVariants.{Edge, Round, Until, Show}
use Rattle.room_steps.specs.Steps.{Point, Run, Steps}
use Rattle.room_steps.specs.StepRun.{AreDue, AreStepsOf, IsDue, ended_text}
use Rattle.room_steps.specs.Trace.{Rounds, first_point}

-- what a step writes of rounds: `round` and `until` their whole text; the others, and what `ended` answers, nothing
abbrev pub round_texts : (command : StepCommand) (s : Steps) (text : List ℕ) (t : Steps) → IsDue command s text t → List (List ℕ)
round_texts Edge s text t due = []
round_texts (Show device) s text t due = []
round_texts Round s text t (inl step) = text ∷ []
round_texts Round s text t (inr ended) = []
round_texts (Until at) s text t (inl step) = text ∷ []
round_texts (Until at) s text t (inr ended) = []

-- the same of steps one after another
abbrev pub all_round_texts : (commands : List StepCommand) (s : Steps) (text : List ℕ) (t : Steps) → AreDue commands s text t → List (List ℕ)
all_round_texts [] s text t due = []
all_round_texts (command ∷ commands) s text t due = round_texts command s due.1 due.0 due.3 ++ all_round_texts commands due.0 due.2 t due.4

-- texts stand in a whole one after another
abbrev pub StandInOrder : List (List ℕ) → List ℕ → Type 0
StandInOrder [] whole = Unit {0}
StandInOrder (text ∷ texts) whole = (before : List ℕ) × (after : List ℕ) × (whole ≡ before ++ (text ++ after)) × StandInOrder texts after

-- So many steps `round` write what the trace begins with, the texts of as many rounds, or of all that the run has, and then `ended`
-- for each of the other steps.
pub record AreFirstRounds (run : Run) (net : NetState) (count : ℕ) (text whole : List ℕ) (totals : Totals) : Type 0 where
  pub rounds : ℕ
  pub last : Point
  pub front : List ℕ
  pub taken : Rounds run rounds (first_point run net) front last
  pub most : rounds ≤ count
  pub all : (rounds ≡ count) ⊎ (rounds ≡ totals.rounds)
  pub reported : text ≡ front ++ repeat (count - rounds) (ended_text run.form)
  pub more : List ℕ
  pub begins : whole ≡ front ++ more

-- the trace of the run that the texts spell, or its objects
abbrev pub IsToldOf : Form → List ℕ → List ℕ → List ℕ → Totals → Type 0
IsToldOf Text topology script text totals = IsTraceOf topology script text totals
IsToldOf Json topology script text totals = AreObjectsOf false topology script text totals

-- What the steps of a text write of rounds stands in the trace of the same topology and script, in the same order, and each but
-- once. Where all steps are `round`, it is what the trace begins with.
pub record StepsAreTheTrace : Type 0 where
  pub in_order : (form : Form) (topology script steps text whole : List ℕ) (totals : Totals) → IsToldOf form topology script whole totals → (p : AreStepsOf form topology script steps text)
      → StandInOrder (all_round_texts p.commands p.first text p.last p.due) whole
  pub first_rounds : (form : Form) (topology script steps text whole : List ℕ) (totals : Totals) → IsToldOf form topology script whole totals → (p : AreStepsOf form topology script steps text)
      → (count : ℕ) → p.commands ≡ repeat count (Round ∷ []) → AreFirstRounds p.first.run p.first.last.net count text whole totals
