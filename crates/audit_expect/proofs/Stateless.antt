-- No line of the expectations of a capture speaks of a state.
use Rattle.std.proofs.Common.{◌≡◌, ℕ, Bool, true, false, List, [], ◌∷◌, map, refl, ap, ◌∙◌}
use Rattle.text_core.specs.Lines.{lines_of}
use Rattle.record_core.specs.declared.cell.Form.{Form}
use Rattle.expect_judge.specs.Told.{Told}
use Rattle.expect_judge.specs.Judged.{first_state, is_of_state, later_states, states_for}
use Rattle.expect_run.specs.Report.{Report, tests}
use Rattle.audit_expect.specs.Marks.{no_states}

no_first : (b : Bool) → first_state b [] ≡ []
no_first true = refl
no_first false = refl

none_later : (b : Bool) → later_states b [] ≡ []
none_later true = refl
none_later false = refl

no_states_for : (lines : List (List ℕ)) → states_for lines [] ≡ map (λ line. []) lines
no_states_for [] = refl
no_states_for (line ∷ lines) =
    ap (λ (state : List ℕ). state ∷ states_for lines (later_states (is_of_state line) [])) (no_first (is_of_state line))
    ∙ ap (λ (states : List (List ℕ)). [] ∷ states_for lines states) (none_later (is_of_state line))
    ∙ ap (λ (states : List (List ℕ)). [] ∷ states) (no_states_for lines)

pub stateless : (form : Form) (script : List ℕ) (told told_so : Told) (r : Report) → told ≡ told_so → r ≡ tests form script told (states_for (lines_of script) []) (states_for (lines_of script) []) → r ≡ tests form script told_so (no_states script) (no_states script)
stateless form script told told_so r same is =
    is ∙ ap (λ (t : Told). tests form script t (states_for (lines_of script) []) (states_for (lines_of script) [])) same ∙ ap (λ (none : List (List ℕ)). tests form script told_so none none) (no_states_for (lines_of script))
