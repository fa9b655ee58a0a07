-- The state lines of a script, one after another.
use Rattle.std.proofs.Common.{◌≡◌, ℕ, ◌||◌, Bool, true, false, List, [], ◌∷◌, ◌++◌, refl, sym, ap, ◌∙◌, subst, append_assoc, append-nil, Result, Ok, Err}
use Rattle.std.specs.List.{list_any}
use Rattle.text_core.specs.Words.{words_of}
use Rattle.expect_text.specs.Line.{unlabelled_words}
use Rattle.expect_text.specs.Form.{ExpectLine, form_in}
use Rattle.expect_text.specs.Form.ExpectLine.{Other, Rounds, State, Refused, Unremarked}
use Rattle.text_core.specs.declared.at.AtWord.{AtWord}
use Rattle.expect_text.specs.declared.form.ExpectCause.{ExpectCause}
use Rattle.std.proofs.lemmas.Bool.{false≢true}
use Rattle.expect_judge.specs.Judged.{first_state, is_of_state, is_state_form, later_states, states_for}
use Rattle.expect_run.specs.States.{AreStates, IsStateFor, IsStateOf, StateView}

-- with what is wanted of the states of the lines that are left these are those of all lines
abbrev pub Lead : StateView → List ℕ → List ℕ → List (List ℕ) → List (List ℕ) → List (List ℕ) → Type 0
Lead view topology plain all lines found =
    (more : List (List ℕ)) → AreStates view topology plain lines (states_for lines more) → AreStates view topology plain all (states_for all (found ++ more))

no_state : (view : StateView) (topology plain : List ℕ) (form : Result ExpectLine (AtWord ExpectCause)) → is_state_form form ≡ false → IsStateOf view topology plain form []
no_state view topology plain (Err cause) h = refl
no_state view topology plain (Ok Other) h = refl
no_state view topology plain (Ok (Rounds quantity window pattern)) h = refl
no_state view topology plain (Ok (State time device words)) h = absurd (false≢true (sym h))
no_state view topology plain (Ok (Refused name word)) h = refl
no_state view topology plain (Ok (Unremarked pattern)) h = absurd (false≢true (sym h))

-- a line that speaks of none
pub none_more : (view : StateView) (topology plain : List ℕ) (all lines rest : List (List ℕ)) (line : List ℕ) (found : List (List ℕ)) → lines ≡ line ∷ rest → is_of_state line ≡ false
    → Lead view topology plain all lines found → Lead view topology plain all rest found
none_more view topology plain all lines rest line found split none before more h =
    before more (subst (λ ls. AreStates view topology plain ls (states_for ls more)) (sym split)
    (subst (λ b. AreStates view topology plain (line ∷ rest) (first_state b more ∷ states_for rest (later_states b more))) (sym none)
    (no_state view topology plain (form_in (unlabelled_words (words_of line))) none, h)))

-- one that speaks of one
pub one_more : (view : StateView) (topology plain : List ℕ) (all lines rest : List (List ℕ)) (line state : List ℕ) (found new : List (List ℕ)) → lines ≡ line ∷ rest → is_of_state line ≡ true
    → IsStateFor view topology plain line state → new ≡ found ++ state ∷ [] → Lead view topology plain all lines found → Lead view topology plain all rest new
one_more view topology plain all lines rest line state found new split some is made before more h =
    subst (λ xs. AreStates view topology plain all (states_for all xs)) (sym (ap (λ n. n ++ more) made ∙ append_assoc found (state ∷ []) more))
    (before (state ∷ more) (subst (λ ls. AreStates view topology plain ls (states_for ls (state ∷ more))) (sym split)
    (subst (λ b. AreStates view topology plain (line ∷ rest) (first_state b (state ∷ more) ∷ states_for rest (later_states b (state ∷ more)))) (sym some) (is, h))))

pub no_more : (view : StateView) (topology plain : List ℕ) (all lines found : List (List ℕ)) → lines ≡ [] → Lead view topology plain all lines found → AreStates view topology plain all (states_for all found)
no_more view topology plain all lines found none before =
    subst (λ xs. AreStates view topology plain all (states_for all xs)) (append-nil found) (before [] (subst (λ ls. AreStates view topology plain ls (states_for ls [])) (sym none) refl))

-- no line speaks of one
pub stateless : (view : StateView) (topology plain : List ℕ) (lines : List (List ℕ)) → list_any is_of_state lines ≡ false → AreStates view topology plain lines (states_for lines [])
stateless view topology plain [] none = refl
stateless view topology plain (line ∷ lines) none = by (is_of_state line) refl none (stateless view topology plain lines)
  where
    by : (b : Bool) → is_of_state line ≡ b → (b || list_any is_of_state lines) ≡ false → (list_any is_of_state lines ≡ false → AreStates view topology plain lines (states_for lines []))
        → IsStateFor view topology plain line (first_state b []) × AreStates view topology plain lines (states_for lines (later_states b []))
    by true e h later = absurd (false≢true (sym h))
    by false e h later = (no_state view topology plain (form_in (unlabelled_words (words_of line))) e, later h)
