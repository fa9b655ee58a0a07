-- What is found of the lines of a script, one after another.
use Rattle.std.proofs.Common.{◌≡◌, ℕ, ◌+◌, Bool, List, [], ◌∷◌, ◌++◌, Option, Some, None, map, nat_eq, refl, sym, ap, ◌∙◌, append_assoc, append-nil}
use Rattle.std.specs.HashMap.{HashMap, Updates, get}
use Rattle.std.specs.Map.{lookup}
use Rattle.std.proofs.lemmas.List.{map-append}
use denote.Ref.{Bor}
use Rattle.std.proofs.Math.Path.{fun_ext}
use Rattle.expect_judge.specs.Told.{Told}
use Rattle.expect_judge.specs.Judged.{JudgedLine, finding_as, findings_from, first_state, is_of_state, later_states, line_judged, lines_judged, noted, or_more, states_for}
use Rattle.expect_judge.specs.declared.judge.Judged.{Judged}
use Rattle.expect_judge.specs.declared.judge.JudgedLine.{JudgedLine as FindingRead}

-- an instant that is put
pub put : {S : Type 0} (number at : ℕ) (m n : HashMap ℕ ℕ S) → Updates nat_eq m n number (Some at) → (line : ℕ) → get nat_eq n line ≡ noted (λ k. get nat_eq m k) number (Some at) line
put number at m n updates line = updates.0 line

-- no instant yet
pub none_noted : {S : Type 0} (m : HashMap ℕ ℕ S) → m.entries ≡ [] → ◌≡◌ {A = ℕ → Option ℕ} (λ number. get nat_eq m number) (λ number. None)
none_noted m empty = fun_ext (λ number. ap (lookup (nat_eq number)) empty)

-- a line that expects nothing
pub none_found : (fs : List JudgedLine) (number : ℕ) (text : List ℕ) (j : Judged) → j.holds ≡ None → fs ≡ fs ++ or_more number text j j.holds []
none_found fs number text j none = sym (ap (λ (o : Option Bool). fs ++ or_more number text j o []) none ∙ append-nil fs)

-- one that expects something
pub one_found : (old new : List FindingRead) (number : ℕ) (text : Bor (List ℕ)) (j : Judged) (holds : Bool) → j.holds ≡ Some holds → new ≡ old ++ record { line = number; judged = j; below = text } ∷ []
    → map finding_as new ≡ map finding_as old ++ or_more number text.now j j.holds []
one_found old new number text j holds some made =
    ap (map finding_as) made ∙ map-append finding_as old (record { line = number; judged = j; below = text } ∷ [])
    ∙ ap (λ (o : Option Bool). map finding_as old ++ or_more number text.now j o []) (sym some)

-- what is found of the lines that are left
abbrev pub findings_left : List ℕ → Told → (ℕ → Option ℕ) → ℕ → List (List ℕ) → List (List ℕ) → List (List ℕ) → List JudgedLine
findings_left script told at number lines states texts = findings_from number (states_for lines texts) (lines_judged script told at number lines (states_for lines states))

more_after : (number : ℕ) (text : List ℕ) (j : Judged) (o : Option Bool) (more : List JudgedLine) → or_more number text j o [] ++ more ≡ or_more number text j o more
more_after number text j None more = refl
more_after number text j (Some holds) more = refl

-- one line more
pub one_more : (script : List ℕ) (told : Told) (line : List ℕ) (lines rest left later texts beyond : List (List ℕ)) (at new : ℕ → Option ℕ) (number : ℕ) (state text : List ℕ) (j : Judged) (before after goal : List JudgedLine) (of_state : Bool)
    → lines ≡ line ∷ rest → of_state ≡ is_of_state line → state ≡ first_state of_state left → later ≡ later_states of_state left → text ≡ first_state of_state texts → beyond ≡ later_states of_state texts
    → j ≡ line_judged script told state at number line
    → ((k : ℕ) → new k ≡ noted at number j.at k) → after ≡ before ++ or_more number text j j.holds []
    → before ++ findings_left script told at number lines left texts ≡ goal → after ++ findings_left script told new (number + 1) rest later beyond ≡ goal
one_more script told line lines rest left later texts beyond at new number state text j before after goal of_state split speaks own others said_so left_so judged instants made is =
    let s = first_state (is_of_state line) left in
    let l = later_states (is_of_state line) left in
    let t = first_state (is_of_state line) texts in
    let u = later_states (is_of_state line) texts in
    let text_is : text ≡ t = said_so ∙ ap (λ b. first_state b texts) speaks in
    let beyond_is : beyond ≡ u = left_so ∙ ap (λ b. later_states b texts) speaks in
    let end : or_more number text j j.holds (findings_left script told new (number + 1) rest later beyond) ≡ findings_left script told at number (line ∷ rest) left texts =
    ap (λ (x : List ℕ). or_more number x j j.holds (findings_left script told new (number + 1) rest later beyond)) text_is
    ∙ ap (λ (xs : List (List ℕ)). or_more number t j j.holds (findings_left script told new (number + 1) rest later xs)) beyond_is
    ∙ ap (λ (f : ℕ → Option ℕ). or_more number t j j.holds (findings_left script told f (number + 1) rest later u)) (fun_ext instants)
    ∙ ap (λ (ls : List (List ℕ)). or_more number t j j.holds (findings_left script told (noted at number j.at) (number + 1) rest ls u)) (others ∙ ap (λ b. later_states b left) speaks)
    ∙ ap (λ (k : Judged). or_more number t k k.holds (findings_left script told (noted at number k.at) (number + 1) rest l u)) judged
    ∙ ap (λ (x : List ℕ). or_more number t (line_judged script told x at number line) (line_judged script told x at number line).holds
    (findings_left script told (noted at number (line_judged script told x at number line).at) (number + 1) rest l u)) (own ∙ ap (λ b. first_state b left) speaks) in
    ap (λ (fs : List JudgedLine). fs ++ findings_left script told new (number + 1) rest later beyond) made
    ∙ append_assoc before (or_more number text j j.holds []) (findings_left script told new (number + 1) rest later beyond)
    ∙ ap (λ (fs : List JudgedLine). before ++ fs) (more_after number text j j.holds (findings_left script told new (number + 1) rest later beyond) ∙ end ∙ ap (λ (ls : List (List ℕ)). findings_left script told at number ls left texts) (sym split))
    ∙ is

pub no_more : (script : List ℕ) (told : Told) (at : ℕ → Option ℕ) (number : ℕ) (lines left texts : List (List ℕ)) (before goal : List JudgedLine) → lines ≡ []
    → before ++ findings_left script told at number lines left texts ≡ goal → before ≡ goal
no_more script told at number lines left texts before goal none is =
    sym (ap (λ (ls : List (List ℕ)). before ++ findings_left script told at number ls left texts) none ∙ append-nil before) ∙ is
