-- The first of lists after lists.
use Rattle.std.proofs.Common.{◌≡◌, ℕ, ◌-◌, ◌≤◌, List, [], ◌∷◌, ◌++◌, Option, Some, None, refl, sym, ◌∙◌, ap, arith}
use Rattle.std.specs.Prelude.{IfOk, Result, Ok, Err}
use Rattle.capture_core.specs.Edges.{Captured}
use Rattle.capture_advice.specs.Counts.{IsCounted, capped, complete_at, most_count}
use Rattle.capture_advice.specs.declared.widening.Widening.{Widening}
use Rattle.capture_verdict.specs.declared.verdict.Verdict.{Verdict}
use Rattle.capture_verdict.specs.Lists.{first_some, or_else, value_or}
use Rattle.capture_verdict.specs.Verdicts.{IsFirst, after_causes, first_of, nearly_of, odd_of, remains}

-- none is before it
pub goes_on : {X : Type 0} (o n later : Option X) (r : Option X) → n ≡ o → n ≡ None → r ≡ later → r ≡ or_else o later
goes_on {X = X} o n later r is none more = more ∙ ap (λ (p : Option X). or_else p later) (sym none ∙ is)

pub comes_first : {X : Type 0} (o n later : Option X) (x : X) → n ≡ o → n ≡ Some x → Some x ≡ or_else o later
comes_first {X = X} o n later x is some = ap (λ (p : Option X). or_else p later) (sym some ∙ is)

pub or_none : {X : Type 0} (o : Option X) → o ≡ or_else o None
or_none None = refl
or_none (Some x) = refl

-- the last two of a list
pub last_two : {X : Type 0} (o p : Option X) → or_else o p ≡ first_some (o ∷ p ∷ [])
last_two {X = X} o p = ap (λ (q : Option X). or_else o q) (or_none p)

along : {X : Type 0} (xs ys : List (Option X)) → first_some (xs ++ ys) ≡ or_else (first_some xs) (first_some ys)
along [] ys = refl
along (None ∷ xs) ys = along xs ys
along (Some x ∷ xs) ys = refl

found : {X : Type 0} (d x : X) (xs ys : List (Option X)) → first_some xs ≡ Some x → x ≡ value_or d (first_some (xs ++ ys))
found {X = X} d x xs ys is = sym (ap (λ (o : Option X). value_or d o) (along xs ys ∙ ap (λ (o : Option X). or_else o (first_some ys)) is))

passed : {X : Type 0} (d x : X) (xs ys : List (Option X)) → first_some xs ≡ None → x ≡ value_or d (first_some ys) → x ≡ value_or d (first_some (xs ++ ys))
passed {X = X} d x xs ys none is = is ∙ sym (ap (λ (o : Option X). value_or d o) (along xs ys ∙ ap (λ (o : Option X). or_else o (first_some ys)) none))

-- no margin was tried
abbrev untried : Widening
untried = record { margin = 0; more = 0 }

untried_counted : (c : Captured) → IsCounted c untried
untried_counted c = same (capped (complete_at 0 c))
  where
    same : (n : ℕ) → 0 ≡ n - n
    same n = omega arith

pub found_of : (c : Captured) (xs : List (Option Verdict)) (list : Widening → List (Option Verdict)) (n : Option Verdict) (v : Verdict) → n ≡ first_some xs → n ≡ Some v
    → IsFirst c (λ (w : Widening). xs ++ list w) v
found_of c xs list n v is some = (untried, untried_counted c, found (odd_of c) v xs (list untried) (sym is ∙ some))

pub passed_of : (c : Captured) (xs : List (Option Verdict)) (list : Widening → List (Option Verdict)) (n : Option Verdict) (v : Verdict) → n ≡ first_some xs → n ≡ None
    → IsFirst c list v → IsFirst c (λ (w : Widening). xs ++ list w) v
passed_of c xs list n v is none (w, counted, later) = (w, counted, passed (odd_of c) v xs (list w) (sym is ∙ none) later)

pub passed_ok : {E : Type 0} (c : Captured) (xs : List (Option Verdict)) (list : Widening → List (Option Verdict)) (n : Option Verdict) (r : Result Verdict E) → n ≡ first_some xs → n ≡ None
    → IfOk r (λ (v : Verdict). IsFirst c list v) → IfOk r (λ (v : Verdict). IsFirst c (λ (w : Widening). xs ++ list w) v)
passed_ok c xs list n (Ok v) is none later = passed_of c xs list n v is none later
passed_ok c xs list n (Err e) is none later = tt

pub nearly_found : (c : Captured) (w : Widening) (n : Option Verdict) (v : Verdict) → IsCounted c w → n ≡ nearly_of w → n ≡ Some v → IsFirst c (after_causes c) v
nearly_found c w n v counted is some = (w, counted, sym (ap (λ (o : Option Verdict). value_or (odd_of c) (or_else o (first_some (remains c)))) (sym is ∙ some)))

pub nearly_passed : (c : Captured) (w : Widening) (n : Option Verdict) (v : Verdict) → IsCounted c w → n ≡ nearly_of w → n ≡ None → v ≡ first_of c (remains c)
    → IsFirst c (after_causes c) v
nearly_passed c w n v counted is none later =
    (w, counted, later ∙ sym (ap (λ (o : Option Verdict). value_or (odd_of c) (or_else o (first_some (remains c)))) (sym is ∙ none)))

pub value_some : {X : Type 0} (d x : X) (n o : Option X) → n ≡ o → n ≡ Some x → x ≡ value_or d o
value_some {X = X} d x n o is some = sym (ap (λ (p : Option X). value_or d p) (sym is ∙ some))

pub value_none : {X : Type 0} (d x : X) (n o : Option X) → n ≡ o → n ≡ None → x ≡ d → x ≡ value_or d o
value_none {X = X} d x n o is none same = same ∙ sym (ap (λ (p : Option X). value_or d p) (sym is ∙ none))

-- a count that is no greater than the greatest
pub capped_is : (n m : ℕ) → capped n ≡ capped m → n ≤ most_count → n ≡ capped m
capped_is n m same within = omega (arith, same, within)
