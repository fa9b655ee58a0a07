-- The lines of a script that others speak of, read once, are those that are found line by line.
use Rattle.std.proofs.Common.{◌≡◌, ℕ, ◌+◌, ◌-◌, ◌==◌, ◌&&◌, ◌||◌, Bool, true, false, cond, if◌then◌else◌, List, [], ◌∷◌, is_some, Option, Some, None, nat_eq, refl, sym, ap, subst, ◌∙◌, arith}
use Rattle.std.specs.HashSet.{HashSet, Updates, contains}
use Rattle.std.proofs.lemmas.Bool.{false≢true}
use Rattle.std.proofs.lemmas.Bool.Decides.{nat_tests}
use Rattle.text_core.specs.Words.{words_of}
use Rattle.expect_text.specs.Line.{label_in}
use Rattle.expect_text.specs.Faults.{has_label, is_event_line, is_named as bears, labelled_from}
use Rattle.expect_judge.specs.Named.{is_labelled, is_of_above, name_lines, names_line}

or_not : (b : Bool) → (b || false) ≡ b
or_not true = refl
or_not false = refl

-- a number that is not looked for
pub no_more : (a is : Bool) (number other : ℕ) → is ≡ false → a ≡ (a || (is && (number == other)))
no_more a is number other none = sym (ap (λ b. a || (b && (number == other))) none ∙ or_not a)

-- one that is put
pub put : {S : Type 0} (number : ℕ) (s n : HashSet ℕ S) (is : Bool) → is ≡ true → Updates nat_eq s n number true
    → (other : ℕ) → contains nat_eq n other ≡ (contains nat_eq s other || (is && (number == other)))
put number s n is so updates other =
    updates.0 other ∙ by (nat_eq number other) (contains nat_eq s other) ∙ ap (λ b. contains nat_eq s other || (b && (number == other))) (sym so)
  where
    by : (b c : Bool) → cond b true c ≡ (c || (true && b))
    by true true = refl
    by true false = refl
    by false true = refl
    by false false = refl

or_assoc : (a b c : Bool) → ((a || b) || c) ≡ (a || (b || c))
or_assoc true b c = refl
or_assoc false b c = refl

-- one and then another
pub both_noted : (a b c x y : Bool) → b ≡ (a || x) → c ≡ (b || y) → c ≡ (a || (x || y))
both_noted a b c x y first second = second ∙ ap (λ d. d || y) first ∙ or_assoc a x y

-- a line more
pub one_more : (a : Bool) (number other : ℕ) (line : List ℕ) (rest : List (List ℕ))
    → ((a || names_line number line other) || name_lines (number + 1) rest other) ≡ (a || name_lines number (line ∷ rest) other)
one_more a number other line rest = or_assoc a (names_line number line other) (name_lines (number + 1) rest other)

pub all_noted : (a : Bool) (number other : ℕ) (lines : List (List ℕ)) → lines ≡ [] → (a || name_lines number lines other) ≡ a
all_noted a number other lines none = ap (λ (ls : List (List ℕ)). a || name_lines number ls other) none ∙ or_not a

-- ---- a label has a line

labelled : (name : List ℕ) (label : Option (List ℕ)) → bears name label ≡ true → is_some label ≡ true
labelled name None h = absurd (false≢true h)
labelled name (Some text) h = refl

same : (n : ℕ) → (n == n) ≡ true
same n = grind (arith, nat_tests)

left_of : (a b : Bool) → (a && b) ≡ true → a ≡ true
left_of true b h = refl
left_of false b h = h

left_so : (a b : Bool) → a ≡ true → (a || b) ≡ true
left_so true b h = refl
left_so false b h = absurd (false≢true h)

right_so : (a b : Bool) → b ≡ true → (a || b) ≡ true
right_so true b h = refl
right_so false b h = h

value : (m n : ℕ) → Some m ≡ Some n → m ≡ n
value m n h = cc

-- the line of a label has one
pub label_names : (of_events : Bool) (number : ℕ) (lines : List (List ℕ)) (name : List ℕ) (found : ℕ) → labelled_from of_events number lines name ≡ Some found → name_lines number lines found ≡ true
label_names of_events number [] name found h = cc
label_names of_events number (line ∷ lines) name found h =
    by (has_label name line && (if of_events then is_event_line line else true)) refl h (λ k. label_names of_events (number + 1) lines name found k)
  where
    here : (b : Bool) → is_labelled line ≡ b → b ≡ true → number ≡ found → names_line number line found ≡ true
    here b e k is =
        left_so (is_labelled line && (number == found)) (is_of_above line && (number - 1 == found))
        (ap (λ c. c && (number == found)) (e ∙ k) ∙ subst (λ n. (number == n) ≡ true) is (same number))

    by : (b : Bool) → (has_label name line && (if of_events then is_event_line line else true)) ≡ b → (if b then Some number else labelled_from of_events (number + 1) lines name) ≡ Some found
        → (labelled_from of_events (number + 1) lines name ≡ Some found → name_lines (number + 1) lines found ≡ true)
        → (names_line number line found || name_lines (number + 1) lines found) ≡ true
    by true e k more =
        left_so (names_line number line found) (name_lines (number + 1) lines found)
        (here (is_labelled line) refl (labelled name (label_in (words_of line)) (left_of (has_label name line) (if of_events then is_event_line line else true) e)) (value number found k))
    by false e k more = right_so (names_line number line found) (name_lines (number + 1) lines found) (more k)
