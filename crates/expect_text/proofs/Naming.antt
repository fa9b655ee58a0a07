-- Patterns with names: none, or one and perhaps another.
use Rattle.std.proofs.Common.{◌≡◌, ◌∙◌, ◌&&◌, ℕ, Bool, true, true≢false, codes, List, [], ◌∷◌, Option, Some, None, ap, refl, sym}
use Rattle.expect_text.specs.Fits.{fits}
use Rattle.expect_text.specs.Laws.{NamesAreMet}
use Rattle.expect_text.specs.Names.{NamedPattern, for_byte, for_first, for_name, for_names, is_meetable, named_in, with_byte}
use Rattle.expect_text.specs.Said.{IsSaid, is_said}
use Rattle.expect_text.specs.Senders.{Judged}
use Rattle.expect_text.proofs.Truth.{and_both, either, first_of, or_left, or_right, second_of}
use Rattle.expect_text.proofs.Patterns.{patterns_are_met}

first_by : (may_be : List ℕ → ℕ → Bool) (is_so : List ℕ → Bool) (pattern : List ℕ) (n : Option NamedPattern) → named_in pattern ≡ n → for_first may_be is_so pattern ≡ for_name may_be is_so pattern n
unfolding for_first
first_by may_be is_so pattern n e = ap (for_name may_be is_so pattern) e

names_by : (may_be : List ℕ → ℕ → Bool) (is_so : List ℕ → Bool) (pattern : List ℕ) (n : Option NamedPattern) → named_in pattern ≡ n → for_names may_be is_so pattern ≡ for_name may_be (for_first may_be is_so) pattern n
unfolding for_names
names_by may_be is_so pattern n e = first_by may_be (for_first may_be is_so) pattern n e

pub names_none : (may_be : List ℕ → ℕ → Bool) (is_so : List ℕ → Bool) (pattern : List ℕ) → named_in pattern ≡ None → for_names may_be is_so pattern ≡ is_so pattern
names_none may_be is_so pattern e = names_by may_be is_so pattern None e ∙ first_by may_be is_so pattern None e

pub names_some : (may_be : List ℕ → ℕ → Bool) (is_so : List ℕ → Bool) (pattern : List ℕ) (n : NamedPattern) → named_in pattern ≡ Some n
    → for_names may_be is_so pattern ≡ for_byte may_be (for_first may_be is_so) n (codes "0123456789abcde")
names_some may_be is_so pattern n e = names_by may_be is_so pattern (Some n) e

-- ---- what makes it so is a pattern without these names

-- whatever else that pattern is makes it so too, for any that may hold the addresses which the first may
abbrev Reached : (List ℕ → ℕ → Bool) → (List ℕ → Bool) → ((List ℕ → ℕ → Bool) → (List ℕ → Bool) → Bool) → Type 0
Reached may_be is_so whole = (r : List ℕ) × (is_so r ≡ true)
    × ((other : List ℕ → ℕ → Bool) (is : List ℕ → Bool) → ((name : List ℕ) (b : ℕ) → may_be name b ≡ true → other name b ≡ true) → is r ≡ true → whole other is ≡ true)

by_byte : (may_be : List ℕ → ℕ → Bool) (is_so : List ℕ → Bool) (n : NamedPattern) (bytes : List ℕ) → for_byte may_be is_so n bytes ≡ true
    → Reached may_be is_so (λ other is. for_byte other is n bytes)
by_byte may_be is_so n [] h = absurd (true≢false (sym h))
by_byte may_be is_so n (b ∷ bytes) h = either (may_be n.name b && is_so (with_byte n b)) (for_byte may_be is_so n bytes) h
    (λ e. (
      with_byte n b,
      second_of (may_be n.name b) (is_so (with_byte n b)) e,
      λ other is wider k. or_left (other n.name b && is (with_byte n b)) (for_byte other is n bytes)
          (and_both (other n.name b) (is (with_byte n b)) (wider n.name b (first_of (may_be n.name b) (is_so (with_byte n b)) e)) k),
    ))
    (λ e.
    let r = by_byte may_be is_so n bytes e in
    (r.0, r.1, λ other is wider k. or_right (other n.name b && is (with_byte n b)) (for_byte other is n bytes) (r.2 other is wider k)))

by_name : (may_be : List ℕ → ℕ → Bool) (is_so : List ℕ → Bool) (pattern : List ℕ) (n : Option NamedPattern) → for_name may_be is_so pattern n ≡ true
    → Reached may_be is_so (λ other is. for_name other is pattern n)
by_name may_be is_so pattern None h = (pattern, h, λ other is wider k. k)
by_name may_be is_so pattern (Some n) h = by_byte may_be is_so n (codes "0123456789abcde") h

by_first : (may_be : List ℕ → ℕ → Bool) (is_so : List ℕ → Bool) (pattern : List ℕ) → for_first may_be is_so pattern ≡ true
    → Reached may_be is_so (λ other is. for_first other is pattern)
unfolding for_first
by_first may_be is_so pattern h = by_name may_be is_so pattern (named_in pattern) h

by_names : (may_be : List ℕ → ℕ → Bool) (is_so : List ℕ → Bool) (pattern : List ℕ) → for_names may_be is_so pattern ≡ true
    → Reached may_be is_so (λ other is. for_names other is pattern)
unfolding for_names
by_names may_be is_so pattern h =
    let outer = by_first may_be (for_first may_be is_so) pattern h in
    let inner = by_first may_be is_so outer.0 outer.1 in
    (inner.0, inner.1, λ other is wider k. outer.2 other (for_first other is) wider (inner.2 other is wider k))

names_only : (who : Judged) (pattern text : List ℕ) (holds : List ℕ → ℕ → Bool) → IsSaid who text → for_names holds (λ p. fits p text) pattern ≡ true → is_meetable who pattern ≡ true
unfolding is_meetable
names_only who pattern text holds said h =
    let r = by_names holds (λ p. fits p text) pattern h in
    r.2 (λ name b. true) (is_said who) (λ name b e. refl) (patterns_are_met.only who r.0 text said r.1)

names_met : (who : Judged) (pattern : List ℕ) → is_meetable who pattern ≡ true → (text : List ℕ) × IsSaid who text × (for_names (λ name b. true) (λ p. fits p text) pattern ≡ true)
unfolding is_meetable
names_met who pattern h =
    let r = by_names (λ name b. true) (is_said who) pattern h in
    let m = patterns_are_met.met who r.0 r.1 in
    (m.0, m.1, r.2 (λ name b. true) (λ p. fits p m.0) (λ name b e. refl) m.2)

pub names_are_met : NamesAreMet
names_are_met = record { only = names_only; met = names_met }
