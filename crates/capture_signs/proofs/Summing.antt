-- Sums along a list.
use Rattle.std.proofs.Common.{◌≡◌, ℕ, ◌+◌, ◌≤◌, List, [], ◌∷◌, length, Option, refl, sym, ◌∙◌, ap, arith}
use Rattle.std.proofs.Math.Nat.{min-le_right}
use Rattle.line_wave.specs.declared.Edge.{Edge}
use Rattle.audit_widths.specs.declared.low.Low.{Low}
use Rattle.audit_widths.specs.Lows.{first_low}
use Rattle.audit_widths.specs.Spreads.{sum_of}
use Rattle.piece_audit.specs.Wide.{after_first, lows_from}
use Rattle.capture_signs.specs.Sums.{most_sum, sum_all, with_some}

-- with those of a list, one after another
abbrev pub on : {X : Type 0} → (X → ℕ) → ℕ → List X → ℕ
on f n [] = n
on f n (x ∷ xs) = on f (sum_of (f x) n) xs

capped : (a b : ℕ) → sum_of a b ≤ most_sum
capped a b = min-le_right (a + b) most_sum

turned : (a n s : ℕ) → sum_of (sum_of a n) s ≡ sum_of n (sum_of a s)
turned a n s = omega arith

alone : (n : ℕ) → n ≤ most_sum → n ≡ sum_of n 0
alone n h = omega (arith, h)

first : (n : ℕ) → n ≤ most_sum → sum_of 0 n ≡ n
first n h = omega (arith, h)

pub zero_fits : 0 ≤ most_sum
zero_fits = omega arith

along : {X : Type 0} (f : X → ℕ) (n : ℕ) (xs : List X) → n ≤ most_sum → on f n xs ≡ sum_of n (sum_all f xs)
along f n [] h = alone n h
along f n (x ∷ xs) h = along f (sum_of (f x) n) xs (capped (f x) n) ∙ turned (f x) n (sum_all f xs)

pub sums_fit : {X : Type 0} (f : X → ℕ) (xs : List X) → sum_all f xs ≤ most_sum
sums_fit f [] = zero_fits
sums_fit f (x ∷ xs) = capped (f x) (sum_all f xs)

pub from_zero : {X : Type 0} (f : X → ℕ) (xs : List X) → on f 0 xs ≡ sum_all f xs
from_zero f xs = along f 0 xs zero_fits ∙ first (sum_all f xs) (sums_fit f xs)

-- one low stretch more
pub one_more : (f : Low → ℕ) (n : ℕ) (left : List Edge) → on f (with_some f n (first_low left)) (lows_from (after_first left)) ≡ on f n (lows_from left)
one_more f n [] = refl
one_more f n (e ∷ []) = refl
one_more f n (e ∷ r ∷ es) = refl

pub none_left : (left : List Edge) → length left ≤ 0 → left ≡ []
none_left [] h = refl
none_left (e ∷ es) h = absurd (omega arith)

pub goes_on : (f : Low → ℕ) (n m all : ℕ) (low : Option Low) (left rest : List Edge) → low ≡ first_low left → rest ≡ after_first left → m ≡ with_some f n low
    → on f n (lows_from left) ≡ all → on f m (lows_from rest) ≡ all
goes_on f n m all low left rest is rest_is more so_far =
    ap (λ (k : ℕ). on f k (lows_from rest)) (more ∙ ap (λ (o : Option Low). with_some f n o) is)
    ∙ ap (λ (es : List Edge). on f (with_some f n (first_low left)) (lows_from es)) rest_is ∙ one_more f n left ∙ so_far

pub summed : (f : Low → ℕ) (n : ℕ) (left edges : List Edge) → left ≡ [] → on f n (lows_from left) ≡ on f 0 (lows_from edges) → n ≡ sum_all f (lows_from edges)
summed f n left edges none so_far =
    sym (ap (λ (es : List Edge). on f n (lows_from es)) none) ∙ so_far ∙ from_zero f (lows_from edges)
