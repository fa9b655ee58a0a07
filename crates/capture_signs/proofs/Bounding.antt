-- The shortest and the longest along a list.
use Rattle.std.proofs.Common.{◌≡◌, ℕ, ◌≤◌, min, max, List, [], ◌∷◌, Option, Some, None, refl, sym, ◌∙◌, ap, subst, arith}
use Rattle.line_wave.specs.declared.Edge.{Edge}
use Rattle.audit_widths.specs.declared.low.Low.{Low}
use Rattle.audit_widths.specs.Lows.{first_low, low_at}
use Rattle.audit_widths.specs.Spreads.{width_to}
use Rattle.piece_audit.specs.Wide.{after_first, lows_from}
use Rattle.capture_signs.specs.Signs.{gap_from, longest_short, short_or_none, shortest_period, time_or_most}
use Rattle.capture_signs.specs.Steps.{longer_short, shorter_period}
use Rattle.capture_signs.specs.Sums.{most_sum}

min_turned : (a b c : ℕ) → min (min a b) c ≡ min a (min b c)
min_turned a b c = omega arith

max_turned : (a b c : ℕ) → max (max a b) c ≡ max a (max b c)
max_turned a b c = omega arith

shorter_low : (n : ℕ) (low : Low) (lows : List Low) → min (shorter_period n (Some low)) (shortest_period lows) ≡ min n (shortest_period (low ∷ lows))
shorter_low n low lows = min_turned n (time_or_most (width_to low.fall low.next)) (shortest_period lows)

longer_low : (n : ℕ) (low : Low) (lows : List Low) → max (longer_short n (Some low)) (longest_short lows) ≡ max n (longest_short (low ∷ lows))
longer_low n low lows = max_turned n (max (short_or_none (width_to low.fall low.rise)) (short_or_none (gap_from low.rise low.next))) (longest_short lows)

shorter_more : (n : ℕ) (left : List Edge) → min (shorter_period n (first_low left)) (shortest_period (lows_from (after_first left))) ≡ min n (shortest_period (lows_from left))
shorter_more n [] = refl
shorter_more n (e ∷ []) = shorter_low n (low_at e.at []) []
shorter_more n (e ∷ r ∷ es) = shorter_low n (low_at e.at (r ∷ es)) (lows_from es)

longer_more : (n : ℕ) (left : List Edge) → max (longer_short n (first_low left)) (longest_short (lows_from (after_first left))) ≡ max n (longest_short (lows_from left))
longer_more n [] = refl
longer_more n (e ∷ []) = longer_low n (low_at e.at []) []
longer_more n (e ∷ r ∷ es) = longer_low n (low_at e.at (r ∷ es)) (lows_from es)

pub shorter_on : (n m all : ℕ) (low : Option Low) (left rest : List Edge) → low ≡ first_low left → rest ≡ after_first left → m ≡ shorter_period n low
    → min n (shortest_period (lows_from left)) ≡ all → min m (shortest_period (lows_from rest)) ≡ all
shorter_on n m all low left rest is rest_is more so_far =
    ap (λ (k : ℕ). min k (shortest_period (lows_from rest))) (more ∙ ap (λ (o : Option Low). shorter_period n o) is)
    ∙ ap (λ (es : List Edge). min (shorter_period n (first_low left)) (shortest_period (lows_from es))) rest_is ∙ shorter_more n left ∙ so_far

pub longer_on : (n m all : ℕ) (low : Option Low) (left rest : List Edge) → low ≡ first_low left → rest ≡ after_first left → m ≡ longer_short n low
    → max n (longest_short (lows_from left)) ≡ all → max m (longest_short (lows_from rest)) ≡ all
longer_on n m all low left rest is rest_is more so_far =
    ap (λ (k : ℕ). max k (longest_short (lows_from rest))) (more ∙ ap (λ (o : Option Low). longer_short n o) is)
    ∙ ap (λ (es : List Edge). max (longer_short n (first_low left)) (longest_short (lows_from es))) rest_is ∙ longer_more n left ∙ so_far

pub most_fits : most_sum ≤ most_sum
most_fits = omega arith

lesser_fits : (a b : ℕ) → a ≤ most_sum → min a b ≤ most_sum
lesser_fits a b h = omega (arith, h)

pub shorter_fits : (n m : ℕ) (low : Option Low) → m ≡ shorter_period n low → n ≤ most_sum → m ≤ most_sum
shorter_fits n m None is h = subst (λ (k : ℕ). k ≤ most_sum) (sym is) h
shorter_fits n m (Some low) is h = subst (λ (k : ℕ). k ≤ most_sum) (sym is) (lesser_fits n (time_or_most (width_to low.fall low.next)) h)

least_fits : (lows : List Low) → shortest_period lows ≤ most_sum
least_fits [] = omega arith
least_fits (low ∷ lows) = below (time_or_most (width_to low.fall low.next)) (shortest_period lows) (least_fits lows)
  where
    below : (a b : ℕ) → b ≤ most_sum → min a b ≤ most_sum
    below a b h = omega (arith, h)

pub least_first : (lows : List Low) → min most_sum (shortest_period lows) ≡ shortest_period lows
least_first lows = is (shortest_period lows) (least_fits lows)
  where
    is : (b : ℕ) → b ≤ most_sum → min most_sum b ≡ b
    is b h = omega (arith, h)

pub shorter_all : (n : ℕ) (left edges : List Edge) → n ≤ most_sum → left ≡ [] → min n (shortest_period (lows_from left)) ≡ shortest_period (lows_from edges)
    → n ≡ shortest_period (lows_from edges)
shorter_all n left edges fits none so_far =
    is n fits ∙ sym (ap (λ (es : List Edge). min n (shortest_period (lows_from es))) none) ∙ so_far
  where
    is : (b : ℕ) → b ≤ most_sum → b ≡ min b most_sum
    is b h = omega (arith, h)

pub longer_all : (n : ℕ) (left edges : List Edge) → left ≡ [] → max n (longest_short (lows_from left)) ≡ longest_short (lows_from edges)
    → n ≡ longest_short (lows_from edges)
longer_all n left edges none so_far =
    is n ∙ sym (ap (λ (es : List Edge). max n (longest_short (lows_from es))) none) ∙ so_far
  where
    is : (b : ℕ) → b ≡ max b 0
    is b = omega arith

pub longest_first : (n : ℕ) → max 0 n ≡ n
longest_first n = omega arith
