-- The next frame of two captures, looked for place by place.
use Rattle.std.proofs.Common.{◌≡◌, ℕ, zero, suc, ◌+◌, ◌-◌, ◌==◌, Bool, true, false, nat_lt, map, slice_get, List, Option, Some, None, option_map, refl, sym, ap, ap₂, ◌∙◌, arith}
use Rattle.std.proofs.lemmas.Bool.Decides.{nat_tests}
use Rattle.std.proofs.lemmas.Option.{slice_get-map}
use Rattle.capture_difference.specs.Aligned.{are_one, meeting_from, meets_at, met_or, nearest_from, or_further}
use Rattle.capture_difference.specs.declared.nearest.Meeting.{Meeting}
use Rattle.capture_frames.specs.Frames.{FrameLine, frame_as}
use Rattle.capture_frames.specs.declared.frame.CapturedFrame.{CapturedFrame}

-- ---- at two places

pub meets_as : (xs ys : List CapturedFrame) (i j : ℕ) → meets_at (map frame_as xs) (map frame_as ys) i j ≡ are_one (option_map frame_as (slice_get xs i)) (option_map frame_as (slice_get ys j))
meets_as xs ys i j = ap₂ are_one (slice_get-map frame_as xs i) (slice_get-map frame_as ys j)

pub first_lacks : (xs ys : List CapturedFrame) (i j : ℕ) → slice_get xs i ≡ None → false ≡ meets_at (map frame_as xs) (map frame_as ys) i j
first_lacks xs ys i j h = sym (meets_as xs ys i j ∙ ap (λ (x : Option CapturedFrame). are_one (option_map frame_as x) (option_map frame_as (slice_get ys j))) h)

lacks : (x : Option FrameLine) → are_one x None ≡ false
lacks None = refl
lacks (Some x) = refl

pub second_lacks : (xs ys : List CapturedFrame) (i j : ℕ) → slice_get ys j ≡ None → false ≡ meets_at (map frame_as xs) (map frame_as ys) i j
second_lacks xs ys i j h =
    sym (meets_as xs ys i j ∙ ap (λ (y : Option CapturedFrame). are_one (option_map frame_as (slice_get xs i)) (option_map frame_as y)) h ∙ lacks (option_map frame_as (slice_get xs i)))

pub both_stand : (xs ys : List CapturedFrame) (i j : ℕ) (x y : CapturedFrame) → slice_get xs i ≡ Some x → slice_get ys j ≡ Some y
    → are_one (Some (frame_as x)) (Some (frame_as y)) ≡ meets_at (map frame_as xs) (map frame_as ys) i j
both_stand xs ys i j x y h e = sym (meets_as xs ys i j ∙ ap₂ (λ (x y : Option CapturedFrame). are_one (option_map frame_as x) (option_map frame_as y)) h e)

-- ---- from place to place

clash : true ≡ false → ⊥
clash h = cc

none_over : (n : ℕ) → (suc n == 0) ≡ false
none_over n = grind (arith, nat_tests)

none_at : (zero == 0) ≡ false → ⊥
none_at h = cc

none_below : nat_lt 0 zero ≡ true → ⊥
none_below h = cc

some_below : (n : ℕ) → nat_lt 0 (suc n) ≡ true
some_below n = grind (arith, nat_tests)

one_less : (n : ℕ) → suc n - 1 ≡ n
one_less n = omega arith

pub found_there : (xs ys : List FrameLine) (i j : ℕ) → meets_at xs ys i j ≡ true → meeting_from xs ys i j ≡ Some (record { first = i; second = j })
found_there xs ys i zero h = ap (λ b. met_or b i zero None) h
found_there xs ys i (suc j) h = ap (λ b. met_or b i (suc j) (meeting_from xs ys (i + 1) j)) h

pub none_there : (xs ys : List FrameLine) (i j : ℕ) → (j == 0) ≡ true → meets_at xs ys i j ≡ false → meeting_from xs ys i j ≡ None
none_there xs ys i zero e h = ap (λ b. met_or b i zero None) h
none_there xs ys i (suc j) e h = absurd (clash (sym e ∙ none_over j))

pub next_there : (xs ys : List FrameLine) (i j : ℕ) → (j == 0) ≡ false → meets_at xs ys i j ≡ false → meeting_from xs ys i j ≡ meeting_from xs ys (i + 1) (j - 1)
next_there xs ys i zero e h = absurd (none_at e)
next_there xs ys i (suc j) e h = ap (λ b. met_or b i (suc j) (meeting_from xs ys (i + 1) j)) h ∙ ap (meeting_from xs ys (i + 1)) (sym (one_less j))

-- ---- with more and more before it

pub found_now : (xs ys : List FrameLine) (left steps : ℕ) (m : Meeting) → nat_lt 0 left ≡ true → meeting_from xs ys 0 steps ≡ Some m → nearest_from xs ys left steps ≡ Some m
found_now xs ys zero steps m h e = absurd (none_below h)
found_now xs ys (suc left) steps m h e = ap (λ (found : Option Meeting). or_further found (nearest_from xs ys left (steps + 1))) e

pub none_now : (xs ys : List FrameLine) (left steps : ℕ) → nat_lt 0 left ≡ true → meeting_from xs ys 0 steps ≡ None → nearest_from xs ys left steps ≡ nearest_from xs ys (left - 1) (steps + 1)
none_now xs ys zero steps h e = absurd (none_below h)
none_now xs ys (suc left) steps h e =
    ap (λ (found : Option Meeting). or_further found (nearest_from xs ys left (steps + 1))) e ∙ ap (λ (n : ℕ). nearest_from xs ys n (steps + 1)) (sym (one_less left))

pub none_ever : (xs ys : List FrameLine) (left steps : ℕ) → nat_lt 0 left ≡ false → nearest_from xs ys left steps ≡ None
none_ever xs ys zero steps h = refl
none_ever xs ys (suc left) steps h = absurd (clash (sym (some_below left) ∙ h))
