-- Frames laid beside each other, row by row.
use Rattle.std.proofs.Common.{◌≡◌, ℕ, zero, suc, ◌+◌, ◌-◌, ◌<◌, Bool, true, false, nat_lt, map, length, take, drop, slice_get, List, [], ◌∷◌, ◌++◌, Option, Some, None, option_map, refl, sym, ap, ap₂, ◌∙◌, append-nil, append_assoc, arith}
use Rattle.std.proofs.lemmas.Bool.Decides.{nat_tests}
use Rattle.std.proofs.lemmas.List.{drop-map, take-map}
use Rattle.std.proofs.lemmas.Option.{slice_get-map}
use Rattle.capture_difference.specs.Aligned.{aligned_by, alone, go_on, met, nearest, past, up_to}
use Rattle.capture_difference.specs.Rows.{Row, row_as}
use Rattle.capture_difference.specs.declared.nearest.Meeting.{Meeting}
use Rattle.capture_difference.specs.declared.row.Row.{Row as RowRead}
use Rattle.capture_frames.specs.Frames.{FrameLine, frame_as}
use Rattle.capture_frames.specs.declared.frame.CapturedFrame.{CapturedFrame}

clash : true ≡ false → ⊥
clash h = cc

-- ---- what stands after so many and one more

pub past_as : (n : ℕ) (xs middle rest : List CapturedFrame) → middle ≡ drop n xs → rest ≡ drop 1 middle → map frame_as rest ≡ past n (map frame_as xs)
past_as n xs middle rest first second =
    ap (map frame_as) second ∙ sym (drop-map frame_as 1 middle) ∙ ap (drop 1) (ap (map frame_as) first ∙ sym (drop-map frame_as n xs))

-- ---- rows up to a frame of both

pub front_as : (n : ℕ) (xs first : List CapturedFrame) → first ≡ take n xs → map frame_as first ≡ take n (map frame_as xs)
front_as n xs first h = ap (map frame_as) h ∙ sym (take-map frame_as n xs)

pub some_at : (xs : List CapturedFrame) (n : ℕ) (x : CapturedFrame) → slice_get xs n ≡ Some x → Some (frame_as x) ≡ slice_get (map frame_as xs) n
some_at xs n x h = sym (slice_get-map frame_as xs n ∙ ap (option_map frame_as) h)

pub none_at : (xs : List CapturedFrame) (n : ℕ) → slice_get xs n ≡ None → None ≡ slice_get (map frame_as xs) n
none_at xs n h = sym (slice_get-map frame_as xs n ∙ ap (option_map frame_as) h)

pub laid_up_to : (xs ys first second : List FrameLine) (x y : Option FrameLine) (m : Meeting) (old middle new : List Row) → first ≡ take m.first xs → second ≡ take m.second ys
    → x ≡ slice_get xs m.first → y ≡ slice_get ys m.second → middle ≡ old ++ alone first second → new ≡ middle ++ met x y → new ≡ old ++ up_to xs ys m
laid_up_to xs ys first second x y m old middle new f s h k one two =
    two ∙ ap₂ (λ (a b : List Row). a ++ b) (one ∙ ap₂ (λ (a b : List FrameLine). old ++ alone a b) f s) (ap₂ met h k)
    ∙ append_assoc old (alone (take m.first xs) (take m.second ys)) (met (slice_get xs m.first) (slice_get ys m.second))

-- ---- one row after another

map_put : (old : List RowRead) (row : RowRead) → map row_as (old ++ row ∷ []) ≡ map row_as old ++ row_as row ∷ []
map_put [] row = refl
map_put (x ∷ old) row = ap (λ (rows : List Row). row_as x ∷ rows) (map_put old row)

pub row_put : (old new : List RowRead) (row : RowRead) → new ≡ old ++ row ∷ [] → map row_as new ≡ map row_as old ++ row_as row ∷ []
row_put old new row put = ap (map row_as) put ∙ map_put old row

pub no_row : (old : List Row) → old ≡ old ++ met None None
no_row old = sym (append-nil old)

-- a row more, and one less that is left
pub row_more : (old new rest whole : List Row) (row : Row) → old ++ row ∷ rest ≡ whole → new ≡ old ++ row ∷ [] → new ++ rest ≡ whole
row_more old new rest whole row before put = ap (λ (rows : List Row). rows ++ rest) put ∙ append_assoc old (row ∷ []) rest ∙ before

pub in_turn : (old middle new first second : List Row) → middle ≡ old ++ first → new ≡ middle ++ second → new ≡ old ++ (first ++ second)
in_turn old middle new first second one two = two ∙ ap (λ (rows : List Row). rows ++ second) one ∙ append_assoc old first second

-- ---- one frame of both after another

pub none_more : (n : ℕ) (xs ys : List FrameLine) → nearest xs ys ≡ None → aligned_by n xs ys ≡ alone xs ys
none_more zero xs ys h = refl
none_more (suc n) xs ys h = ap (go_on (aligned_by n) xs ys) h

none_below : nat_lt 0 0 ≡ true → ⊥
none_below h = cc

some_below : (n : ℕ) → nat_lt 0 (suc n) ≡ false → ⊥
some_below n h =
    let yes : nat_lt 0 (suc n) ≡ true = grind (arith, nat_tests) in
    clash (sym yes ∙ h)

one_less : (n : ℕ) → suc n - 1 ≡ n
one_less n = omega arith

pub one_more : (n : ℕ) (xs ys : List FrameLine) (m : Meeting) → nat_lt 0 n ≡ true → nearest xs ys ≡ Some m → aligned_by n xs ys ≡ up_to xs ys m ++ aligned_by (n - 1) (past m.first xs) (past m.second ys)
one_more zero xs ys m h e = absurd (none_below h)
one_more (suc n) xs ys m h e =
    ap (go_on (aligned_by n) xs ys) e ∙ ap (λ (k : ℕ). up_to xs ys m ++ aligned_by k (past m.first xs) (past m.second ys)) (sym (one_less n))

pub none_left : (n : ℕ) (xs ys : List FrameLine) → nat_lt 0 n ≡ false → aligned_by n xs ys ≡ alone xs ys
none_left zero xs ys h = refl
none_left (suc n) xs ys h = absurd (some_below n h)

-- rows so far, and what is left
pub laid_more : (old new rest rest_before whole up : List Row) → old ++ rest_before ≡ whole → rest_before ≡ up ++ rest → new ≡ old ++ up → new ++ rest ≡ whole
laid_more old new rest rest_before whole up before is put =
    ap (λ (rows : List Row). rows ++ rest) put ∙ append_assoc old up rest ∙ ap (λ (rows : List Row). old ++ rows) (sym is) ∙ before
