use Rattle.std.proofs.Common.{◌≡◌, ℕ, suc, ◌+◌, ◌-◌, ◌<◌, ◌≤◌, Bool, true, false, not, cond, List, [], ◌∷◌, length, take, drop, position, Some, None, ◌==◌, ◌∙◌, ap, refl, arith, rules}
use Rattle.std.specs.List.{slice_split, onto_first, position_or_len}
use Rattle.std.proofs.lemmas.List.Splits.{slice_split_first, length-slice_split}
use Rattle.std.proofs.lemmas.List.Sums.{prefix_len-le-length}
use Rattle.std.proofs.lemmas.Grind.{common_steps}
use Rattle.text_core.specs.Lines.{lines_of, without_empty_end}

found_at : (p : ℕ → Bool) (xs : List ℕ) (i : ℕ) → position p xs ≡ Some i → (position_or_len p xs ≡ i) × (i < length xs)
found_at p xs i h = grind (arith, common_steps)

nowhere : (p : ℕ → Bool) (xs : List ℕ) → position p xs ≡ None → length xs ≤ position_or_len p xs
nowhere p xs h = grind (arith, common_steps)

alone : (p : ℕ → Bool) (xs : List ℕ) → length xs ≤ position_or_len p xs → slice_split p xs ≡ xs ∷ []
alone p [] h = refl
alone p (x ∷ xs) h =
    elim (p x) as (λ b. (suc (length xs) ≤ cond (not b) (1 + position_or_len p xs) 0) → cond b ([] ∷ slice_split p xs) (onto_first x (slice_split p xs)) ≡ (x ∷ xs) ∷ []) [
      | true ↦ λ low. absurd (omega arith)
      | false ↦ λ low. let e : slice_split p xs ≡ xs ∷ [] = alone p xs (omega arith) in rw e refl
    ] h

-- a list without such an element is one part
pub split_none : (p : ℕ → Bool) (xs : List ℕ) → position p xs ≡ None → slice_split p xs ≡ xs ∷ []
split_none p xs h = alone p xs (nowhere p xs h)

rest_of : (xs : List ℕ) (n : ℕ) → take (length xs - n) (drop n xs) ≡ drop n xs
rest_of xs n = grind (arith, common_steps)

-- the first part, and the parts of the rest
pub split_some : (p : ℕ → Bool) (xs : List ℕ) (i : ℕ) → position p xs ≡ Some i → slice_split p xs ≡ take i xs ∷ slice_split p (take (length xs - (i + 1)) (drop (i + 1) xs))
split_some p xs i h =
    let at = found_at p xs i h in
    let e : position_or_len p xs ≡ i = at.0 in
    let here : position_or_len p xs < length xs = omega arith in
    rw rest_of (slice_split_first p xs 0 here ∙ ap (λ n. take n xs ∷ slice_split p (drop (n + 1) xs)) e)

more_parts : (x : List ℕ) (ys : List (List ℕ)) → 0 < length ys → without_empty_end (x ∷ ys) ≡ x ∷ without_empty_end ys
more_parts x [] h = absurd (omega arith)
more_parts x (y ∷ ys) h = refl

pub lines_none : (text : List ℕ) → 0 < length text → position (λ b. b == 10) text ≡ None → lines_of text ≡ text ∷ []
lines_none text some h = rw (split_none (λ b. b == 10) text h) (one_line text some)
  where
    one_line : (text : List ℕ) → 0 < length text → without_empty_end (text ∷ []) ≡ text ∷ []
    one_line [] h = absurd (omega arith)
    one_line (x ∷ xs) h = search rules

pub lines_some : (text : List ℕ) (i : ℕ) → position (λ b. b == 10) text ≡ Some i → lines_of text ≡ take i text ∷ lines_of (take (length text - (i + 1)) (drop (i + 1) text))
lines_some text i h =
    let rest = take (length text - (i + 1)) (drop (i + 1) text) in
    rw (split_some (λ b. b == 10) text i h) (more_parts _ (slice_split (λ b. b == 10) rest) (omega (arith, length-slice_split (λ b. b == 10) rest)))

pub position_within : (byte : ℕ) (xs : List ℕ) → position_or_len (λ b. b == byte) xs ≤ length xs
position_within byte xs = prefix_len-le-length _ xs

-- a list without such an element is all before it
pub all_before : (byte : ℕ) (xs : List ℕ) → position (λ b. b == byte) xs ≡ None → length xs ≡ position_or_len (λ b. b == byte) xs
all_before byte xs h = omega (arith, nowhere (λ b. b == byte) xs h, position_within byte xs)
