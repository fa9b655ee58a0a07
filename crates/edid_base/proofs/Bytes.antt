-- Lists of bytes of a known length.
use Rattle.std.proofs.Common.{◌≡◌, ℕ, zero, suc, ◌<◌, true, nat_lt, List, [], ◌∷◌, ◌++◌, get_or, take, drop, length, map, refl, arith, lit<}
use borrow.Author.Tests.{tests}
use Rattle.std.proofs.lemmas.Bool.{and_parts, ltb-true}
use Rattle.edid_base.specs.Bytes.{are_bytes}
use Rattle.std.specs.List.{range_with_len}
use Rattle.std.proofs.lemmas.List.FromFn.{fill_by_all}

-- a list is its elements, written out
pub cells : (xs : List ℕ) (n : ℕ) → length xs ≡ n → xs ≡ map (λ k. get_or xs k 0) (range_with_len 0 n)
cells xs n h = fill_by_all (λ k. get_or xs k 0) xs n 0 h (λ k _. refl)

-- a list whose elements are all below 256 is one of bytes
pub are_bytes-cells : (xs : List ℕ) → ((i : ℕ) → get_or xs i 0 < 256) → are_bytes xs ≡ true
are_bytes-cells [] h = refl
are_bytes-cells (x ∷ xs) h =
    let here : x < 256 = h 0 in
    let first : nat_lt x 256 ≡ true = grind (arith, tests) in
    rw first (are_bytes-cells xs (λ i. h (suc i)))

pub are_bytes-cons : (x : ℕ) (xs : List ℕ) → x < 256 → are_bytes xs ≡ true → are_bytes (x ∷ xs) ≡ true
are_bytes-cons x xs h k = let first : nat_lt x 256 ≡ true = grind (arith, tests) in rw first k

-- one of some elements that are all below 256
pub are_bytes-cell : (bytes xs : List ℕ) (i : ℕ) → ((k : ℕ) → get_or bytes k 0 < 256) → are_bytes xs ≡ true → are_bytes (get_or bytes i 0 ∷ xs) ≡ true
are_bytes-cell bytes xs i h k = are_bytes-cons (get_or bytes i 0) xs (h i) k

pub are_bytes-take : (n : ℕ) (xs : List ℕ) → are_bytes xs ≡ true → are_bytes (take n xs) ≡ true
are_bytes-take zero xs h = refl
are_bytes-take (suc n) [] h = refl
are_bytes-take (suc n) (x ∷ xs) h = let parts = and_parts (nat_lt x 256) (are_bytes xs) h in rw parts.0 (are_bytes-take n xs parts.1)

pub are_bytes-drop : (n : ℕ) (xs : List ℕ) → are_bytes xs ≡ true → are_bytes (drop n xs) ≡ true
are_bytes-drop zero xs h = h
are_bytes-drop (suc n) [] h = refl
are_bytes-drop (suc n) (x ∷ xs) h = are_bytes-drop n xs (and_parts (nat_lt x 256) (are_bytes xs) h).1

pub are_bytes-append : (xs ys : List ℕ) → are_bytes xs ≡ true → are_bytes ys ≡ true → are_bytes (xs ++ ys) ≡ true
are_bytes-append [] ys h k = k
are_bytes-append (x ∷ xs) ys h k = let parts = and_parts (nat_lt x 256) (are_bytes xs) h in rw parts.0 (are_bytes-append xs ys parts.1 k)

pub are_bytes-at : (xs : List ℕ) (i : ℕ) → are_bytes xs ≡ true → get_or xs i 0 < 256
are_bytes-at [] i h = lit< tt
are_bytes-at (x ∷ xs) zero h = ltb-true _ _ (and_parts (nat_lt x 256) (are_bytes xs) h).0
are_bytes-at (x ∷ xs) (suc i) h = are_bytes-at xs i (and_parts (nat_lt x 256) (are_bytes xs) h).1

pub are_bytes-after : (xs ys : List ℕ) → are_bytes (xs ++ ys) ≡ true → are_bytes ys ≡ true
are_bytes-after [] ys h = h
are_bytes-after (x ∷ xs) ys h = are_bytes-after xs ys (and_parts (nat_lt x 256) (are_bytes (xs ++ ys)) h).1
