-- A block is its parts, one after another.
use Rattle.std.proofs.Common.{◌≡◌, ℕ, suc, ◌<◌, ◌≤◌, ◌+◌, ◌%◌, List, [], ◌∷◌, ◌++◌, length, get_or, drop, take, sum, Bool, true, ◌&&◌, arith, refl, sym, ◌∙◌, ap, drop-cons, drop-drop, take-append-drop, append_assoc, length-drop}
use Rattle.std.proofs.lemmas.List.{take_all}
use Rattle.std.proofs.Common.{cond, not, Option, Some, None, false}
use Rattle.std.proofs.Common.{◌*◌, ◌/◌, rules}
use Rattle.std.specs.Int.{w16, w32, to_le_bytes, from_le_bytes}
use Rattle.std.proofs.lemmas.Nat.{le_bytes_4}
use Rattle.std.proofs.lemmas.Bool.{eqb-true}
use Rattle.std.proofs.lemmas.Bool.Decides.{Decides-eqb}
use Rattle.std.proofs.lemmas.Slice.Eq.{starts_is}
use Rattle.std.proofs.lemmas.Grind.{common_steps}
use Rattle.edid_base.specs.Refusals.{refusal}
use Rattle.edid_base.specs.Header.{header, has_header}
use Rattle.edid_base.specs.Check.{check_of}

pub piece : (xs : List ℕ) (i n : ℕ) → drop i xs ≡ take n (drop i xs) ++ drop (i + n) xs
piece xs i n = sym (take-append-drop n (drop i xs)) ∙ ap (λ t. take n (drop i xs) ++ t) (drop-drop n i xs)

pub quarters : (xs a b d e : List ℕ) → length xs ≡ 72
    → a ≡ take 18 (drop 0 xs) → b ≡ take 18 (drop 18 xs) → d ≡ take 18 (drop 36 xs) → e ≡ take 18 (drop 54 xs)
    → a ++ (b ++ (d ++ (e ++ []))) ≡ xs
quarters xs a b d e len ha hb hd he =
    let p = piece xs 0 18 in
    let q = piece xs 18 18 in
    let r = piece xs 36 18 in
    let s = piece xs 54 18 in
    let none : length (drop 72 xs) ≤ 0 = simp length-drop (omega arith) in
    let end : drop 72 xs ≡ [] = sym (take_all 0 (drop 72 xs) none) in
    cc

cell : (xs : List ℕ) (i : ℕ) → i < length xs → drop i xs ≡ get_or xs i 0 ∷ drop (suc i) xs
cell xs i h = drop-cons xs i 0 h

pub record IsHeader (xs : List ℕ) : Type 0 where
  pub b0 : get_or xs 0 0 ≡ 0
  pub b1 : get_or xs 1 0 ≡ 255
  pub b2 : get_or xs 2 0 ≡ 255
  pub b3 : get_or xs 3 0 ≡ 255
  pub b4 : get_or xs 4 0 ≡ 255
  pub b5 : get_or xs 5 0 ≡ 255
  pub b6 : get_or xs 6 0 ≡ 255
  pub b7 : get_or xs 7 0 ≡ 0

pub header_is : (xs : List ℕ) → has_header xs ≡ true → IsHeader xs
header_is xs h =
    let front : xs ≡ header ++ drop 8 xs = (starts_is Decides-eqb xs header true (sym h)).0 refl in
    let at : (k : ℕ) → get_or xs k 0 ≡ get_or (header ++ drop 8 xs) k 0 = λ k. ap (λ t. get_or t k 0) front in
    record { b0 = at 0; b1 = at 1; b2 = at 2; b3 = at 3; b4 = at 4; b5 = at 5; b6 = at 6; b7 = at 7 }

-- a refusal that does not come
accepted : {E : Type 0} (t : Bool) (e : E) (o : Option E) → cond (not t) (Some e) o ≡ None → (t ≡ true) × (o ≡ None)
accepted true e o h = (refl, h)
accepted false e o h = cc

pub accepted_header : (xs : List ℕ) → refusal xs ≡ None → has_header xs ≡ true
accepted_header xs h = (accepted _ _ _ h).0

pub accepted_sum : (xs : List ℕ) → refusal xs ≡ None → sum xs % 256 ≡ 0
accepted_sum xs h = eqb-true _ _ (accepted _ _ _ (accepted _ _ _ h).1).0

pub sum_with : (front : List ℕ) (last : ℕ) → sum front + last ≡ sum (front ++ (last ∷ []))
sum_with front last = grind (arith, common_steps)

-- the last byte is what the others ask for
pub checked : (front : List ℕ) (last : ℕ) (xs : List ℕ) → last < 256 → sum xs % 256 ≡ 0 → front ++ (last ∷ []) ≡ xs
    → front ++ (check_of front ∷ []) ≡ xs
checked front last xs fits total e =
    let added : sum front + last ≡ sum xs = sum_with front last ∙ ap sum e in
    let same : check_of front ≡ last = omega arith in
    rw same e

-- the parts of a base block, and its last byte
pub parts_are : (xs mk pr se rv ch es st de : List ℕ) (week year input width height gamma features ext : ℕ) → length xs ≡ 128
    → IsHeader xs → mk ≡ get_or xs 8 0 ∷ get_or xs 9 0 ∷ [] → pr ≡ get_or xs 10 0 ∷ get_or xs 11 0 ∷ [] → se ≡ get_or xs 12 0 ∷ get_or xs 13 0 ∷ get_or xs 14 0 ∷ get_or xs 15 0 ∷ []
    → week ≡ get_or xs 16 0 → year ≡ get_or xs 17 0 → rv ≡ get_or xs 18 0 ∷ get_or xs 19 0 ∷ []
    → input ≡ get_or xs 20 0 → width ≡ get_or xs 21 0 → height ≡ get_or xs 22 0 → gamma ≡ get_or xs 23 0 → features ≡ get_or xs 24 0
    → ch ≡ take 10 (drop 25 xs) → es ≡ take 3 (drop 35 xs) → st ≡ take 16 (drop 38 xs) → de ≡ take 72 (drop 54 xs) → ext ≡ get_or xs 126 0
    → (header ++ ((mk ++ (pr ++ (se ++ (week ∷ year ∷ (rv ++ (input ∷ width ∷ height ∷ gamma ∷ features ∷ [])))))) ++ (ch ++ (es ++ (st ++ (de ++ (ext ∷ []))))))) ++ (get_or xs 127 0 ∷ []) ≡ xs
parts_are xs mk pr se rv ch es st de week year input width height gamma features ext len hh hm hp hs hw hy hr hi ho he hg hf hc hes hst hd hx =
    let none : length (drop 128 xs) ≤ 0 = simp length-drop (omega arith) in
    let end : drop 128 xs ≡ [] = sym (take_all 0 (drop 128 xs) none) in
    let d127 = cell xs 127 (omega arith) in
    let d126 = cell xs 126 (omega arith) in
    let d54 = piece xs 54 72 in
    let d38 = piece xs 38 16 in
    let d35 = piece xs 35 3 in
    let d25 = piece xs 25 10 in
    let d24 = cell xs 24 (omega arith) in
    let d23 = cell xs 23 (omega arith) in
    let d22 = cell xs 22 (omega arith) in
    let d21 = cell xs 21 (omega arith) in
    let d20 = cell xs 20 (omega arith) in
    let d19 = cell xs 19 (omega arith) in
    let d18 = cell xs 18 (omega arith) in
    let d17 = cell xs 17 (omega arith) in
    let d16 = cell xs 16 (omega arith) in
    let d15 = cell xs 15 (omega arith) in
    let d14 = cell xs 14 (omega arith) in
    let d13 = cell xs 13 (omega arith) in
    let d12 = cell xs 12 (omega arith) in
    let d11 = cell xs 11 (omega arith) in
    let d10 = cell xs 10 (omega arith) in
    let d9 = cell xs 9 (omega arith) in
    let d8 = cell xs 8 (omega arith) in
    let d7 = cell xs 7 (omega arith) in
    let d6 = cell xs 6 (omega arith) in
    let d5 = cell xs 5 (omega arith) in
    let d4 = cell xs 4 (omega arith) in
    let d3 = cell xs 3 (omega arith) in
    let d2 = cell xs 2 (omega arith) in
    let d1 = cell xs 1 (omega arith) in
    let d0 = cell xs 0 (omega arith) in
    let h0 = hh.b0 in
    let h1 = hh.b1 in
    let h2 = hh.b2 in
    let h3 = hh.b3 in
    let h4 = hh.b4 in
    let h5 = hh.b5 in
    let h6 = hh.b6 in
    let h7 = hh.b7 in
    simp append_assoc (cc)

pub two_bytes : (n a b : ℕ) → a < 256 → b < 256 → n ≡ a + b * 256 → to_le_bytes w16 n ≡ a ∷ b ∷ []
two_bytes n a b ha hb e =
    let x : n % 256 ≡ a = omega arith in
    let y : n / 256 % 256 ≡ b = omega arith in
    rw (x, y)

pub four_bytes : (n a b c d : ℕ) → a < 256 → b < 256 → c < 256 → d < 256 → n ≡ from_le_bytes w32 (a ∷ b ∷ c ∷ d ∷ [])
    → to_le_bytes w32 n ≡ a ∷ b ∷ c ∷ d ∷ []
four_bytes n a b c d ha hb hc hd e =
    le_bytes_4 (a ∷ b ∷ c ∷ d ∷ []) n refl (search (rules, ha, hb, hc, hd)) e

-- the parts of a base block whose sum is right
pub block_is : (xs mk pr se rv ch es st de : List ℕ) (week year input width height gamma features ext : ℕ) → length xs ≡ 128
    → IsHeader xs → mk ≡ get_or xs 8 0 ∷ get_or xs 9 0 ∷ [] → pr ≡ get_or xs 10 0 ∷ get_or xs 11 0 ∷ [] → se ≡ get_or xs 12 0 ∷ get_or xs 13 0 ∷ get_or xs 14 0 ∷ get_or xs 15 0 ∷ []
    → week ≡ get_or xs 16 0 → year ≡ get_or xs 17 0 → rv ≡ get_or xs 18 0 ∷ get_or xs 19 0 ∷ []
    → input ≡ get_or xs 20 0 → width ≡ get_or xs 21 0 → height ≡ get_or xs 22 0 → gamma ≡ get_or xs 23 0 → features ≡ get_or xs 24 0
    → ch ≡ take 10 (drop 25 xs) → es ≡ take 3 (drop 35 xs) → st ≡ take 16 (drop 38 xs) → de ≡ take 72 (drop 54 xs) → ext ≡ get_or xs 126 0
    → get_or xs 127 0 < 256 → sum xs % 256 ≡ 0 → (header ++ ((mk ++ (pr ++ (se ++ (week ∷ year ∷ (rv ++ (input ∷ width ∷ height ∷ gamma ∷ features ∷ [])))))) ++ (ch ++ (es ++ (st ++ (de ++ (ext ∷ []))))))) ++ (check_of (header ++ ((mk ++ (pr ++ (se ++ (week ∷ year ∷ (rv ++ (input ∷ width ∷ height ∷ gamma ∷ features ∷ [])))))) ++ (ch ++ (es ++ (st ++ (de ++ (ext ∷ []))))))) ∷ []) ≡ xs
block_is xs mk pr se rv ch es st de week year input width height gamma features ext len hh hm hp hs hw hy hr hi ho he hg hf hc hes hst hd hx fits total =
    checked (header ++ ((mk ++ (pr ++ (se ++ (week ∷ year ∷ (rv ++ (input ∷ width ∷ height ∷ gamma ∷ features ∷ [])))))) ++ (ch ++ (es ++ (st ++ (de ++ (ext ∷ []))))))) (get_or xs 127 0) xs fits total (parts_are xs mk pr se rv ch es st de week year input width height gamma features ext len hh hm hp hs hw hy hr hi ho he hg hf hc hes hst hd hx)
