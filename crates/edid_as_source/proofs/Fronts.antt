-- The bytes of a mended base block, by their places.
use Rattle.std.proofs.Common.{◌≡◌, refl, ◌∙◌, ap, ℕ, ◌+◌, ◌-◌, ◌*◌, ◌/◌, ◌%◌, ◌<◌, ◌≤◌, ◌==◌, Bool, true, false, ◌&&◌, ◌||◌, nat_le, nat_lt, cond, arith, List, [], ◌∷◌, ◌++◌, length, get_or, take, drop, append_assoc, length-append, length-drop, lit≤}
use Rattle.std.proofs.lemmas.List.{get_or-append_right, length-take-le}
use borrow.Author.Tests.{tests}
use Rattle.edid_base.specs.Check.{check_of}
use Rattle.edid_base.specs.Header.{header}
use Rattle.edid_base.specs.Letters.{has_letters}
use Rattle.edid_base.specs.Refusals.{has_revision}
use Rattle.edid_as_source.specs.Front.{mended_block, mended_letter, mended_maker, mended_revision}

-- ---- letters

letter_by : (v : Bool) (n : ℕ) → (nat_le 1 n && nat_le n 26) ≡ v → (1 ≤ cond v n 24) × (cond v n 24 ≤ 26)
letter_by true n h = grind (arith, tests, h)
letter_by false n h = (lit≤ tt, lit≤ tt)

pub letter : (n : ℕ) → (1 ≤ mended_letter n) × (mended_letter n ≤ 26)
letter n = letter_by (nat_le 1 n && nat_le n 26) n refl

lettered : (a b c : ℕ) → 1 ≤ a → a ≤ 26 → 1 ≤ b → b ≤ 26 → 1 ≤ c → c ≤ 26 → has_letters (a * 4 + b / 8) (b % 8 * 32 + c) ≡ true
lettered a b c ha ha' hb hb' hc hc' =
    let n : ℕ = (a * 4 + b / 8) * 256 + (b % 8 * 32 + c) in
    let x : ((a * 4 + b / 8) * 256 + (b % 8 * 32 + c)) / 1024 ≡ a = omega arith in
    let y : ((a * 4 + b / 8) * 256 + (b % 8 * 32 + c)) / 32 % 32 ≡ b = omega arith in
    let z : ((a * 4 + b / 8) * 256 + (b % 8 * 32 + c)) % 32 ≡ c = omega arith in
    let small : (a * 4 + b / 8) * 256 + (b % 8 * 32 + c) < 32768 = omega arith in
    let t : nat_lt ((a * 4 + b / 8) * 256 + (b % 8 * 32 + c)) 32768 ≡ true = grind (arith, tests) in
    let p : nat_le 1 a ≡ true = grind (arith, tests) in
    let q : nat_le a 26 ≡ true = grind (arith, tests) in
    let r : nat_le 1 b ≡ true = grind (arith, tests) in
    let s : nat_le b 26 ≡ true = grind (arith, tests) in
    let u : nat_le 1 c ≡ true = grind (arith, tests) in
    let v : nat_le c 26 ≡ true = grind (arith, tests) in
    rw (x, y, z, t, p, q, r, s, u, v) refl

pub maker_lettered : (first second third : ℕ) → has_letters (mended_letter first * 4 + mended_letter second / 8) (mended_letter second % 8 * 32 + mended_letter third) ≡ true
maker_lettered first second third =
    let a = letter first in let b = letter second in let c = letter third in
    lettered (mended_letter first) (mended_letter second) (mended_letter third) a.0 a.1 b.0 b.1 c.0 c.1

-- ---- the base block

revision_by : (v : Bool) → ((cond v 3 4 == 3) || (cond v 3 4 == 4)) ≡ true
revision_by true = refl
revision_by false = refl

-- a place after so many bytes
pub place : (xs ys zs : List ℕ) (n i : ℕ) → length xs ≡ n → n ≤ i → get_or ((xs ++ ys) ++ zs) i 0 ≡ get_or (ys ++ zs) (i - n) 0
place xs ys zs n i len h = ap (λ t. get_or t i 0) (append_assoc xs ys zs) ∙ get_or-append_right xs (ys ++ zs) n i 0 len h

pub product_len : (b : List ℕ) → 128 ≤ length b → length (take 8 (drop 10 b)) ≡ 8
product_len b h = length-take-le 8 (drop 10 b) (omega (arith, h, length-drop 10 b))

pub display_len : (b : List ℕ) → 128 ≤ length b → length (take 106 (drop 20 b)) ≡ 106
display_len b h = length-take-le 106 (drop 20 b) (omega (arith, h, length-drop 20 b))

-- what follows the maker
abbrev pub rest_of : List ℕ → ℕ → List ℕ
rest_of b count = take 8 (drop 10 b) ++ (1 ∷ mended_revision (get_or b 19 0) ∷ (take 106 (drop 20 b) ++ (count ∷ [])))

pub rest_len : (b : List ℕ) (count : ℕ) → 128 ≤ length b → length (rest_of b count) ≡ 117
rest_len b count h =
    omega (
      arith,
      product_len b h,
      display_len b h,
      length-append (take 8 (drop 10 b)) (1 ∷ mended_revision (get_or b 19 0) ∷ (take 106 (drop 20 b) ++ (count ∷ []))),
      length-append (take 106 (drop 20 b)) (count ∷ []),
    )

abbrev pub front_of : List ℕ → ℕ → List ℕ
front_of b count = header ++ (mended_maker (get_or b 8 0) (get_or b 9 0) ++ rest_of b count)

pub front_len : (b : List ℕ) (count : ℕ) → 128 ≤ length b → length (front_of b count) ≡ 127
front_len b count h =
    let rest = rest_len b count h in
    omega (arith, rest)

pub block_len : (b : List ℕ) (count : ℕ) → 128 ≤ length b → length (mended_block b count) ≡ 128
block_len b count h = omega (arith, front_len b count h, length-append (front_of b count) (check_of (front_of b count) ∷ []))

-- the version, the revision and the count
pub version_at : (b : List ℕ) (count : ℕ) → 128 ≤ length b → get_or (mended_block b count) 18 0 ≡ 1
version_at b count h =
    place (take 8 (drop 10 b)) (1 ∷ mended_revision (get_or b 19 0) ∷ (take 106 (drop 20 b) ++ (count ∷ []))) (check_of (front_of b count) ∷ []) 8 8 (product_len b h) (lit≤ tt)

pub revision_at : (b : List ℕ) (count : ℕ) → 128 ≤ length b → get_or (mended_block b count) 19 0 ≡ mended_revision (get_or b 19 0)
revision_at b count h =
    place (take 8 (drop 10 b)) (1 ∷ mended_revision (get_or b 19 0) ∷ (take 106 (drop 20 b) ++ (count ∷ []))) (check_of (front_of b count) ∷ []) 8 9 (product_len b h) (lit≤ tt)

pub count_at : (b : List ℕ) (count : ℕ) → 128 ≤ length b → get_or (mended_block b count) 126 0 ≡ count
count_at b count h =
    place (take 8 (drop 10 b)) (1 ∷ mended_revision (get_or b 19 0) ∷ (take 106 (drop 20 b) ++ (count ∷ []))) (check_of (front_of b count) ∷ []) 8 116 (product_len b h) (lit≤ tt)
    ∙ place (take 106 (drop 20 b)) (count ∷ []) (check_of (front_of b count) ∷ []) 106 106 (display_len b h) (lit≤ tt)

pub revised : (b : List ℕ) (count : ℕ) → 128 ≤ length b → has_revision (mended_block b count) ≡ true
revised b count h = rw (version_at b count h, revision_at b count h) (revision_by (nat_le (get_or b 19 0) 3))
