-- Blocks one after another, each with its right checksum.
use Rattle.std.proofs.Common.{◌≡◌, refl, ◌∙◌, sym, ap, subst, ℕ, zero, suc, ◌+◌, ◌-◌, ◌*◌, ◌%◌, ◌==◌, ◌<◌, ◌≤◌, Bool, true, false, ◌||◌, nat_le, cond, arith, List, [], ◌∷◌, ◌++◌, length, get_or, sum, take, drop, take_at, drop-drop, length-append, length-drop, eq-eqb}
use Rattle.std.proofs.lemmas.Bool.{and_parts}
use Rattle.std.proofs.lemmas.Bool.Decides.{nat_tests}
use Rattle.std.proofs.lemmas.List.{length-take-le, take-append-drop}
use borrow.Author.Tests.{tests}
use Rattle.edid_base.proofs.Accepted.{summed_is}
use Rattle.edid_base.specs.Check.{block_with_checksum, check_of}
use Rattle.edid_as_source.specs.Count.{begins_with_override}
use Rattle.edid_as_source.specs.Extensions.{blocks_taken, is_taken, mended_extension, overridden, with_override}
use Rattle.edid_as_source.specs.Notes.{blocks_notes}

-- after a first block
pub drop_at : (xs ys : List ℕ) (n : ℕ) → length xs ≡ n → drop n (xs ++ ys) ≡ ys
drop_at xs ys n h = ap (λ k. drop k (xs ++ ys)) (sym h) ∙ dropped xs ys
  where
    dropped : (xs ys : List ℕ) → drop (length xs) (xs ++ ys) ≡ ys
    dropped [] ys = refl
    dropped (x ∷ xs) ys = dropped xs ys

next : (xs : List ℕ) (k : ℕ) → drop (128 * suc k) xs ≡ drop (128 * k) (drop 128 xs)
next xs k =
    let n : 128 * suc k ≡ 128 + 128 * k = omega arith in
    ap (λ i. drop i xs) n ∙ sym (drop-drop (128 * k) 128 xs)

pub after : (xs ys : List ℕ) (k : ℕ) → length xs ≡ 128 → drop (128 * suc k) (xs ++ ys) ≡ drop (128 * k) ys
after xs ys k h = next (xs ++ ys) k ∙ ap (drop (128 * k)) (drop_at xs ys 128 h)

-- the sum is right, and the checksum is that of the other bytes
abbrev pub IsKept : List ℕ → Type 0
IsKept block = (sum block % 256 ≡ 0) × (mended_extension block ≡ block)

-- so many blocks, each of them so
abbrev pub AreKept : ℕ → List ℕ → Type 0
AreKept zero blocks = blocks ≡ []
AreKept (suc n) blocks = (128 ≤ length blocks) × IsKept (take 128 blocks) × AreKept n (drop 128 blocks)

pub kept_len : (n : ℕ) (blocks : List ℕ) → AreKept n blocks → length blocks ≡ 128 * n
kept_len zero blocks k = let none : length blocks ≡ 0 = ap length k in omega (arith, none)
kept_len (suc n) blocks k = omega (arith, k.0, kept_len n (drop 128 blocks) k.2, length-drop 128 blocks)

pub kept_sums : (n k : ℕ) (blocks : List ℕ) → AreKept n blocks → 128 * k < length blocks → sum (take 128 (drop (128 * k) blocks)) % 256 ≡ 0
kept_sums zero k blocks a h = absurd (let none : length blocks ≡ 0 = ap length a in omega (arith, none, h))
kept_sums (suc n) zero blocks a h = a.1.0
kept_sums (suc n) (suc k) blocks a h =
    ap (λ t. sum (take 128 t) % 256) (next blocks k) ∙ kept_sums n k (drop 128 blocks) a.2 (omega (arith, h, length-drop 128 blocks))

kept_block : (front : List ℕ) → length front ≡ 127 → IsKept (block_with_checksum front)
kept_block front h = (summed_is front, ap block_with_checksum (take_at front (check_of front ∷ []) 127 h))

pub block_len : (front : List ℕ) → length front ≡ 127 → length (block_with_checksum front) ≡ 128
block_len front h = omega (arith, h, length-append front (check_of front ∷ []))

pub kept_onto : (n : ℕ) (front others : List ℕ) → length front ≡ 127 → AreKept n others → AreKept (suc n) (block_with_checksum front ++ others)
kept_onto n front others h k =
    let size = block_len front h in (
      omega (arith, length-append (block_with_checksum front) others, size),
      subst IsKept (sym (take_at (block_with_checksum front) others 128 size)) (kept_block front h),
      subst (AreKept n) (sym (drop_at (block_with_checksum front) others 128 size)) k,
    )

-- ---- those that are taken

pub front_len : (rest : List ℕ) → 128 ≤ length rest → length (take 127 (take 128 rest)) ≡ 127
front_len rest h = length-take-le 127 (take 128 rest) (omega (arith, length-take-le 128 rest h))

-- no more than there is room for
pub record FewKept (room : ℕ) (blocks : List ℕ) : Type 0 where
  pub count : ℕ
  pub few : count ≤ room
  pub kept : AreKept count blocks

pub taken_kept : (room count : ℕ) (rest : List ℕ) → 128 * count ≤ length rest → FewKept room (blocks_taken room count rest)
taken_kept room zero rest h = record { count = 0; few = omega arith; kept = refl }
taken_kept zero (suc count) rest h = record { count = 0; few = omega arith; kept = refl }
taken_kept (suc room) (suc count) rest h = by (is_taken (take 128 rest)) (taken_kept room count (drop 128 rest) left) (taken_kept (suc room) count (drop 128 rest) left)
  where
    left : 128 * count ≤ length (drop 128 rest)
    left = omega (arith, h, length-drop 128 rest)

    by : (v : Bool) → FewKept room (blocks_taken room count (drop 128 rest)) → FewKept (suc room) (blocks_taken (suc room) count (drop 128 rest))
        → FewKept (suc room) (cond v (mended_extension (take 128 rest) ++ blocks_taken room count (drop 128 rest)) (blocks_taken (suc room) count (drop 128 rest)))
    by true less same = record {
      count = suc less.count;
      few = omega (arith, less.few);
      kept = kept_onto less.count (take 127 (take 128 rest)) (blocks_taken room count (drop 128 rest)) (front_len rest (omega (arith, h))) less.kept;
    }
    by false less same = same

-- ---- an override that follows

pub begun_long : (blocks : List ℕ) → begins_with_override blocks ≡ true → 128 ≤ length blocks
begun_long blocks h =
    let first = (and_parts (nat_le 128 (length blocks)) _ h).0 in
    grind (arith, tests, first)

override_front : (count : ℕ) (blocks : List ℕ) → 128 ≤ length blocks → length (take 6 blocks ++ (count ∷ take 120 (drop 7 blocks))) ≡ 127
override_front count blocks h =
    omega (
      arith,
      length-append (take 6 blocks) (count ∷ take 120 (drop 7 blocks)),
      length-take-le 6 blocks (omega (arith, h)),
      length-take-le 120 (drop 7 blocks) (omega (arith, h, length-drop 7 blocks)),
    )

pub overridden_kept : (n count : ℕ) (blocks : List ℕ) → AreKept n blocks → AreKept n (overridden count blocks)
overridden_kept n count blocks k = by (begins_with_override blocks) refl
  where
    some : (n : ℕ) (blocks : List ℕ) → 128 ≤ length blocks → AreKept n blocks → AreKept n (with_override count blocks ++ drop 128 blocks)
    some zero blocks h k = absurd (let none : length blocks ≡ 0 = ap length k in omega (arith, none, h))
    some (suc n) blocks h k = kept_onto n (take 6 blocks ++ (count ∷ take 120 (drop 7 blocks))) (drop 128 blocks) (override_front count blocks h) k.2

    by : (v : Bool) → begins_with_override blocks ≡ v → AreKept n (cond v (with_override count blocks ++ drop 128 blocks) blocks)
    by true e = some n blocks (begun_long blocks e) k
    by false e = k

-- ---- they are taken as they are, and nothing is said of them

pub kept_taken : (room n : ℕ) (blocks : List ℕ) → n ≤ room → AreKept n blocks → blocks_taken room n blocks ≡ blocks
kept_taken room zero blocks h k = sym k
kept_taken zero (suc n) blocks h k = absurd (omega (arith, h))
kept_taken (suc room) (suc n) blocks h k =
    ap (λ v. cond v (mended_extension (take 128 blocks) ++ blocks_taken room n (drop 128 blocks)) (blocks_taken (suc room) n (drop 128 blocks)))
    (ap (λ v. v || (get_or (take 128 blocks) 0 0 == 2)) (eq-eqb _ _ k.1.0))
    ∙ ap (λ t. t ++ blocks_taken room n (drop 128 blocks)) k.1.1
    ∙ ap (λ t. take 128 blocks ++ t) (kept_taken room n (drop 128 blocks) (omega (arith, h)) k.2)
    ∙ take-append-drop 128 blocks

pub kept_silent : (room number n : ℕ) (blocks : List ℕ) → n ≤ room → AreKept n blocks → blocks_notes room number n blocks ≡ []
kept_silent room number zero blocks h k = refl
kept_silent zero number (suc n) blocks h k = absurd (omega (arith, h))
kept_silent (suc room) number (suc n) blocks h k =
    let right : (sum (take 128 blocks) % 256 == 0) ≡ true = eq-eqb _ _ k.1.0 in
    let there : (suc room == 0) ≡ false = grind (arith, nat_tests) in
    let less : suc room - 1 ≡ room = omega arith in
    rw (there, right, less) (kept_silent room (number + 1) n (drop 128 blocks) (omega (arith, h)) k.2)
