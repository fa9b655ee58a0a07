-- What `mended` gives: its blocks sum to 0, and its other bytes stay.
use Rattle.std.proofs.Common.{◌≡◌, ◌≢◌, refl, ◌∙◌, sym, ap, subst, ℕ, zero, suc, ◌+◌, ◌-◌, ◌*◌, ◌/◌, ◌%◌, ◌==◌, ◌<◌, ◌≤◌, Bool, true, false, ◌&&◌, ◌||◌, nat_lt, cond, arith, List, [], ◌∷◌, ◌++◌, length, get_or, take, drop, slice_set, Ok, Err, append_assoc, length-drop}
use Rattle.std.proofs.lemmas.List.{get_or-append_right, get_or-drop, get_or-set_other, get_or-take, get_or_append_left, length-set}
use borrow.Author.Tests.{tests}
use Rattle.edid_base.specs.Check.{check_of}
use Rattle.edid_core.proofs.Lengths.{counted}
use Rattle.edid_core.specs.Bytes.{has_length}
use Rattle.edid_core.specs.declared.bytes.EdidError.TheVariants.{Length}
use Rattle.edid_as_source.specs.Count.{begins_with_override}
use Rattle.edid_as_source.specs.Extensions.{mended_extension}
use Rattle.edid_as_source.specs.Mend.{OthersStay, SumsAreRight, extensions_there, mended, recounted, recounted_by, summed_blocks}
use Rattle.edid_as_source.proofs.Taken.{AreKept, block_len, front_len, kept_len, kept_onto, kept_sums}

one_less : (n : ℕ) → suc n - 1 ≡ n
one_less n = omega arith

pub summed_onto : (old : List ℕ) (count : ℕ) (rest : List ℕ) → 0 < count
    → (old ++ mended_extension (take 128 rest)) ++ summed_blocks (count - 1) (drop 128 rest) ≡ old ++ summed_blocks count rest
summed_onto old zero rest h = absurd (omega (arith, h))
summed_onto old (suc count) rest h = rw (one_less count) (append_assoc old (mended_extension (take 128 rest)) (summed_blocks count (drop 128 rest)))

pub set_past : (xs : List ℕ) (i y : ℕ) → length xs ≤ i → slice_set xs i y ≡ xs
set_past [] i y h = refl
set_past (x ∷ xs) zero y h = absurd (omega (arith, h))
set_past (x ∷ xs) (suc i) y h = ap (λ l. x ∷ l) (set_past xs i y (omega (arith, h)))

-- ---- the sums

summed_kept : (n : ℕ) (blocks : List ℕ) → 128 * n ≤ length blocks → AreKept n (summed_blocks n blocks)
summed_kept zero blocks h = refl
summed_kept (suc n) blocks h =
    kept_onto n (take 127 (take 128 blocks)) (summed_blocks n (drop 128 blocks)) (front_len blocks (omega (arith, h)))
    (summed_kept n (drop 128 blocks) (omega (arith, h, length-drop 128 blocks)))

-- ---- the other bytes

block_at_place : (blocks others : List ℕ) (place : ℕ) → 128 ≤ length blocks → place < 127 → get_or (mended_extension (take 128 blocks) ++ others) place 0 ≡ get_or blocks place 0
block_at_place blocks others place h p =
    let front : List ℕ = take 127 (take 128 blocks) in
    let len = front_len blocks h in
    get_or_append_left (mended_extension (take 128 blocks)) others 0 place (omega (arith, p, block_len front len))
    ∙ get_or_append_left front (check_of front ∷ []) 0 place (omega (arith, p, len))
    ∙ get_or-take 127 (take 128 blocks) place 0 p
    ∙ get_or-take 128 blocks place 0 (omega (arith, p))

below_last : (place : ℕ) → place < 128 → place % 128 ≢ 127 → place < 127
below_last place h other = by (nat_lt place 127) refl
  where
    by : (v : Bool) → nat_lt place 127 ≡ v → place < 127
    by true e = grind (arith, tests, e)
    by false e = let past : 127 ≤ place = grind (arith, tests, e) in absurd (other (omega (arith, h, past)))

summed_stays : (n : ℕ) (blocks : List ℕ) (place : ℕ) → 128 * n ≤ length blocks → place < 128 * n → place % 128 ≢ 127 → get_or (summed_blocks n blocks) place 0 ≡ get_or blocks place 0
summed_stays zero blocks place h p other = absurd (omega (arith, p))
summed_stays (suc n) blocks place h p other =
    by (nat_lt place 128) refl (summed_stays n (drop 128 blocks) (place - 128) (omega (arith, h, length-drop 128 blocks)))
  where
    long : 128 ≤ length blocks
    long = omega (arith, h)

    by : (v : Bool) → nat_lt place 128 ≡ v
        → (place - 128 < 128 * n → (place - 128) % 128 ≢ 127 → get_or (summed_blocks n (drop 128 blocks)) (place - 128) 0 ≡ get_or (drop 128 blocks) (place - 128) 0)
        → get_or (summed_blocks (suc n) blocks) place 0 ≡ get_or blocks place 0
    by true e later =
        let within : place < 128 = grind (arith, tests, e) in
        block_at_place blocks (summed_blocks n (drop 128 blocks)) place long (below_last place within other)
    by false e later =
        let past : 128 ≤ place = grind (arith, tests, e) in
        let same : place ≡ 128 + (place - 128) = omega (arith, past) in
        let size = block_len (take 127 (take 128 blocks)) (front_len blocks long) in
        let less : (place - 128) % 128 ≢ 127 = λ z. other (omega (arith, past, z)) in
        get_or-append_right (mended_extension (take 128 blocks)) (summed_blocks n (drop 128 blocks)) 128 place 0 size past
        ∙ later (omega (arith, p, past)) less
        ∙ get_or-drop 128 blocks (place - 128) 0
        ∙ ap (λ i. get_or blocks i 0) (sym same)

recounted_len : (v : Bool) (bytes : List ℕ) → length (recounted_by v bytes) ≡ length bytes
recounted_len true bytes = length-set (slice_set bytes 126 1) 134 (extensions_there bytes) ∙ length-set bytes 126 1
recounted_len false bytes = length-set bytes 126 (extensions_there bytes)

pub whole_blocks : (bytes : List ℕ) → has_length bytes ≡ true → (128 ≤ length bytes) × (length bytes ≤ 512) × (128 * (length bytes / 128) ≡ length bytes)
whole_blocks bytes h = let c = counted bytes h in (omega (arith, c.least, c.len), omega (arith, c.most, c.len), omega (arith, c.len))

pub recounted_room : (o : Bool) (bytes : List ℕ) → length (recounted o bytes) ≡ length bytes
recounted_room o bytes = recounted_len (o && begins_with_override (drop 128 bytes)) bytes

-- a place that is none of three
record IsOther (overridden : Bool) (place : ℕ) : Type 0 where
  sum : place % 128 ≢ 127
  count : place ≢ 126
  by_override : overridden ≡ true → place ≢ 134

other_by : (o a b c : Bool) (place : ℕ) → (place % 128 == 127) ≡ a → (place == 126) ≡ b → (place == 134) ≡ c → (a || (b || (o && c))) ≡ false → IsOther o place
other_by o true b c place e f g h = absurd (cc)
other_by o false true c place e f g h = absurd (cc)
other_by true false false true place e f g h = absurd (cc)
other_by true false false false place e f g h = record { sum = grind (arith, tests, e); count = grind (arith, tests, f); by_override = λ x. grind (arith, tests, g) }
other_by false false false c place e f g h = record { sum = grind (arith, tests, e); count = grind (arith, tests, f); by_override = λ x. absurd (let no : false ≡ true = x in cc) }

recounted_stays : (o begins : Bool) (bytes : List ℕ) (place : ℕ) → IsOther o place → get_or (recounted_by (o && begins) bytes) place 0 ≡ get_or bytes place 0
recounted_stays true true bytes place other =
    get_or-set_other (slice_set bytes 126 1) 134 place (extensions_there bytes) 0 (other.by_override refl)
    ∙ get_or-set_other bytes 126 place 1 0 other.count
recounted_stays true false bytes place other = get_or-set_other bytes 126 place (extensions_there bytes) 0 other.count
recounted_stays false begins bytes place other = get_or-set_other bytes 126 place (extensions_there bytes) 0 other.count

-- ---- the laws

-- so many blocks, which are mended
record IsMend (overridden : Bool) (bytes made : List ℕ) : Type 0 where
  blocks : ℕ
  len : length bytes ≡ 128 * blocks
  is : made ≡ summed_blocks blocks (recounted overridden bytes)

made_by : (o v : Bool) (bytes made : List ℕ) → has_length bytes ≡ v → cond v (Ok (summed_blocks (length bytes / 128) (recounted o bytes))) (Err Length) ≡ Ok made → IsMend o bytes made
made_by o false bytes made e h = absurd (cc)
made_by o true bytes made e h =
    let whole = counted bytes e in
    let count : length bytes / 128 ≡ whole.blocks = omega (arith, whole.len) in
    let is : made ≡ summed_blocks (length bytes / 128) (recounted o bytes) = cc in
    record { blocks = whole.blocks; len = whole.len; is = is ∙ ap (λ n. summed_blocks n (recounted o bytes)) count }

made_of : (o : Bool) (bytes made : List ℕ) → mended o bytes ≡ Ok made → IsMend o bytes made
made_of o bytes made h = made_by o (has_length bytes) bytes made refl h

there : (o : Bool) (bytes made : List ℕ) (m : IsMend o bytes made) → 128 * m.blocks ≤ length (recounted o bytes)
there o bytes made m = omega (arith, m.len, recounted_len (o && begins_with_override (drop 128 bytes)) bytes)

kept : (o : Bool) (bytes made : List ℕ) (m : IsMend o bytes made) → AreKept m.blocks made
kept o bytes made m = subst (AreKept m.blocks) (sym m.is) (summed_kept m.blocks (recounted o bytes) (there o bytes made m))

pub sums_are_right : SumsAreRight
sums_are_right o bytes made h number within =
    let m = made_of o bytes made h in
    kept_sums m.blocks number made (kept o bytes made m) within

pub others_stay : OthersStay
others_stay o bytes made h =
    let m = made_of o bytes made h in
    let len : length made ≡ length bytes = kept_len m.blocks made (kept o bytes made m) ∙ sym m.len in (
      len,
      λ place within free.
          (let other = other_by o _ _ _ place refl refl refl free in
          ap (λ l. get_or l place 0) m.is
          ∙ summed_stays m.blocks (recounted o bytes) place (there o bytes made m) (omega (arith, m.len, within)) other.sum
          ∙ recounted_stays o (begins_with_override (drop 128 bytes)) bytes place other),
    )
