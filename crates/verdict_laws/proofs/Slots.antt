-- The slots of a frame that is sent with the nominal times, and its blocks by them.
use Rattle.std.proofs.Common.{◌≡◌, ℕ, zero, suc, ◌+◌, ◌-◌, ◌*◌, ◌/◌, ◌%◌, ◌==◌, ◌<◌, ◌≤◌, Bool, true, false, not, nat_lt, nat_le, ◌&&◌, ◌||◌, if◌then◌else◌, List, [], ◌∷◌, ◌++◌, map, length, get_or, inl, inr, Option, Some, None, refl, sym, ◌∙◌, ap, arith}
use Rattle.std.proofs.lemmas.Bool.{cases_lt}
use Rattle.std.proofs.lemmas.Bool.Decides.{nat_tests}
use mathlib.Core.Bool.{beq}
use Rattle.line_wave.specs.Sender.{low_of}
use Rattle.line_frames.specs.Blocks.{bit_value}
use Rattle.line_reading.specs.Reading.{first_in}
use Rattle.line_reading.specs.Sending.{bit_read, destination}
use Rattle.line_reading.proofs.Search.{first_in_none, first_in_some}
use Rattle.audit_pieces.specs.declared.piece.Slot.{Slot}
use Rattle.audit_pieces.specs.Slots.{bit_of, has_eom, is_whole, no_slot}
use Rattle.audit_judged.specs.Header.{bit_at, failed_block, is_taken, is_to_all, nibble_at}
use Rattle.verdict_laws.specs.Sent.{AreBlocks, is_last, was_taken}

-- ---- slots

abbrev pub slot_for : ℕ → Bool → Slot
slot_for fall bit = record { fall = fall; rise = fall + low_of bit; late = None }

abbrev pub slots_for : ℕ → List Bool → List Slot
slots_for fall [] = []
slots_for fall (bit ∷ bits) = slot_for fall bit ∷ slots_for (fall + 2400) bits

pub width_is : (fall n : ℕ) → fall + n - fall ≡ n
width_is fall n = omega arith

pub bit_is : (fall : ℕ) (bit : Bool) → bit_of (slot_for fall bit) ≡ bit
bit_is fall true = ap (λ (n : ℕ). nat_le n 1050) (width_is fall 600)
bit_is fall false = ap (λ (n : ℕ). nat_le n 1050) (width_is fall 1500)

pub bits_are : (fall : ℕ) (bits : List Bool) → map bit_of (slots_for fall bits) ≡ bits
bits_are fall [] = refl
bits_are fall (bit ∷ bits) =
    ap (λ (b : Bool). b ∷ map bit_of (slots_for (fall + 2400) bits)) (bit_is fall bit) ∙ ap (λ (xs : List Bool). bit ∷ xs) (bits_are (fall + 2400) bits)

pub length_is : (fall : ℕ) (bits : List Bool) → length (slots_for fall bits) ≡ length bits
length_is fall [] = refl
length_is fall (bit ∷ bits) = ap (λ (n : ℕ). suc n) (length_is (fall + 2400) bits)

-- a slot that is not there counts as a 1
place_is : (fall : ℕ) (bits : List Bool) (i : ℕ) → bit_of (get_or (slots_for fall bits) i no_slot) ≡ get_or bits i true
place_is fall [] i = refl
place_is fall (bit ∷ bits) zero = bit_is fall bit
place_is fall (bit ∷ bits) (suc i) = place_is (fall + 2400) bits i

pub any_default : (bits : List Bool) (i : ℕ) (d e : Bool) → i < length bits → get_or bits i d ≡ get_or bits i e
any_default [] i d e h = absurd (omega (arith, h))
any_default (bit ∷ bits) zero d e h = refl
any_default (bit ∷ bits) (suc i) d e h = any_default bits i d e (omega (arith, h))

pub in_front : (done rest : List Bool) (i : ℕ) (d : Bool) → i < length done → get_or (done ++ rest) i d ≡ get_or done i d
in_front [] rest i d h = absurd (omega (arith, h))
in_front (bit ∷ done) rest zero d h = refl
in_front (bit ∷ done) rest (suc i) d h = in_front done rest i d (omega (arith, h))

pub slots_more : (fall : ℕ) (done : List Bool) (bit : Bool) → slots_for fall (done ++ bit ∷ []) ≡ slots_for fall done ++ slot_for (fall + 2400 * length done) bit ∷ []
slots_more fall [] bit = ap (λ (n : ℕ). slot_for n bit ∷ []) (let e : fall ≡ fall + 2400 * 0 = omega arith in e)
slots_more fall (x ∷ done) bit =
    ap (λ (slots : List Slot). slot_for fall x ∷ slots) (slots_more (fall + 2400) done bit)
    ∙ ap (λ (n : ℕ). slot_for fall x ∷ (slots_for (fall + 2400) done ++ slot_for n bit ∷ [])) (let e : fall + 2400 + 2400 * length done ≡ fall + 2400 * length (x ∷ done) = omega arith in e)

-- ---- its blocks

both_false : (a b : Bool) → (a ≡ true → b ≡ false) → (a && b) ≡ false
both_false true b h = h refl
both_false false b h = refl

both_true : (a b : Bool) → (a && b) ≡ true → (a ≡ true) × (b ≡ true)
both_true true b h = (refl, h)
both_true false b h = absurd cc

above_none : (n : ℕ) → nat_lt 0 n ≡ true → 0 < n
above_none n h = grind (arith, nat_tests)

no_rest : (n : ℕ) → (n % 10 == 0) ≡ true → n % 10 ≡ 0
no_rest n h = grind (arith, nat_tests)

not_most : (n : ℕ) → n < 160 → (n == 160) ≡ false
not_most n h = grind (arith, nat_tests)

or_false : (a b : Bool) → a ≡ false → b ≡ false → (a || b) ≡ false
or_false a b e f = rw (e, f) refl

part_by : (n : ℕ) (eom : Bool) → n < 160 → (n % 10 ≡ 0 → 0 < n → eom ≡ false) → ((nat_lt 0 n && (n % 10 == 0)) && (eom || (n == 160))) ≡ false
part_by n eom few h =
    both_false (nat_lt 0 n && (n % 10 == 0)) (eom || (n == 160)) (λ ends. let e = both_true (nat_lt 0 n) (n % 10 == 0) ends in or_false eom (n == 160) (h (no_rest n e.1) (above_none n e.0)) (not_most n few))

-- the EOM of the slots so far
pub eom_is : (fall : ℕ) (bits : List Bool) → has_eom (slots_for fall bits) ≡ get_or bits (length bits - 1 - 1) true
eom_is fall bits = ap (λ (n : ℕ). bit_of (get_or (slots_for fall bits) (n - 1 - 1) no_slot)) (length_is fall bits) ∙ place_is fall bits (length bits - 1 - 1)

part_not_whole : (fall : ℕ) (done : List Bool) → length done < 160 → (length done % 10 ≡ 0 → 0 < length done → get_or done (length done - 1 - 1) true ≡ false) → is_whole (slots_for fall done) ≡ false
part_not_whole fall done few h =
    ap (λ (n : ℕ). (nat_lt 0 n && (n % 10 == 0)) && (has_eom (slots_for fall done) || (n == 160))) (length_is fall done)
    ∙ part_by (length done) (has_eom (slots_for fall done)) few (λ z some. eom_is fall done ∙ h z some)

-- before its end no block is the last one
pub not_whole : (fall : ℕ) (bits done rest : List Bool) → done ++ rest ≡ bits → (b : AreBlocks bits) → length done < length bits → is_whole (slots_for fall done) ≡ false
not_whole fall bits done rest all b less = part_not_whole fall done (let l = b.long in let f = b.few in omega (arith, l, f, less)) eom
  where
    eom : length done % 10 ≡ 0 → 0 < length done → get_or done (length done - 1 - 1) true ≡ false
    eom z some =
        let long = b.long in
        let k : ℕ = length done / 10 in
        let ten : 10 * (length done / 10) ≡ length done = omega (arith, z) in
        let lies : length done - 1 - 1 < length done = omega (arith, some) in
        let later : is_last bits (length done / 10) ≡ false = b.more (length done / 10) (omega (arith, ten, some)) (omega (arith, ten, less, long)) in
        any_default done (length done - 1 - 1) true false lies
        ∙ sym (in_front done rest (length done - 1 - 1) false lies)
        ∙ ap (λ (xs : List Bool). get_or xs (length done - 1 - 1) false) all
        ∙ ap (λ (n : ℕ). get_or bits (n - 1 - 1) false) (sym ten)
        ∙ later

-- a bit by its slot
pub read_is : (fall : ℕ) (bits : List Bool) (k : ℕ) → 0 < k → k ≤ length bits → bit_at (slots_for fall bits) k ≡ bit_read bits k
read_is fall bits k some there =
    ap (λ (b : Bool). b && bit_of (get_or (slots_for fall bits) (k - 1) no_slot)) read ∙ place_is fall bits (k - 1)
    ∙ any_default bits (k - 1) true false (omega (arith, some, there))
  where
    within : (n : ℕ) → k ≤ n → nat_le k n ≡ true
    within n h = grind (arith, nat_tests)

    read : nat_le k (length (slots_for fall bits)) ≡ true
    read = ap (λ (n : ℕ). nat_le k n) (length_is fall bits) ∙ within (length bits) there

-- ---- to whom

abbrev one_of : Bool → ℕ
one_of bit = if bit then 1 else 0

abbrev number_of : Bool → Bool → Bool → Bool → ℕ
number_of e f g h = 2 * (2 * (2 * (2 * 0 + one_of e) + one_of f) + one_of g) + one_of h

four : (e f g h : Bool) → bit_value 8 e + bit_value 4 f + bit_value 2 g + bit_value 1 h ≡ number_of e f g h
four true true true true = refl
four true true true false = refl
four true true false true = refl
four true true false false = refl
four true false true true = refl
four true false true false = refl
four true false false true = refl
four true false false false = refl
four false true true true = refl
four false true true false = refl
four false true false true = refl
four false true false false = refl
four false false true true = refl
four false false true false = refl
four false false false true = refl
four false false false false = refl

destination_by : (bits : List Bool) → 8 ≤ length bits → destination bits ≡ number_of (get_or bits 4 false) (get_or bits 5 false) (get_or bits 6 false) (get_or bits 7 false)
destination_by [] l = absurd (omega (arith, l))
destination_by (a ∷ []) l = absurd (omega (arith, l))
destination_by (a ∷ b ∷ []) l = absurd (omega (arith, l))
destination_by (a ∷ b ∷ c ∷ []) l = absurd (omega (arith, l))
destination_by (a ∷ b ∷ c ∷ d ∷ []) l = absurd (omega (arith, l))
destination_by (a ∷ b ∷ c ∷ d ∷ e ∷ []) l = absurd (omega (arith, l))
destination_by (a ∷ b ∷ c ∷ d ∷ e ∷ f ∷ []) l = absurd (omega (arith, l))
destination_by (a ∷ b ∷ c ∷ d ∷ e ∷ f ∷ g ∷ []) l = absurd (omega (arith, l))
destination_by (a ∷ b ∷ c ∷ d ∷ e ∷ f ∷ g ∷ h ∷ more) l = refl

nibble_is : (fall : ℕ) (bits : List Bool) → 8 ≤ length bits → nibble_at (slots_for fall bits) 5 ≡ destination bits
nibble_is fall bits l =
    ap (λ (b : Bool). bit_value 8 b + bit_value 4 (bit_at (slots_for fall bits) 6) + bit_value 2 (bit_at (slots_for fall bits) 7) + bit_value 1 (bit_at (slots_for fall bits) 8)) (read_is fall bits 5 (omega arith) (omega (arith, l)))
    ∙ ap (λ (b : Bool). bit_value 8 (bit_read bits 5) + bit_value 4 b + bit_value 2 (bit_at (slots_for fall bits) 7) + bit_value 1 (bit_at (slots_for fall bits) 8)) (read_is fall bits 6 (omega arith) (omega (arith, l)))
    ∙ ap (λ (b : Bool). bit_value 8 (bit_read bits 5) + bit_value 4 (bit_read bits 6) + bit_value 2 b + bit_value 1 (bit_at (slots_for fall bits) 8)) (read_is fall bits 7 (omega arith) (omega (arith, l)))
    ∙ ap (λ (b : Bool). bit_value 8 (bit_read bits 5) + bit_value 4 (bit_read bits 6) + bit_value 2 (bit_read bits 7) + bit_value 1 b) (read_is fall bits 8 (omega arith) l)
    ∙ four (bit_read bits 5) (bit_read bits 6) (bit_read bits 7) (bit_read bits 8)
    ∙ sym (destination_by bits l)

-- ---- which block failed

taken_is : (fall : ℕ) (bits : List Bool) (block : ℕ) → 8 ≤ length bits → 0 < block → 10 * block ≤ length bits → is_taken (slots_for fall bits) block ≡ was_taken bits block
taken_is fall bits block l some there =
    ap (λ (b : Bool). beq b (is_to_all (slots_for fall bits))) (read_is fall bits (10 * block) (omega (arith, some)) there)
    ∙ ap (λ (n : ℕ). beq (bit_read bits (10 * block)) (n == 15)) (nibble_is fall bits l)

abbrev pub failed_by : Bool → ℕ → Option ℕ
failed_by taken count = if taken then None else Some count

pub tenth : (n count : ℕ) → n ≡ 10 * count → n / 10 ≡ count
tenth n count e = omega (arith, e)

pub failed_is : (fall : ℕ) (bits : List Bool) → (b : AreBlocks bits) → failed_block (slots_for fall bits) ≡ failed_by (was_taken bits b.count) b.count
failed_is fall bits b =
    ap (λ (n : ℕ). first_in (λ block. not (is_taken (slots_for fall bits) block)) 1 n) (tenth (length (slots_for fall bits)) b.count (length_is fall bits ∙ b.long))
    ∙ by (was_taken bits b.count) refl
  where
    eight : 8 ≤ length bits
    eight = let long = b.long in let some = b.some in omega (arith, long, some)

    test_is : (block : ℕ) → 0 < block → block ≤ b.count → not (is_taken (slots_for fall bits) block) ≡ not (was_taken bits block)
    test_is block some last = ap (λ (t : Bool). not t) (taken_is fall bits block eight some (let long = b.long in omega (arith, long, last)))

    before : (block : ℕ) → 0 < block → block < b.count → not (is_taken (slots_for fall bits) block) ≡ false
    before block some less = test_is block some (omega (arith, less)) ∙ ap (λ (t : Bool). not t) (b.taken block some less)

    upto : was_taken bits b.count ≡ true → (block : ℕ) → 1 ≤ block → block < 1 + b.count → not (is_taken (slots_for fall bits) block) ≡ false
    upto taken block some less = elim (cases_lt block b.count) [
      | inl lt ↦ before block (omega (arith, some)) lt
      | inr ge ↦
          let same : b.count ≡ block = omega (arith, ge, less) in
          test_is block (omega (arith, some)) (omega (arith, less)) ∙ ap (λ (n : ℕ). not (was_taken bits n)) (sym same) ∙ ap (λ (t : Bool). not t) taken
    ]

    by : (taken : Bool) → was_taken bits b.count ≡ taken → first_in (λ block. not (is_taken (slots_for fall bits) block)) 1 b.count ≡ failed_by (was_taken bits b.count) b.count
    by true e = first_in_none (λ block. not (is_taken (slots_for fall bits) block)) 1 b.count (upto e) ∙ ap (λ (t : Bool). failed_by t b.count) (sym e)
    by false e =
        first_in_some (λ block. not (is_taken (slots_for fall bits) block)) 1 b.count b.count (let some = b.some in omega (arith, some)) (omega arith) (test_is b.count b.some (omega arith) ∙ ap (λ (t : Bool). not t) e)
        (λ block some less. before block (omega (arith, some)) less)
        ∙ ap (λ (t : Bool). failed_by t b.count) (sym e)
