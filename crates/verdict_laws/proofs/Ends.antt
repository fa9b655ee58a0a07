-- How the piece of a frame ends that is sent with the nominal times, and what is said of it.
use Rattle.std.proofs.Common.{◌≡◌, ℕ, ◌+◌, ◌-◌, ◌*◌, ◌/◌, ◌%◌, ◌==◌, ◌<◌, Bool, true, false, not, nat_lt, ◌&&◌, ◌||◌, if◌then◌else◌, List, [], ◌∷◌, length, get_or, Option, Some, None, refl, sym, ◌∙◌, ap, subst, arith}
use Rattle.std.proofs.lemmas.Bool.Decides.{nat_tests}
use Rattle.audit_pieces.specs.declared.stretch.Class.{Class}
use Rattle.audit_pieces.specs.declared.stretch.Class.TheVariants.{Start}
use Rattle.audit_pieces.specs.declared.stretch.LowStretch.{LowStretch}
use Rattle.audit_pieces.specs.declared.piece.After.{After}
use Rattle.audit_pieces.specs.declared.piece.PieceEnding.{PieceEnding}
use Rattle.audit_pieces.specs.declared.piece.PieceEnding.TheVariants.{Complete, Stops, Overrun, Open}
use Rattle.audit_pieces.specs.declared.piece.Slot.{Slot}
use Rattle.audit_pieces.specs.Frames.{IsApartFrom, framed}
use Rattle.audit_pieces.specs.Slots.{has_eom, is_whole}
use Rattle.audit_pieces.specs.Pieces.{Parts, bare_ending, ending_of, ends_open, frame_ending, is_apart, is_framed, is_overrun, is_start, quiet_ending}
use Rattle.audit_pieces.specs.Wide.{after_of}
use Rattle.audit_judged.specs.declared.endings.Said.{Said}
use Rattle.audit_judged.specs.declared.endings.Said.TheVariants.{Nothing, Allowed, Remarked}
use Rattle.audit_judged.specs.Endings.{begun_blocks, ends_untaken, failed_of, goes_on_by, said_by, same_block, short_of, stops_of, untaken_cause}
use Rattle.audit_judged.specs.Header.{failed_block}
use Rattle.verdict_laws.specs.Sent.{AreBlocks, is_last, was_taken}
use Rattle.verdict_laws.proofs.Slots.{eom_is, failed_by, failed_is, length_is, slots_for, tenth, any_default}
use Rattle.verdict_laws.proofs.Placing.{far}

-- ---- the ending

abbrev pub ending_for : Bool → ℕ → After → PieceEnding
ending_for eom last after = if eom then Complete else quiet_ending last after

never_over : (x : LowStretch) (last : ℕ) → is_apart last x.fall ≡ true → (is_start x.class && not (is_apart last x.fall)) ≡ false
never_over x last apart = by (is_start x.class) (is_apart last x.fall) apart
  where
    by : (start far_off : Bool) → far_off ≡ true → (start && not far_off) ≡ false
    by true far_off e = ap (λ (b : Bool). not b) e
    by false far_off e = refl

no_overrun : (end last : ℕ) (rest : List LowStretch) → IsApartFrom last rest → is_overrun last (after_of end rest) ≡ false
no_overrun end last [] h = refl
no_overrun end last (x ∷ rest) h = never_over x last (far last x.fall h)

ending_by : (eom whole over : Bool) (quiet : PieceEnding) → (eom ≡ true → whole ≡ true) → over ≡ false → (if whole then (if eom then Complete else quiet) else (if over then Overrun else quiet)) ≡ (if eom then Complete else quiet)
ending_by true whole over quiet h o = rw (h refl) refl
ending_by false true over quiet h o = refl
ending_by false false over quiet h o = rw o refl

framed_start : (class : Class) (in_frame bare : PieceEnding) → class ≡ Start → (if is_framed class then in_frame else bare) ≡ in_frame
framed_start class in_frame bare e = ap (λ (c : Class). if is_framed c then in_frame else bare) e

pub ending_is : (begin : Option ℕ) (end : ℕ) (head : LowStretch) (slots : List Slot) (last : ℕ) (rest : List LowStretch) → head.class ≡ Start → IsApartFrom last rest → (has_eom slots ≡ true → is_whole slots ≡ true)
    → ending_of begin (framed head slots last) (after_of end rest) ≡ ending_for (has_eom slots) last (after_of end rest)
ending_is begin end head slots last rest start apart whole =
    framed_start head.class (frame_ending (framed head slots last) (after_of end rest) None) (bare_ending (framed head slots last) begin) start
    ∙ ending_by (has_eom slots) (is_whole slots) (is_overrun last (after_of end rest)) (quiet_ending last (after_of end rest)) whole (no_overrun end last rest apart)

-- ---- whole blocks

some_is : (n : ℕ) → 0 < n → nat_lt 0 n ≡ true
some_is n h = grind (arith, nat_tests)

rest_is : (n count : ℕ) → n ≡ 10 * count → (n % 10 == 0) ≡ true
rest_is n count e = let z : n % 10 ≡ 0 = omega (arith, e) in grind (arith, nat_tests)

same_number : (n : ℕ) → (n == n) ≡ true
same_number n = grind (arith, nat_tests)

slots_long : (fall : ℕ) (bits : List Bool) → (b : AreBlocks bits) → length (slots_for fall bits) ≡ 10 * b.count
slots_long fall bits b = length_is fall bits ∙ b.long

slots_some : (fall : ℕ) (bits : List Bool) → (b : AreBlocks bits) → 0 < length (slots_for fall bits)
slots_some fall bits b = let e = slots_long fall bits b in let s = b.some in omega (arith, e, s)

pub whole_with_eom : (fall : ℕ) (bits : List Bool) → AreBlocks bits → has_eom (slots_for fall bits) ≡ true → is_whole (slots_for fall bits) ≡ true
whole_with_eom fall bits b eom =
    by (nat_lt 0 (length (slots_for fall bits))) (length (slots_for fall bits) % 10 == 0) (has_eom (slots_for fall bits)) (length (slots_for fall bits) == 160)
    (some_is (length (slots_for fall bits)) (slots_some fall bits b)) (rest_is (length (slots_for fall bits)) b.count (slots_long fall bits b)) eom
  where
    by : (a c d e : Bool) → a ≡ true → c ≡ true → d ≡ true → ((a && c) && (d || e)) ≡ true
    by a c d e p q r = rw (p, q, r) refl

-- the EOM of the final block
pub eom_last : (fall : ℕ) (bits : List Bool) → (b : AreBlocks bits) → has_eom (slots_for fall bits) ≡ is_last bits b.count
eom_last fall bits b =
    eom_is fall bits
    ∙ any_default bits (length bits - 1 - 1) true false (let e = b.long in let s = b.some in omega (arith, e, s))
    ∙ ap (λ (n : ℕ). get_or bits (n - 1 - 1) false) b.long

-- ---- what is said

abbrev pub IsAllowed : Said → Type 0
IsAllowed Nothing = Unit {0}
IsAllowed (Allowed cause) = Unit {0}
IsAllowed (Remarked r) = ⊥

whole_allowed : (slots : List Slot) (failed : Option ℕ) → IsAllowed (failed_of slots failed)
whole_allowed slots None = tt
whole_allowed slots (Some block) = tt

untaken : (fall : ℕ) (bits : List Bool) → (b : AreBlocks bits) → was_taken bits b.count ≡ false → ends_untaken (slots_for fall bits) ≡ true
untaken fall bits b failed =
    by (nat_lt 0 (length (slots_for fall bits))) (length (slots_for fall bits) % 10 == 0) (same_block (length (slots_for fall bits) / 10) (failed_block (slots_for fall bits)))
    (some_is (length (slots_for fall bits)) (slots_some fall bits b)) (rest_is (length (slots_for fall bits)) b.count (slots_long fall bits b))
    (ap (λ (n : ℕ). same_block n (failed_block (slots_for fall bits))) (tenth (length (slots_for fall bits)) b.count (slots_long fall bits b))
    ∙ ap (λ (o : Option ℕ). same_block b.count o) (failed_is fall bits b ∙ ap (λ (t : Bool). failed_by t b.count) failed)
    ∙ same_number b.count)
  where
    by : (a c d : Bool) → a ≡ true → c ≡ true → d ≡ true → (a && (c && d)) ≡ true
    by a c d p q r = rw (p, q, r) refl

stops_allowed : (head : LowStretch) (slots : List Slot) → 0 < length slots → ends_untaken slots ≡ true → IsAllowed (stops_of head slots)
stops_allowed head [] some h = absurd (omega (arith, some))
stops_allowed head (slot ∷ slots) some h =
    subst (λ (b : Bool). IsAllowed (if b then Allowed (untaken_cause (slot ∷ slots)) else short_of (slot ∷ slots))) (sym h) tt

quiet_allowed : (p : Parts) (last : ℕ) (after : After) → IsAllowed (stops_of p.head p.slots) → IsAllowed (said_by p (quiet_ending last after))
quiet_allowed p last after h = by (ends_open last after)
  where
    by : (b : Bool) → IsAllowed (said_by p (if b then Open else Stops))
    by true = tt
    by false = h

pub said_allowed : (head : LowStretch) (fall : ℕ) (bits : List Bool) (last : ℕ) (after : After) → (b : AreBlocks bits) → IsAllowed (said_by (framed head (slots_for fall bits) last) (ending_for (has_eom (slots_for fall bits)) last after))
said_allowed head fall bits last after b = by (has_eom (slots_for fall bits)) refl
  where
    p : Parts
    p = framed head (slots_for fall bits) last

    ends : (eom taken : Bool) → eom ≡ false → (eom || not taken) ≡ true → taken ≡ false
    ends eom true e h = absurd (let x : eom ≡ true = or_none eom h in let y : true ≡ false = sym x ∙ e in cc)
      where
        or_none : (a : Bool) → (a || false) ≡ true → a ≡ true
        or_none true g = refl
        or_none false g = g
    ends eom false e h = refl

    by : (eom : Bool) → has_eom (slots_for fall bits) ≡ eom → IsAllowed (said_by p (ending_for eom last after))
    by true e = whole_allowed (slots_for fall bits) (failed_block (slots_for fall bits))
    by false e =
        quiet_allowed p last after
        (stops_allowed head (slots_for fall bits) (slots_some fall bits b) (untaken fall bits b (ends (is_last bits b.count) (was_taken bits b.count) (sym (eom_last fall bits b) ∙ e) b.ends)))

-- after its final block nothing comes
pub nothing_more : (fall : ℕ) (bits : List Bool) → (b : AreBlocks bits) → goes_on_by (slots_for fall bits) (failed_block (slots_for fall bits)) ≡ None
nothing_more fall bits b = ap (λ (o : Option ℕ). goes_on_by (slots_for fall bits) o) (failed_is fall bits b) ∙ by (was_taken bits b.count)
  where
    begun : begun_blocks (slots_for fall bits) ≡ b.count
    begun = let e = slots_long fall bits b in let f : (length (slots_for fall bits) + 10 - 1) / 10 ≡ b.count = omega (arith, e) in f

    not_less : (n m : ℕ) → m ≡ n → nat_lt n m ≡ false
    not_less n m e = grind (arith, nat_tests)

    by : (taken : Bool) → goes_on_by (slots_for fall bits) (failed_by taken b.count) ≡ None
    by true = refl
    by false = ap (λ (c : Bool). if c then Some b.count else None) (not_less b.count (begun_blocks (slots_for fall bits)) begun)
