-- Bits that follow one another are the slots of a frame.
use Rattle.std.proofs.Common.{◌≡◌, ℕ, suc, ◌+◌, ◌-◌, ◌*◌, ◌<◌, ◌≤◌, Bool, true, false, not, nat_lt, nat_le, is_none, ◌&&◌, ◌||◌, if◌then◌else◌, List, [], ◌∷◌, ◌++◌, map, length, get_or, Option, None, refl, sym, ◌∙◌, ap, subst, arith, append_assoc, append-nil}
use Rattle.std.proofs.lemmas.Bool.Decides.{nat_tests}
use Rattle.line_wave.specs.Sender.{low_of}
use Rattle.line_reading.specs.Windows.{sample_at}
use Rattle.audit_pieces.specs.declared.stretch.Class.{Class}
use Rattle.audit_pieces.specs.declared.stretch.Class.TheVariants.{Bit, Start}
use Rattle.audit_pieces.specs.declared.stretch.LowStretch.{LowStretch}
use Rattle.audit_pieces.specs.declared.piece.Place.{Place}
use Rattle.audit_pieces.specs.declared.piece.Place.TheVariants.{InSlot, Late, Breaks, Outside}
use Rattle.audit_pieces.specs.declared.piece.After.TheVariants.{Fall}
use Rattle.audit_pieces.specs.declared.piece.Slot.{Slot}
use Rattle.audit_pieces.specs.Bounds.{apart_from, bit_period, shortest_bit}
use Rattle.audit_pieces.specs.Frames.{AreBitsAfter, IsApartFrom, framed, last_of}
use Rattle.audit_pieces.specs.Slots.{ends_block, is_late, is_whole, last_slot, no_slot, slot_of}
use Rattle.audit_pieces.specs.Pieces.{Parts, alone, ended, frame_place, in_frame, is_apart, is_broken, is_cut, is_early, is_framed, is_late_bit, is_outside, is_over, place_of, placed, slot_fall, trails, with_stretch}
use Rattle.audit_pieces.specs.Wide.{after_of, pieces_of, pieces_on}
use Rattle.verdict_laws.specs.Sent.{AreBlocks}
use Rattle.verdict_laws.proofs.Slots.{not_whole, slot_for, slots_for, slots_more}

-- ---- the last slot

at_last : (slots : List Slot) (y d : Slot) → get_or (slots ++ y ∷ []) (length slots) d ≡ y
at_last [] y d = refl
at_last (x ∷ slots) y d = at_last slots y d

one_longer : (slots : List Slot) (y : Slot) → length (slots ++ y ∷ []) ≡ suc (length slots)
one_longer [] y = refl
one_longer (x ∷ slots) y = ap (λ (n : ℕ). suc n) (one_longer slots y)

less_one : (n m : ℕ) → n ≡ suc m → n - 1 ≡ m
less_one n m e = omega (arith, e)

last_more : (slots : List Slot) (y : Slot) → last_slot (slots ++ y ∷ []) ≡ y
last_more slots y =
    ap (λ (k : ℕ). get_or (slots ++ y ∷ []) k no_slot) (less_one (length (slots ++ y ∷ [])) (length slots) (one_longer slots y)) ∙ at_last slots y no_slot

fall_more : (p : Parts) (slots : List Slot) (y : Slot) → slot_fall p (slots ++ y ∷ []) ≡ y.fall
fall_more p [] y = ap (λ (s : Slot). s.fall) (last_more [] y)
fall_more p (x ∷ slots) y = ap (λ (s : Slot). s.fall) (last_more (x ∷ slots) y)

-- ---- the place of the next bit

near : (last fall : ℕ) → fall - last < apart_from → is_apart last fall ≡ false
near last fall h = grind (arith, nat_tests)

pub far : (last fall : ℕ) → apart_from ≤ fall - last → is_apart last fall ≡ true
far last fall h = grind (arith, nat_tests)

goes_on : (class : Class) → class ≡ Start → (not (is_framed class) || (is_cut class || (is_broken None || nat_lt 0 0))) ≡ false
goes_on class e = subst (λ (c : Class). (not (is_framed c) || (is_cut c || (is_broken None || nat_lt 0 0))) ≡ false) (sym e) refl

in_time : (last fall : ℕ) → shortest_bit ≤ fall - last → nat_lt (fall - last) shortest_bit ≡ false
in_time last fall h = grind (arith, nat_tests)

past_sample : (last fall : ℕ) → shortest_bit ≤ fall - last → nat_le (fall - last) sample_at ≡ false
past_sample last fall h = grind (arith, nat_tests)

last_false : (a b d : Bool) (c : Bool) → c ≡ false → (a && (b && (c && d))) ≡ false
last_false true true d c e = ap (λ (v : Bool). v && d) e
last_false true false d c e = refl
last_false false b d c e = refl

not_late : (p : Parts) (slots : List Slot) (x : LowStretch) → shortest_bit ≤ x.fall - slot_fall p slots → is_late slots x ≡ false
not_late p [] x h = refl
not_late p (s ∷ slots) x h =
    last_false (ends_block (s ∷ slots)) (is_none (last_slot (s ∷ slots)).late) (nat_lt (x.rise - (last_slot (s ∷ slots)).fall) bit_period)
    (nat_le (x.fall - (last_slot (s ∷ slots)).fall) sample_at) (past_sample (last_slot (s ∷ slots)).fall x.fall h)

-- the tests in order
slot_by : (apart over late whole early : Bool) (behind : Place) → apart ≡ false → over ≡ false → late ≡ false → whole ≡ false → early ≡ false
    → (if apart then Outside else if over then behind else (if late then Late else if whole then behind else (if early then Breaks else InSlot))) ≡ InSlot
slot_by apart over late whole early behind a o l w e =
    rw (a, o, l, w, e) refl

is_slot : (head : LowStretch) (slots : List Slot) (last : ℕ) (x : LowStretch) → head.class ≡ Start → slot_fall (framed head slots last) slots ≡ last → x.class ≡ Bit
    → shortest_bit ≤ x.fall - last → x.fall - last < apart_from → is_whole slots ≡ false → place_of (framed head slots last) x ≡ InSlot
is_slot head slots last x start same bit long soon part =
    let p : Parts = framed head slots last in
    let late_enough : shortest_bit ≤ x.fall - slot_fall p slots = subst (λ (n : ℕ). shortest_bit ≤ x.fall - n) (sym same) long in
    let early : is_early p x ≡ false = in_time (slot_fall p slots) x.fall late_enough in
    let late : is_late slots x ≡ false = not_late p slots x late_enough in
    subst (λ (class : Class). (if is_apart last x.fall then Outside else if is_over p then trails class else (if is_late_bit p x class then Late else if is_whole slots then trails class else in_frame p x class)) ≡ InSlot)
    (sym bit)
    (slot_by (is_apart last x.fall) (is_over p) (is_late slots x) (is_whole slots) (is_early p x) (trails Bit)
    (near last x.fall soon) (goes_on head.class start) late part early)

-- ---- all of them

-- with none of them are they all that the blocks ask for
abbrev pub AreUnfinished : List Slot → List LowStretch → Type 0
AreUnfinished slots [] = Unit {0}
AreUnfinished slots (x ∷ xs) = (is_whole slots ≡ false) × AreUnfinished (slots ++ slot_of x ∷ []) xs

goes_in : (end : ℕ) (begin : Option ℕ) (p : Parts) (x : LowStretch) (xs : List LowStretch) → place_of p x ≡ InSlot → pieces_on end begin p (x ∷ xs) ≡ pieces_on end begin (placed InSlot x p) xs
goes_in end begin p x xs e =
    ap (λ (place : Place). if is_outside place then ended begin p (Fall x) ∷ pieces_on end None (alone x) xs else pieces_on end begin (placed place x p) xs) e

pub grown : (end : ℕ) (begin : Option ℕ) (head : LowStretch) (slots : List Slot) (last : ℕ) (xs rest : List LowStretch) → head.class ≡ Start → slot_fall (framed head slots last) slots ≡ last
    → AreBitsAfter last xs → AreUnfinished slots xs → pieces_on end begin (framed head slots last) (xs ++ rest) ≡ pieces_on end begin (framed head (slots ++ map slot_of xs) (last_of last xs)) rest
grown end begin head slots last [] rest start same bits part = ap (λ (l : List Slot). pieces_on end begin (framed head l last) rest) (sym (append-nil slots))
grown end begin head slots last (x ∷ xs) rest start same (bit, long, soon, more) (part, later) =
    goes_in end begin (framed head slots last) x (xs ++ rest) (is_slot head slots last x start same bit long soon part)
    ∙ grown end begin head (slots ++ slot_of x ∷ []) x.fall xs rest start (fall_more (framed head (slots ++ slot_of x ∷ []) x.fall) slots (slot_of x)) more later
    ∙ ap (λ (l : List Slot). pieces_on end begin (framed head l (last_of x.fall xs)) rest) (append_assoc slots (slot_of x ∷ []) (map slot_of xs))

-- what does not belong to it ends it
outside_by : (last : ℕ) (x : LowStretch) (other : Place) → apart_from ≤ x.fall - last → is_outside (if is_apart last x.fall then Outside else other) ≡ true
outside_by last x other h = ap (λ (b : Bool). is_outside (if b then Outside else other)) (far last x.fall h)

pub stops_before : (end : ℕ) (begin : Option ℕ) (p : Parts) (rest : List LowStretch) → IsApartFrom p.last rest → pieces_on end begin p rest ≡ ended begin p (after_of end rest) ∷ pieces_of end None rest
stops_before end begin p [] h = refl
stops_before end begin p (x ∷ rest) h =
    ap (λ (b : Bool). if b then ended begin p (Fall x) ∷ pieces_on end None (alone x) rest else pieces_on end begin (with_stretch x p) rest)
    (outside_by p.last x (if is_over p then trails x.class else frame_place p x) h)

-- ---- bits of the nominal times

abbrev pub bit_for : ℕ → Bool → LowStretch
bit_for fall bit = record { fall = fall; rise = fall + low_of bit; class = Bit }

abbrev pub bits_for : ℕ → List Bool → List LowStretch
bits_for fall [] = []
bits_for fall (bit ∷ bits) = bit_for fall bit ∷ bits_for (fall + 2400) bits

pub slots_are : (fall : ℕ) (bits : List Bool) → map slot_of (bits_for fall bits) ≡ slots_for fall bits
slots_are fall [] = refl
slots_are fall (bit ∷ bits) = ap (λ (slots : List Slot). slot_for fall bit ∷ slots) (slots_are (fall + 2400) bits)

pub follow : (last fall : ℕ) (bits : List Bool) → last + 1650 ≤ fall → fall < last + 6000 → AreBitsAfter last (bits_for fall bits)
follow last fall [] l h = tt
follow last fall (bit ∷ bits) l h = (refl, omega (arith, l), omega (arith, l, h), follow fall (fall + 2400) bits (omega arith) (omega arith))

pub last_is : (last fall : ℕ) (bits : List Bool) → 0 < length bits → last_of last (bits_for fall bits) + 2400 ≡ fall + 2400 * length bits
last_is last fall [] h = absurd (omega (arith, h))
last_is last fall (bit ∷ []) h = omega arith
last_is last fall (bit ∷ next ∷ bits) h = last_is fall (fall + 2400) (next ∷ bits) (omega arith) ∙ (let e : fall + 2400 + 2400 * length (next ∷ bits) ≡ fall + 2400 * length (bit ∷ next ∷ bits) = omega arith in e)

-- no front of whole blocks is all that they ask for
pub unfinished : (first : ℕ) (bits : List Bool) → (b : AreBlocks bits) → (done rest : List Bool) → done ++ rest ≡ bits → (fall : ℕ) → fall ≡ first + 2400 * length done
    → AreUnfinished (slots_for first done) (bits_for fall rest)
unfinished first bits b done [] all fall at = tt
unfinished first bits b done (bit ∷ rest) all fall at = (
  not_whole first bits done (bit ∷ rest) all b (let e = less in omega (arith, e)),
  subst (λ (slots : List Slot). AreUnfinished slots (bits_for (fall + 2400) rest)) joined
      (unfinished first bits b (done ++ bit ∷ []) rest (append_assoc done (bit ∷ []) rest ∙ all) (fall + 2400) (let e = longer done bit in omega (arith, at, e))),
)
  where
    longer : (xs : List Bool) (x : Bool) → length (xs ++ x ∷ []) ≡ length xs + 1
    longer [] x = refl
    longer (y ∷ xs) x = let e = longer xs x in omega (arith, e)

    much : (xs ys : List Bool) (x : Bool) → length xs < length (xs ++ x ∷ ys)
    much [] ys x = omega arith
    much (y ∷ xs) ys x = let e = much xs ys x in omega (arith, e)

    less : length done < length bits
    less = subst (λ (xs : List Bool). length done < length xs) all (much done rest bit)

    joined : slots_for first (done ++ bit ∷ []) ≡ slots_for first done ++ slot_of (bit_for fall bit) ∷ []
    joined = slots_more first done bit ∙ ap (λ (n : ℕ). slots_for first done ++ slot_for n bit ∷ []) (sym at)
