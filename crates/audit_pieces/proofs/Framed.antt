-- A frame that is nearly right is one piece.
use Rattle.std.proofs.Common.{◌≡◌, ℕ, suc, ◌-◌, ◌<◌, ◌≤◌, Bool, true, false, not, nat_lt, nat_le, is_none, ◌&&◌, ◌||◌, if◌then◌else◌, List, [], ◌∷◌, ◌++◌, map, length, get_or, Option, None, refl, sym, ◌∙◌, ap, subst, arith, append_assoc, append-nil}
use Rattle.std.proofs.lemmas.Bool.Decides.{nat_tests}
use Rattle.line_reading.specs.Windows.{sample_at}
use Rattle.audit_pieces.specs.declared.stretch.Class.{Class}
use Rattle.audit_pieces.specs.declared.stretch.Class.TheVariants.{Bit, Start}
use Rattle.audit_pieces.specs.declared.stretch.LowStretch.{LowStretch}
use Rattle.audit_pieces.specs.declared.piece.After.{After}
use Rattle.audit_pieces.specs.declared.piece.PieceEnding.{PieceEnding}
use Rattle.audit_pieces.specs.declared.piece.PieceEnding.TheVariants.{Complete, Overrun, Long as TooLong}
use Rattle.audit_pieces.specs.declared.piece.Place.{Place}
use Rattle.audit_pieces.specs.declared.piece.Place.TheVariants.{InSlot, Late, Breaks, Outside}
use Rattle.audit_pieces.specs.declared.piece.Slot.{Slot}
use Rattle.audit_pieces.specs.Bounds.{apart_from, bit_period, shortest_bit}
use Rattle.audit_pieces.specs.Slots.{ends_block, has_eom, is_late, is_whole, last_slot, no_slot, slot_of}
use Rattle.audit_pieces.specs.Pieces.{Parts, Whole, alone, bare_ending, ended, frame_place, in_frame, is_apart, is_broken, is_cut, is_early, is_framed, is_late_bit, is_outside, is_over, is_overrun, place_of, placed, quiet_ending, slot_fall, trails, with_stretch}
use Rattle.audit_pieces.specs.Wide.{AreOf, EndsBefore, after_of, pieces_of}
use Rattle.audit_pieces.specs.Frames.{AreAsked, AreBitsAfter, FramesArePieces, IsApartFrom, framed, last_of}
use Rattle.audit_pieces.proofs.Parted.{along, ends}

-- ---- the last slot

at_last : (slots : List Slot) (y d : Slot) → get_or (slots ++ y ∷ []) (length slots) d ≡ y
at_last [] y d = refl
at_last (x ∷ slots) y d = at_last slots y d

one_longer : (slots : List Slot) (y : Slot) → length (slots ++ y ∷ []) ≡ suc (length slots)
one_longer [] y = refl
one_longer (x ∷ slots) y = ap (λ (n : ℕ). suc n) (one_longer slots y)

less_one : (n m : ℕ) → n ≡ suc m → n - 1 ≡ m
less_one n m e = omega arith

last_more : (slots : List Slot) (y : Slot) → last_slot (slots ++ y ∷ []) ≡ y
last_more slots y =
    ap (λ (k : ℕ). get_or (slots ++ y ∷ []) k no_slot) (less_one (length (slots ++ y ∷ [])) (length slots) (one_longer slots y)) ∙ at_last slots y no_slot

fall_more : (p : Parts) (slots : List Slot) (y : Slot) → slot_fall p (slots ++ y ∷ []) ≡ y.fall
fall_more p [] y = ap (λ (s : Slot). s.fall) (last_more [] y)
fall_more p (x ∷ slots) y = ap (λ (s : Slot). s.fall) (last_more (x ∷ slots) y)

-- ---- the place of the next bit

near : (last fall : ℕ) → fall - last < apart_from → is_apart last fall ≡ false
near last fall h = grind (arith, nat_tests)

far : (last fall : ℕ) → apart_from ≤ fall - last → is_apart last fall ≡ true
far last fall h = grind (arith, nat_tests)

goes_on : (class : Class) → class ≡ Start → (not (is_framed class) || (is_cut class || (is_broken None || nat_lt 0 0))) ≡ false
goes_on class e = subst (λ (c : Class). (not (is_framed c) || (is_cut c || (is_broken None || nat_lt 0 0))) ≡ false) (sym e) refl

in_time : (last fall : ℕ) → shortest_bit ≤ fall - last → nat_lt (fall - last) shortest_bit ≡ false
in_time last fall h = grind (arith, nat_tests)

past_sample : (last fall : ℕ) → shortest_bit ≤ fall - last → nat_le (fall - last) sample_at ≡ false
past_sample last fall h = grind (arith, nat_tests)

last_false : (a b d : Bool) (c : Bool) → c ≡ false → (a && (b && (c && d))) ≡ false
last_false true true d c e = ap (λ (v : Bool). v && d) e
last_false true false d c e = refl
last_false false b d c e = refl

not_late : (p : Parts) (slots : List Slot) (x : LowStretch) → shortest_bit ≤ x.fall - slot_fall p slots → is_late slots x ≡ false
not_late p [] x h = refl
not_late p (s ∷ slots) x h =
    last_false (ends_block (s ∷ slots)) (is_none (last_slot (s ∷ slots)).late) (nat_lt (x.rise - (last_slot (s ∷ slots)).fall) bit_period)
    (nat_le (x.fall - (last_slot (s ∷ slots)).fall) sample_at) (past_sample (last_slot (s ∷ slots)).fall x.fall h)

-- the tests in order
slot_by : (apart over late whole early : Bool) (behind : Place) → apart ≡ false → over ≡ false → late ≡ false → whole ≡ false → early ≡ false
    → (if apart then Outside else if over then behind else (if late then Late else if whole then behind else (if early then Breaks else InSlot))) ≡ InSlot
slot_by apart over late whole early behind a o l w e =
    rw (a, o, l, w, e) refl

is_slot : (head : LowStretch) (slots : List Slot) (last : ℕ) (x : LowStretch) → head.class ≡ Start → slot_fall (framed head slots last) slots ≡ last → x.class ≡ Bit
    → shortest_bit ≤ x.fall - last → x.fall - last < apart_from → is_whole slots ≡ false → place_of (framed head slots last) x ≡ InSlot
is_slot head slots last x start same bit long soon part =
    let p : Parts = framed head slots last in
    let late_enough : shortest_bit ≤ x.fall - slot_fall p slots = subst (λ (n : ℕ). shortest_bit ≤ x.fall - n) (sym same) long in
    let early : is_early p x ≡ false = in_time (slot_fall p slots) x.fall late_enough in
    let late : is_late slots x ≡ false = not_late p slots x late_enough in
    subst (λ (class : Class). (if is_apart last x.fall then Outside else if is_over p then trails class else (if is_late_bit p x class then Late else if is_whole slots then trails class else in_frame p x class)) ≡ InSlot)
    (sym bit)
    (slot_by (is_apart last x.fall) (is_over p) (is_late slots x) (is_whole slots) (is_early p x) (trails Bit)
    (near last x.fall soon) (goes_on head.class start) late part early)

-- ---- all of them

inside : (p : Parts) (x : LowStretch) → place_of p x ≡ InSlot → is_outside (place_of p x) ≡ false
inside p x e = ap (λ (place : Place). is_outside place) e

taken : (p : Parts) (x : LowStretch) → place_of p x ≡ InSlot → with_stretch x p ≡ placed InSlot x p
taken p x e = ap (λ (place : Place). placed place x p) e

grown : (head : LowStretch) (slots : List Slot) (last : ℕ) (xs : List LowStretch) → head.class ≡ Start → slot_fall (framed head slots last) slots ≡ last
    → AreBitsAfter last xs → AreAsked slots xs → AreOf (framed head slots last) xs (framed head (slots ++ map slot_of xs) (last_of last xs))
grown head slots last [] start same bits asked = ap (λ (l : List Slot). framed head l last) (sym (append-nil slots))
grown head slots last (x ∷ xs) start same (bit, long, soon, more) (part, asked) =
    let slot : place_of (framed head slots last) x ≡ InSlot = is_slot head slots last x start same bit long soon part in
    let next : List Slot = slots ++ slot_of x ∷ [] in
    let rest : AreOf (framed head next x.fall) xs (framed head (next ++ map slot_of xs) (last_of x.fall xs)) =
    grown head next x.fall xs start (fall_more (framed head next x.fall) slots (slot_of x)) more asked in
    let all : next ++ map slot_of xs ≡ slots ++ map slot_of (x ∷ xs) = append_assoc slots (slot_of x ∷ []) (map slot_of xs) in (
      inside (framed head slots last) x slot,
      subst (λ (q : Parts). AreOf q xs (framed head (slots ++ map slot_of (x ∷ xs)) (last_of x.fall xs))) (sym (taken (framed head slots last) x slot))
          (subst (λ (l : List Slot). AreOf (framed head next x.fall) xs (framed head l (last_of x.fall xs))) all rest),
    )

-- ---- how it ends

outside_far : (p : Parts) (rest : List LowStretch) → IsApartFrom p.last rest → EndsBefore p rest
outside_far p [] h = tt
outside_far p (x ∷ rest) h =
    let apart : is_apart p.last x.fall ≡ true = far p.last x.fall h in
    ap (λ (b : Bool). is_outside (if b then Outside else if is_over p then trails x.class else frame_place p x)) apart

asked_whole : (slots : List Slot) (xs : List LowStretch) → AreAsked slots xs → is_whole (slots ++ map slot_of xs) ≡ true
asked_whole slots [] whole = subst (λ (l : List Slot). is_whole l ≡ true) (sym (append-nil slots)) whole
asked_whole slots (x ∷ xs) (part, asked) =
    subst (λ (l : List Slot). is_whole l ≡ true) (append_assoc slots (slot_of x ∷ []) (map slot_of xs)) (asked_whole (slots ++ slot_of x ∷ []) xs asked)

complete_by : (start whole eom : Bool) (bare other quiet : PieceEnding) → start ≡ true → whole ≡ true → eom ≡ true
    → (if start then (if whole then (if eom then Complete else quiet) else other) else bare) ≡ Complete
complete_by start whole eom bare other quiet s w e = rw (s, w, e) refl

framed_start : (class : Class) → class ≡ Start → is_framed class ≡ true
framed_start class e = ap (λ (c : Class). is_framed c) e

abbrev so_ended : Parts → PieceEnding → Whole
so_ended p ending = record { parts = p; ending = ending }

complete : (begin : Option ℕ) (head : LowStretch) (slots : List Slot) (last : ℕ) (after : After) → head.class ≡ Start → is_whole slots ≡ true → has_eom slots ≡ true
    → ended begin (framed head slots last) after ≡ so_ended (framed head slots last) Complete
complete begin head slots last after start whole eom =
    ap (λ (e : PieceEnding). so_ended (framed head slots last) e)
    (complete_by (is_framed head.class) (is_whole slots) (has_eom slots) (bare_ending (framed head slots last) begin)
    (if is_overrun last after then Overrun else quiet_ending last after)
    (if nat_lt 0 0 then TooLong else quiet_ending last after) (framed_start head.class start) whole eom)

pub frames_are_pieces : FramesArePieces
frames_are_pieces end begin head bits rest start follow asked eom apart =
    let p : Parts = framed head (map slot_of bits) (last_of head.fall bits) in
    along end begin (alone head) p bits rest (grown head [] head.fall bits start refl follow asked)
    ∙ ends end begin p rest (outside_far p rest apart)
    ∙ ap (λ (w : Whole). w ∷ pieces_of end None rest)
    (complete begin head (map slot_of bits) (last_of head.fall bits) (after_of end rest) start (asked_whole [] bits asked) eom)
