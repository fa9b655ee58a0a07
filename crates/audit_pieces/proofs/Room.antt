-- Where a slot comes next there is room for it, and where one is acknowledged late there is one.
use Rattle.std.proofs.Common.{◌≡◌, ℕ, ◌%◌, ◌==◌, ◌<◌, ◌≤◌, Bool, true, false, not, nat_lt, nat_le, is_none, ◌-◌, ◌&&◌, ◌||◌, if◌then◌else◌, length, refl, sym, subst, arith}
use Rattle.std.proofs.lemmas.Bool.Decides.{nat_tests}
use Rattle.audit_pieces.specs.declared.stretch.Class.{Class}
use Rattle.audit_pieces.specs.declared.stretch.Class.TheVariants.{Bit, Long, Start, Cut}
use Rattle.audit_pieces.specs.declared.stretch.LowStretch.{LowStretch}
use Rattle.audit_pieces.specs.declared.piece.Place.{Place}
use Rattle.audit_pieces.specs.declared.piece.Place.TheVariants.{InSlot, Late, Breaks, Outside}
use Rattle.line_reading.specs.Windows.{sample_at}
use Rattle.audit_pieces.specs.Bounds.{bit_period}
use Rattle.audit_pieces.specs.Slots.{asks_last, has_eom, is_whole, last_slot}
use Rattle.audit_pieces.specs.Pieces.{Parts, in_frame, is_apart, is_early, is_late_bit, is_over, place_of, trails}

never : true ≡ false → ⊥
never e = cc

out_slot : Outside ≡ InSlot → ⊥
out_slot e = cc

late_slot : Late ≡ InSlot → ⊥
late_slot e = cc

out_late : Outside ≡ Late → ⊥
out_late e = cc

slot_late : InSlot ≡ Late → ⊥
slot_late e = cc

breaks_late : Breaks ≡ Late → ⊥
breaks_late e = cc

trails_slot : (class : Class) → trails class ≡ InSlot → ⊥
trails_slot Bit e = cc
trails_slot Long e = cc
trails_slot Start e = cc
trails_slot Cut e = cc

trails_late : (class : Class) → trails class ≡ Late → ⊥
trails_late Bit e = cc
trails_late Long e = cc
trails_late Start e = cc
trails_late Cut e = cc

-- the order of the tests
unless_whole : (apart over late whole : Bool) (behind next : Place) → (behind ≡ InSlot → ⊥)
    → (if apart then Outside else if over then behind else (if late then Late else if whole then behind else next)) ≡ InSlot → whole ≡ false
unless_whole true over late whole behind next other e = absurd (out_slot e)
unless_whole false true late whole behind next other e = absurd (other e)
unless_whole false false true whole behind next other e = absurd (late_slot e)
unless_whole false false false true behind next other e = absurd (other e)
unless_whole false false false false behind next other e = refl

as_late : (apart over late whole : Bool) (behind next : Place) → (behind ≡ Late → ⊥) → (next ≡ Late → ⊥)
    → (if apart then Outside else if over then behind else (if late then Late else if whole then behind else next)) ≡ Late → late ≡ true
as_late true over late whole behind next other neither e = absurd (out_late e)
as_late false true late whole behind next other neither e = absurd (other e)
as_late false false true whole behind next other neither e = refl
as_late false false false true behind next other neither e = absurd (other e)
as_late false false false false behind next other neither e = absurd (neither e)

breaks_or_slot : (early : Bool) → (if early then Breaks else InSlot) ≡ Late → ⊥
breaks_or_slot true e = breaks_late e
breaks_or_slot false e = slot_late e

slot_or_breaks : (last : Bool) → (if last then InSlot else Breaks) ≡ Late → ⊥
slot_or_breaks true e = slot_late e
slot_or_breaks false e = breaks_late e

in_frame_late : (p : Parts) (x : LowStretch) (class : Class) → in_frame p x class ≡ Late → ⊥
in_frame_late p x Bit e = breaks_or_slot (is_early p x) e
in_frame_late p x Long e = slot_or_breaks (not (is_early p x) && asks_last p.slots) e
in_frame_late p x Start e = out_late e
in_frame_late p x Cut e = breaks_late e

-- a hundred and sixty slots are all
all_whole : (eom : Bool) → ((nat_lt 0 160 && (160 % 10 == 0)) && (eom || (160 == 160))) ≡ false → ⊥
all_whole true e = never e
all_whole false e = never e

fewer : (n : ℕ) (eom : Bool) → ((nat_lt 0 n && (n % 10 == 0)) && (eom || (n == 160))) ≡ false → n ≤ 160 → n < 160
fewer n eom part within = by (nat_lt n 160) refl
  where
    by : (b : Bool) → nat_lt n 160 ≡ b → n < 160
    by true test = grind (arith, nat_tests)
    by false test =
        let same : n ≡ 160 = grind (arith, nat_tests) in
        absurd (all_whole eom (subst (λ (m : ℕ). ((nat_lt 0 m && (m % 10 == 0)) && (eom || (m == 160))) ≡ false) same part))

first_of_two : (a b : Bool) → (a && b) ≡ true → a ≡ true
first_of_two true b e = refl
first_of_two false b e = e

some : (n : ℕ) (a b : Bool) → ((nat_lt 0 n && a) && b) ≡ true → 0 < n
some n a b e = let test : nat_lt 0 n ≡ true = first_of_two (nat_lt 0 n) a (first_of_two (nat_lt 0 n && a) b e) in grind (arith, nat_tests)

pub room : (p : Parts) (x : LowStretch) → place_of p x ≡ InSlot → length p.slots ≤ 160 → length p.slots < 160
room p x e within =
    fewer (length p.slots) (has_eom p.slots)
    (unless_whole (is_apart p.last x.fall) (is_over p) (is_late_bit p x x.class) (is_whole p.slots) (trails x.class) (in_frame p x x.class) (trails_slot x.class) e) within

late_has : (p : Parts) (x : LowStretch) (class : Class) → is_late_bit p x class ≡ true → 0 < length p.slots
late_has p x Bit e =
    some (length p.slots) (length p.slots % 10 == 0)
    (is_none (last_slot p.slots).late && (nat_le (x.fall - (last_slot p.slots).fall) sample_at && nat_lt (x.rise - (last_slot p.slots).fall) bit_period)) e
late_has p x Long e = absurd (never (sym e))
late_has p x Start e = absurd (never (sym e))
late_has p x Cut e = absurd (never (sym e))

pub has_one : (p : Parts) (x : LowStretch) → place_of p x ≡ Late → 0 < length p.slots
has_one p x e =
    late_has p x x.class
    (as_late (is_apart p.last x.fall) (is_over p) (is_late_bit p x x.class) (is_whole p.slots) (trails x.class) (in_frame p x x.class) (trails_late x.class) (in_frame_late p x x.class) e)
