-- What is said of an ending, by cases.
use Rattle.std.proofs.Common.{◌≡◌, ℕ, ◌-◌, ◌/◌, ◌%◌, ◌==◌, Bool, true, false, nat_lt, if◌then◌else◌, List, [], ◌∷◌, length, Option, Some, None, refl, arith}
use Rattle.std.proofs.lemmas.Bool.Decides.{nat_tests}
use Rattle.audit_pieces.specs.declared.piece.PieceEnding.{PieceEnding}
use Rattle.audit_pieces.specs.declared.piece.PieceEnding.TheVariants.{Complete, Stops, Drive, Overrun, Intruder, Long, Open, Stray, Mid}
use Rattle.audit_pieces.specs.declared.piece.Slot.{Slot}
use Rattle.audit_pieces.specs.declared.stretch.LowStretch.{LowStretch}
use Rattle.audit_pieces.specs.Pieces.{Parts, slot_fall}
use Rattle.audit_judged.specs.Header.{failed_block}
use Rattle.audit_judged.specs.declared.endings.Cause.TheVariants as causes
use Rattle.audit_judged.specs.declared.endings.EndingRemark.TheVariants as remarks
use Rattle.audit_judged.specs.declared.endings.Said.{Said}
use Rattle.audit_judged.specs.declared.endings.Said.TheVariants.{Nothing, Allowed, Remarked}
use Rattle.audit_judged.specs.Endings.{IsSaid, OneEnding, WholeFramesAreTaken, drive_of, ends_untaken, failed_of, intruder_of, is_complete, is_stuck, lone_of, may_have_lost, overrun_of, said_by, short_of, stops_of, untaken_cause, width_of}

never : true ≡ false → ⊥
never e = cc

either : (b : Bool) (x y : Said) → IsSaid x → IsSaid y → IsSaid (if b then x else y)
either true x y p q = p
either false x y p q = q

lone : (x : LowStretch) → IsSaid (lone_of x)
lone x = either (is_stuck x) (Remarked (remarks.Stuck (width_of x))) (Remarked (remarks.LoneStart (width_of x))) tt tt

short : (slots : List Slot) → IsSaid (short_of slots)
short slots =
    either (length slots % 10 == 0) (Remarked (remarks.Unfinished (length slots / 10)))
    (if may_have_lost slots then Allowed causes.ArbitrationLost else Remarked (remarks.Stops (length slots))) tt
    (either (may_have_lost slots) (Allowed causes.ArbitrationLost) (Remarked (remarks.Stops (length slots))) tt tt)

stops : (head : LowStretch) (slots : List Slot) → IsSaid (stops_of head slots)
stops head [] = lone head
stops head (slot ∷ slots) = either (ends_untaken (slot ∷ slots)) (Allowed (untaken_cause (slot ∷ slots))) (short_of (slot ∷ slots)) tt (short (slot ∷ slots))

drive : (p : Parts) (by : Option LowStretch) → IsSaid (drive_of p by)
drive p None = lone p.head
drive p (Some x) =
    either (is_stuck x) (Remarked (remarks.Stuck (width_of x))) (Remarked (remarks.LowDrive (length p.slots) (x.fall - slot_fall p p.slots) (width_of x))) tt tt

intruder : (p : Parts) (by : Option LowStretch) → IsSaid (intruder_of p by)
intruder p None = lone p.head
intruder p (Some x) = tt

overrun : (slots : List Slot) → IsSaid (overrun_of slots)
overrun slots = either (ends_untaken slots) (Allowed (untaken_cause slots)) (Remarked (remarks.Overrun (length slots))) tt tt

said : (p : Parts) (ending : PieceEnding) → is_complete ending ≡ false → IsSaid (said_by p ending)
said p Complete part = absurd (never part)
said p Stops part = stops p.head p.slots
said p Drive part = drive p p.broken_by
said p Overrun part = overrun p.slots
said p Intruder part = intruder p p.broken_by
said p Long part = tt
said p Open part = tt
said p Stray part = tt
said p Mid part = tt

pub one_ending : OneEnding
one_ending p part = said p.parts p.ending part

-- ---- whole frames

not_remarked : (x : Said) → IsSaid x → x ≡ Nothing → ⊥
not_remarked Nothing none e = none
not_remarked (Allowed cause) none e = cc
not_remarked (Remarked remark) none e = cc

none_failed : (slots : List Slot) (block : Option ℕ) → failed_of slots block ≡ Nothing → block ≡ None
none_failed slots None e = refl
none_failed slots (Some block) e = absurd (not_remarked (Allowed (untaken_cause slots)) tt e)

pub whole_frames_are_taken : WholeFramesAreTaken
whole_frames_are_taken p e = by (nat_lt 0 p.trail) refl e
  where
    by : (b : Bool) → nat_lt 0 p.trail ≡ b → (if b then Remarked (remarks.AfterEnd p.trail) else failed_of p.slots (failed_block p.slots)) ≡ Nothing
        → (p.trail ≡ 0) × (failed_block p.slots ≡ None)
    by true test same = absurd (not_remarked (Remarked (remarks.AfterEnd p.trail)) tt same)
    by false test same = (grind (arith, nat_tests), none_failed p.slots (failed_block p.slots) same)
