-- A free time is too short where it is shorter than the one that was due.
use Rattle.std.proofs.Common.{◌≡◌, ℕ, Bool, true, false, not, nat_lt, ◌&&◌, if◌then◌else◌, List, Option, Some, None, refl, sym, ap, ◌∙◌, arith}
use Rattle.std.proofs.lemmas.Bool.Decides.{nat_tests}
use Rattle.line_frames.specs.FreeTime.{free_time_of}
use Rattle.line_frames.specs.declared.free_time.FreeTime.{FreeTime}
use Rattle.line_frames.specs.declared.free_time.FreeTime.TheVariants.{Retry}
use Rattle.audit_remarks.specs.declared.free.EarlierSender.{EarlierSender}
use Rattle.audit_remarks.specs.declared.free.EarlierSender.TheVariants.{Nothing, Somebody, Frame}
use Rattle.audit_remarks.specs.declared.free.TooSoon.{TooSoon}
use Rattle.audit_remarks.specs.Free.{FreeTimesAreDue, due_after, free_before, free_due, is_bad_start, is_known, soon_in, taken_by, time_due}
use Rattle.audit_remarks.specs.Header.{initiator_of}

-- in microseconds; none is due where no frame was before
abbrev micros_of : Option FreeTime → ℕ
micros_of None = 0
micros_of (Some due) = free_time_of due

abbrev sooner : Bool → ℕ → ℕ → Option TooSoon
sooner bad free due = if not bad && nat_lt free due then Some (record { free = free; due = due }) else None

either_due : (b : Bool) (x y : FreeTime) → (if b then free_time_of x else free_time_of y) ≡ micros_of (if b then Some x else Some y)
either_due true x y = refl
either_due false x y = refl

due_in : (s : EarlierSender) (bits : List Bool) (again : Bool) → free_due s bits again ≡ micros_of (time_due s bits again)
due_in Nothing bits again = refl
due_in Somebody bits again = refl
due_in (Frame initiator taken) bits again = either_due (is_known bits) (due_after initiator taken (initiator_of bits) again) Retry

sooner_than_none : (b : Bool) (s : TooSoon) → b ≡ false → ◌≡◌ {A = Option TooSoon} None (if b then Some s else None)
sooner_than_none true s e = absurd cc
sooner_than_none false s e = refl

soon_by : (bad : Bool) (free : ℕ) (due : Option FreeTime) → soon_in (if bad then None else taken_by free due) ≡ sooner bad free (micros_of due)
soon_by true free due = refl
soon_by false free None = sooner_than_none (nat_lt free 0) (record { free = free; due = 0 }) (grind (arith, nat_tests))
soon_by false free (Some due) = refl

pub times_are_due : FreeTimesAreDue
times_are_due p x again =
    soon_by (is_bad_start x.reported.ending) (free_before p x.begin) (time_due p.frame x.reported.bits again)
    ∙ ap (sooner (is_bad_start x.reported.ending) (free_before p x.begin)) (sym (due_in p.frame x.reported.bits again))
