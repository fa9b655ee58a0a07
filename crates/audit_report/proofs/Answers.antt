-- The answers of a row, and what a spread says of a list.
use Rattle.std.proofs.Common.{◌≡◌, ℕ, ◌+◌, ◌==◌, ◌≤◌, Bool, true, false, if◌then◌else◌, List, [], ◌∷◌, length, min, max, refl, ap, ◌∙◌, arith}
use Rattle.std.proofs.lemmas.Bool.Decides.{nat_tests}
use Rattle.std.specs.Prelude.{nat_lt}
use Rattle.audit_widths.specs.declared.spread.Spread.{Spread}
use Rattle.audit_widths.specs.Spreads.{none, sum_of, with_width}
use Rattle.audit_remarks.specs.declared.attempts.Failure.{Failure}
use Rattle.audit_notes.specs.Kinds.{is_remark}
use Rattle.audit_notes.specs.Notes.{kind_of}
use Rattle.audit_notes.specs.declared.note.AuditNote.{AuditNote}
use Rattle.audit_notes.specs.declared.note.AuditNote.TheVariants as notes
use Rattle.audit_report.specs.declared.row.Row.{Row}
use Rattle.audit_report.specs.Kinds.{with_kind}
use Rattle.audit_report.specs.Laws.{AnswersAreTold, SpreadsAreOfLists, greatest_in, least_in, row_with, spread_with, waits_told}
use Rattle.audit_report.specs.Rows.{Told, no_row, with_attempt, with_column, with_kind_of, with_told}
use Rattle.audit_report.specs.Rows.Told.{Answered, Noted, Sent, Took, Waited}

-- ---- answers of a row

same_answers : (b : Bool) (r s : Row) → r.answers ≡ s.answers → (if b then r else s).answers ≡ s.answers
same_answers true r s e = e
same_answers false r s e = refl

kind_keeps : (note : AuditNote) (r : Row) → (with_kind_of note r).answers ≡ r.answers
kind_keeps note r = same_answers (is_remark (kind_of note)) (record r { remarks = with_kind (kind_of note) r.remarks }) r refl

attempt_keeps : (f : Failure) (r : Row) → (with_attempt f r).answers ≡ r.answers
attempt_keeps f r = same_answers (nat_lt 6 f.attempt) (record r { past = sum_of r.past 1 }) r refl

column_keeps : (note : AuditNote) (r : Row) → (with_column note r).answers ≡ r.answers
column_keeps (notes.BadStarts s) r = refl
column_keeps (notes.NoAnswer q) r = refl
column_keeps (notes.LateAnswer w) r = refl
column_keeps (notes.Free s) r = refl
column_keeps (notes.Misfit m) r = refl
column_keeps (notes.LowDrive w) r = refl
column_keeps (notes.DriveWithin w) r = refl
column_keeps (notes.Unfinished b) r = refl
column_keeps (notes.Attempt f) r = attempt_keeps f r
column_keeps (notes.GoesOn b who) r = refl
column_keeps (notes.Ending e who) r = refl
column_keeps (notes.Cause c) r = refl
column_keeps (notes.Moved i p) r = refl
column_keeps (notes.Receivers q) r = refl
column_keeps (notes.Operands m) r = refl
column_keeps (notes.Unreported m) r = refl
column_keeps (notes.Read h) r = refl
column_keeps notes.Summary r = refl
column_keeps (notes.Sender i c) r = refl
column_keeps (notes.Widths k s) r = refl

answers_from : (ts : List Told) (r : Row) → (row_with ts r).answers ≡ spread_with (waits_told ts) r.answers
answers_from [] r = refl
answers_from (Sent ending bits lows ∷ ts) r = answers_from ts (with_told (Sent ending bits lows) r)
answers_from (Took ending bits lows ∷ ts) r = answers_from ts (with_told (Took ending bits lows) r)
answers_from (Waited f ∷ ts) r = answers_from ts (with_told (Waited f) r)
answers_from (Answered wait ∷ ts) r = answers_from ts (with_told (Answered wait) r)
answers_from (Noted note ∷ ts) r =
    answers_from ts (with_told (Noted note) r) ∙ ap (spread_with (waits_told ts)) (kind_keeps note (with_column note r) ∙ column_keeps note r)

pub answers_are : AnswersAreTold
answers_are ts = answers_from ts no_row

-- ---- a spread

some_left : (x : ℕ) (s : Spread) → ((with_width x s).count == 0) ≡ false
some_left x s = grind (arith, nat_tests)

picked : (b : Bool) (x y : ℕ) → b ≡ false → (if b then x else y) ≡ y
picked true x y e = absurd cc
picked false x y e = refl

least_from : (ws : List ℕ) (s : Spread) → (s.count == 0) ≡ false → (spread_with ws s).least ≡ least_in s.least ws
least_from [] s e = refl
least_from (x ∷ ws) s e =
    least_from ws (with_width x s) (some_left x s) ∙ ap (λ (m : ℕ). least_in m ws) (picked (s.count == 0) x (min s.least x) e)

greatest_from : (ws : List ℕ) (s : Spread) → (s.count == 0) ≡ false → (spread_with ws s).greatest ≡ greatest_in s.greatest ws
greatest_from [] s e = refl
greatest_from (x ∷ ws) s e =
    greatest_from ws (with_width x s) (some_left x s) ∙ ap (λ (m : ℕ). greatest_in m ws) (picked (s.count == 0) x (max s.greatest x) e)

count_from : (ws : List ℕ) (s : Spread) → s.count ≤ 18446744073709551615 → (spread_with ws s).count ≡ min (s.count + length ws) 18446744073709551615
count_from [] s l = omega (arith, l)
count_from (x ∷ ws) s l =
    count_from ws (with_width x s) (omega arith) ∙ (let both : min (min (s.count + 1) 18446744073709551615 + length ws) 18446744073709551615 ≡ min (s.count + length (x ∷ ws)) 18446744073709551615 = omega arith in both)

pub spreads_are : SpreadsAreOfLists
spreads_are w ws = record {
  least = least_from ws (with_width w none) (some_left w none);
  greatest = greatest_from ws (with_width w none) (some_left w none);
  count = count_from ws (with_width w none) (omega arith) ∙ (let one : min (min (0 + 1) 18446744073709551615 + length ws) 18446744073709551615 ≡ min (length (w ∷ ws)) 18446744073709551615 = omega arith in one);
}
