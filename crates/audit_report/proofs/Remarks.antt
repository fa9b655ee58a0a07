-- The remarks of a row.
use Rattle.std.proofs.Common.{◌≡◌, Bool, true, false, if◌then◌else◌, List, [], ◌∷◌, refl, ap, ◌∙◌}
use Rattle.std.specs.Prelude.{nat_lt}
use Rattle.audit_remarks.specs.declared.attempts.Failure.{Failure}
use Rattle.audit_widths.specs.Spreads.{sum_of}
use Rattle.audit_notes.specs.Kinds.{is_remark}
use Rattle.audit_notes.specs.Notes.{kind_of}
use Rattle.audit_notes.specs.declared.kind.NoteKind.{NoteKind}
use Rattle.audit_notes.specs.declared.note.AuditNote.{AuditNote}
use Rattle.audit_notes.specs.declared.note.AuditNote.TheVariants as notes
use Rattle.audit_report.specs.declared.row.Row.{Row}
use Rattle.audit_report.specs.Kinds.{with_kind}
use Rattle.audit_report.specs.Laws.{RemarksAreTold, kinds_with, remarks_told, row_with}
use Rattle.audit_report.specs.Rows.{Told, no_row, with_attempt, with_column, with_told}
use Rattle.audit_report.specs.Rows.Told.{Answered, Noted, Sent, Took, Waited}

same_remarks : (b : Bool) (r s : Row) → r.remarks ≡ s.remarks → (if b then r else s).remarks ≡ s.remarks
same_remarks true r s e = e
same_remarks false r s e = refl

attempt_keeps : (f : Failure) (r : Row) → (with_attempt f r).remarks ≡ r.remarks
attempt_keeps f r = same_remarks (nat_lt 6 f.attempt) (record r { past = sum_of r.past 1 }) r refl

column_keeps : (note : AuditNote) (r : Row) → (with_column note r).remarks ≡ r.remarks
column_keeps (notes.BadStarts s) r = refl
column_keeps (notes.NoAnswer q) r = refl
column_keeps (notes.LateAnswer w) r = refl
column_keeps (notes.Free s) r = refl
column_keeps (notes.Misfit m) r = refl
column_keeps (notes.LowDrive w) r = refl
column_keeps (notes.DriveWithin w) r = refl
column_keeps (notes.Unfinished b) r = refl
column_keeps (notes.Attempt f) r = attempt_keeps f r
column_keeps (notes.GoesOn b who) r = refl
column_keeps (notes.Ending e who) r = refl
column_keeps (notes.Cause c) r = refl
column_keeps (notes.Moved i p) r = refl
column_keeps (notes.Receivers q) r = refl
column_keeps (notes.Operands m) r = refl
column_keeps (notes.Unreported m) r = refl
column_keeps (notes.Read h) r = refl
column_keeps notes.Summary r = refl
column_keeps (notes.Sender i c) r = refl
column_keeps (notes.Widths k s) r = refl

-- one more kind, where it is a remark
counted : (b : Bool) (kind : NoteKind) (r : Row) (kinds : List NoteKind)
    → kinds_with kinds (if b then record r { remarks = with_kind kind r.remarks } else r).remarks ≡ kinds_with (if b then kind ∷ kinds else kinds) r.remarks
counted true kind r kinds = refl
counted false kind r kinds = refl

remarks_from : (ts : List Told) (r : Row) → (row_with ts r).remarks ≡ kinds_with (remarks_told ts) r.remarks
remarks_from [] r = refl
remarks_from (Sent ending bits lows ∷ ts) r = remarks_from ts (with_told (Sent ending bits lows) r)
remarks_from (Took ending bits lows ∷ ts) r = remarks_from ts (with_told (Took ending bits lows) r)
remarks_from (Waited f ∷ ts) r = remarks_from ts (with_told (Waited f) r)
remarks_from (Answered wait ∷ ts) r = remarks_from ts (with_told (Answered wait) r)
remarks_from (Noted note ∷ ts) r =
    remarks_from ts (with_told (Noted note) r) ∙ counted (is_remark (kind_of note)) (kind_of note) (with_column note r) (remarks_told ts)
    ∙ ap (kinds_with (remarks_told (Noted note ∷ ts))) (column_keeps note r)

pub remarks_are : RemarksAreTold
remarks_are ts = remarks_from ts no_row
