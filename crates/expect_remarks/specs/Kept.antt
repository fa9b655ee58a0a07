-- The remarks of an audit, as they are heard (own).
use Rattle.std.specs.Prelude.{◌≡◌, Bool, false, if◌then◌else◌, List, [], ◌∷◌, ◌++◌}
use Rattle.std.specs.List.{flat_map}
use Rattle.std.proofs.Common.{refl, sym, ap, ◌∙◌, append-nil, append_assoc}
use Rattle.std.proofs.lemmas.Grind.{flat_map-append}
use Rattle.capture_core.specs.Edges.{Captured}
use Rattle.capture_monitor.specs.Watch.{as_file, file_readings}
use Rattle.audit_notes.specs.Kinds.{is_remark}
use Rattle.audit_notes.specs.Lines.{AuditLine}
use Rattle.audit_notes.specs.Lines.AuditLine.{Note}
use Rattle.audit_notes.specs.Notes.{kind_of}
use Rattle.audit_notes.specs.declared.note.AuditNote.{AuditNote}
use Rattle.audit_core.specs.Audit.{audit_lines}

abbrev pub remark_of : AuditLine → List AuditNote
remark_of (Note note) = if is_remark (kind_of note) then note ∷ [] else []
remark_of line = []

abbrev pub remarks_of : List AuditLine → List AuditNote
remarks_of lines = flat_map remark_of lines

-- those of the audit of a capture
abbrev pub audit_remarks : Captured → List AuditNote
audit_remarks capture = remarks_of (audit_lines false capture (file_readings (as_file capture)))

-- where memory did not run out, all are kept
abbrev pub KeepsRemarks : List AuditNote → Bool → List AuditLine → List AuditNote → Bool → Type 0
KeepsRemarks old was lines new is = is ≡ false → (was ≡ false) × (new ≡ old ++ remarks_of lines)

-- ---- line by line

pub none_kept : (notes : List AuditNote) (full : Bool) → KeepsRemarks notes full [] notes full
none_kept notes full = λ room. (room, sym (append-nil notes))

pub both_kept : (a b c : List AuditNote) (f g h : Bool) (xs ys : List AuditLine) → KeepsRemarks a f xs b g → KeepsRemarks b g ys c h → KeepsRemarks a f (xs ++ ys) c h
both_kept a b c f g h xs ys first second = λ room.
    let later = second room in
    let before = first later.0 in
    (before.0, later.1 ∙ ap (λ (notes : List AuditNote). notes ++ remarks_of ys) before.1 ∙ append_assoc a (remarks_of xs) (remarks_of ys) ∙ ap (λ (notes : List AuditNote). a ++ notes) (sym (flat_map-append remark_of xs ys)))
