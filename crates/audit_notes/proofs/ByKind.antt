-- Lines whose kind hangs on a value.
use Rattle.std.proofs.Common.{◌≡◌, ℕ, zero, suc, ◌==◌, Bool, true, false, nat_lt, if◌then◌else◌, List, refl, sym, ap, ◌∙◌, arith}
use Rattle.std.proofs.lemmas.Bool.Decides.{nat_tests}
use Rattle.audit_widths.specs.declared.misfit.Misfit.{Misfit}
use Rattle.audit_widths.specs.declared.misfit.SlotWidth.{SlotWidth}
use Rattle.audit_widths.specs.declared.misfit.SlotWidth.TheVariants.{Low, Total}
use Rattle.audit_remarks.specs.declared.attempts.Failure.{Failure}
use Rattle.record_core.specs.Cells.{PlainCell}
use Rattle.record_core.specs.Records.{record_text}
use Rattle.record_core.specs.declared.cell.Form.{Form}
use Rattle.audit_notes.specs.Kinds.{type_of}
use Rattle.audit_notes.specs.declared.kind.NoteKind.{NoteKind}
use Rattle.audit_notes.specs.declared.kind.NoteKind.TheVariants as kinds
use Rattle.audit_notes.specs.Notes.{attempt_kind, bit_cells, cells_by, kind_text, misfit_cells, misfit_kind, misfit_kind_at, noted, start_cells}

-- its text with its name and its section
abbrev pub noted_text : Form → NoteKind → List PlainCell → List ℕ
noted_text form kind cells = record_text form (type_of kind) (noted kind cells)

misfit_noted : (form : Form) (b : Bool) (k : SlotWidth) (cells : List PlainCell) → noted_text form (misfit_kind_at b k) cells ≡ kind_text form (misfit_kind_at b k) cells
misfit_noted form true Low cells = refl
misfit_noted form true Total cells = refl
misfit_noted form false Low cells = refl
misfit_noted form false Total cells = refl

pub misfit_as : (form : Form) (kind : NoteKind) (m : Misfit) (b : Bool) → kind ≡ misfit_kind m → (m.slot == 0) ≡ b
    → noted_text form kind (if b then start_cells m else bit_cells m) ≡ kind_text form (misfit_kind m) (misfit_cells m)
misfit_as form kind m b e f =
    ap (λ (k : NoteKind). noted_text form k (if b then start_cells m else bit_cells m)) e
    ∙ ap (λ (d : Bool). noted_text form (misfit_kind m) (if d then start_cells m else bit_cells m)) (sym f)
    ∙ misfit_noted form (m.slot == 0) m.kind (misfit_cells m)

attempt_noted : (form : Form) (b : Bool) (cells : List PlainCell) → noted_text form (if b then kinds.LastAttempt else kinds.Attempt) cells ≡ kind_text form (if b then kinds.LastAttempt else kinds.Attempt) cells
attempt_noted form true cells = refl
attempt_noted form false cells = refl

pub attempt_as : (form : Form) (kind : NoteKind) (f : Failure) (cells : List PlainCell) → kind ≡ attempt_kind f → noted_text form kind cells ≡ kind_text form (attempt_kind f) cells
attempt_as form kind f cells e = ap (λ (k : NoteKind). noted_text form k cells) e ∙ attempt_noted form (nat_lt 6 f.attempt) cells

pub not_zero : (n : ℕ) → (n ≡ 0 → ⊥) → (n == 0) ≡ false
not_zero zero h = absurd (h refl)
not_zero (suc n) h = grind (arith, nat_tests)
