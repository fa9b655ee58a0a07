-- A remark of widths stands by its slot.
use Rattle.std.proofs.Common.{◌≡◌, ℕ, zero, suc, ◌==◌, Bool, true, false, if◌then◌else◌, List, ◌∷◌, codes, refl, ap, arith}
use Rattle.std.proofs.lemmas.Bool.Decides.{nat_tests}
use Rattle.audit_judged.specs.declared.widths.WidthRemark.{WidthRemark}
use Rattle.record_core.specs.Records.{record_text}
use Rattle.record_core.specs.declared.cell.Form.{Form}
use Rattle.piece_notes.specs.Kinds.{width_name, width_section}
use Rattle.piece_notes.specs.Notes.{bit_cells, in_section, named, start_cells, width_text}

abbrev slot_text : Form → WidthRemark → Bool → List ℕ
slot_text form r b =
    record_text form (codes "remark") (named (codes "remark") (width_name r.kind) ∷ in_section (width_section r.kind) ∷ (if b then start_cells r else bit_cells r))

pub not_zero : (n : ℕ) → (n ≡ 0 → ⊥) → false ≡ (n == 0)
not_zero zero h = absurd (h refl)
not_zero (suc n) h = grind (arith, nat_tests)

pub by_slot : (form : Form) (r : WidthRemark) (b : Bool) → b ≡ (r.outs.slot == 0) → slot_text form r b ≡ width_text form r
by_slot form r b e = ap (λ (d : Bool). slot_text form r d) e
