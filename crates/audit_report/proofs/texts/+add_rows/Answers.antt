use Rattle.std.proofs.Common.{◌≡◌, ℕ, ◌+◌, ◌≤◌, List, [], ◌∷◌, ◌++◌, length, get_or, drop, refl, arith}
use Rattle.std.proofs.lemmas.List.{take_rest}
use Rattle.text_core.proofs.Adding.{then}
use Rattle.record_core.specs.declared.cell.Form.{Form}
use Rattle.audit_contents.specs.declared.contents.Contents.{Contents}
use Rattle.audit_report.specs.declared.row.Row.{Row}
use Rattle.audit_report.specs.Texts.{row_text, rows_text, who_at}
use Rattle.audit_report.proofs.Six.{adds_as}
use Rattle.audit_report.proofs.texts.+add_rows.Goals as goal

-- a row, and the rest
rows_more : (form : Form) (said : Contents) (number : ℕ) (rows : List Row) (none : Row) → 1 ≤ length rows
    → row_text form said (who_at number) (get_or rows 0 none) ++ rows_text form said (number + 1) (drop 1 rows) ≡ rows_text form said number rows
rows_more form said number [] none h = absurd (omega arith)
rows_more form said number (r ∷ rs) none h = refl

pub returns : goal.returns
returns g t c =
    adds_as c.args.out.now c.add_rows.new.out _ _ (rw take_rest (rows_more c.args.form c.args.contents.now c.args.number c.args.rows.now _ c.in-len1-up.len_at_least))
    (then c.args.out.now c.add_row.new.out c.add_rows.new.out _ _ (rw c.who_at.ensures at c.add_row.ensures) c.add_rows.ensures)
