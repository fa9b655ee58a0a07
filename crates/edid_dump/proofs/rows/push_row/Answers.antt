use Rattle.std.proofs.Common.{◌≡◌, is_some, sym, ap, ◌∙◌}
use Rattle.edid_dump.specs.Digits.{bytes_with_row}
use Rattle.edid_dump.specs.Rows.{digits_read, row}
use Rattle.edid_dump.proofs.RowLemmas.{row_pairs}
use Rattle.edid_dump.proofs.rows.push_row.Goals as goal

pub push_digits-requires : goal.push_digits-requires
push_digits-requires c =
    let e = row_pairs c.args.form c.args.line.now c.in-Some.start (sym c.in-Some.ensures) c.requires in
    let k : row c.args.form c.args.line.now ≡ digits_read c.args.form c.after.result.now = e ∙ ap (digits_read c.args.form) (sym c.after.ensures) in
    ap is_some (sym k) ∙ c.requires

pub returns : goal.returns
returns c =
    let e = row_pairs c.args.form c.args.line.now c.in-Some.start (sym c.in-Some.ensures) c.requires in
    let k : row c.args.form c.args.line.now ≡ digits_read c.args.form c.after.result.now = e ∙ ap (digits_read c.args.form) (sym c.after.ensures) in
    ap (bytes_with_row c.args.bytes.now.items) k ∙ c.push_digits.ensures
