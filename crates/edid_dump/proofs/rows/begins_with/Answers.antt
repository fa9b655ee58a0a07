use Rattle.std.proofs.Common.{◌≡◌, [], take, Some, sym, ap, ◌∙◌}
use Rattle.std.specs.Str.{bytes_eq}
use Rattle.edid_dump.specs.Digits.{bytes_with_row}
use Rattle.edid_dump.specs.Rows.{row}
use Rattle.edid_dump.proofs.RowLemmas.{counted_some, header_of}
use Rattle.edid_dump.proofs.rows.begins_with.Goals as goal

pub push_row-requires : goal.push_row-requires
push_row-requires c = counted_some (row c.args.form c.args.line.now) _ c.in-Some.ensures

pub returns : goal.returns
returns c =
    let r = row c.args.form c.args.line.now in
    let f : bytes_with_row [] r ≡ Some c.push_row.new.bytes.items = cc in
    c.eq.ensures ∙ ap (λ l. bytes_eq l c.args.front.now) (c.before-2.ensures ∙ ap (take 8) c.deref.ensures.0) ∙ sym (header_of c.args.front.now r c.push_row.new.bytes.items f)
