use Rattle.std.proofs.Common.{◌≡◌, ◌+◌, ◌<◌, ◌≤◌, length, ap, ◌∙◌, arith}
use Rattle.edid_dump.specs.Dump.{left_out}
use Rattle.edid_dump.specs.Rows.{row}
use Rattle.edid_dump.proofs.Gathering.{row_long, row_taken}
use Rattle.edid_dump.proofs.RowLemmas.{counted_some}
use Rattle.edid_dump.proofs.dump.take_row.Goals as goal

pub returns-then-saturating_add-gt-MOST : goal.returns-then-saturating_add-gt-MOST
returns-then-saturating_add-gt-MOST c =
    let above : c.left_out-above.result ≡ left_out c.args.form c.args.skips c.args.bytes.now.items c.args.line.now =
    c.left_out-above.ensures.value ∙ ap (λ l. left_out c.args.form c.args.skips l c.args.line.now) c.deref.ensures.0 in
    let long : 512 < length c.args.bytes.now.items + c.left_out-above.result + c.in-Some.count = omega (arith, c.len.ensures.value) in
    λ number more. row_long c.args.form number c.args.skips c.args.bytes.now.items c.args.line.now (row c.args.form c.args.line.now) c.in-Some.count c.left_out-above.result more c.in-Some.ensures above long

pub push_row-requires : goal.push_row-requires
push_row-requires c = counted_some (row c.args.form c.args.line.now) c.in-Some.count c.in-Some.ensures

pub returns : goal.returns
returns c =
    let above : c.left_out-above.result ≡ left_out c.args.form c.args.skips c.args.bytes.now.items c.args.line.now =
    c.left_out-above.ensures.value ∙ ap (λ l. left_out c.args.form c.args.skips l c.args.line.now) c.deref.ensures.0 in
    let short : length c.args.bytes.now.items + c.left_out-above.result + c.in-Some.count ≤ 512 = omega (arith, c.len.ensures.value) in
    λ number more. row_taken c.args.form number c.args.skips c.args.bytes.now.items c.args.line.now c.push_repeated.new.bytes.items c.push_row.new.bytes.items (row c.args.form c.args.line.now)
    c.in-Some.count c.left_out-above.result more c.in-Some.ensures above short c.push_repeated.ensures c.push_row.ensures
