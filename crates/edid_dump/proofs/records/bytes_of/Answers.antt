use Rattle.std.proofs.Common.{◌≡◌, ◌<◌, ◌≤◌, [], Some, arith}
use Rattle.edid_dump.specs.Digits.{bytes_with_row, pairs}
use Rattle.edid_dump.specs.declared.digits.Column.TheVariants.{Absent}
use Rattle.edid_dump.proofs.Recording.{all_read, too_many}
use Rattle.edid_dump.proofs.RowLemmas.{counted_some}
use Rattle.edid_dump.proofs.records.bytes_of.Goals as goal

pub returns-then-count-gt-MOST : goal.returns-then-count-gt-MOST
returns-then-count-gt-MOST c =
    let long : 260 < c.in-Some.count = omega (arith, c.if-count-gt-MOST.true) in
    too_many c.args.text.now c.in-Some.count c.in-Some.ensures long

pub push_pairs-requires : goal.push_pairs-requires
push_pairs-requires c = counted_some (pairs Absent c.args.text.now) c.in-Some.count c.in-Some.ensures

pub returns : goal.returns
returns c =
    let short : c.in-Some.count ≤ 260 = omega (arith, c.if-count-gt-MOST.false) in
    let whole : bytes_with_row [] (pairs Absent c.args.text.now) ≡ Some c.push_pairs.new.bytes.items = cc in
    all_read c.args.text.now c.in-Some.count c.push_pairs.new.bytes.items c.in-Some.ensures short whole
