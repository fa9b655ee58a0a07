use Rattle.std.proofs.Common.{◌<◌, arith}
use Rattle.conversion_fit.proofs.Packing.{packed_more}
use Rattle.conversion_fit.proofs.codes.+add_packed.Goals as goal

pub returns-clause-items : goal.returns-clause-items
returns-clause-items t c =
    let more = c.if-count-eq0.false in
    let some : 0 < c.args.count = omega (arith, more) in
    packed_more c.args.out.now.items c.push.new.self.items c.add_packed.new.out.items c.args.count c.args.marks.now c.args.place c.marks_byte.result some c.marks_byte.ensures
    c.push.ensures.items c.add_packed.ensures.items
