use Rattle.std.proofs.Common.{arith}
use Rattle.message_lay.proofs.Checking.{checked_more}
use Rattle.message_lay.proofs.lay.check_lines.Goals as goal

pub lines-preserved : goal.lines-preserved
lines-preserved c =
    let shorter = c.in-Some.ensures.shorter in
    let room = c.lines.invariant.room in
    record {
      checked = checked_more c.args.text.now c.lines.rest.now c.in-Some.after.now c.in-Some.current.now c.lines.line c.lines.free c.in-Ok.next
          c.lines.invariant.checked c.in-Some.ensures.lines c.in-Ok.ensures;
      room = omega arith;
    }
