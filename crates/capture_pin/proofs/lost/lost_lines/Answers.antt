use Rattle.std.proofs.Common.{arith}
use Rattle.text_core.specs.Lines.{lines_of}
use Rattle.capture_pin.proofs.LostLines.{lost_more}
use Rattle.capture_pin.proofs.lost.lost_lines.Goals as goal

pub lines-preserved : goal.lines-preserved
lines-preserved c = record {
  so_far = lost_more c.lines.number c.in-Some.line.now (lines_of c.lines.rest.now) (lines_of c.in-Some.after.now) _ c.lines.lost.items c.note.new.lost.items
      c.lines.invariant.so_far c.in-Some.ensures.lines (c.in_ok-note.ensures {u = tt});
  room = omega (arith, c.lines.invariant.room, c.in-Some.ensures.shorter);
}
