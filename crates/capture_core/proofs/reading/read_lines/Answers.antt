use Rattle.std.proofs.Common.{arith}
use Rattle.capture_core.proofs.Passing.{line_more}
use Rattle.capture_core.proofs.reading.read_lines.Goals as goal

pub lines-preserved : goal.lines-preserved
lines-preserved g c =
    let passed = c.in_ok-read_line.ensures in
    record {
      so_far = line_more g.R.TakesWords.form c.lines.number c.in-Some.line.now c.lines.rest.now c.in-Some.after.now (g.R.TakesWords.state c.lines.reader) (g.R.TakesWords.state c.read_line.new.reader) c.lines.edges.items passed.0
          c.read_line.new.edges.items _ c.lines.invariant.so_far c.in-Some.ensures.lines passed.1 passed.2;
      room = omega (arith, c.lines.invariant.room, c.in-Some.ensures.shorter);
    }
