use Rattle.std.proofs.Common.{◌≡◌, ◌+◌, ◌≤◌, length}
use Rattle.text_core.specs.Lines.{lines_of}
use Rattle.capture_core.specs.Reading.{lines_read, with_edges}
use Rattle.capture_core.proofs.reading.read_lines.Given as goal

-- the edges of the lines so far are there
abbrev pub invariant-lines : goal.invariant-lines
invariant-lines g l = record {
  so_far : lines_read g.R.TakesWords.form l.first (lines_of l.text) (g.R.TakesWords.state l.fn.reader)
      ≡ with_edges l.edges.items (lines_read g.R.TakesWords.form l.number (lines_of l.rest) (g.R.TakesWords.state l.reader));
  room : l.number + length l.rest ≤ length l.text + l.first;
}

abbrev pub decreases-lines : goal.decreases-lines
decreases-lines g l = length l.rest
