use Rattle.std.proofs.Common.{◌≡◌, ◌+◌, ◌≤◌, length}
use Rattle.text_core.specs.Lines.{lines_of}
use Rattle.edid_dump.specs.Nth.{dump_count, dumps_among}
use Rattle.edid_dump.proofs.nth.dump_count.Given as goal

abbrev pub invariant-lines : goal.invariant-lines
invariant-lines l = record {
  so_far : dump_count l.text ≡ l.count + dumps_among (lines_of l.rest);
  room : l.count + length l.rest ≤ length l.text;
}

abbrev pub decreases-lines : goal.decreases-lines
decreases-lines l = length l.rest
