use Rattle.std.proofs.Common.{◌≡◌, ◌+◌, ◌≤◌, length}
use Rattle.text_core.specs.Lines.{lines_of}
use Rattle.edid_dump.specs.Nth.{nth_from, nth_in_dump}
use Rattle.edid_dump.proofs.nth.nth_dump_bytes.Given as goal

abbrev pub invariant-lines : goal.invariant-lines
invariant-lines l = record {
  so_far : nth_in_dump l.nth l.text ≡ nth_from l.left l.passed (lines_of l.rest);
  room : l.passed + length l.rest ≤ length l.text;
}

abbrev pub decreases-lines : goal.decreases-lines
decreases-lines l = length l.rest
