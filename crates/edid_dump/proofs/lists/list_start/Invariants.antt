use Rattle.std.proofs.Common.{◌≡◌, ◌+◌, ◌≤◌, length}
use Rattle.edid_dump.specs.Digits.{opened_at}
use Rattle.edid_dump.proofs.lists.list_start.Given as goal

abbrev pub invariant-bytes : goal.invariant-bytes
invariant-bytes l = record {
  so_far : opened_at l.place l.rest ≡ opened_at 0 l.line;
  room : l.place + length l.rest ≤ length l.line;
}

abbrev pub decreases-bytes : goal.decreases-bytes
decreases-bytes l = length l.rest
