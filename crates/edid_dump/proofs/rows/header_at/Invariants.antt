use Rattle.std.proofs.Common.{◌≡◌, ◌+◌, ◌≤◌, length}
use Rattle.edid_dump.specs.Rows.{header_at}
use Rattle.edid_dump.proofs.rows.header_at.Given as goal

abbrev pub invariant-bytes : goal.invariant-bytes
invariant-bytes l = record {
  so_far : header_at l.form l.place l.rest ≡ header_at l.form 0 l.line;
  room : l.place + length l.rest ≤ length l.line;
}

abbrev pub decreases-bytes : goal.decreases-bytes
decreases-bytes l = length l.rest
