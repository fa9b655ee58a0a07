use Rattle.std.proofs.Common.{◌≡◌, Some, length}
use Rattle.edid_dump.specs.Digits.{bytes_with_row}
use Rattle.edid_dump.proofs.records.fill.Given as goal

abbrev pub invariant-bytes : goal.invariant-bytes
invariant-bytes l = bytes_with_row l.bytes.items (Some l.rest) ≡ bytes_with_row l.fn.bytes.items (Some l.more)

abbrev pub decreases-bytes : goal.decreases-bytes
decreases-bytes l = length l.rest
