use Rattle.std.proofs.Common.{Some, length}
use Rattle.audit_pieces.specs.Stretches.{stretches_of}
use Rattle.audit_pieces.specs.Wide.{pieces_of}
use Rattle.piece_audit.specs.Wide.{lows_from}
use Rattle.capture_signs.proofs.Piecing.{Left}
use Rattle.capture_signs.proofs.pieces.counts_of.Given as goal

abbrev pub invariant-lows : goal.invariant-lows
invariant-lows l = Left l.end l.counts (pieces_of l.end (Some 0) (stretches_of l.end (lows_from l.edges))) l.reader l.left

abbrev pub decreases-lows : goal.decreases-lows
decreases-lows l = length l.left
