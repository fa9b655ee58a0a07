use Rattle.std.proofs.Common.{Some, length}
use Rattle.audit_pieces.specs.Stretches.{stretches_of}
use Rattle.audit_pieces.specs.Wide.{pieces_of}
use Rattle.piece_audit.specs.Wide.{lows_from}
use Rattle.piece_audit.proofs.Going.{SoFar}
use Rattle.piece_audit.proofs.whole.add_pieces.Given as goal

-- what was written, and what is left
abbrev pub invariant-lows : goal.invariant-lows
invariant-lows g l = SoFar l.form l.grid l.end (pieces_of l.end (Some 0) (stretches_of l.end (lows_from l.edges))) l.fn.out l.out l.reader l.left

abbrev pub decreases-lows : goal.decreases-lows
decreases-lows g l = length l.left
