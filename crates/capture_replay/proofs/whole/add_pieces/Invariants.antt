use Rattle.std.proofs.Common.{length}
use Rattle.capture_replay.specs.Replay.{pieces_in}
use Rattle.capture_replay.proofs.Going.{SoFar}
use Rattle.capture_replay.proofs.whole.add_pieces.Given as goal

-- what was played, and what is left
abbrev pub invariant-lows : goal.invariant-lows
invariant-lows g l = SoFar l.address l.end (pieces_in l.edges l.end) l.fn.out l.out l.fn.counts l.counts l.reader l.left

abbrev pub decreases-lows : goal.decreases-lows
decreases-lows g l = length l.left
