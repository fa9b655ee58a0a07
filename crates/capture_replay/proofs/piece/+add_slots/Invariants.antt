use Rattle.std.proofs.Common.{length}
use Rattle.capture_replay.proofs.piece.+add_slots.Given as goal

abbrev pub decreases-add_slots : goal.decreases-add_slots
decreases-add_slots g l = length l.slots.now
