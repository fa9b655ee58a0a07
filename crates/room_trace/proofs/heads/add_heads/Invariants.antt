use Rattle.std.proofs.Common.{length}
use Rattle.room_trace.specs.Room.{head_text}
use Rattle.room_trace.proofs.Said.{Heads}
use Rattle.room_trace.proofs.heads.add_heads.Given as goal

abbrev pub invariant-lines : goal.invariant-lines
invariant-lines g l = Heads head_text l.text l.rest l.fn.out l.out

abbrev pub decreases-lines : goal.decreases-lines
decreases-lines g l = length l.rest
