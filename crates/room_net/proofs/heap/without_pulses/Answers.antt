use Rattle.std.proofs.lemmas.List.Elements.{All-nil}
use Rattle.room_net.proofs.InRound.{no_wire}
use Rattle.room_net.proofs.Soundness.{sound-start}
use Rattle.room_net.proofs.heap.without_pulses.Goals as goal

pub invariant_of-net : goal.invariant_of-net
invariant_of-net c = (
  sound-start c.args.tree c.none.result c.into_inner.result.items c.requires.few (rw c.none.ensures (All-nil _)) (rw c.none.ensures (All-nil _)) (rw c.into_inner.ensures c.requires.devices),
  no_wire _,
)
