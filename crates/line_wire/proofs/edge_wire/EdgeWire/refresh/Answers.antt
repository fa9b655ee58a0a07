use Rattle.std.proofs.Common.{sym}
use Rattle.line_wire.proofs.Kept.{stand_in}
use Rattle.line_wire.proofs.edge_wire.EdgeWire.refresh.Goals as goal

pub pull_at-self-requires-clause-places : goal.pull_at-self-requires-clause-places
pull_at-self-requires-clause-places c = stand_in c.args.self.now.places c.as_slice.result.now c.args.self.now.senders.items (sym c.as_slice.ensures.value) c.requires.kept.places
