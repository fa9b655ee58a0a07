use Rattle.std.proofs.Common.{sym}
use Rattle.line_wire.proofs.Kept.{low_of_slice, stand_in}
use Rattle.line_wire.proofs.edge_wire.EdgeWire.pull_now.Goals as goal

pub pull_at-requires-clause-places : goal.pull_at-requires-clause-places
pull_at-requires-clause-places c = stand_in c.args.self.now.places c.as_slice.result.now c.args.self.now.senders.items (sym c.as_slice.ensures.value) c.requires.kept.places

pub returns-else-is_pull_kept-clause-low : goal.returns-else-is_pull_kept-clause-low
returns-else-is_pull_kept-clause-low c =
    let e = c.pull_at.ensures in
    low_of_slice c.args.self.now.senders.items c.as_slice.result.now c.args.self.now.time c.pull_at.result.rise c.pull_at.result.until c.as_slice.ensures.value e.low
