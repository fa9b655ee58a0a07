use Rattle.std.proofs.Common.{option_map}
use Rattle.line_reading.specs.Reports.{listed_as}
use Rattle.line_reading.specs.Windows.{standard}
use Rattle.line_reading.specs.declared.times.Windows.{Windows}
use Rattle.capture_monitor.specs.Monitor.{FollowsEdgeBy}
use Rattle.capture_monitor.proofs.Waiting.{edge_reported, edge_standard}
use Rattle.capture_monitor.proofs.monitor.Monitor.edge.Goals as goal

pub returns : goal.returns
returns c =
    let by : (win : Windows) → FollowsEdgeBy win c.args.self.now c.args.edge (option_map listed_as c.or.result) c.tick-ended.new.self = λ win low n h l calm now.
    edge_reported win h.are low n c.args.edge.at c.args.edge.low c.args.self.now c.wait-waited.new.self c.note.new.self c.tick-ended.new.self c.wait-waited.result c.tick-ended.result c.or.result h l calm now
    (c.wait-waited.ensures.heard h.still) c.wait-waited.ensures.windows (c.wait-waited.ensures.still h.still) c.wait-waited.ensures.level
    c.note.ensures.windows c.note.ensures.keeps c.note.ensures.was c.note.ensures.level
    c.tick-ended.ensures.heard c.tick-ended.ensures.windows c.tick-ended.ensures.was c.tick-ended.ensures.level c.or.ensures in
    record {
      follows = edge_standard c.args.self.now c.tick-ended.new.self c.args.edge (option_map listed_as c.or.result) (by standard);
      by = by;
    }
