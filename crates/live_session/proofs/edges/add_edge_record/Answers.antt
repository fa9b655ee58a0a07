use Rattle.std.proofs.Common.{codes}
use Rattle.record_core.proofs.Parts.{parted}
use Rattle.live_session.proofs.Saying.{recorded}
use Rattle.live_session.specs.Edges.{edge_cells, edge_line}
use Rattle.live_session.proofs.edges.add_edge_record.Goals as goal

pub returns : goal.returns
returns g c =
    let cells = edge_cells c.args.at c.args.level in
    recorded c.args.form (edge_line c.args.at c.args.level) (codes "edge") cells c.args.out.now c.add_record.new.out (parted cells) c.add_record.ensures
