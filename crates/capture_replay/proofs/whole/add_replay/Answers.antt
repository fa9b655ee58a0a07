use Rattle.capture_replay.specs.Replay.{pieces_in}
use Rattle.capture_replay.proofs.Going.{counts_are, replayed}
use Rattle.capture_replay.proofs.whole.add_replay.Goals as goal

pub returns : goal.returns
returns g c =
    let ps = pieces_in c.args.edges.now c.args.end in
    record {
      counts = counts_are c.args.address ps c.args.out.now c.add_pieces.new.out c.none-counts.result c.add_pieces.new.counts c.none-counts.ensures c.add_pieces.ensures;
      text =
          replayed c.args.address c.args.end ps c.args.out.now c.add_pieces.new.out c.add_left.new.out c.add_end.new.out c.none-counts.result c.add_pieces.new.counts c.none-counts.ensures
          c.add_pieces.ensures c.add_left.ensures c.add_end.ensures;
    }
