use Rattle.capture_csv.proofs.Sampled.{read_is_capture}
use Rattle.capture_csv.proofs.reading.read_csv.Goals as goal

pub new-requires : goal.new-requires
new-requires c = read_is_capture c.args.signal.now c.args.text.now (record { edges = c.in_ok-edges.edges.items; end = c.in_ok-edges.end }) c.in_ok-edges.ensures
