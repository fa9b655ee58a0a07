use Rattle.std.proofs.Common.{refl}
use Rattle.capture_core.specs.Edges.{Captured}
use Rattle.capture_difference.specs.Lines.{difference_text}
use Rattle.program_captures.specs.Compared.{ComparesAlike, WritesAlike, rows_of}
use Rattle.program_captures.proofs.ShownLemmas.{on_ok}
use Rattle.program_captures.proofs.compared.write_diff.Goals as goal

pub returns : goal.returns
returns g c =
    let pair = c.args.pair in
    let a : Captured = c.in_ok-first.first in
    let b : Captured = c.in_ok-second.second in
    let old = g.W.Sink.contents c.args.out.now in
    let new = g.W.Sink.contents c.compare.new.out in
    on_ok c.compare.result (ComparesAlike pair a b old new) (WritesAlike pair c.args.signal.now c.args.first.now c.args.second.now old new)
    (λ s. (difference_text pair.written (rows_of pair a b), (a, b, c.in_ok-first.ensures, c.in_ok-second.ensures, s.0, refl), s.1)) c.compare.ensures
