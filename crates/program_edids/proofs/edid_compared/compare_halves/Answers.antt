use Rattle.std.proofs.Common.{false}
use Rattle.program_edids.specs.Compared.{AreAlike, ShowsAlike}
use Rattle.program_edids.proofs.ComparedLemmas.{halves_alike}
use Rattle.program_edids.proofs.ShownLemmas.{on_ok}
use Rattle.program_edids.proofs.edid_compared.compare_halves.Goals as goal

pub returns : goal.returns
returns g c =
    let old = g.W.Sink.contents c.args.out.now in
    let new = g.W.Sink.contents c.compare.new.out in
    on_ok c.compare.result (AreAlike c.args.form c.halves.result.0.now c.halves.result.1.now old new) (ShowsAlike false c.args.form c.args.input.now old new)
    (halves_alike c.args.form c.args.input.now c.halves.result.0.now c.halves.result.1.now old new c.halves.ensures.display c.halves.ensures.own) c.compare.ensures
