use Rattle.std.proofs.Common.{◌≡◌}
use Rattle.edid_difference.specs.Records.{difference_text}
use Rattle.program_edids.specs.Compared.{TellsSame}
use Rattle.program_edids.proofs.ComparedLemmas.{is_empty}
use Rattle.program_edids.proofs.ShownLemmas.{on_ok}
use Rattle.program_edids.proofs.edid_compared.tell.Goals as goal

pub returns : goal.returns
returns g c =
    let text = difference_text c.args.form c.args.first.now c.args.first_extensions.now c.args.second.now c.args.second_extensions.now in
    let told = c.in_ok-count.ensures in
    on_ok c.unless_told.result (c.in_ok-count.count ≡ 0)
    (TellsSame c.args.form c.args.first.now c.args.first_extensions.now c.args.second.now c.args.second_extensions.now (g.W.Sink.contents c.args.out.now) (g.W.Sink.contents c.write_difference.new.out))
    (λ zero. (is_empty text c.in_ok-count.count told.0 zero, told.1)) c.unless_told.ensures
