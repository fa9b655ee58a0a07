use Rattle.std.proofs.Common.{◌∙◌, ap}
use Rattle.edid_ddc.specs.Readout.{readout_text}
use Rattle.program_edids.specs.Edids.{Shows}
use Rattle.cli_choice.specs.declared.choice.View.TheVariants.{Readout}
use Rattle.program_edids.proofs.ShownLemmas.{on_ok}
use Rattle.program_edids.proofs.edid.Blocks.write_ddc.Goals as goal

pub returns : goal.returns
returns g c =
    let same = c.as_slice-blocks.ensures.value in
    on_ok c.write_reading.result _ (Shows (Readout c.args.place) c.args.self.bytes.now (g.W.Sink.contents c.args.out.now) (g.W.Sink.contents c.write_reading.new.out))
    (λ w. (w.0, (c.in_ok-given.given.items, c.in_ok-given.ensures, (c.in_ok-is_edid.ensures.0, c.in_ok-is_edid.ensures.1 ∙ same, w.1 ∙ ap readout_text same)), w.2))
    c.write_reading.ensures
