use Rattle.std.proofs.Common.{◌∙◌, ap}
use Rattle.edid_ddc.specs.Readout.{readout_text}
use Rattle.program_edids.specs.Edids.{ShowsCounted}
use Rattle.cli_choice.specs.declared.choice.View.TheVariants.{Readout}
use Rattle.program_edids.proofs.ShownLemmas.{on_ok}
use Rattle.program_edids.proofs.edid.Blocks.write_counted_ddc.Goals as goal

pub returns : goal.returns
returns g c =
    on_ok c.write_reading.result _ (ShowsCounted c.args.count (Readout c.args.place) c.args.self.bytes.now (g.W.Sink.contents c.args.out.now) (g.W.Sink.contents c.write_reading.new.out))
    (λ w. (w.0, (c.in_ok-mended.mended.items, c.in_ok-mended.ensures, w.1 ∙ ap readout_text c.as_slice.ensures.value), w.2))
    c.write_reading.ensures
