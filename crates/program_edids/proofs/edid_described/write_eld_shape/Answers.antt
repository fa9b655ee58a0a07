use Rattle.std.proofs.Common.{OnOk, subst, sym}
use Rattle.std.specs.Io.KnownBytes.{Appends}
use Rattle.cli_choice.specs.declared.choice.EldShape.{EldShape}
use Rattle.edid_eld.specs.Display.{display_parts}
use Rattle.edid_eld.specs.declared.codes.Connection.TheVariants.{Hdmi}
use Rattle.program_edids.specs.Elds.{eld_shown}
use Rattle.program_edids.proofs.edid_described.write_eld_shape.Goals as goal

pub returns-in-Hex : goal.returns-in-Hex
returns-in-Hex g c =
    let Q : EldShape → Type 0 = λ s. OnOk c.write_eld_line.result (Appends (g.W.Sink.contents c.args.out.now) (g.W.Sink.contents c.write_eld_line.new.out) (eld_shown s (display_parts c.args.base.now c.args.extensions.now Hdmi))) in
    subst Q (sym c.in-Hex.is) c.write_eld_line.ensures

pub returns-in-Bytes : goal.returns-in-Bytes
returns-in-Bytes g c =
    let Q : EldShape → Type 0 = λ s. OnOk c.write_eld_bytes.result (Appends (g.W.Sink.contents c.args.out.now) (g.W.Sink.contents c.write_eld_bytes.new.out) (eld_shown s (display_parts c.args.base.now c.args.extensions.now Hdmi))) in
    subst Q (sym c.in-Bytes.is) c.write_eld_bytes.ensures

pub returns-in-Fields : goal.returns-in-Fields
returns-in-Fields g c =
    let Q : EldShape → Type 0 = λ s. OnOk c.write_eld_words.result (Appends (g.W.Sink.contents c.args.out.now) (g.W.Sink.contents c.write_eld_words.new.out) (eld_shown s (display_parts c.args.base.now c.args.extensions.now Hdmi))) in
    subst Q (sym c.in-Fields.is) c.write_eld_words.ensures
