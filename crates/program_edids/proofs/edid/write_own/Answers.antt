use Rattle.std.proofs.Common.{OnOk, subst, sym}
use Rattle.program_edids.specs.Edids.{Shows}
use Rattle.cli_choice.specs.declared.choice.Recipient.TheVariants.{Own}
use Rattle.cli_choice.specs.declared.choice.EdidShape.{EdidShape}
use Rattle.cli_choice.specs.declared.choice.View.TheVariants.{Whole}
use Rattle.program_edids.proofs.edid.write_own.Goals as goal

pub returns-in-Text : goal.returns-in-Text
returns-in-Text g c =
    let P : EdidShape → Type 0 = λ s. OnOk c.write_as_text.result (Shows (Whole Own s) c.args.bytes.now (g.W.Sink.contents c.args.out.now) (g.W.Sink.contents c.write_as_text.new.out)) in
    subst P (sym c.in-Text.is) c.write_as_text.ensures

pub returns-in-Hex : goal.returns-in-Hex
returns-in-Hex g c =
    let P : EdidShape → Type 0 = λ s. OnOk c.write_as_hex.result (Shows (Whole Own s) c.args.bytes.now (g.W.Sink.contents c.args.out.now) (g.W.Sink.contents c.write_as_hex.new.out)) in
    subst P (sym c.in-Hex.is) c.write_as_hex.ensures

pub returns-in-Bytes : goal.returns-in-Bytes
returns-in-Bytes g c =
    let P : EdidShape → Type 0 = λ s. OnOk c.write_as_bytes.result (Shows (Whole Own s) c.args.bytes.now (g.W.Sink.contents c.args.out.now) (g.W.Sink.contents c.write_as_bytes.new.out)) in
    subst P (sym c.in-Bytes.is) c.write_as_bytes.ensures

pub returns-in-C : goal.returns-in-C
returns-in-C g c =
    let P : EdidShape → Type 0 = λ s. OnOk c.write_as_c.result (Shows (Whole Own s) c.args.bytes.now (g.W.Sink.contents c.args.out.now) (g.W.Sink.contents c.write_as_c.new.out)) in
    subst P (sym c.in-C.is) c.write_as_c.ensures

pub returns-in-Xml : goal.returns-in-Xml
returns-in-Xml g c =
    let P : EdidShape → Type 0 = λ s. OnOk c.write_as_xml.result (Shows (Whole Own s) c.args.bytes.now (g.W.Sink.contents c.args.out.now) (g.W.Sink.contents c.write_as_xml.new.out)) in
    subst P (sym c.in-Xml.is) c.write_as_xml.ensures
