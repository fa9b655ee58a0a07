use Rattle.std.proofs.Common.{OnOk, subst, sym}
use Rattle.program_edids.specs.Edids.{ShowsCounted}
use Rattle.cli_choice.specs.declared.choice.EdidShape.{EdidShape}
use Rattle.cli_choice.specs.declared.choice.View.TheVariants.{Whole}
use Rattle.program_edids.proofs.edid.Blocks.show_counted_whole.Goals as goal

pub returns-in-Hex : goal.returns-in-Hex
returns-in-Hex g c =
    let Q : EdidShape → Type 0 = λ s. OnOk c.write_counted_hex.result (ShowsCounted c.args.count (Whole c.args.place s) c.args.self.bytes.now (g.W.Sink.contents c.args.out.now) (g.W.Sink.contents c.write_counted_hex.new.out)) in
    subst Q (sym c.in-Hex.is) c.write_counted_hex.ensures

pub returns-in-Bytes : goal.returns-in-Bytes
returns-in-Bytes g c =
    let Q : EdidShape → Type 0 = λ s. OnOk c.write_counted_bytes.result (ShowsCounted c.args.count (Whole c.args.place s) c.args.self.bytes.now (g.W.Sink.contents c.args.out.now) (g.W.Sink.contents c.write_counted_bytes.new.out)) in
    subst Q (sym c.in-Bytes.is) c.write_counted_bytes.ensures

pub returns-in-Text : goal.returns-in-Text
returns-in-Text g c =
    let Q : EdidShape → Type 0 = λ s. OnOk c.write_whole.result (ShowsCounted c.args.count (Whole c.args.place s) c.args.self.bytes.now (g.W.Sink.contents c.args.out.now) (g.W.Sink.contents c.write_whole.new.out)) in
    subst Q (sym c.in-Text.is) c.write_whole.ensures

pub returns-in-C : goal.returns-in-C
returns-in-C g c =
    let Q : EdidShape → Type 0 = λ s. OnOk c.write_counted_c.result (ShowsCounted c.args.count (Whole c.args.place s) c.args.self.bytes.now (g.W.Sink.contents c.args.out.now) (g.W.Sink.contents c.write_counted_c.new.out)) in
    subst Q (sym c.in-C.is) c.write_counted_c.ensures

pub returns-in-Xml : goal.returns-in-Xml
returns-in-Xml g c =
    let Q : EdidShape → Type 0 = λ s. OnOk c.write_counted_xml.result (ShowsCounted c.args.count (Whole c.args.place s) c.args.self.bytes.now (g.W.Sink.contents c.args.out.now) (g.W.Sink.contents c.write_counted_xml.new.out)) in
    subst Q (sym c.in-Xml.is) c.write_counted_xml.ensures
