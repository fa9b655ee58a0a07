use Rattle.std.specs.List.{flat_map}
use Rattle.text_core.specs.Lines.{lines_of}
use Rattle.message_hex.specs.Lines.{text_by}
use Rattle.message_hex.proofs.Reporting.{each_in_order}
use Rattle.message_hex.proofs.lines.write_each.Goals as goal

pub returns : goal.returns
returns g c =
    let text_of = text_by (g.F.TextOfFrame.text c.args.each.now) in
    let lines = lines_of c.args.text.now in
    c.write_lines.ensures (flat_map text_of lines) (each_in_order text_of lines)
