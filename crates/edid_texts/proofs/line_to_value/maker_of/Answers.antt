use Rattle.edid_base.specs.Maker.{maker_letters}
use Rattle.edid_text_lines.specs.declared.line.Keyword.TheVariants.{Maker}
use Rattle.edid_texts.proofs.LineParts.{reported_letters}
use Rattle.edid_texts.proofs.line_to_value.maker_of.Goals as goal

pub returns : goal.returns
returns c = reported_letters maker_letters Maker c.in-Some.letters.now c.args.line.now c.new.result c.in-Some.ensures c.new.ensures
