use Rattle.edid_base.specs.Chroma.{chroma_numbers}
use Rattle.edid_text_lines.specs.declared.line.Keyword.TheVariants.{Chroma}
use Rattle.edid_texts.proofs.LineParts.{reported_numbers}
use Rattle.edid_texts.proofs.line_to_value.chroma_of.Goals as goal

pub returns : goal.returns
returns c = reported_numbers chroma_numbers Chroma c.in-Some.numbers.now c.args.line.now c.new.result c.in-Some.ensures c.new.ensures
