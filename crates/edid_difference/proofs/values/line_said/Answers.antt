use Rattle.std.proofs.Common.{◌∙◌}
use Rattle.edid_text_lines.specs.Text.{fields_text, word_text}
use Rattle.edid_difference.proofs.Parting.{front_of}
use Rattle.edid_difference.proofs.values.line_said.Goals as goal

pub returns : goal.returns
returns c =
    c.pop.ensures.rest ∙ front_of (word_text c.args.line.now.word) (fields_text c.args.line.now.fields) c.write-text.result.items c.write-text.ensures
