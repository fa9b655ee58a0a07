use Rattle.edid_texts.proofs.LineParts.{reported_quoted}
use Rattle.edid_texts.proofs.line_to_value.text_of.Goals as goal

pub returns : goal.returns
returns c = reported_quoted (λ t. t.chars.items) c.args.word c.in-Some.chars.now c.args.line.now c.new.result c.in-Some.ensures c.new.ensures
