use Rattle.edid_texts.proofs.Sorts.{no_payload}
use Rattle.edid_texts.proofs.line_to_block.block_of.Goals as goal

pub returns-in_default-bytes_of : goal.returns-in_default-bytes_of
returns-in_default-bytes_of c = λ b e. no_payload b c.args.line.now c.in_default.ensures c.in_default-bytes_of.ensures e
