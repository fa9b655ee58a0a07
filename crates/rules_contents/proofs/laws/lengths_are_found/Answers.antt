use Rattle.rules_contents.specs.Contents.{is_cut_or_left, is_named_length}
use Rattle.rules_contents.proofs.Found.{named_or_other}
use Rattle.rules_contents.proofs.laws.lengths_are_found.Goals as goal

pub returns : goal.returns
returns c = named_or_other (is_cut_or_left c.args.block.now) (is_named_length c.args.block.now)
