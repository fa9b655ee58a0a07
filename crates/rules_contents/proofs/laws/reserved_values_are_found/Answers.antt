use Rattle.edid_tables.specs.Layouts.{has_reserved}
use Rattle.rules_contents.specs.Contents.{is_named_reserved}
use Rattle.rules_contents.proofs.Found.{named_or_other}
use Rattle.rules_contents.proofs.laws.reserved_values_are_found.Goals as goal

pub returns : goal.returns
returns c = named_or_other (has_reserved c.args.block.now) (is_named_reserved c.args.block.now)
