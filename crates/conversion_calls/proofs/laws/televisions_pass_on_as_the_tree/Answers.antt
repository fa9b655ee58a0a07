use Rattle.conversion_calls.proofs.PortLemmas.{by_television}
use Rattle.conversion_calls.proofs.laws.televisions_pass_on_as_the_tree.Goals as goal

pub returns : goal.returns
returns c = by_television
