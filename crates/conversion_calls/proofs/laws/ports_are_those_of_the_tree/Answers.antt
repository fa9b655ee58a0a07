use Rattle.conversion_calls.proofs.PortLemmas.{by_the_tree}
use Rattle.conversion_calls.proofs.laws.ports_are_those_of_the_tree.Goals as goal

pub returns : goal.returns
returns c = by_the_tree
