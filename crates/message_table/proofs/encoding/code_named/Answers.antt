use Rattle.message_table.proofs.NamingLemmas.{found_name, none_name}
use Rattle.message_table.proofs.encoding.code_named.Goals as goal

pub returns-clause-found : goal.returns-clause-found
returns-clause-found c = found_name c.args.text.now c.byte_in.result c.byte_in.ensures

pub returns-clause-none : goal.returns-clause-none
returns-clause-none c = none_name c.args.text.now c.byte_in.result c.byte_in.ensures
