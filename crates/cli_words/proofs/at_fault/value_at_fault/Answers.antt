use Rattle.std.proofs.Common.{map, string_bytes}
use Rattle.cli_words.proofs.FaultLemmas.{is_refused}
use Rattle.cli_words.proofs.at_fault.value_at_fault.Goals as goal

pub returns-clause-value : goal.returns-clause-value
returns-clause-value c = c.fault_after.ensures

pub returns-clause-refused : goal.returns-clause-refused
returns-clause-refused c = is_refused (map string_bytes c.args.words.now)
