use Rattle.std.proofs.Common.{rules}
use borrow.Author.Tests.{tests}
use Rattle.message_table.proofs.encoding.name.Goals as goal

pub returns-in_default-clause-value : goal.returns-in_default-clause-value
returns-in_default-clause-value c = search (tests, rules)
