use Rattle.std.proofs.Common.{◌≡◌, ◌+◌, ◌*◌, ◌∷◌, true, arith}
use borrow.Author.Tests.{tests}
use Rattle.std.proofs.lemmas.Grind.{common_steps}
use Rattle.message_table.specs.Table.{spelling, is_own_message}
use Rattle.message_table.proofs.TableLemmas.{again}
use Rattle.message_table.proofs.encoding.encode.Goals as goal

pub returns-in-Ok-clause-again : goal.returns-in-Ok-clause-again
returns-in-Ok-clause-again c =
    let sent : c.in-Ok.frame ≡ (c.args.from * 16 + c.args.to) ∷ spelling c.args.message.now = grind (arith, common_steps) in
    let own : is_own_message c.args.message.now ≡ true = grind (arith, tests) in
    rw sent (again (c.args.from * 16 + c.args.to) c.args.message.now own)
