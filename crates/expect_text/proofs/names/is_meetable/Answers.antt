use Rattle.std.proofs.Common.{◌∙◌, sym, true}
use Rattle.expect_text.specs.Said.{is_said}
use Rattle.expect_text.specs.Names.{is_meetable, named_as}
use Rattle.expect_text.specs.Senders.{judged_as}
use Rattle.expect_text.proofs.Naming.{names_none, names_some}
use Rattle.expect_text.proofs.names.is_meetable.Goals as goal

pub returns-in-None : goal.returns-in-None
unfolding is_meetable
returns-in-None c = c.is_said.ensures ∙ sym (names_none (λ name b. true) (is_said (judged_as c.args.who)) c.args.pattern.now (sym c.in-None.ensures))

pub returns-in-Some : goal.returns-in-Some
unfolding is_meetable
returns-in-Some c = c.meetable_by.ensures ∙ sym (names_some (λ name b. true) (is_said (judged_as c.args.who)) c.args.pattern.now (named_as c.in-Some.named) (sym c.in-Some.ensures))
