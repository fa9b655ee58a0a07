use Rattle.std.proofs.Common.{rules, ◌∙◌}
use Rattle.library_wire.proofs.sender.sender_begin.Goals as goal

pub returns-in-Err : goal.returns-in-Err
returns-in-Err c = (λ least most early. absurd (search rules), search rules, search rules, search rules)

pub returns : goal.returns
returns c = (
  λ least most early. (
    c.number-2.ensures,
    record {
      sender = c.begin.result;
      parts = c.parts.ensures;
      sends = c.begin.ensures.begins.0 ∙ c.in-Ok.ensures.ok;
      since = c.begin.ensures.begins.1;
      stands = c.begin.ensures.stands;
    },
  ),
  search rules,
  search rules,
  search rules,
)
