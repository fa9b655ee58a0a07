use Rattle.std.proofs.Common.{rules, refl}
use Rattle.text_core.specs.Held.{held_bytes}
use Rattle.library_live.proofs.Said.{said}
use Rattle.library_live.proofs.talk.Talk.answer.Goals as goal

pub returns-in-Ok : goal.returns-in-Ok
returns-in-Ok c =
    (search rules, said c.args.self.now.live c.line.new.self c.args.line.now (held_bytes c.line.new.out) c.in-Ok.field-0 _ _ _ _ (search rules) c.new-said.ensures.contents refl c.in-Ok.ensures.taken)
