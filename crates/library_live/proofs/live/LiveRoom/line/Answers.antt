use Rattle.std.proofs.Common.{rules, inl, sym}
use Rattle.library_live.proofs.live.LiveRoom.line.Goals as goal

pub returns-in-Ok : goal.returns-in-Ok
returns-in-Ok c = inl (c.in-Some.talk.value, c.answer.new.self, sym c.in-Some.ensures.taken, search rules, search rules, search rules, search rules)
