use Rattle.std.proofs.Common.{rules, inl, inr, refl}
use Rattle.live_dialogue.specs.declared.error.SessionError.TheVariants.{Memory}
use Rattle.library_live.proofs.Said.{begun_in}
use Rattle.library_live.proofs.live.LiveRoom.open.Goals as goal

pub returns-in-Err-new : goal.returns-in-Err-new
returns-in-Err-new c = inr (Memory, tt, c.refused.ensures, refl, refl)

pub returns : goal.returns
returns c =
    inl (c.in-Ok-new.talk.value, begun_in c.args.topology.now c.in-Ok.talk c.in-Ok-new.talk.value c.in-Ok-new.ensures.ok c.in-Ok.ensures, c.holding.ensures, search rules)
