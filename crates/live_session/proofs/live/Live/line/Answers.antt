use Rattle.std.proofs.Common.{List, ℕ, refl, subst, sym}
use Rattle.live_session.specs.Shown.{IsMade}
use Rattle.live_session.proofs.Saying.{shows_alone}
use Rattle.live_session.proofs.live.Live.line.Goals as goal

pub write-requires-clause-made : goal.write-requires-clause-made
write-requires-clause-made g c = subst (λ (t : List ℕ). IsMade c.step.new.self c.in-Some.step t) (sym c.bytes.ensures.bytes) c.in-Some-made.ensures

pub returns-in_default-made-clause-taken : goal.returns-in_default-made-clause-taken
returns-in_default-made-clause-taken g c =
    (shows_alone c.args.self.now c.args.line.now c.in-Some.step c.step.new.self c.in-Some.ensures.step c.in_default-made.ensures, refl, refl)
