use Rattle.std.proofs.Common.{sym, subst}
use Rattle.std.specs.Prelude.{IsSome}
use Rattle.device_core.specs.State.{State}
use Rattle.device_core.specs.Place.{front_of}
use Rattle.room_net.proofs.Ahead.{front-followed_unless}
use Rattle.room_net.proofs.step.end_at.Goals as goal

pub inform-requires : goal.inform-requires
inform-requires c own =
    let Has : State → Type 0 = λ d. IsSome (front_of d) in
    subst Has (sym c.follow.ensures) (front-followed_unless c.is_among-sends.result c.args.frame.now c.close-close.result c.args.device.now (c.requires.contends own))
