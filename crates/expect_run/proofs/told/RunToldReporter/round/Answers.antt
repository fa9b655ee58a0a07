use Rattle.std.proofs.Common.{◌∷◌, [], ap, refl, map}
use Rattle.expect_judge.specs.Told.{event_as}
use Rattle.room_run.specs.Happening.Happening.{OfRound}
use Rattle.expect_run.specs.Sifted.{sifted_as}
use Rattle.expect_run.proofs.Sifting.{lost_sifted, round_sifted}
use Rattle.expect_run.proofs.told.RunToldReporter.round.Goals as goal

pub returns-in-Ok : goal.returns-in-Ok
returns-in-Ok g c =
    let same = c.hear_round.ensures.same in
    round_sifted (sifted_as c.args.self.now) (sifted_as c.hear_round.new.self) c.args._begin c.args.net.now c.args.outcome.now c.devices.result.now c.devices.ensures
    same.3 (ap (λ needs. needs.script.now) same.0) same.1 same.2 same.4 c.in-Ok.ensures.kept (ap (λ events. map event_as events.items) same.5)

pub returns-in-Err : goal.returns-in-Err
returns-in-Err g c =
    let same = c.hear_round.ensures.same in
    lost_sifted (sifted_as c.args.self.now) _ (OfRound c.args._begin c.args.net.now c.args.outcome.now ∷ []) same.3 (ap (λ needs. needs.script.now) same.0) same.1 same.2 refl
