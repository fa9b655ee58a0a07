use Rattle.room_steps.specs.Ready.{point_of}
use Rattle.room_steps.proofs.Taken.{taken_until}
use Rattle.room_steps.proofs.walk.Walk.until.Goals as goal

pub returns-clause-step : goal.returns-clause-step
returns-clause-step g c =
    let run = c.args.self.now.run in
    let found = c.in-Some.ensures in
    taken_until c.args.self.now c.take.new.self c.args.at found.rounds (point_of run.events c.search.new.before) (point_of run.events c.search.new.after) c.in-Some.outcome
    (g.S.Sink.contents c.args.out.now) (g.S.Sink.contents c.take.new.out) c.take.result found.skips found.step found.stop c.take.ensures.step
