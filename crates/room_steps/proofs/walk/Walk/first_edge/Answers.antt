use Rattle.std.proofs.Common.{rules, ◌≡◌, Some, ap, refl}
use Rattle.room_steps.specs.Ready.{point_of, run_of}
use Rattle.room_steps.specs.Steps.{IsFirstStep, IsOver, Run}
use Rattle.room_steps.proofs.InRound.{begins_from, begun_inside, edge_cut, edge_reported, few_inside, first_gives, some_inside}
use Rattle.room_steps.proofs.Rounds.{alike_point}
use Rattle.room_steps.proofs.walk.Walk.first_edge.Goals as goal

pub write_edge-requires-clause-some : goal.write_edge-requires-clause-some
write_edge-requires-clause-some g c =
    let run = c.args.self.now.run in
    let input = c.self.inside.input in
    let last = c.args.last.now in
    let inside = c.begin_round.new.self in
    let e = c.in-Some.edge in
    let viewed : run_of input ≡ run = search rules in
    let copied = alike_point input.events.items c.copy_from.new.self last c.copy_from.ensures in
    let begins = begins_from input run c.copy_from.new.self last inside e viewed copied c.in-Some.ensures in
    some_inside run.end (point_of run.events last) (point_of run.events inside) c.requires (begun_inside run.end (point_of run.events last) (point_of run.events inside) e begins)

pub write_edge-requires-clause-few : goal.write_edge-requires-clause-few
write_edge-requires-clause-few g c =
    let run = c.args.self.now.run in
    let input = c.self.inside.input in
    let last = c.args.last.now in
    let inside = c.begin_round.new.self in
    let e = c.in-Some.edge in
    let viewed : run_of input ≡ run = search rules in
    let copied = alike_point input.events.items c.copy_from.new.self last c.copy_from.ensures in
    let begins = begins_from input run c.copy_from.new.self last inside e viewed copied c.in-Some.ensures in
    few_inside run.end (point_of run.events last) (point_of run.events inside) c.requires (begun_inside run.end (point_of run.events last) (point_of run.events inside) e begins)

pub returns-in-Err-clause-step : goal.returns-in-Err-clause-step
returns-in-Err-clause-step g c =
    let run = c.args.self.now.run in
    let input = c.self.inside.input in
    let last = c.args.last.now in
    let inside = c.begin_round.new.self in
    let e = c.in-Some.edge in
    let viewed : run_of input ≡ run = search rules in
    let copied = alike_point input.events.items c.copy_from.new.self last c.copy_from.ensures in
    let begins = begins_from input run c.copy_from.new.self last inside e viewed copied c.in-Some.ensures in
    let p = point_of run.events last in
    let q = point_of run.events inside in
    edge_cut (IsFirstStep c.args.self.now p) (IsOver run.end p) c.args.self.now (record c.args.self.now { last = p; begun = Some q.net }) input.form inside.net.value e
    (g.S.Sink.contents c.args.out.now) (g.S.Sink.contents c.write_edge.new.out) (g.S.Sink.is_stuck c.args.out.now) (g.S.Sink.is_stuck c.write_edge.new.out) c.in-Err.fault c.step_error.result
    (ap (λ (r : Run). r.form) viewed) c.step_error.ensures (λ text line. (q.net, first_gives run.form run.end p q e text begins line, refl)) c.in-Err.ensures

pub returns-in-Ok-clause-step : goal.returns-in-Ok-clause-step
returns-in-Ok-clause-step g c =
    let run = c.args.self.now.run in
    let input = c.self.inside.input in
    let last = c.args.last.now in
    let inside = c.begin_round.new.self in
    let e = c.in-Some.edge in
    let viewed : run_of input ≡ run = search rules in
    let copied = alike_point input.events.items c.copy_from.new.self last c.copy_from.ensures in
    let begins = begins_from input run c.copy_from.new.self last inside e viewed copied c.in-Some.ensures in
    let p = point_of run.events last in
    let q = point_of run.events inside in
    edge_reported (IsFirstStep c.args.self.now p) (IsOver run.end p) c.args.self.now c.stand_in.new.self input.form inside.net.value e
    (g.S.Sink.contents c.args.out.now) (g.S.Sink.contents c.write_edge.new.out) (g.S.Sink.is_stuck c.args.out.now) (g.S.Sink.is_stuck c.write_edge.new.out) c.in-Ok.count
    (ap (λ (r : Run). r.form) viewed) (λ text line. (q.net, first_gives run.form run.end p q e text begins line, c.stand_in.ensures)) c.in-Ok.ensures
