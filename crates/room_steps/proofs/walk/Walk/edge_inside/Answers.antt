use Rattle.std.proofs.Common.{◌≡◌, ◌∙◌, drop, IsSome, Some, false, Ok, Err, ap, sym, subst, refl}
use Rattle.line_wave.specs.Line.{IsWave}
use Rattle.room_steps.specs.Ready.{begun_in, point_of, run_of, written_in}
use Rattle.room_steps.specs.Steps.{Point, Steps, IsEdgeStep, IsFirstStep, IsNoEdge, IsOver, IsTaken, in_round}
use Rattle.room_steps.proofs.InRound.{IsIn, ahead_ends, ahead_gives, alike_in, edge_cut, edge_reported, ends, few_inside, heard_on, inside_underway, is_at, is_in, same_written, some_inside, steps, still_in, taken_after}
use Rattle.room_steps.proofs.walk.Walk.edge_inside.Goals as goal

pub hear_ahead-requires-clause-underway : goal.hear_ahead-requires-clause-underway
hear_ahead-requires-clause-underway g c =
    let here = c.self.inside in
    let es = here.input.events.items in
    let some = subst (λ (x : Steps). IsSome x.begun) (sym c.self.view_is) c.requires in
    let stood = is_in here.input here.last here.inside here.ahead here.is_begun some c.self.invariant.1 c.self.invariant.2 in
    inside_underway here.input.end (point_of es here.last) (point_of es here.inside) stood.round

pub first_edge-requires : goal.first_edge-requires
first_edge-requires g c =
    let here = c.self.inside in
    let es = here.input.events.items in
    let at = c.hear_ahead.new.self in
    let now = c.hear_ahead.new.ahead in
    let heard = c.in_default.ensures in
    let copy = c.copy_from.new.self in
    let run = run_of here.input in
    let s : Steps = steps run (point_of es here.last) (begun_in here.is_begun (written_in here.ahead (point_of es here.inside))) in
    let some = subst (λ (x : Steps). IsSome x.begun) (sym c.self.view_is) c.requires in
    let stood : IsIn s here.ahead here.inside = is_in here.input here.last here.inside here.ahead here.is_begun some c.self.invariant.1 c.self.invariant.2 in
    let stands = alike_in s now copy at c.copy_from.ensures (heard_on s here.ahead now here.inside at stood heard.written heard.kept.0 heard.kept.1 heard.ahead.3.underway) in
    let round = c.finish_round-report in
    let before = c.deref_mut.result.now in
    let wave : IsWave round.result.outcome.wave = subst IsWave c.as_slice-stretches.ensures.stretches c.as_slice-stretches.ensures.wave in
    let reported : before ≡ record copy.net.value { heard = Some stands.round.heard } = c.deref_mut.ensures.value ∙ sym (is_at copy.net.value stands.round.heard (ap (λ (x : Point). x.net.heard) stands.round.reported)) in
    let step = ends s.run.end s.last (point_of es copy) before round.new.self stands.round.heard round.result.begin round.result.outcome stands.ready stands.round reported wave
    round.ensures.begins round.ensures.step round.ensures.progress in
    step.1

pub returns-in_default-clause-step : goal.returns-in_default-clause-step
returns-in_default-clause-step g c =
    let here = c.self.inside in
    let es = here.input.events.items in
    let at = c.hear_ahead.new.self in
    let now = c.hear_ahead.new.ahead in
    let heard = c.in_default.ensures in
    let copy = c.copy_from.new.self in
    let run = run_of here.input in
    let s : Steps = steps run (point_of es here.last) (begun_in here.is_begun (written_in here.ahead (point_of es here.inside))) in
    let u : Steps = steps run (point_of es here.last) (begun_in here.is_begun (written_in now (point_of es at))) in
    let viewed : s ≡ c.args.self.now = c.self.view_is in
    let same : u ≡ s = same_written run (point_of es here.last) (written_in here.ahead (point_of es here.inside)) (written_in now (point_of es at)) here.is_begun heard.written in
    let some = subst (λ (x : Steps). IsSome x.begun) (sym viewed) c.requires in
    let stood : IsIn s here.ahead here.inside = is_in here.input here.last here.inside here.ahead here.is_begun some c.self.invariant.1 c.self.invariant.2 in
    let further = heard_on s here.ahead now here.inside at stood heard.written heard.kept.0 heard.kept.1 heard.ahead.3.underway in
    let stands = alike_in s now copy at c.copy_from.ensures further in
    let round = c.finish_round-report in
    let before = c.deref_mut.result.now in
    let wave : IsWave round.result.outcome.wave = subst IsWave c.as_slice-stretches.ensures.stretches c.as_slice-stretches.ensures.wave in
    let reported : before ≡ record copy.net.value { heard = Some stands.round.heard } = c.deref_mut.ensures.value ∙ sym (is_at copy.net.value stands.round.heard (ap (λ (x : Point). x.net.heard) stands.round.reported)) in
    let step = ends s.run.end s.last (point_of es copy) before round.new.self stands.round.heard round.result.begin round.result.outcome stands.ready stands.round reported wave
    round.ensures.begins round.ensures.step round.ensures.progress in
    let q : Point = record { net = round.new.self; events = drop copy.applied es; is_first = false } in
    let old = g.S.Sink.contents c.args.out.now in
    let new = g.S.Sink.contents c.first_edge.new.out in
    let t = c.first_edge.new.self in
    let r = c.first_edge.result in
    let over = ahead_ends s now at.net.value heard.ahead.0 further.net heard.ahead.1 heard.ahead.2 heard.ahead.3 in
    let first : IsTaken (IsFirstStep s q) (IsOver s.run.end q) s t old new r =
    subst (λ (x : Steps). IsTaken (IsFirstStep x q) (IsOver x.run.end q) x t old new r) same c.first_edge.ensures.step in
    subst (λ (x : Steps). IsTaken (IsEdgeStep x) (IsNoEdge x) x t old new r) viewed
    (taken_after s t (record at.net.value { heard = Some heard.ahead.0.written }) round.result.outcome q old new r over.0 over.1 step.0 first)

pub write_edge-requires-clause-some : goal.write_edge-requires-clause-some
write_edge-requires-clause-some g c =
    let here = c.self.inside in
    let es = here.input.events.items in
    let at = c.hear_ahead.new.self in
    let now = c.hear_ahead.new.ahead in
    let heard = c.in-Some.ensures in
    let s : Steps = steps (run_of here.input) (point_of es here.last) (begun_in here.is_begun (written_in here.ahead (point_of es here.inside))) in
    let some = subst (λ (x : Steps). IsSome x.begun) (sym c.self.view_is) c.requires in
    let stood : IsIn s here.ahead here.inside = is_in here.input here.last here.inside here.ahead here.is_begun some c.self.invariant.1 c.self.invariant.2 in
    let stands = heard_on s here.ahead now here.inside at stood heard.written heard.kept.0 heard.kept.1 heard.ahead.3.underway in
    some_inside s.run.end s.last (point_of es at) stands.ready stands.round

pub write_edge-requires-clause-few : goal.write_edge-requires-clause-few
write_edge-requires-clause-few g c =
    let here = c.self.inside in
    let es = here.input.events.items in
    let at = c.hear_ahead.new.self in
    let now = c.hear_ahead.new.ahead in
    let heard = c.in-Some.ensures in
    let s : Steps = steps (run_of here.input) (point_of es here.last) (begun_in here.is_begun (written_in here.ahead (point_of es here.inside))) in
    let some = subst (λ (x : Steps). IsSome x.begun) (sym c.self.view_is) c.requires in
    let stood : IsIn s here.ahead here.inside = is_in here.input here.last here.inside here.ahead here.is_begun some c.self.invariant.1 c.self.invariant.2 in
    let stands = heard_on s here.ahead now here.inside at stood heard.written heard.kept.0 heard.kept.1 heard.ahead.3.underway in
    few_inside s.run.end s.last (point_of es at) stands.ready stands.round

pub returns-in-Err-clause-step : goal.returns-in-Err-clause-step
returns-in-Err-clause-step g c =
    let here = c.self.inside in
    let es = here.input.events.items in
    let at = c.hear_ahead.new.self in
    let now = c.hear_ahead.new.ahead in
    let heard = c.in-Some.ensures in
    let run = run_of here.input in
    let s : Steps = steps run (point_of es here.last) (begun_in here.is_begun (written_in here.ahead (point_of es here.inside))) in
    let u : Steps = steps run (point_of es here.last) (begun_in here.is_begun (written_in now (point_of es at))) in
    let viewed : s ≡ c.args.self.now = c.self.view_is in
    let same : u ≡ s = same_written run (point_of es here.last) (written_in here.ahead (point_of es here.inside)) (written_in now (point_of es at)) here.is_begun heard.written in
    let some = subst (λ (x : Steps). IsSome x.begun) (sym viewed) c.requires in
    let stood : IsIn s here.ahead here.inside = is_in here.input here.last here.inside here.ahead here.is_begun some c.self.invariant.1 c.self.invariant.2 in
    let stands = heard_on s here.ahead now here.inside at stood heard.written heard.kept.0 heard.kept.1 heard.ahead.3.underway in
    let old = g.S.Sink.contents c.args.out.now in
    let new = g.S.Sink.contents c.write_edge.new.out in
    let cut : IsTaken (IsEdgeStep s) (IsNoEdge s) s s old new (Err c.step_error.result) =
    edge_cut (IsEdgeStep s) (IsNoEdge s) s (in_round s s.last at.net.value) here.input.form at.net.value c.in-Some.edge
    old new (g.S.Sink.is_stuck c.args.out.now) (g.S.Sink.is_stuck c.write_edge.new.out) c.in-Err.fault c.step_error.result
    refl c.step_error.ensures (λ text line. ahead_gives s (in_round s s.last at.net.value) now at.net.value heard.ahead.0 c.in-Some.edge text stands.net heard.ahead.1 heard.ahead.2 heard.ahead.3 line refl) c.in-Err.ensures in
    subst (λ (x : Steps). IsTaken (IsEdgeStep x) (IsNoEdge x) x u old new (Err c.step_error.result)) viewed
    (subst (λ (x : Steps). IsTaken (IsEdgeStep s) (IsNoEdge s) s x old new (Err c.step_error.result)) (sym same) cut)

pub returns-in-Ok-clause-step : goal.returns-in-Ok-clause-step
returns-in-Ok-clause-step g c =
    let here = c.self.inside in
    let es = here.input.events.items in
    let at = c.hear_ahead.new.self in
    let now = c.hear_ahead.new.ahead in
    let heard = c.in-Some.ensures in
    let run = run_of here.input in
    let s : Steps = steps run (point_of es here.last) (begun_in here.is_begun (written_in here.ahead (point_of es here.inside))) in
    let viewed : s ≡ c.args.self.now = c.self.view_is in
    let some = subst (λ (x : Steps). IsSome x.begun) (sym viewed) c.requires in
    let stood : IsIn s here.ahead here.inside = is_in here.input here.last here.inside here.ahead here.is_begun some c.self.invariant.1 c.self.invariant.2 in
    let stands = heard_on s here.ahead now here.inside at stood heard.written heard.kept.0 heard.kept.1 heard.ahead.3.underway in
    let t : Steps = steps run (point_of es here.last) (begun_in here.is_begun (point_of es at)) in
    let moved : t ≡ in_round s s.last at.net.value = still_in run (point_of es here.last) (written_in here.ahead (point_of es here.inside)) (point_of es at) here.is_begun some in
    let old = g.S.Sink.contents c.args.out.now in
    let new = g.S.Sink.contents c.write_edge.new.out in
    subst (λ (x : Steps). IsTaken (IsEdgeStep x) (IsNoEdge x) x t old new (Ok c.in-Ok.count)) viewed
    (edge_reported (IsEdgeStep s) (IsNoEdge s) s t here.input.form at.net.value c.in-Some.edge old new (g.S.Sink.is_stuck c.args.out.now) (g.S.Sink.is_stuck c.write_edge.new.out) c.in-Ok.count
    refl (λ text line. ahead_gives s t now at.net.value heard.ahead.0 c.in-Some.edge text stands.net heard.ahead.1 heard.ahead.2 heard.ahead.3 line moved) c.in-Ok.ensures)
