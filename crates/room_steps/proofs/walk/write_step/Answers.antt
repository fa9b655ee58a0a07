use Rattle.std.proofs.Common.{rules, ◌≡◌, ◌∙◌, ◌++◌, ℕ, List, ap, ap₂, subst, sym}
use Rattle.std.specs.List.{flat_map}
use Rattle.text_core.specs.Adds.{Adds, Tally}
use Rattle.text_core.proofs.Adding.{text_ended, then}
use Rattle.device_core.specs.State.{State}
use Rattle.room_net.specs.State.{NetState}
use Rattle.room_trace.specs.Records.{round_text}
use Rattle.room_run.specs.Run.{round_reported}
use Rattle.room_run.specs.declared.run.Reporting.{Reporting}
use Rattle.room_run.proofs.Whole.{heard_text}
use Rattle.room_steps.specs.Ready.{happened, point_of, run_of}
use Rattle.room_steps.specs.Steps.{passed_text, reporting_by, start_text, told_of}
use Rattle.room_steps.proofs.Passing.{passed_heard}
use Rattle.room_steps.proofs.Told.{round_added}
use Rattle.room_steps.proofs.walk.write_step.Goals as goal

pub returns : goal.returns
returns g c =
    let form = c.args.input.now.form in
    let edid = c.args.input.now.edid.value in
    let run = run_of c.args.input.now in
    let reporting = reporting_by form edid in
    let p = point_of c.args.input.now.events.items c.args.before.now in
    let end = c.args.input.now.end in
    let outcome = c.args.outcome.now in
    let devices = c.args.after.now.net.value.devices in
    let first = c.new-events.result in
    let last = c.to_round-begin.new.reporter in
    let begin : Adds c.new-text.result first.trace.text (start_text run p) = subst (λ (t : Tally). Adds c.new-text.result t (start_text run p)) (sym c.new-events.ensures.text) c.add_start.ensures in
    let kept : reporting_by first.form first.trace.passed.edid.now ≡ reporting = ap₂ reporting_by c.new-events.ensures.form (c.new-events.ensures.edid ∙ c.deref.ensures) in
    let heard : Adds first.trace.text last.trace.text (flat_map (told_of (reporting_by first.form first.trace.passed.edid.now)) (happened end p)) =
    heard_text (λ r. r.trace.text) (λ r. reporting_by r.form r.trace.passed.edid.now) told_of (happened end p) _ _ c.to_round-begin.ensures.heard in
    let events : Adds first.trace.text last.trace.text (passed_text reporting end p) =
    subst (λ (t : List ℕ). Adds first.trace.text last.trace.text t) (ap (λ (r : Reporting). flat_map (told_of r) (happened end p)) kept ∙ passed_heard reporting end p.net p.events) heard in
    let added = subst (λ (ds : List State). Adds c.into_text-text.result c.add_round.new.out (round_text form ds outcome)) (c.devices.ensures ∙ ap (λ (n : NetState). n.devices) c.deref-2.ensures) c.add_round.ensures in
    let line : Adds last.trace.text c.add_round.new.out (round_reported reporting devices outcome) =
    subst (λ (t : Tally). Adds t c.add_round.new.out (round_reported reporting devices outcome)) c.into_text-text.ensures (round_added form edid devices outcome c.into_text-text.result c.add_round.new.out added) in
    let before = then _ _ _ (start_text run p) (passed_text reporting end p) begin events in
    text_ended g.S.Sink.contents g.S.Sink.is_stuck c.args.out.now _ c.into_sink-below.result.now _ c.into_sink-below.result.ghost_name c.new-text.result c.add_round.new.out
    ((start_text run p ++ passed_text reporting end p) ++ round_reported reporting devices outcome) c.written-written.result
    c.new-text.ensures (then _ _ _ (start_text run p ++ passed_text reporting end p) (round_reported reporting devices outcome) before line) c.written-written.ensures.text
    c.into_sink-below.ensures.loan c.into_sink-below.ensures.known c.into_sink-below.ensures.stuck (search rules)
