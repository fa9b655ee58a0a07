use Rattle.std.proofs.Common.{◌≡◌, ◌∙◌, ◌+◌, ℕ, Bool, List, Option, length, drop, ap, sym, subst}
use Rattle.text_core.specs.Adds.{Adds, Tally}
use Rattle.room_script.specs.Script.{IsSchedule, last_time}
use Rattle.room_script.specs.declared.script.TimedEvent.{TimedEvent}
use Rattle.edid_core.specs.declared.edid.Edid.{Edid}
use Rattle.record_core.specs.declared.cell.Form.{Form}
use Rattle.room_run.specs.Run.{Config}
use Rattle.room_run.proofs.Whole.{heard_text}
use Rattle.live_session.specs.declared.edges.InstantRange.{InstantRange}
use Rattle.live_session.specs.Session.{Session, span_of}
use Rattle.live_session.specs.Live.{session_of}
use Rattle.live_session.specs.Taken.{IsGone}
use Rattle.live_session.specs.Turns.{keys, reporting_of, text_with}
use Rattle.live_session.proofs.Going.{Added, all_added, drop_schedule, drop_drop, gone_is, told_from}
use Rattle.live_session.proofs.HasText.{has_text}
use Rattle.live_session.proofs.live.Live.go.Goals as goal

pub take_turns-on-requires-clause-schedule : goal.take_turns-on-requires-clause-schedule
take_turns-on-requires-clause-schedule g c =
    let here = c.self.inside in
    let end = last_time here.draft.events.items + 1 in
    let left = drop_schedule (length here.tree) end 0 here.applied here.draft.events.items c.self.invariant.0.fit.schedule in (
      left.0,
      end,
      subst (λ (es : List TimedEvent). IsSchedule (length here.net.tree) end left.0 es) (sym c.events_after.ensures)
          (subst (λ (count : ℕ). IsSchedule count end left.0 (drop here.applied here.draft.events.items)) (sym c.self.invariant.0.matched) left.1),
    )

pub returns : goal.returns
returns g c =
    let here = c.self.inside in
    let turns = c.take_turns-on in
    let s : Session = record (session_of here) { place = record { net = here.net; events = c.events_after.result.now; totals = here.totals } } in
    let from : s ≡ c.args.self.now =
    ap (λ (es : List TimedEvent). let u : Session = record s { place = record { net = here.net; events = es; totals = here.totals } } in u) c.events_after.ensures ∙ c.self.view_is in
    let events : drop (here.applied + turns.new.applied) here.draft.events.items ≡ drop turns.new.applied c.events_after.result.now =
    drop_drop here.applied turns.new.applied here.draft.events.items ∙ ap (λ (es : List TimedEvent). drop turns.new.applied es) (sym c.events_after.ensures) in
    let d : Config = record { net = turns.new.net; events = drop turns.new.applied c.events_after.result.now; totals = turns.new.totals } in
    let t : Session = record s { place = record { net = c.add_edges_on.new.self; events = drop (here.applied + turns.new.applied) here.draft.events.items; totals = turns.new.totals } } in
    let stands : t ≡ record s { place = d } = λ i. record s { place = record { net = c.add_edges_on.ensures.same i; events = events i; totals = turns.new.totals } } in
    let heard = turns.ensures.heard in
    let edges = c.add_edges_on.ensures.edges in
    let first = told_from c.args.text c.new-told.result.text turns.new.reporter.text here.seats _ here.form _ here.edid.value _ c.span-span.result _ heard.happened c.new-told.ensures.text c.new-told.ensures.seats c.new-told.ensures.form
    (c.new-told.ensures.edid ∙ c.deref.ensures) c.new-told.ensures.span
    (heard_text (λ r. r.text) (λ r. keys r.seats r.form r.passed.edid.now r.span) (λ (k : Bool × Form × Option Edid × InstantRange). text_with k.0 k.1 k.2 k.3) heard.happened _ _ heard.heard) in
    let second = subst (λ (m : Tally). Adds m c.add_edges_on.new.out edges.0) c.into_text-text.ensures edges.2 in
    subst (λ (s : Session). IsGone c.args.edges c.args.ended s t c.args.text c.add_edges_on.new.out) from
    (gone_is c.args.edges c.args.ended c.span-span.result s t d c.args.text c.add_edges_on.new.out (c.span-span.ensures ∙ ap (span_of c.args.edges c.args.ended) (sym from)) stands
    (subst (λ (until : ℕ). Added (reporting_of here.form here.edid.value) c.args.ended here.seats here.draft.pin c.span-span.result until s.place d c.args.text c.add_edges_on.new.out) c.certain_until-until.ensures.result
    (all_added here.form here.edid.value c.args.ended here.seats here.draft.pin c.span-span.result c.certain_until-until.result s.place d heard.happened turns.result edges.0 c.args.text turns.new.reporter.text c.add_edges_on.new.out
    heard.goes heard.last edges.1 (has_text (reporting_of here.form here.edid.value) c.args.ended here.seats here.draft.pin c.span-span.result c.certain_until-until.result s.place c.pulses_are_ahead.ensures) first second)))
