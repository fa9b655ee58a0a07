use Rattle.std.proofs.Common.{rules, ◌≡◌, ◌∙◌, ◌+◌, ◌∷◌, List, drop, ap, sym, subst, refl}
use Rattle.room_script.specs.declared.script.TimedEvent.{TimedEvent}
use Rattle.room_net.specs.Apply.{net_after}
use Rattle.room_steps.specs.Ready.{HearsFirst, point_of}
use Rattle.room_steps.proofs.Passing.{drop_next, ready_event}
use Rattle.room_steps.proofs.position.Position.pass_event.Goals as goal

pub returns-clause-point : goal.returns-clause-point
returns-clause-point g c =
    let event = c.in-Some.event.now in
    let split : drop c.args.self.now.applied c.args.input.now.events.items ≡ event ∷ c.in-Some.others.now = search rules in
    record { event = event; split = split ∙ ap (λ (es : List TimedEvent). event ∷ es) (sym (drop_next c.args.self.now.applied c.args.input.now.events.items event c.in-Some.others.now split)); step = c.take_event.ensures.net ∙ ap (net_after c.args.at event.event) c.deref_mut.ensures.value; first = refl }

pub returns-clause-heard : goal.returns-clause-heard
returns-clause-heard g c =
    let event = c.in-Some.event.now in
    let split : drop c.args.self.now.applied c.args.input.now.events.items ≡ event ∷ c.in-Some.others.now = search rules in
    subst (λ (es : List TimedEvent). HearsFirst g.R.Reporter.hears c.args.at c.args.self.now.net.value es c.args.reporter.now c.take_event.new.reporter) (sym split) (rw c.deref_mut.ensures.value at c.take_event.ensures.heard)

pub returns-clause-ready : goal.returns-clause-ready
returns-clause-ready g c =
    let event = c.in-Some.event.now in
    let split : drop c.args.self.now.applied c.args.input.now.events.items ≡ event ∷ c.in-Some.others.now = search rules in
    ready_event c.args.input.now.end c.args.at (point_of c.args.input.now.events.items c.args.self.now) c.take_event.new.net c.args.self.now.is_first event
    (drop (c.args.self.now.applied + 1) c.args.input.now.events.items) (split ∙ ap (λ (es : List TimedEvent). event ∷ es) (sym (drop_next c.args.self.now.applied c.args.input.now.events.items event c.in-Some.others.now split)))
    (c.take_event.ensures.net ∙ ap (net_after c.args.at event.event) c.deref_mut.ensures.value) c.requires.ready
