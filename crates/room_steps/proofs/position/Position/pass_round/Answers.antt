use Rattle.std.proofs.Common.{arith}
use Rattle.room_steps.specs.Ready.{point_of}
use Rattle.room_steps.specs.Steps.{after_events}
use Rattle.room_run.specs.Run.{first_time}
use Rattle.room_run.proofs.Advance.{round_begins}
use Rattle.room_steps.proofs.Rounds.{ready_round}
use Rattle.room_steps.proofs.position.Position.pass_round.Goals as goal

pub returns-clause-brings : goal.returns-clause-brings
returns-clause-brings c =
    let end = c.args.input.now.end in
    let es = c.args.input.now.events.items in
    let p = after_events end (point_of es c.args.self.now) in
    let begins = round_begins end p.net (first_time p.events) c.in_ok-begin.begin c.in_ok-begin.ensures.comes in
    let rest = c.pass_events.ensures.rest in
    let progress = rw c.deref_mut.ensures.value at c.round_at-outcome.ensures.progress in
    record { before = omega (arith, rest, progress.later, begins.1); later = omega (arith, rest, progress.later, progress.low) }

pub returns-clause-ready : goal.returns-clause-ready
returns-clause-ready c =
    let end = c.args.input.now.end in
    let es = c.args.input.now.events.items in
    let p = after_events end (point_of es c.args.self.now) in
    let begins = round_begins end p.net (first_time p.events) c.in_ok-begin.begin c.in_ok-begin.ensures.comes in
    let round = c.round_at-outcome in
    ready_round end c.in_ok-begin.begin (point_of es c.pass_events.new.self) round.result round.new.self c.pass_events.ensures.ready begins.1
    (rw c.deref_mut.ensures.value at round.ensures.step) (rw c.deref_mut.ensures.value at round.ensures.progress)
