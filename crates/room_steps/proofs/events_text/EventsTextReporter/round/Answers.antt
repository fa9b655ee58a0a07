use Rattle.std.proofs.Common.{ap, refl, subst, List}
use Rattle.text_core.specs.Adds.{Adds}
use Rattle.device_core.specs.State.{State}
use Rattle.room_trace.specs.Records.{round_text}
use Rattle.room_steps.proofs.Told.{round_added}
use Rattle.room_steps.proofs.events_text.EventsTextReporter.round.Goals as goal

pub returns : goal.returns
returns g c =
    let line = subst (λ (ds : List State). Adds c.args.self.now.trace.text c.add_round.new.out (round_text c.args.self.now.form ds c.args.outcome.now)) c.devices.ensures c.add_round.ensures in
    (round_added c.args.self.now.form c.args.self.now.trace.passed.edid.now c.args.net.now.devices c.args.outcome.now c.args.self.now.trace.text c.add_round.new.out line, refl)
