use Rattle.std.proofs.Common.{refl}
use Rattle.live_session.proofs.Saying.{round_said}
use Rattle.live_session.proofs.session_text.SessionTextReporter.round.Goals as goal

pub returns : goal.returns
returns g c = (
  round_said c.args.self.now.seats c.args.self.now.form c.args.self.now.passed.edid.now c.args.self.now.span _ c.args.net.now c.args.outcome.now c.as_slice.result.now c.devices.result.now c.devices-2.result.now _ _ _ _
      c.as_slice.ensures.stretches c.devices.ensures c.devices-2.ensures c.add_edges.ensures c.add_round.ensures c.add_sent.ensures,
  refl,
)
