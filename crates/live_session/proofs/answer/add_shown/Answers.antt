use Rattle.live_session.proofs.Saying.{object_shown}
use Rattle.live_session.proofs.answer.add_shown.Goals as goal

pub returns-in-Json : goal.returns-in-Json
returns-in-Json g c = object_shown c.args.form c.args.device.now c.args.state.now c.args.out.now c.add_marked_object.new.out c.in-Json.is c.requires c.add_marked_object.ensures
