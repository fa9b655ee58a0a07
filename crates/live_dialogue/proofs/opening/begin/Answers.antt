use Rattle.room_script.specs.Topology.{plan_of}
use Rattle.room_run.proofs.Accepted.{has_device}
use Rattle.live_dialogue.proofs.opening.begin.Goals as goal

pub new-requires-clause-some : goal.new-requires-clause-some
new-requires-clause-some c = has_device c.args.text.now (plan_of c.in-Ok.topology) c.in-Ok.ensures
