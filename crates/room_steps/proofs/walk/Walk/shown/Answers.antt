use Rattle.std.proofs.Common.{◌≡◌, ◌∙◌, length, ap}
use Rattle.room_steps.specs.Ready.{point_of}
use Rattle.room_steps.specs.Steps.{device_count}
use Rattle.room_net.specs.State.{NetState}
use Rattle.room_steps.proofs.Due.{inside_count}
use Rattle.room_steps.proofs.walk.Walk.shown.Goals as goal

pub returns-then-self-clause-count : goal.returns-then-self-clause-count
returns-then-self-clause-count c =
    let here = c.self.inside in
    let es = here.input.events.items in
    let same : length here.inside.net.value.tree ≡ length here.last.net.value.tree =
    inside_count here.input.end here.is_begun (point_of es here.last) (point_of es here.inside) c.if-self.true c.self.invariant.2 in
    ap (λ (n : NetState). length n.tree) c.deref.ensures ∙ same ∙ ap device_count c.self.view_is
