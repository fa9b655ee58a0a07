use Rattle.std.proofs.Common.{◌∙◌, is_some, ap}
use Rattle.room_steps.specs.Ready.{point_of, written_in}
use Rattle.room_steps.specs.Steps.{Steps}
use Rattle.room_steps.proofs.Over.{begun_is}
use Rattle.room_steps.proofs.walk.Walk.is_begun.Goals as goal

pub returns : goal.returns
returns c =
    let here = c.self.inside in
    begun_is here.is_begun (written_in here.ahead (point_of here.input.events.items here.inside)) ∙ ap (λ (x : Steps). is_some x.begun) c.self.view_is
