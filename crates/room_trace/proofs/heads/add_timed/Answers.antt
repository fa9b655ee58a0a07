use Rattle.std.proofs.Common.{Option, ap, subst₂, ℕ, ◌∙◌}
use Rattle.text_core.specs.Adds.{Adds}
use Rattle.text_core.specs.Number.{number_of}
use Rattle.record_core.specs.Records.{object_of}
use Rattle.room_trace.specs.Room.{timed_of}
use Rattle.room_trace.proofs.heads.add_timed.Goals as goal

pub returns : goal.returns
returns g c =
    subst₂ (λ (at number : Option ℕ). Adds c.args.out.now c.add_timed_of.new.out (object_of c.args.kind.now (timed_of c.args.name.now c.args.line.now at number)))
    (c.number_in-at.ensures ∙ ap number_of c.second.ensures) (c.number_in-number.ensures ∙ ap number_of c.third.ensures) c.add_timed_of.ensures
