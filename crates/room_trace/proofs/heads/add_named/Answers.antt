use Rattle.std.proofs.Common.{List, Option, ap, subst, subst₂, ℕ, ◌∙◌}
use Rattle.text_core.specs.Adds.{Adds}
use Rattle.text_core.specs.Number.{number_of}
use Rattle.record_core.specs.Records.{object_of}
use Rattle.room_trace.specs.Room.{named_of, second, third}
use Rattle.room_trace.proofs.heads.add_named.Goals as goal

pub returns : goal.returns
returns g c =
    let line = c.args.line.now in
    subst (λ (number : Option ℕ). Adds c.args.out.now c.add_named_of.new.out (object_of c.args.kind.now (named_of c.args.other.now c.args.count.now line (second line) (third line) number)))
    (c.number_in-number.ensures ∙ ap number_of c.fourth.ensures)
    (subst₂ (λ (device of : List ℕ). Adds c.args.out.now c.add_named_of.new.out (object_of c.args.kind.now (named_of c.args.other.now c.args.count.now line device of c.number_in-number.result)))
    c.second.ensures c.third.ensures c.add_named_of.ensures)
