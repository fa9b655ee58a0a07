use Rattle.std.proofs.Common.{[], subst}
use Rattle.message_meaning.specs.Records.{Clause, meant_by, told_cells}
use Rattle.text_core.specs.Adds.{Adds}
use Rattle.message_meaning.proofs.meaning.add_other_poll.Goals as goal

pub returns : goal.returns
returns g c =
    subst (λ (k : Clause). Adds c.args.out.now c.add_told.new.out (meant_by c.args.form (told_cells k [] [] [] []))) c.other_poll.ensures c.add_told.ensures
