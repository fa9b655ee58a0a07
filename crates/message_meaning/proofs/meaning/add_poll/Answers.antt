use Rattle.std.proofs.Common.{◌≡◌, ◌∙◌, Bool, false, if◌then◌else◌, subst, sym}
use Rattle.message_meaning.specs.Addresses.{sender}
use Rattle.message_meaning.specs.Meaning.{is_own_poll}
use Rattle.message_meaning.specs.Records.{meant_by, other_poll_cells, own_poll_cells}
use Rattle.text_core.specs.Adds.{Adds}
use Rattle.message_meaning.proofs.meaning.add_poll.Goals as goal

pub returns-else-is_own_poll : goal.returns-else-is_own_poll
returns-else-is_own_poll g c =
    let other : is_own_poll c.args.header ≡ false = sym c.is_own_poll.ensures ∙ c.if-is_own_poll.false in
    subst (λ (b : Bool). Adds c.args.out.now c.add_other_poll.new.out (meant_by c.args.form (if b then own_poll_cells (sender c.args.header) else other_poll_cells c.args.header)))
    (sym other) c.add_other_poll.ensures
