use Rattle.std.proofs.Common.{◌<◌, ◌+◌, ◌-◌, arith, subst, sym}
use Rattle.std.specs.List.{flat_map, range_with_len}
use Rattle.std.proofs.lemmas.Bool.Decides.{nat_tests}
use Rattle.text_core.specs.Adds.{Adds}
use Rattle.text_core.proofs.Adding.{then}
use Rattle.capture_wires.specs.Wires.{high_at_first}
use Rattle.capture_wires.proofs.Quiet.{one_high}
use Rattle.capture_wires.proofs.definitions.+add_highs.Goals as goal

pub returns : goal.returns
returns g t c =
    let some : 0 < c.args.count = grind (arith, nat_tests, c.if-count-eq0.false) in
    subst (λ l. Adds c.args.out.now c.add_highs.new.out l) (sym (one_high c.args.number c.args.count some))
    (then _ _ _ (high_at_first c.args.number) (flat_map high_at_first (range_with_len (c.args.number + 1) (c.args.count - 1))) c.add_high.ensures c.add_highs.ensures)
