use Rattle.std.proofs.Common.{ℕ, List, codes, drop, subst}
use Rattle.text_core.specs.Adds.{Adds}
use Rattle.text_core.proofs.Adding.{then}
use Rattle.live_session.proofs.answer.add_marked_object.Goals as goal

pub returns : goal.returns
returns g c = then c.args.out.now c.add.new.self c.add-2.new.self (codes "{\"line\":\"= ") (drop 9 c.args.state.now) c.add.ensures (subst (λ (t : List ℕ). Adds c.add.new.self c.add-2.new.self t) c.after.ensures c.add-2.ensures)
