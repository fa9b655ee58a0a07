use Rattle.std.proofs.Common.{◌≤◌, List, ℕ, rules, subst, sym}
use Rattle.text_core.specs.Adds.{Adds}
use Rattle.text_core.proofs.Adding.{nothing}
use Rattle.live_session.proofs.Edging.{no_edges}
use Rattle.live_session.proofs.edges.add_edges.Goals as goal

pub returns-then-span : goal.returns-then-span
returns-then-span g c =
    let empty : c.args.span.until ≤ c.args.span.from = search rules in
    subst (λ (t : List ℕ). Adds c.args.out.now c.args.out.now t) (sym (no_edges c.args.form c.args.span c.args.stretches.now empty)) (nothing c.args.out.now)
