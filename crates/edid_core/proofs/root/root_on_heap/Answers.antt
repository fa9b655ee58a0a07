use Rattle.std.proofs.Common.{List, ℕ, ap, subst, option_map}
use Rattle.edid_core.specs.Root.{IsNoRootOf}
use Rattle.edid_core.proofs.root.root_on_heap.Goals as goal

pub returns-in-Err-clause-refused : goal.returns-in-Err-clause-refused
returns-in-Err-clause-refused c =
    (c.in-Some.bytes.items, ap (option_map (λ v. v.items)) c.in-Some.is, subst (λ (b : List ℕ). IsNoRootOf b c.in-Err.error) c.deref.ensures.value c.in-Err.ensures.refused)
