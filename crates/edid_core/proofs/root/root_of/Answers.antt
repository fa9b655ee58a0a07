use Rattle.std.proofs.Common.{List, ℕ, ap, subst, option_map}
use Rattle.edid_core.specs.Root.{IsNoRoot}
use Rattle.edid_core.proofs.root.root_of.Goals as goal

pub returns-in-Err-clause-refused : goal.returns-in-Err-clause-refused
returns-in-Err-clause-refused c =
    (c.in-Some.bytes.items, ap (option_map (λ v. v.items)) c.in-Some.is, subst (λ (b : List ℕ). IsNoRoot b c.in-Err.cause) c.deref.ensures.value c.in-Err.ensures.refused)
