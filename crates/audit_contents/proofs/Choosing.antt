-- One of two, and a text by another name.
use Rattle.std.proofs.Common.{◌≡◌, ℕ, Bool, true, false, if◌then◌else◌, List, subst}
use Rattle.text_core.specs.Adds.{Adds, Tally}
use Rattle.audit_contents.specs.declared.contents.Contents.{Contents}

pub the_other : (b : Bool) (x y z : Contents) → b ≡ false → z ≡ y → z ≡ (if b then x else y)
the_other true x y z e same = absurd cc
the_other false x y z e same = same

pub adds_as : (a b : Tally) (x y : List ℕ) → x ≡ y → Adds a b x → Adds a b y
adds_as a b x y e one = subst (λ (z : List ℕ). Adds a b z) e one
