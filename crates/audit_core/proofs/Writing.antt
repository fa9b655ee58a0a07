-- A text that is added, or written, and lines that are heard, by another name.
use Rattle.std.proofs.Common.{◌≡◌, ℕ, Bool, List, Option, Result, subst}
use Rattle.text_core.specs.Cut.{WritesText}
use Rattle.text_core.specs.declared.sink.WriteFault.{WriteFault}
use Rattle.text_core.specs.Adds.{Adds, Tally}
use Rattle.audit_notes.specs.Lines.{AuditLine}

pub adds_as : (a b : Tally) (x y : List ℕ) → x ≡ y → Adds a b x → Adds a b y
adds_as a b x y e one = subst (λ (z : List ℕ). Adds a b z) e one

pub heard_as : {V : Type 0} (hears : V → List AuditLine → V → Type 0) (a b : V) (x y : List AuditLine) → x ≡ y → hears a x b → hears a y b
heard_as hears a b x y e one = subst (λ (z : List AuditLine). hears a z b) e one

pub written_as : (old new : Option (List ℕ)) (was is : Bool) (x y : List ℕ) (result : Result (Unit {0}) WriteFault) → x ≡ y → WritesText old new was is x result → WritesText old new was is y result
written_as old new was is x y result e one = subst (λ (z : List ℕ). WritesText old new was is z result) e one
