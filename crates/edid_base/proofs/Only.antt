-- What a base block spells is read as that block.
use Rattle.std.proofs.Common.{◌≡◌, List, ℕ, Result, Ok, Err, Some, IfOk, IfErr, ap, ◌∙◌}
use Rattle.edid_base.proofs.Accepted.{accepted}
use Rattle.edid_base.proofs.OneBase.{one_base}
use Rattle.edid_base.specs.Base.{base_bytes}
use Rattle.edid_base.specs.Refusals.{refusal}
use Rattle.edid_base.specs.declared.base.Base.{Base}
use Rattle.edid_base.specs.declared.base.BaseError.{BaseError}

pub only : (bytes : List ℕ) (r : Result Base BaseError) → IfOk r (λ b. base_bytes b ≡ bytes) → IfErr r (λ e. refusal bytes ≡ Some e)
    → (b : Base) → bytes ≡ base_bytes b → r ≡ Ok b
only bytes (Ok a) read refused b h = ap (λ x. Ok x) (one_base a b (read ∙ h))
only bytes (Err e) read refused b h = let none = ap refusal h ∙ accepted b in cc
