-- What a rule names, or the rule of all others finds.
use Rattle.std.proofs.Common.{◌≡◌, Bool, true, false, ◌&&◌, ◌||◌, not, refl}

pub named_or_other : (found named : Bool) → (named || (found && not named)) ≡ (found || named)
named_or_other true true = refl
named_or_other true false = refl
named_or_other false true = refl
named_or_other false false = refl
