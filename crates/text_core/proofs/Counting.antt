-- What has become of a text by the count that its writer returns.
use Rattle.std.proofs.Common.{◌≡◌, ℕ, Bool, List, Option, Result, Ok, Err, subst}
use Rattle.text_core.specs.Cut.{WritesText, WrittenText}
use Rattle.text_core.specs.declared.sink.WriteFault.{WriteFault}

pub all_of : (old new : Option (List ℕ)) (was is : Bool) (text : List ℕ) (written : Result ℕ WriteFault) (count : ℕ) → written ≡ Ok count → WrittenText old new was is text written
    → WritesText old new was is text (Ok tt)
all_of old new was is text written count same w = let whole = subst (WrittenText old new was is text) same w in (whole.1, whole.2)

pub front_of : (old new : Option (List ℕ)) (was is : Bool) (text : List ℕ) (written : Result ℕ WriteFault) (fault : WriteFault) → written ≡ Err fault → WrittenText old new was is text written
    → WritesText old new was is text (Err fault)
front_of old new was is text written fault same w = subst (WrittenText old new was is text) same w
