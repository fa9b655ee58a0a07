use Rattle.std.proofs.Common.{◌≡◌, take}
use Rattle.edid_core.proofs.passing.copies_of.Given as goal

abbrev pub invariant-loop-ext : goal.invariant-loop-ext
invariant-loop-ext l = l.copies.items ≡ take l.ext-index l.extensions
