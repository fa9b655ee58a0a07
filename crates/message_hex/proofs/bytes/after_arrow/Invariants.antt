use Rattle.std.proofs.Common.{◌≡◌, length}
use Rattle.message_hex.specs.Bytes.{after_arrow_of}
use Rattle.message_hex.proofs.bytes.after_arrow.Given as goal

-- what comes is looked through for a later arrow
abbrev pub invariant-pairs : goal.invariant-pairs
invariant-pairs l = after_arrow_of l.line l.line ≡ after_arrow_of l.best l.rest

abbrev pub decreases-pairs : goal.decreases-pairs
decreases-pairs l = length l.rest
