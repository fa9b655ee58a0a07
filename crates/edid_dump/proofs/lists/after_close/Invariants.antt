use Rattle.std.proofs.Common.{◌≡◌, length}
use Rattle.edid_dump.specs.Remarks.{after_close}
use Rattle.edid_dump.proofs.lists.after_close.Given as goal

abbrev pub invariant-bytes : goal.invariant-bytes
invariant-bytes l = after_close l.rest ≡ after_close l.text

abbrev pub decreases-bytes : goal.decreases-bytes
decreases-bytes l = length l.rest
