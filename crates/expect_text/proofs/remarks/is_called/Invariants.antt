use Rattle.std.proofs.Common.{◌≡◌, length}
use Rattle.expect_text.specs.Remarks.{is_called}
use Rattle.expect_text.proofs.remarks.is_called.Given as goal

-- none before is called so
abbrev pub invariant-kinds : goal.invariant-kinds
invariant-kinds l = is_called l.name l.rest ≡ is_called l.name l.kinds

abbrev pub decreases-kinds : goal.decreases-kinds
decreases-kinds l = length l.rest
