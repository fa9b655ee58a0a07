use Rattle.std.proofs.Common.{◌≡◌, length}
use Rattle.std.specs.List.{list_any}
use Rattle.expect_remarks.specs.Met.{is_met}
use Rattle.expect_remarks.proofs.met.is_any_met.Given as goal

-- none before meets the pattern
abbrev pub invariant-remarks : goal.invariant-remarks
invariant-remarks l = list_any (is_met l.pattern) l.rest ≡ list_any (is_met l.pattern) l.remarks

abbrev pub decreases-remarks : goal.decreases-remarks
decreases-remarks l = length l.rest
