use Rattle.std.proofs.Common.{◌≡◌, ◌++◌, filter, length}
use Rattle.expect_remarks.specs.Met.{is_met}
use Rattle.expect_remarks.proofs.met.those_met.Given as goal

-- those that are kept, and those that are left
abbrev pub invariant-remarks : goal.invariant-remarks
invariant-remarks l = l.met.items ++ filter (is_met l.pattern) l.rest ≡ filter (is_met l.pattern) l.remarks

abbrev pub decreases-remarks : goal.decreases-remarks
decreases-remarks l = length l.rest
