use Rattle.std.proofs.Common.{◌≡◌, ◌++◌, length}
use Rattle.std.specs.List.{flat_map}
use Rattle.text_core.specs.Held.{held_bytes}
use Rattle.expect_remarks.specs.Met.{shown_remark}
use Rattle.expect_remarks.proofs.met.append_each.Given as goal

-- those that are appended, and those that are left
abbrev pub invariant-remarks : goal.invariant-remarks
invariant-remarks l = held_bytes l.out ++ flat_map (shown_remark l.form) l.rest ≡ held_bytes l.fn.out ++ flat_map (shown_remark l.form) l.remarks

abbrev pub decreases-remarks : goal.decreases-remarks
decreases-remarks l = length l.rest
