use Rattle.std.proofs.Common.{◌≡◌, ◌+◌}
use Rattle.expect_text.specs.Parts.{any_below}
use Rattle.expect_text.specs.Said.{is_opcode_met}
use Rattle.expect_text.specs.Senders.{judged_as}
use Rattle.expect_text.proofs.said.is_any_opcode_met.Given as goal

-- no opcode above is met
abbrev pub invariant-codes : goal.invariant-codes
invariant-codes l = record {
  same : any_below 256 (is_opcode_met (judged_as l.who) l.is_broadcast l.pattern) ≡ any_below (l.code + 1) (is_opcode_met (judged_as l.who) l.is_broadcast l.pattern);
}

abbrev pub decreases-codes : goal.decreases-codes
decreases-codes l = l.code
