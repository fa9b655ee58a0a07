use Rattle.std.proofs.Common.{◌≡◌, ℕ, ◌<◌, ◌≤◌, not, false}
use Rattle.audit_judged.specs.Header.{is_taken}
use Rattle.audit_judged.proofs.header.failed_block.Given as goal

-- the blocks so far were taken
abbrev pub invariant-loop-block : goal.invariant-loop-block
invariant-loop-block l = (u : ℕ) → 1 ≤ u → u < l.block → not (is_taken l.slots u) ≡ false
