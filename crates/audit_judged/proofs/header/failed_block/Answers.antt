use Rattle.std.proofs.Common.{◌≡◌, ℕ, ◌+◌, ◌<◌, ◌≤◌, ◌/◌, Bool, not, true, false, length, ap, sym, ◌∙◌, arith}
use Rattle.line_reading.proofs.Search.{first_in_none, first_in_some}
use Rattle.audit_judged.specs.Header.{is_taken}
use Rattle.audit_judged.proofs.header.failed_block.Goals as goal

pub returns-then-not-is_taken : goal.returns-then-not-is_taken
returns-then-not-is_taken c =
    let blocks = length c.args.slots.now / 10 in
    let first : 1 ≤ c.loop-block.block = c.loop-block.auto.block in
    let last : c.loop-block.block < 1 + blocks = let t = c.loop-block-test.true in omega arith in
    let failed : not (is_taken c.args.slots.now c.loop-block.block) ≡ true = ap not (sym c.is_taken.ensures) ∙ not_false c.is_taken.result c.if-not-is_taken.true in
    sym (first_in_some (λ (b : ℕ). not (is_taken c.args.slots.now b)) 1 blocks c.loop-block.block first last failed c.loop-block.invariant)
  where
    not_false : (b : Bool) → b ≡ false → not b ≡ true
    not_false b h = ap not h

pub returns : goal.returns
returns c =
    let blocks = length c.args.slots.now / 10 in
    let last : 1 + blocks ≤ c.loop-block.block = let t = c.loop-block-test.false in omega arith in
    sym (first_in_none (λ (b : ℕ). not (is_taken c.args.slots.now b)) 1 blocks (λ u l m. c.loop-block.invariant u l (omega arith)))
