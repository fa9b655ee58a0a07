use Rattle.std.proofs.Common.{◌≡◌, ℕ, ◌+◌, ◌*◌, ◌/◌, ◌≤◌, ◌++◌, List, true, false, length, take, drop, inr, ap, sym, ◌∙◌, arith, refl}
use Rattle.std.proofs.lemmas.Result.{err_from_is_err_and}
use Rattle.edid_ddc.specs.Bus.{has_segment}
use Rattle.edid_ddc.specs.Learn.{extension_count, bytes_with_padding}
use Rattle.edid_ddc.proofs.Blocks.{asked_is, after, one_more, read_len, block_len, when_ok}
use Rattle.edid_ddc.proofs.learn.read_blocks.Goals as goal

pub returns-then-asked-gt3-clause-refused : goal.returns-then-asked-gt3-clause-refused
returns-then-asked-gt3-clause-refused c =
    let first = c.in_ok-first.ensures.read in
    let count = asked_is c.args.ddc.now.bytes c.in_ok-first.first first.1 in
    let many = c.if-asked-gt3.true in
    (first.0, omega (arith, count), refl)

pub returns-in_err-next-clause-refused : goal.returns-in_err-next-clause-refused
returns-in_err-next-clause-refused c =
    let bytes = c.args.ddc.now.bytes in
    let count = asked_is bytes c.in_ok-first.first c.in_ok-first.ensures.read.1 in
    let few = c.if-asked-gt3.false in
    let more = c.loop-block-test.true in
    let next = (c.loop-block.block + 1) / 2 in
    let refused = c.in_err-next.ensures.refused in
    let here : has_segment bytes next ≡ false = ap (λ (bs : List ℕ). has_segment bs next) (sym c.loop-block.invariant.same) ∙ refused.0 in
    let last : next ≤ extension_count bytes / 2 = omega (arith, count) in
    let p = err_from_is_err_and c.from_residual-in_err-next.result c.from_residual-in_err-next.ensures.1 in
    rw (p.1, p.2, refused.1) (inr (omega (arith, count), after bytes next (extension_count bytes / 2) last here))

pub loop-block-preserved : goal.loop-block-preserved
loop-block-preserved c =
    let bytes = c.args.ddc.now.bytes in
    let few = c.if-asked-gt3.false in
    let more = c.loop-block-test.true in
    let block = c.loop-block.block in
    let old = c.loop-block.blocks.items in
    let same = c.loop-block.invariant.same in
    let next = c.in_ok-next.ensures.read in
    let there : has_segment bytes ((block + 1) / 2) ≡ true = ap (λ (bs : List ℕ). has_segment bs ((block + 1) / 2)) (sym same) ∙ next.0 in
    let spelled : c.in_ok-next.next ≡ take 128 (drop (128 * (block + 1)) (bytes_with_padding bytes)) = next.1 ∙ ap (λ (bs : List ℕ). take 128 (drop (128 * (block + 1)) (bytes_with_padding bs))) same in
    let size = ap length spelled ∙ block_len bytes (block + 1) (omega arith) in
    let items : c.try_extend_from_slice-in-loop-block.new.self.items ≡ old ++ c.in_ok-next.next =
    when_ok _ c.try_extend_from_slice-in-loop-block.result (c.try_extend_from_slice-in-loop-block.ensures.variant.1 (omega arith)) c.try_extend_from_slice-in-loop-block.ensures.ok in
    let read = items ∙ ap (λ xs. xs ++ c.in_ok-next.next) c.loop-block.invariant.read ∙ ap (λ xs. take (128 * (block + 1)) (bytes_with_padding bytes) ++ xs) spelled ∙ one_more (bytes_with_padding bytes) (block + 1) in
    record { same = c.in_ok-next.ensures.same ∙ same; acknowledged = there; len = ap length read ∙ read_len bytes (block + 1 + 1) (omega arith); read = read }

pub returns-clause-read : goal.returns-clause-read
returns-clause-read c =
    let bytes = c.args.ddc.now.bytes in
    let count = asked_is bytes c.in_ok-first.first c.in_ok-first.ensures.read.1 in
    let few = c.if-asked-gt3.false in
    let done = c.loop-block-test.false in
    let least = c.loop-block.auto.block-end in
    let all : c.loop-block.block ≡ extension_count bytes = omega (arith, count) in (
      (omega (arith, count), ap (λ (k : ℕ). has_segment bytes (k / 2)) (sym all) ∙ c.loop-block.invariant.acknowledged),
      c.loop-block.invariant.read ∙ ap (λ (k : ℕ). take (128 * (k + 1)) (bytes_with_padding bytes)) all,
    )
