use Rattle.std.proofs.Common.{◌≡◌, ◌<◌, ◌⊎◌, ◌++◌, ◌∷◌, [], length, ap, ◌∙◌}
use Rattle.edid_cta.specs.Block.{block_bytes}
use Rattle.edid_texts.specs.Drafts.{lines_so_far, BlockFits, TimingFits, TailFits}
use Rattle.edid_texts.specs.Lines.{block_line}
use Rattle.edid_texts.proofs.ExtSteps.{no_block, no_block_line}
use Rattle.edid_texts.proofs.Places.{lift_bool}
use Rattle.edid_texts.proofs.steps.put_in_blocks.Goals as goal

pub returns-in-Some : goal.returns-in-Some
returns-in-Some c =
    let l = c.args.line.now in
    let left = c.args.left in
    let b = c.in-Some.block in
    let old = lines_so_far c.args.draft.now in
    let new = lines_so_far c.put_block.new.draft in
    lift_bool c.put_block.result (new ≡ old ++ block_line b ∷ []) (left < length (block_bytes b)) (new ≡ old ++ l ∷ []) (BlockFits left l ⊎ (TimingFits left l ⊎ TailFits left l) → ⊥)
    (λ e. e ∙ ap (λ x. old ++ x ∷ []) c.in-Some.ensures) (λ less. no_block left b l c.in-Some.ensures less) c.put_block.ensures

pub returns-in-None : goal.returns-in-None
returns-in-None c =
    let l = c.args.line.now in
    let left = c.args.left in
    let old = lines_so_far c.args.draft.now in
    let new = lines_so_far c.put_after_blocks.new.draft in
    lift_bool c.put_after_blocks.result (new ≡ old ++ l ∷ []) (TimingFits left l ⊎ TailFits left l → ⊥) (new ≡ old ++ l ∷ []) (BlockFits left l ⊎ (TimingFits left l ⊎ TailFits left l) → ⊥)
    (λ e. e) (λ not. no_block_line left l c.in-None.ensures not) c.put_after_blocks.ensures
