use Rattle.std.proofs.Common.{◌≡◌, ◌<◌, ◌⊎◌, ◌++◌, ◌∷◌, [], length, rules}
use Rattle.edid_texts.specs.Draft.{OfOpened}
use Rattle.edid_texts.specs.Drafts.{draft_lines, lines_so_far, Follows, BlockFits, TimingFits, TailFits}
use Rattle.edid_texts.specs.declared.stage.Stage.TheVariants.{Opened as AtOpened}
use Rattle.edid_texts.proofs.ExtSteps.{before_timings, after_timings}
use Rattle.edid_texts.proofs.Places.{follows, lift_bool, lines_are, opened_at}
use Rattle.edid_texts.proofs.steps.put_opened.Goals as goal

pub returns-then-is_empty : goal.returns-then-is_empty
returns-then-is_empty c =
    let d = c.args.draft.now in
    let l = c.args.line.now in
    let left = c.args.left in
    let o = opened_at d c.args.flags left c.requires in
    let same : lines_so_far d ≡ draft_lines (OfOpened o) = lines_are d (AtOpened c.args.flags left) c.requires in
    let old = lines_so_far d in
    let new = lines_so_far c.put_in_blocks.new.draft in
    lift_bool c.put_in_blocks.result (new ≡ old ++ l ∷ []) (BlockFits left l ⊎ (TimingFits left l ⊎ TailFits left l) → ⊥) (new ≡ old ++ l ∷ []) (Follows old l → ⊥)
    (λ e. e) (λ not f. before_timings o l not (follows old (draft_lines (OfOpened o)) l same f)) c.put_in_blocks.ensures

pub returns-else-is_empty : goal.returns-else-is_empty
returns-else-is_empty c =
    let d = c.args.draft.now in
    let l = c.args.line.now in
    let left = c.args.left in
    let o = opened_at d c.args.flags left c.requires in
    let same : lines_so_far d ≡ draft_lines (OfOpened o) = lines_are d (AtOpened c.args.flags left) c.requires in
    let some : 0 < length d.timings.items = search rules in
    let old = lines_so_far d in
    let new = lines_so_far c.put_after_blocks.new.draft in
    lift_bool c.put_after_blocks.result (new ≡ old ++ l ∷ []) (TimingFits left l ⊎ TailFits left l → ⊥) (new ≡ old ++ l ∷ []) (Follows old l → ⊥)
    (λ e. e) (λ not f. after_timings o l some not (follows old (draft_lines (OfOpened o)) l same f)) c.put_after_blocks.ensures
