use Rattle.std.proofs.Common.{◌≡◌, ◌<◌, ◌⊎◌, ◌++◌, ◌∷◌, [], false, ap, ◌∙◌}
use Rattle.edid_texts.specs.Drafts.{lines_so_far, TimingFits, TailFits}
use Rattle.edid_texts.specs.Lines.{bytes_line, timing_line}
use Rattle.edid_texts.specs.Tails.{ends}
use Rattle.edid_text_lines.specs.declared.line.Keyword.TheVariants.{Tail}
use Rattle.edid_texts.proofs.ExtSteps.{no_room, no_words, no_tail}
use Rattle.edid_texts.proofs.Places.{lift_bool}
use Rattle.edid_texts.proofs.steps.put_after_blocks.Goals as goal

pub returns-in-Some : goal.returns-in-Some
returns-in-Some c =
    let l = c.args.line.now in
    let left = c.args.left in
    let t = c.in-Some.timing in
    let old = lines_so_far c.args.draft.now in
    let new = lines_so_far c.put_timing.new.draft in
    lift_bool c.put_timing.result (new ≡ old ++ timing_line t ∷ []) (left < 18) (new ≡ old ++ l ∷ []) (TimingFits left l ⊎ TailFits left l → ⊥)
    (λ e. e ∙ ap (λ x. old ++ x ∷ []) c.in-Some.ensures) (λ less. no_room left t l c.in-Some.ensures less) c.put_timing.ensures

pub returns-in_default-bytes_of : goal.returns-in_default-bytes_of
returns-in_default-bytes_of c = λ f. no_words c.args.left c.args.line.now c.in_default.ensures c.in_default-bytes_of.ensures f

pub returns : goal.returns
returns c =
    let l = c.args.line.now in
    let left = c.args.left in
    let bytes = c.in-Some-bytes_of.bytes.now in
    let old = lines_so_far c.args.draft.now in
    let new = lines_so_far c.put_tail.new.draft in
    lift_bool c.put_tail.result (new ≡ old ++ bytes_line Tail bytes ∷ []) (ends left bytes ≡ false) (new ≡ old ++ l ∷ []) (TimingFits left l ⊎ TailFits left l → ⊥)
    (λ e. e ∙ ap (λ x. old ++ x ∷ []) c.in-Some-bytes_of.ensures) (λ not. no_tail left bytes l c.in_default.ensures c.in-Some-bytes_of.ensures not) c.put_tail.ensures
