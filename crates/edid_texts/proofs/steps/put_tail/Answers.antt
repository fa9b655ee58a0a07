use Rattle.std.proofs.Common.{◌≡◌, arith, refl, sym, ap, List, ◌++◌, ◌∷◌, [], ◌∙◌}
use Rattle.arrayvec.specs.declared.array_vec.ArrayVec.{ArrayVec}
use Rattle.edid_base.proofs.Bytes.{are_bytes-cells}
use Rattle.edid_base.specs.declared.timing.Timing.{Timing}
use Rattle.edid_cta.specs.declared.block.DataBlock.{DataBlock}
use Rattle.edid_text_lines.specs.declared.line.Line.{Line}
use Rattle.edid_texts.specs.Draft.{OfOpened}
use Rattle.edid_texts.specs.Drafts.{draft_lines, lines_so_far}
use Rattle.edid_texts.specs.Lines.{bytes_line}
use Rattle.edid_texts.specs.declared.stage.Stage.TheVariants.{Opened as AtOpened}
use Rattle.edid_text_lines.specs.declared.line.Keyword.TheVariants.{Tail}
use Rattle.edid_texts.proofs.ExtSteps.{tail_ended, tail_fits, taken_reported, taken_whole}
use Rattle.edid_texts.proofs.Places.{fits_at, lines_are, opened_at}
use Rattle.edid_texts.proofs.steps.put_tail.Goals as goal

pub invariant_of-cta : goal.invariant_of-cta
invariant_of-cta c =
    let o = opened_at c.args.draft.now c.args.flags c.args.left c.requires in
    let bytes = c.args.bytes.now in
    let tail = c.in-Some.tail.items in
    let reported = c.in-Some.ensures in
    let blocks = ap (λ (xs : ArrayVec DataBlock 123 (Unit {0})). xs.items) c.replace.ensures.value in
    let timings = ap (λ (xs : ArrayVec Timing 6 (Unit {0})). xs.items) c.replace-2.ensures.value in
    record {
      whole = taken_whole o c.replace.result.items c.replace-2.result.items bytes tail blocks timings reported.0 reported.1;
      ended = tail_ended o.left bytes tail reported.0 reported.1;
      bytes_fit = tail_fits o.left o.flags bytes tail o.flags_fit (are_bytes-cells bytes (λ i. let h = c.type_inv.bytes i in omega (arith, h))) reported.1;
    }

pub returns : goal.returns
returns c =
    let d = c.args.draft.now in
    let o = opened_at d c.args.flags c.args.left c.requires in
    let blocks = ap (λ (xs : ArrayVec DataBlock 123 (Unit {0})). xs.items) c.replace.ensures.value in
    let timings = ap (λ (xs : ArrayVec Timing 6 (Unit {0})). xs.items) c.replace-2.ensures.value in
    let old : lines_so_far d ≡ draft_lines (OfOpened o) = lines_are d (AtOpened c.args.flags c.args.left) c.requires in
    c.put_extension.ensures
    ∙ (taken_reported o c.replace.result.items c.replace-2.result.items c.args.bytes.now c.in-Some.tail.items blocks timings c.in-Some.ensures.0 c.in-Some.ensures.1
    ∙ ap (λ (ls : List Line). ls ++ bytes_line Tail c.args.bytes.now ∷ []) (sym old))

pub invariant_of-draft : goal.invariant_of-draft
invariant_of-draft c =
    let fits = fits_at c.args.draft.now (AtOpened c.args.flags c.args.left) c.requires in
    record { fits = (omega arith, fits.1, omega (arith, fits.1), omega arith, refl, omega arith) }
