use Rattle.std.proofs.Common.{◌≡◌, ◌∙◌, ap, arith, subst, sym}
use Rattle.text_core.specs.At.{at_line, at_word}
use Rattle.text_core.specs.Lines.{lines_of}
use Rattle.message_text.specs.Causes.{frame_word}
use Rattle.message_text.specs.FrameLines.{IsFirstFault}
use Rattle.message_text.proofs.FrameLineLemmas.{checked_none, checked_more, fault_at, all_reported}
use Rattle.message_text.proofs.frame_lines.check_lines.Goals as goal

pub loop-current-init : goal.loop-current-init
loop-current-init c = record { checked = checked_none c.args.text.now; room = omega arith }

pub returns-in-Err : goal.returns-in-Err
returns-in-Err c =
    let line = c.loop-current.line in
    let cause = c.in-Err.cause in
    let same : c.on_line.result ≡ at_line line (at_word (frame_word cause) cause) =
    c.on_line.ensures ∙ ap (at_line line) (c.at_word.ensures ∙ ap (λ word. at_word word cause) c.frame_word.ensures) in
    subst (IsFirstFault (lines_of c.args.text.now)) (sym same)
    (fault_at c.args.text.now c.loop-current.rest.now c.in-Some.after.now c.in-Some.current.now line cause
    c.loop-current.invariant.checked c.in-Some.ensures.lines c.in-Err.ensures)

pub loop-current-preserved : goal.loop-current-preserved
loop-current-preserved c =
    let shorter = c.in-Some.ensures.shorter in
    let room = c.loop-current.invariant.room in
    record {
      checked = checked_more c.args.text.now c.loop-current.rest.now c.in-Some.after.now c.in-Some.current.now c.loop-current.line c.in_default-frame_of.field-0
          c.loop-current.invariant.checked c.in-Some.ensures.lines c.in_default-frame_of.ensures;
      room = omega arith;
    }

pub returns : goal.returns
returns c = all_reported c.args.text.now c.loop-current.rest.now c.loop-current.line c.loop-current.invariant.checked c.in_default.ensures.lines
