use Rattle.std.proofs.Common.{◌≡◌, List, ℕ, false, sym, subst, ◌∙◌}
use Rattle.text_core.specs.Written.{Written}
use Rattle.text_core.specs.Lines.{is_skipped}
use Rattle.message_text.specs.FrameLines.{IsTextOf, hex_line}
use Rattle.message_text.proofs.FrameLineLemmas.{lone}
use Rattle.message_text.proofs.frame_lines.write_frame_line.Goals as goal

pub returns-in-Some-clause-whole : goal.returns-in-Some-clause-whole
returns-in-Some-clause-whole g c = λ frames a.
    let line = c.args.line.now in
    let frame = c.in-Some.frame in
    let is_reported : is_skipped line ≡ false = sym c.is_skipped.ensures ∙ c.if-is_skipped.false in
    let only : (other : List ℕ) → IsTextOf line other → frame ≡ other =
    λ other t. let found = c.candidate.ensures other t.whole t.text in let is = c.in-Some.is in cc (found, is) in
    let text : c.deref.result.now ≡ hex_line frame = c.deref.ensures.0 ∙ c.hex_line.ensures in
    let reported = lone line frame frames is_reported only a in
    let P : List ℕ → Type 0 = λ t. Written (g.S.Sink.contents c.args.out.now) (g.S.Sink.contents c.put_line-in-Some.new.out)
    (g.S.Sink.is_stuck c.args.out.now) (g.S.Sink.is_stuck c.put_line-in-Some.new.out) t c.put_line-in-Some.result in
    subst P (text ∙ sym reported) c.put_line-in-Some.ensures
