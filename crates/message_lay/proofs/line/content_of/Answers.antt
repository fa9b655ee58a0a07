use Rattle.std.proofs.Common.{◌+◌, sym, ◌∙◌}
use Rattle.text_core.specs.Words.{words_of}
use Rattle.message_lay.proofs.Reading.{blocks_given, content_blocks, content_frame}
use Rattle.message_lay.proofs.line.content_of.Goals as goal

pub returns-then-not-is_blocks_word : goal.returns-then-not-is_blocks_word
returns-then-not-is_blocks_word c =
    rw c.in-Some.is (content_frame c.args.at c.in-Some.text.now c.first_word.result.0.now _ _ c.first_word.ensures
    (sym c.is_blocks_word.ensures ∙ c.if-not-is_blocks_word.true) c.frame_of.ensures)

pub returns-in-Some-after : goal.returns-in-Some-after
returns-in-Some-after c =
    let digits = c.in-Some-after.digits.now in
    let words = rw c.in-Some-after.is at c.first_word.ensures in
    rw c.in-Some.is (content_blocks c.args.at c.in-Some.text.now c.first_word.result.0.now (words_of digits) _ words
    (sym c.is_blocks_word.ensures ∙ c.if-not-is_blocks_word.false) (c.blocks_of.ensures ∙ sym (blocks_given (c.args.at + 1) digits)))
