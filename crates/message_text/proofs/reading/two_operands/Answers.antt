use Rattle.std.proofs.Common.{◌≡◌, ◌≤◌, ◌+◌, Some, take, drop, length, sym, ap, ◌∙◌, arith}
use Rattle.message_table.specs.Operands.{size_of}
use Rattle.message_text.proofs.Spelled.{both_parts, bytes_dropped, bytes_taken, parted, parted_length, two_again, word_blank, second_at}
use Rattle.message_text.proofs.Shapes.{operand_is_word}
use Rattle.message_text.specs.FrameText.{operand_word}
use Rattle.message_text.proofs.reading.two_operands.Goals as goal

pub returns : goal.returns
returns c = λ xs bytes len e.
    let n = size_of c.args.first in
    let t = c.args.text.now in
    let k = both_parts (operand_word c.args.first (take n xs)) (operand_word c.args.second (drop n xs)) t e in
    let last = word_blank k.second (operand_is_word c.args.second (drop n xs) k.second k.is_second) in
    let cut = two_again k.first k.second t (operand_is_word c.args.first (take n xs) k.first k.is_first) last k.whole in
    let at : c.second_word-end.result ≡ second_at t = c.second_word-end.ensures in
    let one : c.before-2.result.now ≡ k.first = c.before-2.ensures ∙ rw at cut.0 in
    let two : c.after.result.now ≡ k.second = c.after.ensures ∙ rw at cut.1 in
    let front = c.operand_bytes-front.ensures (take n xs) (bytes_taken n xs bytes) (k.is_first ∙ ap (λ v. Some v) (sym one)) in
    let back = c.operand_bytes-back.ensures (drop n xs) (bytes_dropped n xs bytes) (k.is_second ∙ ap (λ v. Some v) (sym two)) in
    let left : c.deref.result.now ≡ take n xs = c.deref.ensures.0 ∙ front in
    let right : c.deref-2.result.now ≡ drop n xs = c.deref-2.ensures.0 ∙ back in
    let few : length (take n xs) + length (drop n xs) ≤ 16 = omega (arith, parted_length n xs) in
    c.joined.ensures (rw (left, right) few) ∙ rw (left, right) (parted n xs)
