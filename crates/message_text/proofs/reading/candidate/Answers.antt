use Rattle.std.proofs.Common.{◌≡◌, ◌≤◌, ◌∷◌, Some, take, drop, length, refl, sym, ap, ◌∙◌, arith}
use Rattle.message_text.specs.FrameText.{operands_text}
use Rattle.message_text.proofs.Whole.{first_len, named_again, command_again}
use Rattle.message_text.proofs.reading.candidate.Goals as goal

pub returns-in_err-code : goal.returns-in_err-code
returns-in_err-code c = λ frame ok e.
    let t = c.args.text.now in
    let words : c.after-words.result.now ≡ drop 4 t = c.after-words.ensures in
    let n : c.word_len-end.result ≡ first_len (drop 4 t) = c.word_len-end.ensures.value ∙ ap first_len words in
    let front : c.before-2.result.now ≡ take (first_len (drop 4 t)) (drop 4 t) = c.before-2.ensures ∙ rw (n, words) refl in
    absurd (named_again frame t ok e (λ h. c.if-text-eq3.false h)
    (λ code small k. c.in_err-code.ensures.none code small (k ∙ sym front)))

pub returns : goal.returns
returns c = λ frame ok e.
    let t = c.args.text.now in
    let words : c.after-words.result.now ≡ drop 4 t = c.after-words.ensures in
    let n : c.word_len-end.result ≡ first_len (drop 4 t) = c.word_len-end.ensures.value ∙ ap first_len words in
    let front : c.before-2.result.now ≡ take (first_len (drop 4 t)) (drop 4 t) = c.before-2.ensures ∙ rw (n, words) refl in
    let back : c.after.result.now ≡ drop (first_len (drop 4 t)) (drop 4 t) = c.after.ensures ∙ rw (n, words) refl in
    let again = command_again frame t c.in_ok-code.code c.operands_in.result.items ok e (λ h. c.if-text-eq3.false h) (omega arith)
    (c.in_ok-code.ensures.found ∙ front)
    (λ xs bytes len k. c.operands_in.ensures xs bytes len (back ∙ k ∙ ap (λ f. operands_text f xs) (sym c.operands_of.ensures))) in
    let len : length c.deref.result.now ≤ 14 = rw c.deref.ensures.0 again.1 in
    let whole : c.hex_at-header.result ∷ c.in_ok-code.code ∷ c.deref.result.now ≡ frame = rw (c.hex_at-header.ensures, c.deref.ensures.0) again.0 in
    c.command.ensures len ∙ ap (λ f. Some f) whole
