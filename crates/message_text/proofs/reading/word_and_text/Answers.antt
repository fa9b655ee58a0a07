use Rattle.std.proofs.Common.{◌≡◌, ◌∷◌, [], Some, take, drop, length, refl, sym, ap, ◌∙◌, arith, ◌==◌}
use Rattle.std.proofs.lemmas.Bool.{false≢true}
use Rattle.message_text.proofs.Spelled.{second_at}
use Rattle.message_text.proofs.Shapes.{word_with_text}
use Rattle.message_text.specs.FrameReading.{within_quotes}
use Rattle.message_text.proofs.reading.word_and_text.Goals as goal

pub returns : goal.returns
returns c = λ xs bytes len e.
    let t = c.args.text.now in
    let at : c.second_word-end.result ≡ second_at t = c.second_word-end.ensures in
    let front : c.before-2.result.now ≡ take (second_at t) t = c.before-2.ensures ∙ rw at refl in
    let rest : c.after-rest.result.now ≡ drop (second_at t) t = c.after-rest.ensures ∙ rw at refl in
    let some : drop (second_at t) t ≡ [] → ⊥ = λ h.
    let none : length c.after-rest.result.now ≡ 0 = ap length (rest ∙ h) in
    false≢true (sym c.if-is_empty.false ∙ c.is_empty.ensures ∙ ap (λ n. n == 0) none) in
    let again = word_with_text c.args.set xs t c.spaced_byte-byte.result bytes e
    (λ b small k. c.spaced_byte-byte.ensures b small (k ∙ ap (λ v. Some v) (sym front))) some in
    let inner : within_quotes c.after-rest.result.now ≡ within_quotes (drop (second_at t) t) = ap within_quotes rest in
    let size : length (c.spaced_byte-byte.result ∷ within_quotes (drop (second_at t) t)) ≡ length xs = ap length again in
    let text : c.deref.result.now ≡ within_quotes (drop (second_at t) t) =
    c.deref.ensures.0 ∙ c.within_quotes.ensures (rw inner (omega arith)) ∙ inner in
    c.joined.ensures (rw text (omega arith)) ∙ rw text again
