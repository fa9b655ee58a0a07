use Rattle.std.proofs.Common.{◌≡◌, suc, ◌++◌, List, length, ap, ◌∙◌, append_assoc, arith}
use Rattle.std.specs.Option.{option_copied, option_to_list}
use Rattle.line_wave.specs.declared.Edge.{Edge}
use Rattle.capture_core.specs.Reading.{left_length, words_left}
use Rattle.capture_core.proofs.Passing.{word_more}
use Rattle.capture_core.proofs.reading.read_line.Goals as goal

pub words-preserved : goal.words-preserved
words-preserved g c =
    let form = g.R.TakesWords.form in
    let so_far = c.words.invariant in
    let edge = c.in-Ok.edge in (
      so_far.0 ++ option_to_list edge,
      c.in_ok-add-in-Ok.ensures {u = tt} ∙ ap (λ (es : List Edge). es ++ option_to_list edge) so_far.1 ∙ append_assoc c.args.edges.now.items so_far.0 (option_to_list edge),
      word_more form c.args.line_number c.words.number c.first_word.result.0.now _ (words_left form (option_copied c.first_word.result.1)) (g.R.TakesWords.state c.words.reader)
          (record { state = g.R.TakesWords.state c.take.new.self; edge = edge }) so_far.0 _ so_far.2 (ap (λ o. words_left form (option_copied o)) c.in-Some.is ∙ c.first_word.ensures.words) c.in-Ok.ensures,
      (let full : left_length (option_copied c.words.left) ≡ suc (length c.in-Some.words.now) = ap (λ o. left_length (option_copied o)) c.in-Some.is in
          omega (arith, so_far.3, full, c.first_word.ensures.shorter)),
    )
