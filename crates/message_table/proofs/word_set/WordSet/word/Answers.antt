use Rattle.std.proofs.Common.{List, ap, ◌∙◌}
use Rattle.message_table.specs.WordSets.{NamedByte, word_of, words_of}
use Rattle.message_table.proofs.TextLemmas.{short_if, sets_short}
use Rattle.message_table.proofs.word_set.WordSet.word.Goals as goal

pub returns-clause-value : goal.returns-clause-value
returns-clause-value c = c.text_in.ensures ∙ ap (λ (ws : List NamedByte). word_of ws c.args.byte) c.words.ensures

pub returns-clause-short : goal.returns-clause-short
returns-clause-short c =
    short_if 15 (words_of c.args.self) c.args.byte c.text_in.result (sets_short c.args.self)
    (c.text_in.ensures ∙ ap (λ (ws : List NamedByte). word_of ws c.args.byte) c.words.ensures)
