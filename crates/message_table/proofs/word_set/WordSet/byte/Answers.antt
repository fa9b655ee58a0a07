use Rattle.std.proofs.Common.{List, ap, ◌∙◌}
use Rattle.message_table.specs.Naming.{byte_of}
use Rattle.message_table.specs.WordSets.{NamedByte, words_of}
use Rattle.message_table.proofs.NamingLemmas.{found_if, none_if, sets_own}
use Rattle.message_table.proofs.word_set.WordSet.byte.Goals as goal

pub returns-clause-found : goal.returns-clause-found
returns-clause-found c =
    found_if (words_of c.args.self) c.args.text.now c.byte_in.result (sets_own c.args.self)
    (c.byte_in.ensures ∙ ap (λ (ws : List NamedByte). byte_of ws c.args.text.now) c.words.ensures)

pub returns-clause-none : goal.returns-clause-none
returns-clause-none c =
    none_if (words_of c.args.self) c.args.text.now c.byte_in.result
    (c.byte_in.ensures ∙ ap (λ (ws : List NamedByte). byte_of ws c.args.text.now) c.words.ensures)
