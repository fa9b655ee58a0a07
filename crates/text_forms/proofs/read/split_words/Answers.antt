use Rattle.std.proofs.Common.{◌∙◌, ap, option_copied}
use Rattle.text_core.specs.Words.{words_of, words_after}
use Rattle.text_forms.proofs.Split.{word_more}
use Rattle.text_forms.proofs.read.split_words.Goals as goal

pub words-preserved : goal.words-preserved
words-preserved c =
    word_more (λ w. w.now) c.words.words.items c.push.new.self.items c.first_word.result.0 (words_of c.args.line.now) (words_after (option_copied c.words.rest)) (words_after (option_copied c.first_word.result.1))
    c.words.invariant (ap (λ o. words_after (option_copied o)) c.in-Some.is ∙ c.first_word.ensures) c.push.ensures.items
