use Rattle.std.proofs.Common.{◌≡◌, ◌+◌, ◌<◌, ◌∷◌, [], drop, ap, subst, arith, sym, ◌∙◌}
use Rattle.std.specs.Option.{option_copied}
use Rattle.text_core.specs.Words.{words_of, words_after}
use Rattle.edid_texts.specs.Refusal.{word_count}
use Rattle.edid_texts.specs.Words.{FitsAt}
use Rattle.edid_texts.proofs.Passing.{next_is, more_pass, never_ends}
use Rattle.edid_texts.proofs.fields.unfit_word.Goals as goal

pub returns-in_default : goal.returns-in_default
returns-in_default c =
    let i = c.words.invariant in
    let none : [] ≡ drop c.words.index (words_of c.args.front.now) = sym (ap (λ r. words_after (option_copied r)) c.in_default.is) ∙ i.left in
    record { least = i.least; passed = i.passed; stopped = λ p. never_ends c.args.front.now c.words.index none p.0 }

pub words-preserved : goal.words-preserved
words-preserved c =
    let i = c.words.invariant in
    let first = c.first_word-in-words.result in
    let left : first.0.now ∷ words_after (option_copied first.1) ≡ drop c.words.index (words_of c.args.front.now) = sym c.first_word-in-words.ensures ∙ sym (ap (λ r. words_after (option_copied r)) c.in-Some.is) ∙ i.left in
    let next = next_is (words_of c.args.front.now) c.words.index first.0.now (words_after (option_copied first.1)) left in
    let test = c.words-test.true in
    let count = c.requires in
    let less : c.words.index + 1 < word_count c.args.front.now = omega (arith, test, count) in
    let fits = subst (FitsAt c.args.word c.words.index) (sym next.0) c.if-not-fits_at.ensures in
    record {
      least = omega arith;
      passed = more_pass c.args.word c.args.front.now c.words.index i.passed (less, fits);
      left = next.1;
    }
