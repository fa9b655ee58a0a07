use Rattle.std.proofs.Common.{◌≡◌, false, rules}
use Rattle.text_core.specs.Words.{words_of}
use Rattle.expect_text.specs.Line.{is_expectation}
use Rattle.expect_text.proofs.Parted.{plain_rest}
use Rattle.expect_text.proofs.line.plain_words.Goals as goal

pub returns-in-Some : goal.returns-in-Some
returns-in-Some c =
    let no : is_expectation (words_of c.in-Some.rest.now) ≡ false = search rules in
    let same = plain_rest c.in-Some.rest.now no in
    rw c.in-Some.is same
