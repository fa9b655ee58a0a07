use Rattle.std.proofs.Common.{◌∙◌, ap, sym}
use Rattle.std.specs.Option.{option_copied}
use Rattle.text_core.specs.Words.{text_of, words_after}
use Rattle.expect_text.proofs.Parted.{text_again}
use Rattle.expect_text.proofs.form.text_from.Goals as goal

pub returns-in-Some : goal.returns-in-Some
returns-in-Some c = sym (text_again c.in-Some.text.now) ∙ ap text_of (ap (λ o. words_after (option_copied o)) (sym c.in-Some.is) ∙ c.rest.ensures)
