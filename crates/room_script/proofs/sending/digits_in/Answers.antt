use Rattle.std.proofs.Common.{sym, ap, ◌∙◌}
use Rattle.std.specs.Option.{option_copied}
use Rattle.text_core.specs.Words.{text_of, words_after}
use Rattle.room_script.proofs.Reading.{text_of-words_of}
use Rattle.room_script.proofs.sending.digits_in.Goals as goal

pub returns-in-Some : goal.returns-in-Some
returns-in-Some c = sym (ap (λ r. text_of (words_after (option_copied r))) c.in-Some.is ∙ text_of-words_of c.in-Some.digits.now)
