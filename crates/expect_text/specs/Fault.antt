-- Which word of a line is at fault (own): its number from 0; where one is missing, the number that it would have.
use Rattle.std.specs.Prelude.{ℕ, ◌+◌, ◌<◌, ◌^◌, List, Option, Some, None}
use Rattle.text_core.specs.At.{at_word}
use Rattle.text_core.specs.declared.at.AtWord.{AtWord}
use Rattle.expect_text.specs.declared.form.ExpectCause.{ExpectCause}

-- a label takes two words
abbrev pub after_label : Option (List ℕ) → AtWord ExpectCause → AtWord ExpectCause
after_label None fault = fault
after_label (Some name) fault = at_word (2 + fault.word) fault.cause

-- two more words can stand before it
abbrev pub IsNear : AtWord ExpectCause → Type 0
IsNear fault = fault.word + 2 < 2 ^ 64
