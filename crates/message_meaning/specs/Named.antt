-- Which opcodes have a sentence.
use Rattle.std.specs.Prelude.{◌≡◌, ℕ, is_some}
use Rattle.message_table.specs.Table.{name_of}
use Rattle.message_meaning.specs.Sentences.{sentence_of}

-- just those that have a name
abbrev pub NamedOpcodesHaveSentences : Type 0
NamedOpcodesHaveSentences = (code : ℕ) → is_some (sentence_of code) ≡ is_some (name_of code)
