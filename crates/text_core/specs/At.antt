-- Where a text is at fault.
use Rattle.std.specs.Prelude.{ℕ}
use Rattle.text_core.specs.declared.at.At.{At}
use Rattle.text_core.specs.declared.at.AtWord.{AtWord}

-- a word at fault
abbrev pub at_word : {C : Type 0} → ℕ → C → AtWord C
at_word word cause = record { cause = cause; word = word }

-- the same, of a line of a text
abbrev pub at_line : {C : Type 0} → ℕ → AtWord C → At C
at_line line fault = record { line = line; cause = fault.cause; word = fault.word }
