use Rattle.std.proofs.Common.{◌≡◌, map, take}
use Rattle.message_text.specs.ReadingText.{bit_digit}
use Rattle.message_text.proofs.reading_text.bits_text.Given as goal

-- the digits of the bits so far
abbrev pub invariant-loop-bit : goal.invariant-loop-bit
invariant-loop-bit l = record { digits : l.text.items ≡ map bit_digit (take l.bit-index l.bits) }
