-- What the slots of a piece say: initiator and destination (CEC 6.1.1), and which of its blocks were taken (CEC 6.1.2).
use Rattle.std.specs.Prelude.{ℕ, ◌+◌, ◌*◌, ◌/◌, ◌==◌, Bool, not, nat_lt, nat_le, ◌&&◌, if◌then◌else◌, List, length, Option, Some, None}
use mathlib.Core.Bool.{beq}
use Rattle.line_frames.specs.Blocks.{bit_value}
use Rattle.line_reading.specs.Reading.{first_in}
use Rattle.audit_pieces.specs.declared.piece.Slot.{Slot}
use Rattle.audit_pieces.specs.Slots.{bit_of, slot_at}

-- the bit of a slot, counted from 1; of one that was not read 0
abbrev pub bit_at : List Slot → ℕ → Bool
bit_at slots k = nat_le k (length slots) && bit_of (slot_at slots k)

-- the number of the four bits from a slot on
abbrev pub nibble_at : List Slot → ℕ → ℕ
nibble_at slots k = bit_value 8 (bit_at slots k) + bit_value 4 (bit_at slots (k + 1)) + bit_value 2 (bit_at slots (k + 2)) + bit_value 1 (bit_at slots (k + 3))

-- who sends, and to whom, where that was read
abbrev pub initiator_of : List Slot → Option ℕ
initiator_of slots = if nat_lt (length slots) 4 then None else Some (nibble_at slots 1)

abbrev pub destination_of : List Slot → Option ℕ
destination_of slots = if nat_lt (length slots) 8 then None else Some (nibble_at slots 5)

abbrev pub is_to_all : List Slot → Bool
is_to_all slots = nibble_at slots 5 == 15

-- the acknowledge of a block, counted from 1, is 0, or of a frame to all 1: nobody refuses it (CEC 6.1.2)
abbrev pub is_taken : List Slot → ℕ → Bool
is_taken slots block = beq (bit_at slots (10 * block)) (is_to_all slots)

-- the first block that was not
abbrev pub failed_block : List Slot → Option ℕ
failed_block slots = first_in (λ block. not (is_taken slots block)) 1 (length slots / 10)
