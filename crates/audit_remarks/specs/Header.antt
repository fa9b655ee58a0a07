-- The header block of a frame, by the bits of its reading: initiator and destination (CEC 6.1.1), and which of its blocks
-- were taken (CEC 6.1.2). Bits that were not read count as 0.
use Rattle.std.specs.Prelude.{ℕ, ◌+◌, ◌-◌, ◌*◌, ◌/◌, ◌%◌, ◌==◌, Bool, true, false, not, nat_lt, ◌&&◌, if◌then◌else◌, List, length, slice_index_or, ◌||◌, Option, Some, None, is_none}
use mathlib.Core.Bool.{beq}
use Rattle.line_frames.specs.Blocks.{bit_value}
use Rattle.line_frames.specs.declared.Ending.{Ending}
use Rattle.line_frames.specs.declared.Ending.TheVariants.{Silent, Long}
use Rattle.message_text.specs.ReadingText.{is_complete}
use Rattle.audit_remarks.specs.declared.header.FrameHead.{FrameHead}
use Rattle.line_reading.specs.Reading.{first_in}
use Rattle.line_reading.specs.Sending.{bit_read}

-- the number of four bits from a place on, counted from 0
abbrev pub nibble_at : List Bool → ℕ → ℕ
nibble_at bits k =
    bit_value 8 (slice_index_or bits k false) + bit_value 4 (slice_index_or bits (k + 1) false) + bit_value 2 (slice_index_or bits (k + 2) false) + bit_value 1 (slice_index_or bits (k + 3) false)

abbrev pub initiator_of : List Bool → ℕ
initiator_of bits = nibble_at bits 0

abbrev pub destination_of : List Bool → ℕ
destination_of bits = nibble_at bits 4

abbrev pub is_to_all : List Bool → Bool
is_to_all bits = destination_of bits == 15

-- a block follows the header: its end-of-message bit, the ninth, was read 0 (CEC 6.1.2)
abbrev pub goes_on : List Bool → Bool
goes_on bits = nat_lt 8 (length bits) && not (slice_index_or bits 8 false)

-- a header alone, by which a device is polled: its end-of-message bit was read 1
abbrev pub is_poll : List Bool → Bool
is_poll bits = slice_index_or bits 8 false

-- A poll of its own address asks whether anybody has it: nobody is to acknowledge it (CEC 10.2.1). A header that is cut off
-- before its end-of-message bit may be one (own); what goes on after its header is none.
abbrev pub seeks_address : List Bool → Bool
seeks_address bits = (initiator_of bits == destination_of bits) && (not (initiator_of bits == 15) && not (goes_on bits))

-- The acknowledge slot of a block, counted from 1, was read 0, or of a frame to all 1: nobody refused it (CEC 6.1.2).
abbrev pub is_taken : List Bool → ℕ → Bool
is_taken bits block = beq (bit_read bits (10 * block)) (is_to_all bits)

-- the first of the blocks that was not
abbrev pub failed_block : List Bool → Option ℕ
failed_block bits = first_in (λ block. not (is_taken bits block)) 1 (length bits / 10)

-- Its last block was not taken, and what polls its own address is not to be.
abbrev pub is_last : ℕ → Option ℕ → Bool
is_last block None = false
is_last block (Some failed) = block == failed

abbrev pub ends_untaken : List Bool → Bool
ends_untaken bits = not (seeks_address bits) && ((length bits % 10 == 0) && is_last (length bits / 10) (failed_block bits))

-- and no bit follows it: its initiator stops there, as it has to (CEC 7.1)
abbrev pub stops_untaken : Ending → List Bool → Bool
stops_untaken Silent bits = ends_untaken bits
stops_untaken _ bits = false

-- the frame was read whole and taken
abbrev pub is_delivered : Ending → List Bool → Bool
is_delivered ending bits = is_complete ending && is_none (failed_block bits)

-- ---- a frame that breaks off between two blocks

abbrev pub breaks_off : Ending → Bool
breaks_off Silent = true
breaks_off Long = true
breaks_off _ = false

-- The block after which nothing follows, though its end-of-message bit was read 0 (CEC 6.1.2), and each block was taken: who
-- sends a block that is not taken stops there.
abbrev pub is_unfinished : Ending → List Bool → Bool
is_unfinished ending bits =
    breaks_off ending && (nat_lt 9 (length bits) && ((length bits % 10 == 0) && (is_none (failed_block bits) && not (slice_index_or bits (length bits - 2) false))))

abbrev pub unfinished : Ending → List Bool → Option ℕ
unfinished ending bits = if is_unfinished ending bits then Some (length bits / 10) else None

-- ---- what is read of a frame that ends after whole blocks: its header, and its opcode, which is the second block (CEC 6.1)

abbrev pub opcode_read : List Bool → Option ℕ
opcode_read bits = if nat_lt (length bits) 20 then None else Some (nibble_at bits 10 * 16 + nibble_at bits 14)

abbrev pub head_of : List Bool → FrameHead
head_of bits = record { initiator = initiator_of bits; destination = destination_of bits; opcode = opcode_read bits }

abbrev pub head_read : Ending → List Bool → Option FrameHead
head_read ending bits = if is_complete ending || nat_lt (length bits) 10 then None else Some (head_of bits)
