-- The slots of a frame that is read wide: which bits they hold (CEC 5.2.2), and how many its blocks ask for (CEC 6.1).
use Rattle.std.specs.Prelude.{ℕ, ◌-◌, ◌%◌, ◌==◌, Bool, nat_lt, nat_le, ◌&&◌, ◌||◌, List, length, slice_index_or, slice_set, None, Some, is_none}
use Rattle.line_reading.specs.Windows.{sample_at}
use Rattle.line_frames.specs.Bits.{most_bits}
use Rattle.audit_pieces.specs.declared.stretch.LowStretch.{LowStretch}
use Rattle.audit_pieces.specs.declared.piece.Slot.{Slot}
use Rattle.audit_pieces.specs.Bounds.{bit_period}

-- a slot of one low stretch
abbrev pub slot_of : LowStretch → Slot
slot_of x = record { fall = x.fall; rise = x.rise; late = None }

-- Of two: who acknowledges pulled the line low again only after the initiator had let it go (CEC 5.2.3).
abbrev pub late_slot : Slot → LowStretch → Slot
late_slot slot x = record { fall = slot.fall; rise = x.rise; late = Some x.fall }

abbrev pub no_slot : Slot
no_slot = record { fall = 0; rise = 0; late = None }

-- a bit is a 1 where its slot is low for no longer than up to its sample (CEC 5.2.2)
abbrev pub bit_of : Slot → Bool
bit_of slot = nat_le (slot.rise - slot.fall) sample_at

-- the slot that so many slots end with
abbrev pub slot_at : List Slot → ℕ → Slot
slot_at slots k = slice_index_or slots (k - 1) no_slot

abbrev pub last_slot : List Slot → Slot
last_slot slots = slot_at slots (length slots)

-- ---- blocks: ten slots each, of which the ninth is EOM and the tenth the acknowledge (CEC 6.1)

-- whole blocks were read
abbrev pub ends_block : List Slot → Bool
ends_block slots = nat_lt 0 (length slots) && (length slots % 10 == 0)

-- the last of them has its EOM 1
abbrev pub has_eom : List Slot → Bool
has_eom slots = bit_of (slot_at slots (length slots - 1))

-- All slots that the blocks ask for: up to the acknowledge of the first one whose EOM is 1, or of the sixteenth (CEC 6.1.2).
abbrev pub is_whole : List Slot → Bool
is_whole slots = ends_block slots && (has_eom slots || (length slots == most_bits))

-- what comes next is the acknowledge of a block whose EOM is 1
abbrev pub asks_last : List Slot → Bool
asks_last slots = (length slots % 10 == 9) && bit_of (last_slot slots)

-- ---- a late acknowledge

-- In an acknowledge slot of one low stretch so far, a bit that falls by the sample, and rises within a bit's time, is of that slot.
abbrev pub is_late : List Slot → LowStretch → Bool
is_late slots x =
    ends_block slots && (is_none (last_slot slots).late && (nat_le (x.fall - (last_slot slots).fall) sample_at && nat_lt (x.rise - (last_slot slots).fall) bit_period))

abbrev pub with_late : List Slot → LowStretch → List Slot
with_late slots x = slice_set slots (length slots - 1) (late_slot (last_slot slots) x)
