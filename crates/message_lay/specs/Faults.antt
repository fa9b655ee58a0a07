-- What a sender of nominal times pulls for blocks (CEC 5.2, 6), with a fault (own). Slots and blocks count from 1.
use Rattle.std.specs.Prelude.{ℕ, ◌+◌, ◌-◌, ◌*◌, ◌/◌, Bool, true, nat_le, nat_lt, ◌&&◌, min, max, if◌then◌else◌, List, [], ◌∷◌, map, length, take, slice_set, Result, Ok, Err}
use Rattle.arrayvec.specs.declared.array_vec.ArrayVec.{ArrayVec}
use Rattle.line_wave.specs.declared.Stretch.{Stretch}
use Rattle.line_wave.specs.Sender.{first_slot, slot_width}
use Rattle.line_rounds.specs.Round.{short_pull}
use Rattle.line_frames.specs.Bits.{frame_bits}
use Rattle.message_lay.specs.Bits.{nominal_bit, nominal_start, stretches_of}
use Rattle.text_core.specs.At.{at_word}
use Rattle.message_lay.specs.declared.bits.BitTimes.{BitTimes}
use Rattle.message_lay.specs.declared.fault.LayCause.TheVariants.{Slot}
use Rattle.message_lay.specs.declared.fault.LayCause.{LayCause}
use Rattle.text_core.specs.declared.at.AtWord.{AtWord}
use Rattle.message_lay.specs.declared.pulls.Fault.{Fault}
use Rattle.message_lay.specs.declared.pulls.Fault.TheVariants.{Absent, Eom, Bit, Start, Last, Drive, Glitch}

abbrev pub is_among : ℕ → ℕ → Bool
is_among number count = nat_le 1 number && nat_le number count

-- so many slots, ten a block, have the slot or the block of a fault
abbrev pub fits : Fault → ℕ → Bool
fits Absent slots = true
fits (Start times) slots = true
fits (Eom block bit) slots = is_among block (slots / 10)
fits (Bit slot times) slots = is_among slot slots
fits (Last slot) slots = is_among slot slots
fits (Drive slot) slots = is_among slot slots
fits (Glitch slot after low) slots = is_among slot slots

abbrev pub start_times : Fault → BitTimes
start_times (Start times) = times
start_times _ = nominal_start

-- a low drive (CEC 7.4)
abbrev pub low_drive : BitTimes
low_drive = record { low = short_pull; total = short_pull }

-- Slots with a fault: the ninth of a block is its end-of-message bit (CEC 6.1).
abbrev pub with_fault : Fault → List BitTimes → List BitTimes
with_fault (Eom block bit) slots = slice_set slots (10 * block - 2) (nominal_bit bit)
with_fault (Bit slot times) slots = slice_set slots (slot - 1) times
with_fault (Last slot) slots = take slot slots
with_fault (Drive slot) slots = slice_set (take slot slots) (slot - 1) low_drive
with_fault _ slots = slots

-- a pull that begins so long after the nominal fall of a slot
abbrev pub glitch_at : ℕ → ℕ → ℕ → ℕ → Stretch
glitch_at start slot after low = record {
  from = start + first_slot + slot_width * (slot - 1) + after;
  to = start + first_slot + slot_width * (slot - 1) + after + low;
}

-- a pull, joined with those of the stretches after its begin that it overlaps or touches
abbrev pub joined_with : Stretch → List Stretch → List Stretch
joined_with pull [] = pull ∷ []
joined_with pull (s ∷ ss) =
    if nat_le s.from pull.to then joined_with (record { from = min pull.from s.from; to = max pull.to s.to }) ss else pull ∷ s ∷ ss

-- stretches in order with one pull more
abbrev pub with_pull : Stretch → List Stretch → List Stretch
with_pull pull [] = pull ∷ []
with_pull pull (s ∷ ss) = if nat_lt s.to pull.from then s ∷ with_pull pull ss else joined_with pull (s ∷ ss)

abbrev pub with_glitch : ℕ → Fault → List Stretch → List Stretch
with_glitch start (Glitch slot after low) pulls = with_pull (glitch_at start slot after low) pulls
with_glitch start _ pulls = pulls

-- what is pulled for these blocks from an instant on: the start bit, and then the slots
abbrev pub pulls_of : ℕ → Fault → List ℕ → List Stretch
pulls_of start fault bytes =
    with_glitch start fault (stretches_of start (start_times fault ∷ with_fault fault (map nominal_bit (frame_bits bytes))))

-- the same, where they have the slot or the block of the fault
abbrev pub pulls_read : ℕ → Fault → List ℕ → Result (List Stretch) (AtWord LayCause)
pulls_read start fault bytes =
    if fits fault (length (map nominal_bit (frame_bits bytes))) then Ok (pulls_of start fault bytes) else Err (at_word 2 Slot)

-- pulls without where they lie in memory
abbrev pub pulls_in : Result (ArrayVec Stretch 642 (Unit {0})) (AtWord LayCause) → Result (List Stretch) (AtWord LayCause)
pulls_in (Ok pulls) = Ok pulls.items
pulls_in (Err fault) = Err fault
