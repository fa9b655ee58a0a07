-- What a sender (the standard's initiator) of the nominal timing pulls low, in microseconds: the start bit (CEC 5.2.1) and
-- then data bits (CEC 5.2.2).
use Rattle.std.specs.Prelude.{ℕ, ◌+◌, Bool, if◌then◌else◌, List, [], ◌∷◌}
use Rattle.line_wave.specs.declared.Stretch.{Stretch}

-- ---- the nominal times

-- a start bit is low for so long, and the first slot falls so long after it began (CEC 5.2.1)
abbrev pub low_of_start : ℕ
low_of_start = 3700

abbrev pub first_slot : ℕ
first_slot = 4500

-- a slot lasts so long, and is low for so long for a 1 and for a 0 (CEC 5.2.2)
abbrev pub slot_width : ℕ
slot_width = 2400

abbrev pub low_of_1 : ℕ
low_of_1 = 600

abbrev pub low_of_0 : ℕ
low_of_0 = 1500

abbrev pub low_of : Bool → ℕ
low_of bit = if bit then low_of_1 else low_of_0

-- ---- the stretches

-- from the slot that falls at `fall` on (CEC 5.2.2)
abbrev pub slot_stretches : ℕ → List Bool → List Stretch
slot_stretches fall [] = []
slot_stretches fall (bit ∷ bits) =
    record { from = fall; to = fall + low_of bit } ∷ slot_stretches (fall + slot_width) bits

-- the start bit, and then the slots (CEC 5.2.1)
abbrev pub sender_stretches : ℕ → List Bool → List Stretch
sender_stretches start bits = record { from = start; to = start + low_of_start } ∷ slot_stretches (start + first_slot) bits
