-- How long each bit of a sender is (CEC 5.2): low from its fall on, and in all up to the next fall, in microseconds.
use Rattle.std.specs.Prelude.{ℕ, ◌+◌, Bool, List, [], ◌∷◌}
use Rattle.line_wave.specs.declared.Stretch.{Stretch}
use Rattle.line_wave.specs.Sender.{first_slot, low_of, low_of_start, slot_width}
use Rattle.message_lay.specs.declared.bits.BitTimes.{BitTimes}

-- the most blocks of what is laid, and their slots, ten for each (CEC 6); a frame has 16 blocks (own)
abbrev pub most_blocks : ℕ
most_blocks = 64

abbrev pub most_slots : ℕ
most_slots = 640

-- a start bit (CEC 5.2.1)
abbrev pub nominal_start : BitTimes
nominal_start = record { low = low_of_start; total = first_slot }

-- a data bit (CEC 5.2.2)
abbrev pub nominal_bit : Bool → BitTimes
nominal_bit bit = record { low = low_of bit; total = slot_width }

-- bits one after another, the first of which falls so: each is low from its fall on
abbrev pub stretches_of : ℕ → List BitTimes → List Stretch
stretches_of fall [] = []
stretches_of fall (bit ∷ bits) = record { from = fall; to = fall + bit.low } ∷ stretches_of (fall + bit.total) bits
