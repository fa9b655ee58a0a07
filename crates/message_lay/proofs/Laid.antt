-- What is laid without a fault is what a sender pulls.
use Rattle.std.proofs.Common.{◌≡◌, ℕ, ◌+◌, Bool, List, [], ◌∷◌, map, Ok, refl, ap}
use Rattle.line_frames.specs.Bits.{frame_bits}
use Rattle.line_wave.specs.declared.Stretch.{Stretch}
use Rattle.line_wave.specs.Sender.{first_slot, low_of, low_of_start, slot_stretches, slot_width}
use Rattle.message_lay.specs.Bits.{nominal_bit, stretches_of}
use Rattle.message_lay.specs.Laws.{FaultlessAreSent}

stretches_sent : (fall : ℕ) (bits : List Bool) → stretches_of fall (map nominal_bit bits) ≡ slot_stretches fall bits
stretches_sent fall [] = refl
stretches_sent fall (bit ∷ bits) =
    ap (λ (l : List Stretch). record { from = fall; to = fall + low_of bit } ∷ l) (stretches_sent (fall + slot_width) bits)

pub faultless_are_sent : FaultlessAreSent
faultless_are_sent start bytes =
    ap (λ (l : List Stretch). Ok (record { from = start; to = start + low_of_start } ∷ l)) (stretches_sent (start + first_slot) (frame_bits bytes))
