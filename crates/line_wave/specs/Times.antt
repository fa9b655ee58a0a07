-- A sender's times in closed form: where slot k, from 0, begins (CEC 5.2, nominal times).
use Rattle.std.specs.Prelude.{◌≡◌, ℕ, ◌+◌, ◌*◌, Bool, List, length, slice_get, Some}
use Rattle.line_wave.specs.declared.Stretch.{Stretch}
use Rattle.line_wave.specs.Sender.{first_slot, low_of, low_of_start, sender_stretches, slot_width}

-- low from `from` on for so long
abbrev pub low_for : ℕ → ℕ → Stretch
low_for from long = record { from = from; to = from + long }

pub record SenderTimes (start : ℕ) (bits : List Bool) : Type 0 where
  pub count : length (sender_stretches start bits) ≡ length bits + 1
  pub first : slice_get (sender_stretches start bits) 0 ≡ Some (low_for start low_of_start)
  pub slot : (k : ℕ) (bit : Bool) → slice_get bits k ≡ Some bit
      → slice_get (sender_stretches start bits) (k + 1) ≡ Some (low_for (start + first_slot + slot_width * k) (low_of bit))

-- every sender's are these
abbrev pub TimesOfSenders : Type 0
TimesOfSenders = (start : ℕ) (bits : List Bool) → SenderTimes start bits
