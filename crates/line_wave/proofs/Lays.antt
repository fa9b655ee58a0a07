-- What a sender lays is a wave.
use Rattle.std.proofs.Common.{◌≡◌, ℕ, ◌+◌, ◌≤◌, Bool, true, false, List, [], ◌∷◌, length, drop, ◌++◌, arith}
use Rattle.std.proofs.lemmas.Grind.{common_steps}
use Rattle.line_wave.specs.declared.Stretch.{Stretch}
use Rattle.line_wave.specs.Line.{IsWaveFrom, IsWave}
use Rattle.line_wave.specs.Sender.{slot_stretches, sender_stretches}

slots_wave : (bits : List Bool) (from fall : ℕ) → from ≤ fall → IsWaveFrom from (slot_stretches fall bits)
slots_wave [] from fall h = tt
slots_wave (true ∷ bits) from fall h = (h, omega arith, slots_wave bits (fall + 600 + 1) (fall + 2400) (omega arith))
slots_wave (false ∷ bits) from fall h = (h, omega arith, slots_wave bits (fall + 1500 + 1) (fall + 2400) (omega arith))

pub sender_wave : (start : ℕ) (bits : List Bool) → IsWave (sender_stretches start bits)
sender_wave start bits = (omega arith, omega arith, slots_wave bits (start + 3700 + 1) (start + 4500) (omega arith))

-- what is laid when no bit is left
pub laid_wave : (start fall i : ℕ) (bits : List Bool) (laid : List Stretch) → length bits ≤ i
    → laid ++ slot_stretches fall (drop i bits) ≡ sender_stretches start bits → IsWave laid
laid_wave start fall i bits laid h e =
    let f : laid ≡ sender_stretches start bits = grind (arith, common_steps, e) in
    rw f (sender_wave start bits)
