-- Devices have as many names.
use Rattle.std.proofs.Common.{◌≡◌, suc, List, [], ◌∷◌, length, refl, ap}
use Rattle.device_core.specs.State.{State}
use Rattle.room_driven.specs.Driven.{names_of}

pub count_names : (devices : List State) → length (names_of devices) ≡ length devices
count_names [] = refl
count_names (d ∷ devices) = ap suc (count_names devices)
