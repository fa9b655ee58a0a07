-- With each turn less is left: an event, or time.
use Rattle.std.proofs.Common.{arith, ◌≡◌, ℕ, suc, ◌+◌, ◌-◌, ◌<◌, List, ◌∷◌, length, ap}
use Rattle.line_wave.specs.Bounds.{latest_event, latest_instant}

pub smaller : (events old new : ℕ) → old < new → old < latest_event → events + (latest_instant - new) < events + (latest_instant - old)
smaller events old new sooner before = omega arith

-- one event less is left
pub fewer : {X : Type 0} (event : X) (others events : List X) (old new : ℕ) → events ≡ event ∷ others → new ≡ old → length others + (latest_instant - new) < length events + (latest_instant - old)
fewer event others events old new split same =
    let left : length events ≡ suc (length others) = ap length split in
    omega (arith, left, same)
