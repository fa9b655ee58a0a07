-- The front of zeros.
use Rattle.std.proofs.Common.{◌≡◌, ℕ, ◌≤◌, take, replicate}
use Rattle.std.proofs.lemmas.List.{take-replicate}

pub zeros_front : (m : ℕ) → m ≤ 123 → take {A = ℕ} m (replicate {A = ℕ} 123 0) ≡ replicate {A = ℕ} m 0
zeros_front m h = take-replicate {X = ℕ} m 123 0 h
