-- Zeros: the front of them, and that they are bytes and no timing.
use Rattle.std.proofs.Common.{◌≡◌, ◌∙◌, ap, ℕ, zero, suc, ◌+◌, ◌-◌, ◌≤◌, Bool, true, ◌||◌, nat_lt, List, [], ◌∷◌, length, take, replicate, refl, arith}
use Rattle.std.proofs.lemmas.Bool.{or_right}
use Rattle.std.proofs.lemmas.List.{take-replicate}
use Rattle.edid_base.specs.Bytes.{are_bytes}
use Rattle.edid_cta.specs.Cta.{is_tail}

pub zeros_front : (m : ℕ) → m ≤ 123 → take {A = ℕ} m (replicate {A = ℕ} 123 0) ≡ replicate {A = ℕ} m 0
zeros_front m h = take-replicate {X = ℕ} m 123 0 h

pub zeros_end : (n : ℕ) → is_tail (replicate {A = ℕ} n 0) ≡ true
zeros_end zero = refl
zeros_end (suc zero) = refl
zeros_end (suc (suc n)) = or_right (nat_lt (length (replicate {A = ℕ} (suc (suc n)) 0)) 18) true refl

pub zeros_bytes : (n : ℕ) → are_bytes (replicate {A = ℕ} n 0) ≡ true
zeros_bytes zero = refl
zeros_bytes (suc n) = zeros_bytes n

zeros_long : (n : ℕ) → length (replicate {A = ℕ} n 0) ≡ n
zeros_long zero = refl
zeros_long (suc n) = ap suc (zeros_long n)

pub zeros_whole : (blocks timings : ℕ) (tail : List ℕ) → blocks + timings ≤ 123 → tail ≡ replicate {A = ℕ} (123 - (blocks + timings)) 0 → blocks + timings + length tail ≡ 123
zeros_whole blocks timings tail h e =
    let long = ap (λ (l : List ℕ). length l) e in
    let same = zeros_long (123 - (blocks + timings)) in
    omega (arith, h, long, same)
