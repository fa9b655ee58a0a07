-- One step of what follows dummy descriptors.
use Rattle.std.proofs.Common.{◌≡◌, ℕ, zero, suc, ◌-◌, ◌<◌, nat_lt, Bool, true, false, if◌then◌else◌, List, length, take, drop, refl, ap, ◌∙◌, arith}
use Rattle.rules_values.specs.ExtParts.{after_dummies, is_dummy}

abbrev step : Bool → Bool → ℕ → List ℕ → List ℕ
step short dummy count bytes = if short then bytes else if dummy then after_dummies count (drop 18 bytes) else bytes

pub none_follows : (count : ℕ) (bytes : List ℕ) → nat_lt (length bytes) 18 ≡ true → after_dummies count bytes ≡ bytes
none_follows zero bytes h = refl
none_follows (suc count) bytes h = ap (λ short. step short (is_dummy (take 18 bytes)) count bytes) h

pub dummy_follows : (count : ℕ) (bytes : List ℕ) → 0 < count → nat_lt (length bytes) 18 ≡ false → is_dummy (take 18 bytes) ≡ true
    → after_dummies count bytes ≡ after_dummies (count - 1) (drop 18 bytes)
dummy_follows zero bytes some h k = absurd (omega (arith, some))
dummy_follows (suc count) bytes some h k =
    let less : count ≡ suc count - 1 = omega arith in
    ap (λ short. step short (is_dummy (take 18 bytes)) count bytes) h ∙ ap (λ dummy. step false dummy count bytes) k ∙ ap (λ n. after_dummies n (drop 18 bytes)) less

pub other_follows : (count : ℕ) (bytes : List ℕ) → is_dummy (take 18 bytes) ≡ false → after_dummies count bytes ≡ bytes
other_follows zero bytes k = refl
other_follows (suc count) bytes k = ap (λ dummy. step (nat_lt (length bytes) 18) dummy count bytes) k ∙ same (nat_lt (length bytes) 18) count bytes
  where
    same : (short : Bool) (count : ℕ) (bytes : List ℕ) → step short false count bytes ≡ bytes
    same true count bytes = refl
    same false count bytes = refl
