-- The lengths of EDIDs.
use Rattle.std.proofs.Common.{◌≡◌, ℕ, zero, suc, ◌*◌, ◌+◌, ◌≤◌, ◌==◌, Bool, true, false, ◌||◌, ◌⊎◌, inl, inr, List, length, arith, refl, lit≤}
use Rattle.std.proofs.lemmas.Bool.{eqb-true}
use Rattle.edid_core.specs.Bytes.{has_length, IsCounted}

either : (a b : Bool) → (a || b) ≡ true → (a ≡ true) ⊎ (b ≡ true)
either true b h = inl refl
either false b h = inr h

pub counted : (bytes : List ℕ) → has_length bytes ≡ true → IsCounted bytes
counted bytes h = by_third (either ((length bytes == 128) || (length bytes == 256) || (length bytes == 384)) (length bytes == 512) h)
  where
    by_first : ((length bytes == 128) ≡ true) ⊎ ((length bytes == 256) ≡ true) → IsCounted bytes
    by_first (inl e) = record { blocks = 1; least = lit≤ tt; most = lit≤ tt; len = eqb-true _ _ e }
    by_first (inr e) = record { blocks = 2; least = lit≤ tt; most = lit≤ tt; len = eqb-true _ _ e }

    by_second : (((length bytes == 128) || (length bytes == 256)) ≡ true) ⊎ ((length bytes == 384) ≡ true) → IsCounted bytes
    by_second (inl e) = by_first (either _ _ e)
    by_second (inr e) = record { blocks = 3; least = lit≤ tt; most = lit≤ tt; len = eqb-true _ _ e }

    by_third : (((length bytes == 128) || (length bytes == 256) || (length bytes == 384)) ≡ true) ⊎ ((length bytes == 512) ≡ true) → IsCounted bytes
    by_third (inl e) = by_second (either _ _ e)
    by_third (inr e) = record { blocks = 4; least = lit≤ tt; most = lit≤ tt; len = eqb-true _ _ e }

fourth : (n : ℕ) → (n ≡ 128) ⊎ ((n ≡ 256) ⊎ ((n ≡ 384) ⊎ (n ≡ 512))) → ((n == 128) || (n == 256) || (n == 384) || (n == 512)) ≡ true
fourth n (inl e) = rw e refl
fourth n (inr (inl e)) = rw e refl
fourth n (inr (inr (inl e))) = rw e refl
fourth n (inr (inr (inr e))) = rw e refl

-- so many blocks are a length
pub length_is : (bytes : List ℕ) (more : ℕ) → more ≤ 3 → length bytes ≡ 128 + 128 * more → has_length bytes ≡ true
length_is bytes zero few len = fourth (length bytes) (inl (omega (arith, len)))
length_is bytes (suc zero) few len = fourth (length bytes) (inr (inl (omega (arith, len))))
length_is bytes (suc (suc zero)) few len = fourth (length bytes) (inr (inr (inl (omega (arith, len)))))
length_is bytes (suc (suc (suc zero))) few len = fourth (length bytes) (inr (inr (inr (omega (arith, len)))))
length_is bytes (suc (suc (suc (suc n)))) few len = absurd (omega (arith, few))
