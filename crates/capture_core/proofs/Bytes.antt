-- A byte that a text lacks.
use Rattle.std.proofs.Common.{◌≡◌, ℕ, suc, ◌<◌, ◌==◌, false, List, [], ◌∷◌, ◌++◌, length, refl, arith}
use Rattle.std.specs.Char.{digit_value}
use Rattle.std.proofs.lemmas.Bool.Decides.{nat_tests}
use Rattle.capture_core.specs.Seconds.{dot_in}
use Rattle.capture_core.specs.Texts.{Lacks}

pub no_byte : (b c : ℕ) → digit_value c < 10 → b < 48 → (c == b) ≡ false
no_byte b c h low = grind (arith, nat_tests)

-- the first dot
pub dot_at : (xs r : List ℕ) → Lacks (λ c. c == 46) xs → dot_in (xs ++ 46 ∷ r) ≡ length xs
dot_at [] r h = refl
dot_at (x ∷ xs) r h =
    let other : (x == 46) ≡ false = h 0 x (omega arith) in
    let more : dot_in (xs ++ 46 ∷ r) ≡ length xs = dot_at xs r (λ k d low. h (suc k) d (omega (arith, low))) in
    rw other (omega (arith, more))
