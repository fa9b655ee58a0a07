-- Where a line is idle, and where it is not.
use Rattle.std.proofs.Common.{◌≡◌, ℕ, zero, suc, ◌+◌, ◌-◌, ◌<◌, ◌≤◌, Bool, true, false, nat_lt, refl, sym, ap, ◌∙◌, arith}
use Rattle.std.proofs.lemmas.Bool.Decides.{nat_tests}
use Rattle.std.proofs.lemmas.Bool.{false≢true}
use Rattle.line_wave.specs.Line.{Line}
use Rattle.capture_join.specs.Joined.{IsIdle, IsJoined, LinesAreIdleFirstOnce}

-- no instant is idle just after the line was low
pub low_before : (low : Line) (t v : ℕ) → low v ≡ true → t ≤ v + 7200 → v < t → IsIdle low t → ⊥
low_before low t v is near before idle = false≢true (sym (idle.high v near before) ∙ is)

-- nor before the line was high long enough
pub too_soon : (low : Line) (s t : ℕ) → (0 < s → low (s - 1) ≡ true) → s ≤ t → t < s + 7200 → IsIdle low t → ⊥
too_soon low zero t edge after soon idle = let l = idle.long in absurd (omega arith)
too_soon low (suc k) t edge after soon idle = low_before low t k (ap low (let x : k ≡ suc k - 1 = omega arith in x) ∙ edge (omega arith)) (omega arith) (omega arith) idle

-- nor while it is low
pub while_low : (low : Line) (from t : ℕ) → 1 ≤ from → low (from - 1) ≡ true → ((u : ℕ) → from ≤ u → u < t → low u ≡ true) → from ≤ t → IsIdle low t → ⊥
while_low low from t some is stays after idle = by (nat_lt from t) refl
  where
    by : (c : Bool) → nat_lt from t ≡ c → ⊥
    by true h = let l : from < t = grind (arith, nat_tests) in low_before low t (t - 1) (stays (t - 1) (omega arith) (omega arith)) (omega arith) (omega arith) idle
    by false h =
        let same : from ≡ t = grind (arith, nat_tests) in
        low_before low t (t - 1) (ap low (let x : t - 1 ≡ from - 1 = omega arith in x) ∙ is) (omega arith) (omega arith) idle

pub either : (from u : ℕ) (P : Type 0) → (u < from → P) → (from ≤ u → P) → P
either from u P one other = by (nat_lt u from) refl
  where
    by : (c : Bool) → nat_lt u from ≡ c → P
    by true h = one (grind (arith, nat_tests))
    by false h = other (grind (arith, nat_tests))

-- it has been high long enough, before any edge
pub found : (low : Line) (s from until end : ℕ) → s ≤ from → ((u : ℕ) → s ≤ u → u < from → low u ≡ false) → (0 < s → low (s - 1) ≡ true) → ((u : ℕ) → from ≤ u → u < until → low u ≡ false)
    → ((u : ℕ) → u < from → IsIdle low u → ⊥) → s + 7200 ≤ until → until ≤ end → IsJoined low end (s + 7200)
found low s from until end l high edge later none enough by_end = record {
  within = omega arith;
  idle = λ before. record {
    long = omega arith;
    high = λ u near sooner. either from u (low u ≡ false) (λ h. high u (omega arith) h) (λ h. later u h (omega arith));
  };
  first = λ u sooner idle. either from u ⊥ (λ h. none u h idle) (λ h. too_soon low s u edge (omega arith) sooner idle);
}

-- there is none up to the end
pub not_found : (low : Line) (from end : ℕ) → ((u : ℕ) → u < end → IsIdle low u → ⊥) → IsJoined low end end
not_found low from end none = record { within = omega arith; idle = λ h. absurd (omega arith); first = none }

-- it is first idle at one instant
pub idle_once : LinesAreIdleFirstOnce
idle_once low end t u one other =
    either u t (t ≡ u) (λ l. absurd (other.first t l (one.idle (let w = other.within in omega (arith, l, w)))))
    (λ l. either t u (t ≡ u) (λ m. absurd (one.first u m (other.idle (let w = one.within in omega (arith, m, w))))) (λ m. omega (arith, l, m)))
