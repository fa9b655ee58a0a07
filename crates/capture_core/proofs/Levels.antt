-- Levels in nanoseconds as samples in microseconds.
use Rattle.std.proofs.Common.{◌≡◌, ℕ, ◌*◌, Bool, nat_le, if◌then◌else◌, List, [], ◌∷◌, ◌++◌, refl, ap, ◌∙◌, arith}
use Rattle.std.proofs.lemmas.Bool.Decides.{nat_tests}
use Rattle.capture_core.specs.Samples.{Level, level_in, level_of, rounded, samples_of}

rounded_by : (since u : ℕ) → nat_le (rounded since) u ≡ nat_le since (u * 1000)
rounded_by since u = grind (arith, nat_tests)

-- whole microseconds are themselves
pub rounded_whole : (at : ℕ) → at ≡ rounded (at * 1000)
rounded_whole at = omega arith

pub samples_both : (a b : List Level) → samples_of (a ++ b) ≡ samples_of a ++ samples_of b
samples_both [] b = refl
samples_both (l ∷ a) b = ap (λ ss. record { at = rounded l.since; low = l.low } ∷ ss) (samples_both a b)

pub sampled_so : (b : Bool) (ls : List Level) (u : ℕ) → level_in b (samples_of ls) u ≡ level_of b ls u
sampled_so b [] u = refl
sampled_so b (l ∷ ls) u =
    ap (λ t. level_in (if t then l.low else b) (samples_of ls) u) (rounded_by l.since u) ∙ sampled_so (if nat_le l.since (u * 1000) then l.low else b) ls u
