use Rattle.std.proofs.Common.{◌≡◌, ℕ, ◌<◌, ◌-◌, false}
use Rattle.capture_signs.specs.Rates.{are_multiples, coarsest}
use Rattle.capture_signs.proofs.rate.coarse_rate.Given as goal

-- of no greater time they are multiples
abbrev pub invariant-loop-step : goal.invariant-loop-step
invariant-loop-step l = (u : ℕ) → u < l.step → are_multiples (coarsest - u) l.edges ≡ false
