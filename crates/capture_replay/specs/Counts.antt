-- How many low stretches are written, and how many are left out (own). Counts stay at the greatest value that they have.
use Rattle.std.specs.Prelude.{◌≡◌, ℕ, ◌+◌, min}
use Rattle.audit_widths.specs.Spreads.{sum_of}
use Rattle.capture_replay.specs.declared.counts.ReplayCounts.{ReplayCounts}

abbrev pub tallied : ℕ → ℕ → ReplayCounts
tallied pins left = record { pins = min pins 18446744073709551615; left_out = min left 18446744073709551615 }

abbrev pub with_pin : ReplayCounts → ReplayCounts
with_pin c = record c { pins = sum_of c.pins 1 }

abbrev pub with_left : ℕ → ReplayCounts → ReplayCounts
with_left n c = record c { left_out = sum_of c.left_out n }

-- so many more are written, and so many more are left out
abbrev pub CountsOn : ℕ → ℕ → ReplayCounts → ReplayCounts → Type 0
CountsOn pins left old new = (p q : ℕ) → old ≡ tallied p q → new ≡ tallied (p + pins) (q + left)
