use Rattle.std.proofs.Common.{◌≡◌, ◌+◌, ◌≤◌, ℕ, length}
use Rattle.line_wave.specs.Line.{line_of, IsWave}
use Rattle.capture_wires.proofs.instants.not_over.Given as goal

-- what is let go is over before t
abbrev pub invariant-over : goal.invariant-over
invariant-over l = record {
  order : IsWave l.left;
  same : (u : ℕ) → l.t ≤ u + 1 → line_of l.left u ≡ line_of l.pulses u;
}

abbrev pub decreases-over : goal.decreases-over
decreases-over l = length l.left
