use Rattle.std.proofs.Common.{◌≡◌, ℕ, ◌+◌, ◌≤◌, ◌-◌, [], ◌∷◌, ◌++◌, map}
use Rattle.line_wave.specs.Line.{line_of, IsWave}
use Rattle.text_core.specs.Adds.{Adds}
use Rattle.capture_wires.specs.Noted.{noted, noted_text}
use Rattle.capture_wires.proofs.noted.add_noted_wires.Given as goal

-- the instants so far are added, and what is left of the pulses says all from t on
abbrev pub invariant-instants : goal.invariant-instants
invariant-instants g l = record {
  so_far : Adds l.fn.out l.out (noted_text (l.line ∷ (l.drives ++ l.pulses ∷ [])) (map noted l.notes) l.from (l.t - l.from));
  after : l.from ≤ l.t;
  before : l.t ≤ l.to;
  order : IsWave l.left;
  same : (u : ℕ) → l.t ≤ u + 1 → line_of l.left u ≡ line_of l.pulses u;
}

abbrev pub decreases-instants : goal.decreases-instants
decreases-instants g l = l.to - l.t
