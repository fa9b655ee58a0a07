-- A line that is high from an end on has no stretch past it.
use Rattle.std.proofs.Common.{◌≡◌, ℕ, ◌+◌, ◌-◌, ◌<◌, ◌≤◌, ◌||◌, Bool, true, false, nat_le, [], ◌∷◌, Some, None, refl, sym, ◌∙◌, arith}
use Rattle.std.proofs.lemmas.Bool.{false≢true}
use Rattle.std.proofs.lemmas.Bool.Decides.{nat_tests}
use Rattle.line_wave.specs.declared.Stretch.{Stretch}
use Rattle.line_wave.specs.Line.{covers, line_of}
use Rattle.capture_core.specs.Edges.{HighLinesHaveEnded, KnownEdgesAreEarly}

or_left : (a b : Bool) → (a || b) ≡ false → a ≡ false
or_left true b h = h
or_left false b h = refl

or_right : (a b : Bool) → (a || b) ≡ false → b ≡ false
or_right true b h = absurd (false≢true (sym h))
or_right false b h = h

low_last : (s : Stretch) → s.from < s.to → covers s (s.to - 1) ≡ true
low_last s h = grind (arith, nat_tests)

by_end : (b : Bool) (to end : ℕ) → nat_le to end ≡ b → (end < to → ⊥) → to ≤ end
by_end true to end e h = grind (arith, nat_tests)
by_end false to end e h = absurd (h (grind (arith, nat_tests)))

pub ends_by : HighLinesHaveEnded
ends_by [] from end wave high = tt
ends_by (s ∷ ss) from end wave high = (
  by_end (nat_le s.to end) s.to end refl
      (λ h. false≢true (sym (or_left (covers s (s.to - 1)) (line_of ss (s.to - 1)) (high (s.to - 1) (let w = wave.1 in omega arith))) ∙ low_last s wave.1)),
  ends_by ss (s.to + 1) end wave.2 (λ u h. or_right (covers s u) (line_of ss u) (high u h)),
)

-- an edge that is known before others comes no later than their end
pub edge_by : KnownEdgesAreEarly
edge_by None edges end limit ends l = tt
edge_by (Some e) edges end limit ends l = let at = ends.0 in omega arith
