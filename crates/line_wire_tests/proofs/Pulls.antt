-- Pulls in order, of which none has begun.
use Rattle.std.proofs.Common.{◌≡◌, ℕ, zero, suc, ◌+◌, ◌<◌, ◌≤◌, List, [], ◌∷◌, take, drop, length, refl, arith, ap, ◌∙◌, sym, subst}
use Rattle.std.specs.List.{All}
use Rattle.line_wave.specs.declared.Stretch.{Stretch}
use Rattle.line_wave.specs.Line.{IsWave, IsWaveFrom}
use Rattle.line_wire.specs.declared.edge_wire.EdgeWire.{EdgeWire}
use Rattle.line_wave.specs.Pulls.{EndsInTime}
use Rattle.line_wire.specs.Wired.{ArePulls, IsBegunWith}

sooner : (a b : ℕ) (ps : List Stretch) → b ≤ a → IsWaveFrom a ps → IsWaveFrom b ps
sooner a b [] l w = tt
sooner a b (p ∷ ps) l w = (omega (arith, w.0, l), w.1, w.2)

late : (t from : ℕ) (ps : List Stretch) → t ≤ from → IsWaveFrom from ps → All (λ p. t ≤ p.from) ps
late t from [] l w i d m = absurd (omega (arith, m))
late t from (p ∷ ps) l w zero d m = omega (arith, w.0, l)
late t from (p ∷ ps) l w (suc k) d m = late t (p.to + 1) ps (omega (arith, w.0, w.1, l)) w.2 k d (omega (arith, m))

pub begins : (pulls slice : List Stretch) (start : ℕ) (w : EdgeWire) → slice ≡ pulls → IsWaveFrom start slice → All EndsInTime slice → w.time ≡ start → IsBegunWith [] w → IsBegunWith (take w.begun pulls) w × ArePulls (take w.begun pulls) pulls w
begins pulls slice start w same order ends time b = (
  subst (λ (ps : List Stretch). IsBegunWith ps w) none b,
  record {
    wave = sooner start 0 pulls (omega arith) ordered;
    ends = subst (λ (ps : List Stretch). All EndsInTime ps) same ends;
    begun = sym none ∙ ap (λ (k : ℕ). take k pulls) (ap (λ (ps : List Stretch). length ps) none);
    later = subst (λ (k : ℕ). All (λ (p : Stretch). w.time ≤ p.from) (drop k pulls)) (ap (λ (ps : List Stretch). length ps) none) (late w.time start pulls (omega (arith, time)) ordered);
  },
)
  where
    ordered : IsWaveFrom start pulls
    ordered = subst (λ (ps : List Stretch). IsWaveFrom start ps) same order

    none : [] ≡ take w.begun pulls
    none = ap (λ (k : ℕ). take k pulls) (let c : zero ≡ w.begun = sym b.count in c)
