-- A line just before an instant; and on a wave the falls are where its stretches begin, and the rises where they end.
use Rattle.std.proofs.Common.{◌≡◌, ℕ, ◌+◌, ◌-◌, ◌<◌, true, false, ◌&&◌, ◌||◌, ◌==◌, nat_lt, [], ◌∷◌, inl, inr, refl, arith, ap, ◌∙◌}
use Rattle.std.proofs.lemmas.Bool.Decides.{nat_tests}
use Rattle.std.proofs.lemmas.Bool.{cases_lt}
use Rattle.line_wave.specs.declared.Stretch.{Stretch}
use Rattle.line_wave.specs.Line.{Line, line_of, covers, is_fall, is_rise, LinesWereAsTheyAre, FallsOfWaves, RisesOfWaves, QuietBeforeWaves, NoneBeginBeforeWaves}

pub was_now : LinesWereAsTheyAre
was_now low n =
    let x : nat_lt 0 (n + 1) ≡ true = grind (arith, nat_tests) in
    ap (λ b. b && low (n + 1 - 1)) x ∙ ap low (let y : n + 1 - 1 ≡ n = omega arith in y)

-- nothing comes before a wave begins
pub quiet : QuietBeforeWaves
quiet [] from t w h = refl
quiet (s ∷ ss) from t w h =
    let e : covers s t ≡ false = grind (arith, nat_tests, w.0) in
    rw e (quiet ss (s.to + 1) t w.2 (omega (arith, w.0, w.1)))

pub no_begin : NoneBeginBeforeWaves
no_begin [] from t w h = refl
no_begin (s ∷ ss) from t w h =
    let e : (s.from == t) ≡ false = grind (arith, nat_tests, w.0) in
    rw e (no_begin ss (s.to + 1) t w.2 (omega (arith, w.0, w.1)))

-- the line of a stretch and of a wave that comes after it
with_first : Stretch → Line → Line
with_first s rest t = covers s t || rest t

fall_of_first : (s : Stretch) (rest : Line) (t : ℕ) → s.from < s.to → ((u : ℕ) → u < s.to + 1 → rest u ≡ false)
    → is_fall (with_first s rest) t ≡ ((s.from == t) || is_fall rest t)
unfolding with_first
fall_of_first s rest t h q =
    elim (cases_lt t (s.to + 1)) [
      | inl lt ↦ (let e : rest t ≡ false = q t lt in let f : rest (t - 1) ≡ false = q (t - 1) (omega arith) in grind (arith, nat_tests))
      | inr ge ↦ (let e : covers s t ≡ false = grind (arith, nat_tests) in let f : covers s (t - 1) ≡ false = grind (arith, nat_tests) in
          let g : (s.from == t) ≡ false = grind (arith, nat_tests) in rw (e, f, g) refl)
    ]

pub falls_of_wave : FallsOfWaves
unfolding with_first
falls_of_wave [] from t w = refl
falls_of_wave (s ∷ ss) from t w =
    fall_of_first s (line_of ss) t w.1 (λ u l. quiet ss (s.to + 1) u w.2 l) ∙ ap (λ b. (s.from == t) || b) (falls_of_wave ss (s.to + 1) t w.2)

rise_of_first : (s : Stretch) (rest : Line) (t : ℕ) → s.from < s.to → ((u : ℕ) → u < s.to + 1 → rest u ≡ false)
    → is_rise (with_first s rest) t ≡ ((s.to == t) || is_rise rest t)
unfolding with_first
rise_of_first s rest t h q =
    elim (cases_lt t (s.to + 1)) [
      | inl lt ↦ (let e : rest t ≡ false = q t lt in let f : rest (t - 1) ≡ false = q (t - 1) (omega arith) in grind (arith, nat_tests))
      | inr ge ↦ (let e : covers s t ≡ false = grind (arith, nat_tests) in let f : covers s (t - 1) ≡ false = grind (arith, nat_tests) in
          let g : (s.to == t) ≡ false = grind (arith, nat_tests) in rw (e, f, g) refl)
    ]

pub rises_of_wave : RisesOfWaves
unfolding with_first
rises_of_wave [] from t w = grind (arith, nat_tests)
rises_of_wave (s ∷ ss) from t w =
    rise_of_first s (line_of ss) t w.1 (λ u l. quiet ss (s.to + 1) u w.2 l) ∙ ap (λ b. (s.to == t) || b) (rises_of_wave ss (s.to + 1) t w.2)
