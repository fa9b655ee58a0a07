-- How many stretches a line of one reading has.
use Rattle.std.proofs.Common.{◌≡◌, ℕ, zero, suc, ◌+◌, ◌≤◌, true, false, not, List, [], ◌∷◌, length, map, inl, inr, refl, arith, ap, ◌∙◌, sym, Bool}
use Rattle.std.specs.List.{All}
use Rattle.std.proofs.lemmas.Bool.{cases_lt, and_parts}
use Rattle.line_wave.specs.declared.Stretch.{Stretch}
use Rattle.line_wave.specs.Line.{Line, is_fall, was_low, IsWave, IsWaveFrom}
use Rattle.line_reading.specs.Reading.{reading_of}
use Rattle.line_rounds.specs.Falls.{AreRisingFrom}
use Rattle.line_rounds.proofs.AnyFalls.{falls_are_read}
use Rattle.line_rounds.specs.Round.{IsRoundLine}
use Rattle.line_rounds.specs.declared.Seat.{Seat}
use Rattle.line_wire.specs.Told.{IsLone}
use Rattle.line_wire.proofs.Told.{round_is_lone}

after_begin : (low : Line) (begin u : ℕ) → IsLone low begin → is_fall low u ≡ true → begin ≤ u
after_begin low begin u lone f = elim (cases_lt u begin) [
  | inl lt ↦ (let x : true ≡ false = sym (and_parts (low u) (not (was_low low u)) f).0 ∙ lone.before u lt in cc)
  | inr ge ↦ ge
]

by_until : (low : Line) (begin u : ℕ) → IsLone low begin → is_fall low u ≡ true → u ≤ (reading_of low begin).until
by_until low begin u lone f = elim (cases_lt (reading_of low begin).until u) [
  | inl lt ↦ (let x : true ≡ false = sym f ∙ lone.quiet u lt in cc)
  | inr ge ↦ ge
]

rising : (low : Line) (begin from base : ℕ) (ss : List Stretch) → IsLone low begin → base ≤ from → IsWaveFrom from ss → AreRisingFrom base (map (λ s. s.from) ss)
rising low begin from base [] lone l w = tt
rising low begin from base (s ∷ ss) lone l w = (omega (arith, w.0, l), rising low begin (s.to + 1) (s.from + 1) ss lone (omega (arith, w.1)) w.2)

from_begin : (low : Line) (begin : ℕ) (ss : List Stretch) → IsLone low begin → IsWave ss → All (λ s. is_fall low s.from ≡ true) ss → AreRisingFrom begin (map (λ s. s.from) ss)
from_begin low begin [] lone w f = tt
from_begin low begin (s ∷ ss) lone w f = (after_begin low begin s.from lone (f 0 s (omega arith)), rising low begin (s.to + 1) (s.from + 1) ss lone (omega (arith, w.1)) w.2)

all_read : (low : Line) (begin : ℕ) (ss : List Stretch) → IsLone low begin → All (λ s. is_fall low s.from ≡ true) ss → All (λ u. (u ≤ (reading_of low begin).until) × (is_fall low u ≡ true)) (map (λ s. s.from) ss)
all_read low begin [] lone f i d l = absurd (omega (arith, l))
all_read low begin (s ∷ ss) lone f zero d l = let g : is_fall low s.from ≡ true = f 0 s (omega arith) in (by_until low begin s.from lone g, g)
all_read low begin (s ∷ ss) lone f (suc i) d l = all_read low begin ss lone (λ k e m. f (suc k) e (omega (arith, m))) i d (omega (arith, l))

length-begins : (ss : List Stretch) → length (map (λ s. s.from) ss) ≡ length ss
length-begins [] = refl
length-begins (s ∷ ss) = ap suc (length-begins ss)

-- Such a line has room in a wave: it falls where a slot of its one reading falls, and nowhere else.
pub room_is_left : (seats : List Seat) (begin : ℕ) (pulses : List Stretch) (low : ℕ → Bool) (wave : List Stretch) → IsRoundLine seats begin pulses low → IsWave wave → All (λ s. is_fall low s.from ≡ true) wave → length wave ≤ 162
room_is_left seats begin pulses low wave line w f =
    let lone = round_is_lone seats begin pulses low line in
    omega (arith, length-begins wave, falls_are_read low begin (map (λ s. s.from) wave) (from_begin low begin wave lone w f) (all_read low begin wave lone f))
