-- A round has one line.
use Rattle.std.proofs.Common.{◌≡◌, ℕ, zero, suc, ◌-◌, List, inl, inr, arith, ap, ◌∙◌, sym, refl}
use Rattle.std.proofs.lemmas.Bool.{cases_lt}
use Rattle.line_wave.specs.declared.Stretch.{Stretch}
use Rattle.line_wave.specs.Line.{Line, was_low}
use Rattle.line_reading.specs.Reading.{known_at, reading_of}
use Rattle.line_reading.proofs.Causes.{reading_alike}
use Rattle.line_rounds.specs.declared.Seat.{Seat}
use Rattle.line_rounds.specs.Round.{is_pulled, IsRoundLine, OneLine}
use Rattle.line_reading.specs.Causality.{Agree}

pub same_was : (low other : Line) (t : ℕ) → Agree t low other → was_low low t ≡ was_low other t
same_was low other zero a = refl
same_was low other (suc t) a = rw (a (suc t - 1) (omega arith)) refl

same_at : (seats : List Seat) (begin : ℕ) (pulses : List Stretch) (low other : Line)
    → IsRoundLine seats begin pulses low → IsRoundLine seats begin pulses other → (t : ℕ) → Agree t low other → low t ≡ other t
same_at seats begin pulses low other r s t a =
    r t ∙ ap (λ w. is_pulled seats begin pulses w (known_at t (reading_of low begin)) t) (same_was low other t a)
    ∙ ap (λ k. is_pulled seats begin pulses (was_low other t) k t) (reading_alike t low other begin a) ∙ sym (s t)

same_before : (seats : List Seat) (begin : ℕ) (pulses : List Stretch) (low other : Line)
    → IsRoundLine seats begin pulses low → IsRoundLine seats begin pulses other → (t : ℕ) → Agree t low other
same_before seats begin pulses low other r s zero u h = absurd (omega arith)
same_before seats begin pulses low other r s (suc t) u h =
    elim (cases_lt u t) [
      | inl lt ↦ same_before seats begin pulses low other r s t u lt
      | inr ge ↦ let e : u ≡ t = omega arith in rw e (same_at seats begin pulses low other r s t (same_before seats begin pulses low other r s t))
    ]

pub one_line : OneLine
one_line seats begin pulses low other r s t = same_before seats begin pulses low other r s (suc t) t (omega arith)
