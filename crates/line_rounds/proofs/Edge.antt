-- What a machine that goes from instant to instant has made is the round's line.
use Rattle.std.proofs.Common.{◌≡◌, ℕ, zero, suc, ◌<◌, ◌≤◌, Bool, true, false, ◌&&◌, ◌||◌, nat_le, List, ◌++◌, slice_index_or, inl, inr, refl, arith, ap, ◌∙◌, sym}
use Rattle.std.specs.List.{list_any, All}
use Rattle.std.proofs.lemmas.List.Folds.{list_any-append, list_any_none}
use Rattle.std.proofs.lemmas.Bool.{cases_lt}
use Rattle.std.proofs.lemmas.Bool.Decides.{nat_tests}
use Rattle.line_wave.specs.declared.Stretch.{Stretch}
use Rattle.line_wave.specs.Line.{Line, was_low}
use Rattle.line_reading.specs.Reading.{Known, known_at, reading_of}
use Rattle.line_reading.proofs.Causes.{reading_alike}
use Rattle.line_rounds.specs.declared.Seat.{Seat}
use Rattle.line_reading.specs.Sending.{sender_pulls}
use Rattle.line_rounds.specs.Round.{pulled_by, pulse_pulls, frames_of, is_within, is_acknowledged, is_broken, IsRoundLine}
use Rattle.line_rounds.specs.Contend.{IsPulledBelow, RoundBelow}
use Rattle.line_rounds.proofs.Unique.{same_was}
use Rattle.line_reading.specs.Causality.{Agree}

-- a pulse that begins at t or later pulls nothing before t
taken_before : (begin : ℕ) (pulses later : List Stretch) (was : Bool) (k : Known) (t u : ℕ) → All (λ p. t ≤ p.from) later → u < t
    → list_any (pulse_pulls begin k.ended was u) (pulses ++ later) ≡ list_any (pulse_pulls begin k.ended was u) pulses
taken_before begin pulses later was k t u l h =
    list_any-append (pulse_pulls begin k.ended was u) pulses later
    ∙ ap (λ b. list_any (pulse_pulls begin k.ended was u) pulses || b) (list_any_none (pulse_pulls begin k.ended was u) later none) ∙ or_false (list_any (pulse_pulls begin k.ended was u) pulses)
  where
    or_false : (b : Bool) → (b || false) ≡ b
    or_false true = refl
    or_false false = refl

    none : All (λ p. pulse_pulls begin k.ended was u p ≡ false) later
    none i d m = let x : t ≤ (slice_index_or later i d).from = l i d m in
        let e : nat_le (slice_index_or later i d).from u ≡ false = grind (arith, nat_tests) in rw e refl

pub pulled_before : (fs : List (List ℕ)) (seats : List Seat) (begin : ℕ) (pulses later : List Stretch) (was : Bool) (k : Known) (t u : ℕ) → All (λ p. t ≤ p.from) later → u < t
    → pulled_by fs seats begin (pulses ++ later) was k u ≡ pulled_by fs seats begin pulses was k u
pulled_before fs seats begin pulses later was k t u l h =
    ap (λ b. b || ((list_any (sender_pulls begin k u) fs && (is_within k.ended u || was)) || (is_acknowledged seats k u || is_broken seats k u k.ended))) (taken_before begin pulses later was k t u l h)

same_at : (seats : List Seat) (begin : ℕ) (pulses later : List Stretch) (t : ℕ) (line low : Line) → All (λ p. t ≤ p.from) later
    → IsPulledBelow seats begin pulses t line → IsRoundLine seats begin (pulses ++ later) low → (u : ℕ) → u < t → Agree u line low → line u ≡ low u
same_at seats begin pulses later t line low l r s u h a =
    r u h ∙ ap (λ w. pulled_by (frames_of seats) seats begin pulses w (known_at u (reading_of line begin)) u) (same_was line low u a)
    ∙ ap (λ k. pulled_by (frames_of seats) seats begin pulses (was_low low u) k u) (reading_alike u line low begin a)
    ∙ sym (pulled_before (frames_of seats) seats begin pulses later (was_low low u) (known_at u (reading_of low begin)) t u l h) ∙ sym (s u)

same_before : (seats : List Seat) (begin : ℕ) (pulses later : List Stretch) (t : ℕ) (line low : Line) → All (λ p. t ≤ p.from) later
    → IsPulledBelow seats begin pulses t line → IsRoundLine seats begin (pulses ++ later) low → (u : ℕ) → u ≤ t → Agree u line low
same_before seats begin pulses later t line low l r s zero m v h = absurd (omega arith)
same_before seats begin pulses later t line low l r s (suc u) m v h =
    elim (cases_lt v u) [
      | inl lt ↦ same_before seats begin pulses later t line low l r s u (omega arith) v lt
      | inr ge ↦ let e : v ≡ u = omega arith in
          rw e (same_at seats begin pulses later t line low l r s u (omega arith) (same_before seats begin pulses later t line low l r s u (omega arith)))
    ]

pub round_below : RoundBelow
round_below seats begin pulses later t line low l r s u h = same_before seats begin pulses later t line low l r s t (omega arith) u h
