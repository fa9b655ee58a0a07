-- A round has an outcome: its reading ends, its line is high after that, and what was heard of it by then is all of it.
use Rattle.std.proofs.Common.{◌≡◌, ℕ, zero, suc, ◌+◌, ◌-◌, ◌<◌, ◌≤◌, Bool, true, false, ◌&&◌, ◌||◌, nat_lt, List, [], ◌∷◌, Option, Some, None, is_some, inl, inr, refl, sym, ap, ◌∙◌, subst, arith}
use Rattle.std.proofs.Math.Path.{fun_ext}
use Rattle.std.proofs.lemmas.Bool.{cases_lt}
use Rattle.line_wave.specs.declared.Stretch.{Stretch}
use Rattle.line_wave.specs.Line.{Line, line_of, was_low, IsWave}
use Rattle.line_reading.specs.Reading.{bits_of, reading_of}
use Rattle.line_rounds.specs.declared.Seat.{Seat}
use Rattle.line_rounds.specs.declared.Outcome.{Outcome}
use Rattle.line_rounds.specs.Round.{IsRoundLine, rest_of, survivors_from, losers_from}
use Rattle.line_rounds.specs.Machine.{wave_after, low_since}
use Rattle.line_rounds.specs.OneOutcome.{RoundsHaveOutcomes}
use Rattle.line_rounds.specs.Elements.{In}
use Rattle.line_rounds.specs.Recorded.{Records, EndBefore, begun, lows}
use Rattle.line_rounds.proofs.Bounds.{rounds_are_short}
use Rattle.line_rounds.proofs.Exists.{made_line, made_round}
use Rattle.line_rounds.proofs.Records.{no_line, record_first, record_step}
use Rattle.line_rounds.proofs.Still.{high_after, high_before}

-- pulls have ended by some instant
ended_by : (ps : List Stretch) → (e : ℕ) × ((p : Stretch) → In p ps → p.to ≤ e)
ended_by [] = (0, λ p i. absurd i)
ended_by (x ∷ ps) =
    let r = ended_by ps in (
      x.to + r.0,
      λ p i. elim i [
        | inl e ↦ (let t : p.to ≡ x.to = ap (λ (y : Stretch). y.to) e in omega (arith, t))
        | inr j ↦ (let l = r.1 p j in omega (arith, l))
      ],
    )

-- a line's record, microsecond by microsecond
abbrev Recorded : Line → ℕ → Type 0
Recorded low t = (wave : List Stretch) × (since : Option ℕ) × Records low t wave since

recorded : (low : Line) (begin n : ℕ) → ((u : ℕ) → u < begin → low u ≡ false) → Recorded low (begin + n)
recorded low begin zero h = subst (Recorded low) (let x : begin ≡ begin + zero = omega arith in x) ([], None, record_first low begin h)
recorded low begin (suc n) h =
    let r = recorded low begin n h in
    subst (Recorded low) (let x : begin + n + 1 ≡ begin + suc n = omega arith in x)
    (wave_after r.0 r.1 (begin + n) (low (begin + n)), low_since r.1 (begin + n) (low (begin + n)), record_step low (begin + n) r.0 r.1 (low (begin + n)) r.2 refl)

none_since : (o : Option ℕ) → is_some o ≡ false → o ≡ None
none_since None h = refl
none_since (Some from) h = cc

and_no : (b : Bool) → (b && false) ≡ false
and_no true = refl
and_no false = refl

or_no : (b : Bool) → (b || false) ≡ b
or_no true = refl
or_no false = refl

-- a wave whose line is the round's
abbrev HasWave : List Seat → ℕ → List Stretch → Type 0
HasWave seats begin pulses = (ss : List Stretch) × IsWave ss × IsRoundLine seats begin pulses (line_of ss)

-- what is recorded of the line by this time is all of it
has_wave : (seats : List Seat) (begin : ℕ) (pulses : List Stretch) (n e : ℕ) → 470000 ≤ n → e < n → ((p : Stretch) → In p pulses → p.to ≤ e) → IsWave pulses → HasWave seats begin pulses
has_wave seats begin pulses n e big past ends order = (kept.0, kept.2.order, subst (IsRoundLine seats begin pulses) (fun_ext same) line)
  where
    low : ℕ → Bool
    low = made_line seats begin pulses

    line : IsRoundLine seats begin pulses (made_line seats begin pulses)
    line = made_round seats begin pulses

    kept : Recorded (made_line seats begin pulses) (begin + n)
    kept = recorded (made_line seats begin pulses) begin n (high_before seats begin pulses (made_line seats begin pulses) (made_round seats begin pulses))

    high : (u : ℕ) → begin + n ≤ u + 1 → low u ≡ false
    high u l =
        let at = rounds_are_short.ends low begin in
        high_after seats begin pulses low line order u (omega (arith, l, big, at)) (λ p i b. let x = ends p i in omega (arith, x, past, l))

    was : was_low low (begin + n) ≡ false
    was = ap (λ b. nat_lt 0 (begin + n) && b) (high (begin + n - 1) (omega (arith, big))) ∙ and_no (nat_lt 0 (begin + n))

    none : kept.1 ≡ None
    none = none_since kept.1 (sym kept.2.was ∙ was)

    ended : EndBefore (begin + n) kept.0
    ended = subst (λ o. EndBefore (begun o (begin + n)) kept.0) none kept.2.ends

    same : (u : ℕ) → low u ≡ line_of kept.0 u
    same u = elim (cases_lt u (begin + n)) [
      | inl lt ↦ kept.2.same u lt ∙ ap (λ o. line_of kept.0 u || lows o u) none ∙ or_no (line_of kept.0 u)
      | inr ge ↦ high u (omega (arith, ge)) ∙ sym (no_line (begin + n) u kept.0 ended ge)
    ]

outcome_on : List Seat → ℕ → List Stretch → Outcome
outcome_on seats begin wave = record {
  reading = record { begin = begin; at = (reading_of (line_of wave) begin).at; ending = (reading_of (line_of wave) begin).ending; bits = record { items = bits_of (reading_of (line_of wave) begin) } };
  survivors = record { items = survivors_from (reading_of (line_of wave) begin) 0 seats };
  losers = record { items = losers_from (reading_of (line_of wave) begin) 0 seats };
  rest = rest_of (reading_of (line_of wave) begin).until wave;
  wave = wave;
}

pub rounds_have_outcomes : RoundsHaveOutcomes
unfolding outcome_on
rounds_have_outcomes seats begin pulses order =
    let e = ended_by pulses in
    let w = has_wave seats begin pulses (470000 + e.0) e.0 (omega arith) (omega arith) e.1 order in (
      outcome_on seats begin w.0,
      w.1,
      record { line = w.2; starts = refl; ends = refl; ending = refl; bits = refl; survivors = refl; losers = refl; rest = refl },
    )
