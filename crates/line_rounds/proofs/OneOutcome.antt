-- A line is the line of one wave, so a round has one outcome.
use Rattle.std.proofs.Common.{◌≡◌, ℕ, ◌+◌, ◌<◌, ◌≤◌, List, [], ◌∷◌, true, false, inl, inr, arith, ap, ◌∙◌, sym, refl, subst}
use Rattle.std.proofs.lemmas.Bool.Decides.{nat_tests}
use Rattle.std.proofs.lemmas.Bool.{cases_lt}
use Rattle.line_wave.specs.declared.Stretch.{Stretch}
use Rattle.line_wave.specs.Line.{line_of, covers, IsWaveFrom}
use Rattle.line_reading.specs.Reading.{reading_of, bits_of}
use Rattle.line_rounds.specs.declared.Seat.{Seat}
use Rattle.line_rounds.specs.declared.Outcome.{Outcome}
use Rattle.line_rounds.specs.Round.{IsRound, rest_of, survivors_from, losers_from}
use Rattle.line_rounds.specs.OneOutcome.{SameOutcome, OneOutcome}
use Rattle.line_rounds.proofs.Unique.{one_line}

-- a wave is high before it begins
high_before : (from : ℕ) (ss : List Stretch) → IsWaveFrom from ss → (t : ℕ) → t < from → line_of ss t ≡ false
high_before from [] w t h = refl
high_before from (s ∷ ss) w t h =
    let c : covers s t ≡ false = grind (arith, nat_tests) in
    rw c (high_before (s.to + 1) ss w.2 t (omega arith))

pub covers_own : (s : Stretch) (t : ℕ) → s.from ≤ t → t < s.to → covers s t ≡ true
covers_own s t h k = grind (arith, nat_tests)

covers_not_before : (s : Stretch) (t : ℕ) → t < s.from → covers s t ≡ false
covers_not_before s t h = grind (arith, nat_tests)

covers_not_after : (s : Stretch) (t : ℕ) → s.to ≤ t → covers s t ≡ false
covers_not_after s t h = grind (arith, nat_tests)

-- two waves of one line begin their first stretch together
not_sooner : (s t : Stretch) (ss ts : List Stretch) → s.from < s.to → IsWaveFrom (t.to + 1) ts → t.from < t.to
    → ((u : ℕ) → line_of (s ∷ ss) u ≡ line_of (t ∷ ts) u) → s.from < t.from → ⊥
not_sooner s t ss ts wide after width same h =
    let low : line_of (s ∷ ss) s.from ≡ true = rw (covers_own s s.from (omega arith) wide) refl in
    let high : line_of (t ∷ ts) s.from ≡ false = rw (covers_not_before t s.from h) (high_before (t.to + 1) ts after s.from (omega arith)) in
    let clash : true ≡ false = sym low ∙ same s.from ∙ high in
    cc

-- and end it together
not_shorter : (s t : Stretch) (ss ts : List Stretch) → s.from ≡ t.from → IsWaveFrom (s.to + 1) ss → s.from < s.to
    → ((u : ℕ) → line_of (s ∷ ss) u ≡ line_of (t ∷ ts) u) → s.to < t.to → ⊥
not_shorter s t ss ts e after width same h =
    let high : line_of (s ∷ ss) s.to ≡ false = rw (covers_not_after s s.to (omega arith)) (high_before (s.to + 1) ss after s.to (omega arith)) in
    let low : line_of (t ∷ ts) s.to ≡ true = rw (covers_own t s.to (omega arith) h) refl in
    let clash : true ≡ false = sym low ∙ sym (same s.to) ∙ high in
    cc

-- what is left of the line after the first stretch
rest_alike : (s : Stretch) (ss ts : List Stretch) → IsWaveFrom (s.to + 1) ss → IsWaveFrom (s.to + 1) ts
    → ((u : ℕ) → line_of (s ∷ ss) u ≡ line_of (s ∷ ts) u) → (u : ℕ) → line_of ss u ≡ line_of ts u
rest_alike s ss ts w v same u =
    elim (cases_lt u (s.to + 1)) [
      | inl lt ↦ high_before (s.to + 1) ss w u lt ∙ sym (high_before (s.to + 1) ts v u lt)
      | inr ge ↦
          let c : covers s u ≡ false = covers_not_after s u (omega arith) in
          let left : line_of (s ∷ ss) u ≡ line_of ss u = rw c refl in
          let right : line_of (s ∷ ts) u ≡ line_of ts u = rw c refl in
          sym left ∙ same u ∙ right
    ]

same_stretch : (s t : Stretch) → s.from ≡ t.from → s.to ≡ t.to → s ≡ t
same_stretch s t e f = λ i. record { from = e i; to = f i }

-- a line has one wave
one_wave : (from : ℕ) (ss ts : List Stretch) → IsWaveFrom from ss → IsWaveFrom from ts → ((u : ℕ) → line_of ss u ≡ line_of ts u) → ss ≡ ts
one_wave from [] [] w v same = refl
one_wave from [] (t ∷ ts) w v same =
    let low : line_of (t ∷ ts) t.from ≡ true = rw (covers_own t t.from (omega arith) v.1) refl in
    let clash : true ≡ false = sym low ∙ sym (same t.from) in
    cc
one_wave from (s ∷ ss) [] w v same =
    let low : line_of (s ∷ ss) s.from ≡ true = rw (covers_own s s.from (omega arith) w.1) refl in
    let clash : true ≡ false = sym low ∙ same s.from in
    cc
one_wave from (s ∷ ss) (t ∷ ts) w v same =
    let back : (u : ℕ) → line_of (t ∷ ts) u ≡ line_of (s ∷ ss) u = λ u. sym (same u) in
    let e : s.from ≡ t.from = elim (cases_lt s.from t.from) [
      | inl lt ↦ absurd (not_sooner s t ss ts w.1 v.2 v.1 same lt)
      | inr ge ↦ elim (cases_lt t.from s.from) [
        | inl gt ↦ absurd (not_sooner t s ts ss v.1 w.2 w.1 back gt)
        | inr le ↦ omega arith
      ]
    ] in
    let f : s.to ≡ t.to = elim (cases_lt s.to t.to) [
      | inl lt ↦ absurd (not_shorter s t ss ts e w.2 w.1 same lt)
      | inr ge ↦ elim (cases_lt t.to s.to) [
        | inl gt ↦ absurd (not_shorter t s ts ss (sym e) v.2 v.1 back gt)
        | inr le ↦ omega arith
      ]
    ] in
    let one : s ≡ t = same_stretch s t e f in
    subst (λ x. (s ∷ ss) ≡ (x ∷ ts)) one (ap (λ xs. s ∷ xs) (one_wave (s.to + 1) ss ts w.2 (rw f v.2) (rest_alike s ss ts w.2 (rw f v.2) (subst (λ x. (u : ℕ) → line_of (s ∷ ss) u ≡ line_of (x ∷ ts) u) (sym one) same))))

same_end : (begin : ℕ) (seats : List Seat) (o p : Outcome) (pulses : List Stretch) → o.wave ≡ p.wave → IsRound seats begin pulses o → IsRound seats begin pulses p → SameOutcome o p
same_end begin seats o p pulses e r s = record {
  begin = r.starts ∙ sym s.starts;
  at = r.ends ∙ ap (λ w. (reading_of (line_of w) begin).at) e ∙ sym s.ends;
  ending = r.ending ∙ ap (λ w. (reading_of (line_of w) begin).ending) e ∙ sym s.ending;
  bits = r.bits ∙ ap (λ w. bits_of (reading_of (line_of w) begin)) e ∙ sym s.bits;
  survivors = r.survivors ∙ ap (λ w. survivors_from (reading_of (line_of w) begin) 0 seats) e ∙ sym s.survivors;
  losers = r.losers ∙ ap (λ w. losers_from (reading_of (line_of w) begin) 0 seats) e ∙ sym s.losers;
  rest = r.rest ∙ ap (λ w. rest_of (reading_of (line_of w) begin).until w) e ∙ sym s.rest;
  wave = e;
}

pub one_outcome : OneOutcome
one_outcome seats begin pulses o p v w r s =
    same_end begin seats o p pulses (one_wave 0 o.wave p.wave v w (one_line seats begin pulses (line_of o.wave) (line_of p.wave) r.line s.line)) r s
