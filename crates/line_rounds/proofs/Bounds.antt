-- How long a round takes at most, where its last stretch begins, and how many pulses begin in it.
use Rattle.std.proofs.Common.{◌≡◌, ℕ, suc, ◌+◌, ◌-◌, ◌==◌, ◌<◌, ◌≤◌, Bool, true, false, ◌&&◌, nat_le, if◌then◌else◌, List, [], ◌∷◌, length, inl, inr, refl, arith, ap, ◌∙◌, sym, subst}
use Rattle.std.specs.List.{All, fold}
use Rattle.std.proofs.lemmas.Bool.{cases_lt}
use Rattle.std.proofs.lemmas.Bool.Decides.{nat_tests}
use Rattle.line_wave.specs.declared.Stretch.{Stretch}
use Rattle.line_wave.specs.Line.{Line, line_of, covers, is_fall, IsWave}
use Rattle.line_wave.specs.Pulses.{IsNarrow, AreSparse}
use Rattle.line_reading.specs.Reading.{reading_of}
use Rattle.line_reading.proofs.Ends.{at_by}
use Rattle.line_rounds.specs.declared.Seat.{Seat}
use Rattle.line_rounds.specs.declared.Outcome.{Outcome}
use Rattle.line_rounds.specs.Round.{IsRound}
use Rattle.line_rounds.specs.Bounds.{begun_within, RoundsAreShort}
use Rattle.line_rounds.specs.Elements.{In}
use Rattle.line_rounds.proofs.Differ.{any_in}
use Rattle.line_rounds.proofs.Law.{all_in}
use Rattle.line_rounds.proofs.Lows.{wave_wide}
use Rattle.line_rounds.proofs.OneOutcome.{covers_own}
use Rattle.line_rounds.proofs.Spans.{reading_bound}
use Rattle.line_rounds.proofs.Still.{high_after, sparse_order}
use Rattle.line_rounds.proofs.Afterwards.{no_fall_after}
use Rattle.line_rounds.proofs.Alone.{in_all}
use Rattle.line_rounds.proofs.Few.{begins_within, few_begun}
use Rattle.line_wave.proofs.Waves.{falls_of_wave}

-- ---- the rest

ends : (low : Line) (begin : ℕ) → (reading_of low begin).at ≤ begin + 444861
ends low begin = omega (arith, at_by low begin, reading_bound low begin)

rest_under : (until r bound : ℕ) (ss : List Stretch) → r ≤ bound → ((s : Stretch) → In s ss → s.to ≤ bound) → fold (λ rest s. if nat_le s.from until then s.to else rest) r ss ≤ bound
rest_under until r bound [] l h = l
rest_under until r bound (s ∷ ss) l h =
    rest_under until (if nat_le s.from until then s.to else r) bound ss (by_test (nat_le s.from until)) (λ x i. h x (inr i))
  where
    by_test : (b : Bool) → (if b then s.to else r) ≤ bound
    by_test true = h s (inl refl)
    by_test false = l

rests : (seats : List Seat) (begin : ℕ) (pulls : List Stretch) (o : Outcome) (bound : ℕ) → IsWave pulls → IsWave o.wave → IsRound seats begin pulls o
    → begin + 448461 ≤ bound → All (λ p. p.from ≤ begin + 448461 → p.to ≤ bound) pulls → o.rest ≤ bound
rests seats begin pulls o bound order wave round late all =
    subst (λ r. r ≤ bound) (sym round.rest) (rest_under (reading_of (line_of o.wave) begin).until 0 bound o.wave (omega arith) each)
  where
    each : (s : Stretch) → In s o.wave → s.to ≤ bound
    each s i = elim (cases_lt bound s.to) [
      | inr ge ↦ ge
      | inl lt ↦ (
          let w : s.from < s.to = (wave_wide 0 o.wave s wave i).1 in
          let at = ends (line_of o.wave) begin in
          let own : covers s (s.to - 1) ≡ true = covers_own s (s.to - 1) (omega arith) (omega arith) in
          let low : line_of o.wave (s.to - 1) ≡ true = any_in (λ x. covers x (s.to - 1)) o.wave s i own in
          let high : line_of o.wave (s.to - 1) ≡ false = high_after seats begin pulls (line_of o.wave) round.line order (s.to - 1) (omega (arith, lt, at, late))
          (λ p j e. let x = all_in (λ p. p.from ≤ begin + 448461 → p.to ≤ bound) pulls all p j (omega (arith, e, at)) in omega (arith, x, lt)) in
          let no : true ≡ false = sym low ∙ high in cc)
    ]

sparse : (seats : List Seat) (begin : ℕ) (pulses : List Stretch) (o : Outcome) → AreSparse pulses → IsWave o.wave → IsRound seats begin pulses o → o.rest ≤ begin + 458461
sparse seats begin pulses o narrow wave round =
    rests seats begin pulses o (begin + 458461) (sparse_order pulses narrow) wave round (omega arith) (in_all (λ p. p.from ≤ begin + 448461 → p.to ≤ begin + 458461) pulses
    (λ p i e. let n : IsNarrow p = all_in IsNarrow pulses narrow.narrow p i in omega (arith, n.1, e)))

-- ---- where the last stretch begins

begins : (seats : List Seat) (begin : ℕ) (pulls : List Stretch) (o : Outcome) → IsWave o.wave → IsRound seats begin pulls o
    → All (λ s. s.from ≤ (reading_of (line_of o.wave) begin).until) o.wave
begins seats begin pulls o wave round = in_all (λ s. s.from ≤ (reading_of (line_of o.wave) begin).until) o.wave each
  where
    each : (s : Stretch) → In s o.wave → s.from ≤ (reading_of (line_of o.wave) begin).until
    each s i = elim (cases_lt (reading_of (line_of o.wave) begin).until s.from) [
      | inr ge ↦ ge
      | inl lt ↦ (
          let own : (s.from == s.from) ≡ true = grind (arith, nat_tests) in
          let fall : is_fall (line_of o.wave) s.from ≡ true = falls_of_wave o.wave 0 s.from wave ∙ any_in (λ x. x.from == s.from) o.wave s i own in
          let none : is_fall (line_of o.wave) s.from ≡ false = no_fall_after seats begin pulls (line_of o.wave) round.line s.from lt in
          let no : true ≡ false = sym fall ∙ none in cc)
    ]

-- ---- how many pulses begin

same_count : (begin end : ℕ) (ps : List Stretch) → length (begun_within begin end ps) ≡ length (begins_within begin end ps)
unfolding begins_within
same_count begin end [] = refl
same_count begin end (p ∷ ps) = by_test (nat_le begin p.from && nat_le p.from end) (same_count begin end ps)
  where
    by_test : (b : Bool) → length (begun_within begin end ps) ≡ length (begins_within begin end ps)
        → length (if b then p ∷ begun_within begin end ps else begun_within begin end ps) ≡ length (if b then p.from ∷ begins_within begin end ps else begins_within begin end ps)
    by_test true e = ap suc e
    by_test false e = e

pub rounds_are_short : RoundsAreShort
rounds_are_short = record {
  ends = ends;
  rests = rests;
  sparse = sparse;
  begins = begins;
  few = λ seats begin pulses o narrow wave round.
      omega (arith, same_count begin o.rest pulses, few_begun begin o.rest pulses narrow (omega (arith, sparse seats begin pulses o narrow wave round)));
}
