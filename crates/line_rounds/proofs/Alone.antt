-- A round's line by itself.
use Rattle.std.proofs.Common.{◌≡◌, ℕ, zero, suc, ◌+◌, ◌==◌, ◌<◌, ◌≤◌, Bool, true, false, ◌||◌, nat_lt, nat_le, if◌then◌else◌, List, [], ◌∷◌, inl, inr, Some, None, refl, arith, ap, ◌∙◌, sym, subst}
use Rattle.std.specs.List.{All, list_any, fold}
use Rattle.std.proofs.lemmas.Bool.{cases_lt}
use Rattle.std.proofs.lemmas.Bool.Decides.{nat_tests}
use Rattle.line_wave.specs.declared.Stretch.{Stretch}
use Rattle.line_wave.specs.Line.{line_of, covers, was_low, is_fall, IsWaveFrom, IsWave}
use Rattle.line_reading.specs.Windows.{standard}
use Rattle.line_reading.specs.Reading.{known_at, reading_of, start_of, reported_of}
use Rattle.line_reading.specs.Readings.{Listed, part_until, part_listed, IsLone}
use Rattle.line_reading.proofs.Ends.{lately}
use Rattle.line_rounds.specs.declared.Seat.{Seat}
use Rattle.line_rounds.specs.declared.Outcome.{Outcome}
use Rattle.line_rounds.specs.Round.{IsRound, rest_of, is_within, pulse_pulls}
use Rattle.line_rounds.specs.Contend.{AreFrames}
use Rattle.line_rounds.specs.Lasting.{is_begun}
use Rattle.line_rounds.specs.Alone.{part_of, outcome_listed, RoundsAreLone}
use Rattle.line_rounds.specs.Elements.{In}
use Rattle.line_rounds.proofs.Differ.{in_any, any_in}
use Rattle.line_rounds.proofs.Early.{and_right}
use Rattle.line_rounds.proofs.Lows.{wave_wide}
use Rattle.line_rounds.proofs.Lasting.{rest_rises, rest_past, begun_by, contended, low_at_begin}
use Rattle.line_rounds.proofs.OneOutcome.{covers_own}
use Rattle.line_rounds.proofs.Still.{high_before}
use Rattle.line_rounds.proofs.Afterwards.{no_fall_after}
use Rattle.line_reading.specs.Over.{Lately}
use Rattle.line_wave.proofs.Waves.{falls_of_wave}

-- ---- high from the rest on

-- every stretch that begins by `until` has ended by the rest
ended_by : (until r from : ℕ) (ss : List Stretch) (s : Stretch) → IsWaveFrom from ss → In s ss → s.from ≤ until → s.to ≤ fold (λ rest x. if nat_le x.from until then x.to else rest) r ss
ended_by until r from [] s w i l = absurd i
ended_by until r from (x ∷ ss) s w (inl e) l =
    let f : s.from ≡ x.from = ap (λ (y : Stretch). y.from) e in
    let t : s.to ≡ x.to = ap (λ (y : Stretch). y.to) e in
    let b : nat_le x.from until ≡ true = grind (arith, nat_tests) in
    let rises : x.to ≤ fold (λ rest y. if nat_le y.from until then y.to else rest) x.to ss = rest_rises until x.to (x.to + 1) ss w.2 (omega arith) in
    rw b (omega (arith, t, rises))
ended_by until r from (x ∷ ss) s w (inr i) l = ended_by until (if nat_le x.from until then x.to else r) (x.to + 1) ss s w.2 i l

begins_in : (ss : List Stretch) (s : Stretch) → In s ss → list_any (λ x. x.from == s.from) ss ≡ true
begins_in ss s i = any_in (λ x. x.from == s.from) ss s i (let e : (s.from == s.from) ≡ true = grind (arith, nat_tests) in e)

high_from : (ss : List Stretch) (until u : ℕ) → IsWave ss → ((t : ℕ) → until < t → is_fall (line_of ss) t ≡ false) → rest_of until ss ≤ u → line_of ss u ≡ false
high_from ss until u w quiet l = by_low (line_of ss u) refl
  where
    by_low : (b : Bool) → line_of ss u ≡ b → line_of ss u ≡ false
    by_low false e = e
    by_low true e =
        let s = in_any (λ x. covers x u) ss e in
        let fall : is_fall (line_of ss) s.0.from ≡ true = falls_of_wave ss 0 s.0.from w ∙ begins_in ss s.0 s.1 in
        let early : s.0.from ≤ until = elim (cases_lt until s.0.from) [
          | inl lt ↦ (let x : true ≡ false = sym fall ∙ quiet s.0.from lt in cc)
          | inr ge ↦ ge
        ] in
        let over : s.0.to ≤ rest_of until ss = ended_by until 0 0 ss s.0 w s.1 early in
        let inside : nat_lt u s.0.to ≡ true = and_right (nat_le s.0.from u) (nat_lt u s.0.to) s.2 in
        let past : u < s.0.to = grind (arith, nat_tests) in
        absurd (omega (arith, over, past, l))

-- ---- the laws

lone : (seats : List Seat) (begin : ℕ) (pulses : List Stretch) (o : Outcome) → AreFrames seats → IsWave pulses → IsWave o.wave
    → IsRound seats begin pulses o → is_begun seats begin pulses ≡ true → IsLone (part_of o)
lone seats begin pulses o frames order wave round begun =
    subst (λ b. IsLone (record { begin = b; rest = o.rest; wave = o.wave })) (sym round.starts) (record {
      before = λ u l. high_before seats begin pulses (line_of o.wave) round.line u l;
      first = low_at_begin seats begin pulses (line_of o.wave) order (contended seats begin pulses (line_of o.wave) round.line) (begun_by (line_of o.wave) begin (start_of (line_of o.wave) begin) refl).reports begun;
      after = λ u l. high_from o.wave (reading_of (line_of o.wave) begin).until u wave quiet (omega (arith, round.rest, l));
      quiet = quiet;
    })
  where
    quiet : (u : ℕ) → (reading_of (line_of o.wave) begin).until < u → is_fall (line_of o.wave) u ≡ false
    quiet u l = no_fall_after seats begin pulses (line_of o.wave) round.line u l

reported : (seats : List Seat) (begin : ℕ) (pulses : List Stretch) (o : Outcome) → IsRound seats begin pulses o → part_listed (part_of o) ≡ outcome_listed o
reported seats begin pulses o round =
    ap (λ b. let x : Listed = record { begin = o.reading.begin; reported = reported_of (reading_of (line_of o.wave) b) } in x) round.starts
    ∙ ap (λ bits. let x : Listed = record { begin = o.reading.begin; reported = record { bits = bits; ending = (reading_of (line_of o.wave) begin).ending; at = (reading_of (line_of o.wave) begin).at } } in x) (sym round.bits)
    ∙ ap (λ ending. let x : Listed = record { begin = o.reading.begin; reported = record { bits = o.reading.bits.items; ending = ending; at = (reading_of (line_of o.wave) begin).at } } in x) (sym round.ending)
    ∙ ap (λ at. let x : Listed = record { begin = o.reading.begin; reported = record { bits = o.reading.bits.items; ending = o.reading.ending; at = at } } in x) (sym round.ends)

soon : (seats : List Seat) (begin : ℕ) (pulses : List Stretch) (o : Outcome) → IsWave pulses → IsWave o.wave
    → IsRound seats begin pulses o → is_begun seats begin pulses ≡ true → part_until (part_of o) ≤ o.rest + standard.start_total.most
soon seats begin pulses o order wave round begun =
    let b = begun_by (line_of o.wave) begin (start_of (line_of o.wave) begin) refl in
    let low : line_of o.wave begin ≡ true = low_at_begin seats begin pulses (line_of o.wave) order (contended seats begin pulses (line_of o.wave) round.line) b.reports begun in
    let l : Lately (line_of o.wave) (reading_of (line_of o.wave) begin).until standard.start_total.most = lately (line_of o.wave) begin low in
    let p : l.f < rest_of (reading_of (line_of o.wave) begin).until o.wave = rest_past (reading_of (line_of o.wave) begin).until l.f 0 0 o.wave wave l.by l.is_low in
    let same : part_until (part_of o) ≡ (reading_of (line_of o.wave) begin).until = ap (λ e. (reading_of (line_of o.wave) e).until) round.starts in
    omega (arith, p, l.soon, round.rest, same)

taken_one : (seats : List Seat) (begin : ℕ) (pulses : List Stretch) (o : Outcome) → IsWave pulses → IsWave o.wave → IsRound seats begin pulses o
    → (p : Stretch) → In p pulses → begin ≤ p.from → o.rest < p.from → part_until (part_of o) < p.from
taken_one seats begin pulses o order wave round p i l m =
    elim (cases_lt (reading_of (line_of o.wave) begin).until p.from) [
      | inl lt ↦ omega (arith, lt, same)
      | inr ge ↦ absurd (omega (arith, m, round.rest, rest_past (reading_of (line_of o.wave) begin).until p.from 0 0 o.wave wave ge (low_there ge)))
    ]
  where
    same : part_until (part_of o) ≡ (reading_of (line_of o.wave) begin).until
    same = ap (λ e. (reading_of (line_of o.wave) e).until) round.starts

    wide : p.from < p.to
    wide = (wave_wide 0 pulses p order i).1

    low_there : p.from ≤ (reading_of (line_of o.wave) begin).until → line_of o.wave p.from ≡ true
    low_there ge =
        let still : nat_lt (reading_of (line_of o.wave) begin).until p.from ≡ false = grind (arith, nat_tests) in
        let within : is_within (known_at p.from (reading_of (line_of o.wave) begin)).ended p.from ≡ true =
        ap (λ b. is_within (if b then Some (record { ending = (reading_of (line_of o.wave) begin).ending; at = (reading_of (line_of o.wave) begin).at; until = (reading_of (line_of o.wave) begin).until }) else None) p.from) still in
        let own : covers p p.from ≡ true = covers_own p p.from (omega arith) (omega (arith, wide)) in
        let begun : nat_le begin p.from ≡ true = grind (arith, nat_tests) in
        let pulls : pulse_pulls begin (known_at p.from (reading_of (line_of o.wave) begin)).ended (was_low (line_of o.wave) p.from) p.from p ≡ true = rw (own, begun, within) refl in
        round.line p.from ∙ true_or _ _ (any_in (pulse_pulls begin (known_at p.from (reading_of (line_of o.wave) begin)).ended (was_low (line_of o.wave) p.from) p.from) pulses p i pulls)
      where
        true_or : (a b : Bool) → a ≡ true → (a || b) ≡ true
        true_or true b h = refl
        true_or false b h = cc

pub in_all : {X : Type 0} (P : X → Type 0) (xs : List X) → ((x : X) → In x xs → P x) → All P xs
in_all P [] h = λ i d l. absurd (omega (arith, l))
in_all P (x ∷ xs) h = by_index (in_all P xs (λ y i. h y (inr i)))
  where
    by_index : All P xs → All P (x ∷ xs)
    by_index rest zero d l = h x (inl refl)
    by_index rest (suc k) d l = rest k d (omega (arith, l))

pub rounds_are_lone : RoundsAreLone
rounds_are_lone = record {
  lone = lone;
  reported = reported;
  soon = soon;
  taken = λ seats begin pulses o order wave round. in_all (λ p. begin ≤ p.from → o.rest < p.from → part_until (part_of o) < p.from) pulses (λ p i l m. taken_one seats begin pulses o order wave round p i l m);
}
