-- Before a round begins, and once it is over, the line is high.
use Rattle.std.proofs.Common.{◌≡◌, ℕ, zero, suc, ◌+◌, ◌-◌, ◌<◌, ◌≤◌, Bool, true, false, ◌&&◌, ◌||◌, nat_lt, nat_le, if◌then◌else◌, List, [], ◌∷◌, ◌⊎◌, inl, inr, Option, Some, None, is_none, refl, arith, ap, ◌∙◌, sym}
use Rattle.std.specs.List.{list_any}
use Rattle.std.proofs.lemmas.Bool.{cases_lt}
use Rattle.std.proofs.lemmas.Bool.Decides.{nat_tests}
use Rattle.line_wave.specs.declared.Stretch.{Stretch}
use Rattle.line_wave.specs.Line.{Line, line_of, covers, was_low, IsWave}
use Rattle.line_wave.specs.Pulses.{AreSparse, IsNarrow}
use Rattle.line_wave.proofs.Kept.{sparse_wave}
use Rattle.line_wave.specs.Sender.{sender_stretches}
use Rattle.line_frames.specs.Bits.{frame_bits}
use Rattle.line_reading.specs.Reading.{End, Known, Read, Slot, known_at, known_slots, reading_of}
use Rattle.line_reading.proofs.Causes.{known_start_low}
use Rattle.line_reading.proofs.Ends.{until_by}
use Rattle.line_rounds.specs.declared.Seat.{Seat}
use Rattle.line_reading.specs.Sending.{goes_on, out_slot, sender_pulls}
use Rattle.line_rounds.specs.Round.{frames_of, is_within, pulse_pulls, is_acknowledged, is_broken, is_pulled, IsRoundLine}
use Rattle.line_rounds.specs.Quiet.{HighBefore, PulseOnly, HighSparse, PulseOver}
use Rattle.line_rounds.specs.Elements.{In}
use Rattle.line_rounds.specs.Slots.{AreReported}
use Rattle.line_rounds.specs.Follow.{AreDone}
use Rattle.line_rounds.proofs.Differ.{in_any}
use Rattle.line_rounds.proofs.Lows.{wave_apart}
use Rattle.line_rounds.proofs.Lays.{before_start}
use Rattle.line_rounds.proofs.Early.{and_left, and_mid, and_right, no_acks, or_cases}
use Rattle.line_rounds.proofs.Law.{all_in}
use Rattle.line_rounds.proofs.Spans.{reading_spans}
use Rattle.line_reading.specs.Known.{nothing}

-- ---- before the round

pub high_before : HighBefore
unfolding nothing
high_before seats begin pulses low line u l = by_low (low u) refl
  where
    k : known_at u (reading_of low begin) ≡ nothing
    k = known_start_low low begin u (omega arith) (λ v a b. absurd (omega arith))

    none_of : is_pulled seats begin pulses (was_low low u) nothing u ≡ true → ⊥
    none_of h =
        elim (or_cases (list_any (pulse_pulls begin None (was_low low u) u) pulses) _ h) [
          | inl a ↦ (let r = in_any (pulse_pulls begin None (was_low low u) u) pulses a in
              let c : nat_le r.0.from u ≡ true = and_left (nat_le r.0.from u) (nat_lt u r.0.to) (and_left (nat_le r.0.from u && nat_lt u r.0.to) _ r.2) in
              let d : nat_le begin r.0.from ≡ true = and_left (nat_le begin r.0.from) true (and_right (nat_le r.0.from u && nat_lt u r.0.to) _ r.2) in
              early r.0.from c d)
          | inr b ↦ elim (or_cases (list_any (sender_pulls begin nothing u) (frames_of seats) && true) _ b) [
            | inl a ↦ (let r = in_any (sender_pulls begin nothing u) (frames_of seats) (and_left (list_any (sender_pulls begin nothing u) (frames_of seats)) true a) in
                let e : true ≡ false = sym (and_left (line_of (sender_stretches begin (frame_bits r.0)) u) _ r.2) ∙ before_start (frame_bits r.0) begin u l in cc)
            | inr a ↦ cc
          ]
        ]
      where
        early : (from : ℕ) → nat_le from u ≡ true → nat_le begin from ≡ true → ⊥
        early from c d = let a : from ≤ u = grind (arith, nat_tests) in let b : begin ≤ from = grind (arith, nat_tests) in omega arith

    by_low : (b : Bool) → low u ≡ b → low u ≡ false
    by_low false e = e
    by_low true e = absurd (none_of (sym (ap (λ (n : Known). is_pulled seats begin pulses (was_low low u) n u) k) ∙ sym (line u) ∙ e))

-- ---- after it

abbrev end_of : Read → End
end_of r = record { ending = r.ending; at = r.at; until = r.until }

slots_done : (until u : ℕ) (ss : List Slot) → AreReported until ss → until + 1500 ≤ u → AreDone u (known_slots u ss)
slots_done until u [] d l = tt
slots_done until u (s ∷ ss) d l = rw (let f : nat_lt s.fall u ≡ true = grind (arith, nat_tests, d.0) in f) (omega (arith, d.0, l), slots_done until u ss d.2 l)

-- 3,600 after a reading's ending nobody acknowledges any more, and nobody answers a fall too early
let_go : (seats : List Seat) (low : Line) (begin u : ℕ) → (reading_of low begin).at + 3600 ≤ u
    → (is_acknowledged seats (known_at u (reading_of low begin)) u || is_broken seats (known_at u (reading_of low begin)) u (Some (end_of (reading_of low begin)))) ≡ false
let_go seats low begin u l =
    let acks : is_acknowledged seats (known_at u (reading_of low begin)) u ≡ false = no_acks seats (known_at u (reading_of low begin)) u (known_slots u (reading_of low begin).slots) 1
    (slots_done (reading_of low begin).until u (reading_of low begin).slots (reading_spans low begin).reported (omega (arith, l, until_by low begin))) in
    let late : nat_lt u ((reading_of low begin).at + 3600) ≡ false = grind (arith, nat_tests) in
    rw acks (and_mid _ (nat_lt u ((reading_of low begin).at + 3600)) _ late)

-- 3,600 after the ending only a pulse pulls: one that the round took, or one that touches a low line
pub pulse_only : PulseOnly
pulse_only seats begin pulses low line u l h =
    elim (or_cases (list_any (pulse_pulls begin (Some e) (was_low low u) u) pulses) _ made) [
      | inl a ↦ (let r = in_any (pulse_pulls begin (Some e) (was_low low u) u) pulses a in
          (r.0, r.1, and_left (covers r.0 u) _ r.2, taken r.0 (or_cases (nat_le r.0.from e.until) (was_low low u) (and_right (nat_le begin r.0.from) _ (and_right (covers r.0 u) _ r.2)))))
      | inr b ↦ elim (or_cases (list_any (sender_pulls begin k u) (frames_of seats) && (is_within (Some e) u || was_low low u)) _ b) [
        | inl a ↦ (let r = in_any (sender_pulls begin k u) (frames_of seats) (and_left (list_any (sender_pulls begin k u) (frames_of seats)) _ a) in
            absurd (stopped (sym (ap (λ (n : Option End). goes_on n u) ended) ∙ and_right (is_none (out_slot k (frame_bits r.0))) (goes_on k.ended u) (and_right (line_of (sender_stretches begin (frame_bits r.0)) u) _ r.2))))
        | inr a ↦ (let no : true ≡ false = sym a ∙ let_go seats low begin u l in cc)
      ]
    ]
  where
    k : Known
    k = known_at u (reading_of low begin)

    e : End
    e = end_of (reading_of low begin)

    ended : k.ended ≡ Some e
    ended = ap (λ b. let o : Option End = if b then Some (end_of (reading_of low begin)) else None in o) (let x : nat_lt (reading_of low begin).until u ≡ true = (let past = until_by low begin in grind (arith, nat_tests)) in x)

    made : (list_any (pulse_pulls begin (Some e) (was_low low u) u) pulses
        || ((list_any (sender_pulls begin k u) (frames_of seats) && (is_within (Some e) u || was_low low u)) || (is_acknowledged seats k u || is_broken seats k u (Some e)))) ≡ true
    made = sym (ap (λ (n : Option End). list_any (pulse_pulls begin n (was_low low u) u) pulses
        || ((list_any (sender_pulls begin k u) (frames_of seats) && (is_within n u || was_low low u)) || (is_acknowledged seats k u || is_broken seats k u n))) ended)
        ∙ sym (line u) ∙ h

    taken : (p : Stretch) → (nat_le p.from e.until ≡ true) ⊎ (was_low low u ≡ true) → (p.from ≤ e.until) ⊎ (was_low low u ≡ true)
    taken p (inl a) = inl (let x : p.from ≤ e.until = grind (arith, nat_tests) in x)
    taken p (inr a) = inr a

    stopped : nat_le u e.at ≡ true → ⊥
    stopped g = let x : u ≤ e.at = grind (arith, nat_tests) in omega arith

was_before : (low : Line) (u : ℕ) → was_low low u ≡ true → low (u - 1) ≡ true
was_before low u h = and_right (nat_lt 0 u) (low (u - 1)) h

bounds : (p : Stretch) (u : ℕ) → covers p u ≡ true → (p.from ≤ u) × (u < p.to)
bounds p u h =
    let a : nat_le p.from u ≡ true = and_left (nat_le p.from u) (nat_lt u p.to) h in
    let b : nat_lt u p.to ≡ true = and_right (nat_le p.from u) (nat_lt u p.to) h in
    (let x : p.from ≤ u = grind (arith, nat_tests) in x, let y : u < p.to = grind (arith, nat_tests) in y)

-- pulls in order never meet
meet : (pulls : List Stretch) → IsWave pulls → (p q : Stretch) → In p pulls → In q pulls → (u : ℕ) → covers p u ≡ true → covers q (u - 1) ≡ true → q.from < p.from → ⊥
meet pulls order p q i j u c d l = omega (arith, wave_apart 0 pulls q p order j i l, bounds p u c, bounds q (u - 1) d)

-- such a pull began by then
pulse_held : (seats : List Seat) (begin : ℕ) (pulls : List Stretch) (low : Line) (at : ℕ) → IsRoundLine seats begin pulls low → IsWave pulls → (reading_of low begin).at ≡ at
    → (n : ℕ) → low (at + 3600 + n) ≡ true → PulseOver pulls (at + 3600 + n) (λ from. from ≤ at + 3600)
pulse_held seats begin pulls low at line order same zero h =
    let p = pulse_only seats begin pulls low line (at + 3600 + zero) (omega (arith, same)) h in
    (p.0, p.1, p.2, omega (arith, bounds p.0 (at + 3600 + zero) p.2))
pulse_held seats begin pulls low at line order same (suc n) h =
    let p = pulse_only seats begin pulls low line (at + 3600 + suc n) (omega (arith, same)) h in
    elim (cases_lt (at + 3600) p.0.from) [
      | inr le ↦ (p.0, p.1, p.2, le)
      | inl late ↦ elim p.3 [
        | inl a ↦ absurd (omega (arith, a, until_by low begin, same, late))
        | inr w ↦ (let before : low (at + 3600 + n) ≡ true = ap low (let x : at + 3600 + n ≡ at + 3600 + suc n - 1 = omega arith in x) ∙ was_before low (at + 3600 + suc n) w in
            let q = pulse_held seats begin pulls low at line order same n before in
            absurd (meet pulls order p.0 q.0 p.1 q.1 (at + 3600 + suc n) p.2 (ap (covers q.0) (let x : at + 3600 + suc n - 1 ≡ at + 3600 + n = omega arith in x) ∙ q.2) (omega (arith, q.3, late))))
      ]
    ]

-- so once those that began by then have ended the line is high
pub high_after : (seats : List Seat) (begin : ℕ) (pulls : List Stretch) (low : Line) → IsRoundLine seats begin pulls low → IsWave pulls
    → (u : ℕ) → (reading_of low begin).at + 3600 ≤ u → ((p : Stretch) → In p pulls → p.from ≤ (reading_of low begin).at + 3600 → p.to ≤ u) → low u ≡ false
high_after seats begin pulls low line order u l ended = by_low (low u) refl
  where
    at : ℕ
    at = (reading_of low begin).at

    by_low : (b : Bool) → low u ≡ b → low u ≡ false
    by_low false h = h
    by_low true h =
        let p = pulse_held seats begin pulls low at line order refl (u - (at + 3600)) (ap low (let x : at + 3600 + (u - (at + 3600)) ≡ u = omega arith in x) ∙ h) in
        absurd (omega (arith, ended p.0 p.1 p.3, l, bounds p.0 (at + 3600 + (u - (at + 3600))) p.2))

pub sparse_order : (pulses : List Stretch) → AreSparse pulses → IsWave pulses
sparse_order pulses sparse = sparse_wave pulses sparse

-- with sparse pulses 13,600 after the ending
pub high_sparse : HighSparse
high_sparse seats begin pulses low line sparse u l =
    high_after seats begin pulses low line (sparse_order pulses sparse) u (omega (arith, l)) (λ p i e. let n : IsNarrow p = all_in IsNarrow pulses sparse.narrow p i in omega (arith, n.1, e, l))
