-- How late a wire may still have something to hear.
use Rattle.std.proofs.Common.{◌≡◌, ℕ, ◌+◌, ◌-◌, ◌<◌, ◌≤◌, Bool, true, false, not, ◌&&◌, nat_lt, nat_le, ◌⊎◌, inl, inr, List, [], ◌++◌, append-nil, Option, Some, None, is_some, refl, arith, ap, ◌∙◌, sym, subst}
use Rattle.std.specs.List.{All}
use Rattle.std.proofs.lemmas.Bool.{cases_lt, and_parts}
use Rattle.std.proofs.lemmas.Bool.Decides.{nat_tests}
use Rattle.line_wave.specs.declared.Stretch.{Stretch}
use Rattle.line_wave.specs.Line.{Line, covers, IsWave}
use Rattle.line_wave.specs.Pulses.{AreSparse}
use Rattle.line_wave.specs.Bounds.{latest_heard}
use Rattle.line_wave.specs.Sender.{first_slot}
use Rattle.line_reading.specs.Reading.{reading_of}
use Rattle.line_rounds.specs.declared.Seat.{Seat}
use Rattle.line_wire.specs.declared.reading.Ended.{Ended as Ending_kept}
use Rattle.line_rounds.specs.Round.{IsRoundLine}
use Rattle.line_rounds.proofs.Bounds.{rounds_are_short}
use Rattle.line_rounds.proofs.Still.{high_sparse, pulse_only}
use Rattle.line_wire.specs.declared.edge_wire.EdgeWire.{EdgeWire}
use Rattle.line_wave.specs.Pulls.{EndsInTime}
use Rattle.line_wire.specs.Told.{told_of}
use Rattle.line_wire.specs.Turns.{IsCalm}
use Rattle.line_wire.specs.Wire.{IsRead}
use Rattle.line_wire.specs.Wired.{EachLine, IsBegunWith, StandsOnLine, end_in, is_low_in, pulls_in, is_silent_in}
use Rattle.line_wire.proofs.Hearing.{low_next, kept_end}
use Rattle.line_wire.proofs.Turning.{made_line, made_round}
use Rattle.line_wire.proofs.Lists.{all_in}

-- ---- a pull alone

ends : (low : Line) (begin : ℕ) → (reading_of low begin).at ≤ begin + 444861
ends = rounds_are_short.ends

-- 470,000 after its begin a round's line is low by its pulls alone
pub low_by_pull : (seats : List Seat) (begin : ℕ) (pulses : List Stretch) (low : Line) → IsRoundLine seats begin pulses low → (P : Stretch → Type 0) → All P pulses → (u : ℕ) → begin + 470000 ≤ u → low u ≡ true → (p : Stretch) × P p × (covers p u ≡ true)
low_by_pull seats begin pulses low line P all u l h =
    let p = pulse_only seats begin pulses low line u (omega (arith, l, ends low begin)) h in (p.0, all_in P pulses all p.0 p.1, p.2)

-- and with sparse pulses it is high
sparse_high : (seats : List Seat) (begin : ℕ) (pulses : List Stretch) (low : Line) → IsRoundLine seats begin pulses low → AreSparse pulses → (u : ℕ) → begin + 458461 ≤ u → low u ≡ false
sparse_high seats begin pulses low line sparse u l = high_sparse seats begin pulses low line sparse u (omega (arith, l, ends low begin))

-- ---- of a wire

pub none_later : (t : ℕ) → All (λ (p : Stretch). t ≤ p.from) []
none_later t i d l = absurd (omega (arith, l))

abbrev pub line_of_past : List Stretch → EdgeWire → Line
line_of_past past w = made_line w.seats.items w.begin (past ++ [])

pub past_round : (past : List Stretch) (w : EdgeWire) → IsRoundLine w.seats.items w.begin (past ++ []) (line_of_past past w)
past_round past w = made_round w.seats.items w.begin (past ++ [])

pub past_wave : (past : List Stretch) → IsWave past → IsWave (past ++ [])
past_wave past h = subst (λ (ps : List Stretch). IsWave ps) (sym (append-nil past)) h

low_soon : (past : List Stretch) (w : EdgeWire) → IsBegunWith past w → (u : ℕ) → w.begin + 470000 ≤ u → line_of_past past w u ≡ true → u + 1 < latest_heard
low_soon past w b u l h =
    let p = low_by_pull w.seats.items w.begin (past ++ []) (line_of_past past w) (past_round past w) EndsInTime (subst (λ (ps : List Stretch). All EndsInTime ps) (sym (append-nil past)) b.ends) u l h in
    let e : p.0.to < latest_heard = p.1 in
    let c : nat_lt u p.0.to ≡ true = (and_parts (nat_le p.0.from u) (nat_lt u p.0.to) p.2).1 in
    let d : u < p.0.to = grind (arith, nat_tests) in
    omega (arith, d, e)

pub stands_past : (past : List Stretch) (w : EdgeWire) → IsBegunWith past w → w.begin < w.time → StandsOnLine w (line_of_past past w)
stands_past past w b after = b.stands after [] (line_of_past past w) (past_wave past b.wave) (none_later w.time) (past_round past w)

-- where it is not silent and the reading has ended
pulls_still : (a b c : Bool) → (a && (not b && not c)) ≡ false → a ≡ true → (b ≡ true) ⊎ (c ≡ true)
pulls_still a true c h k = inl refl
pulls_still a false true h k = inr refl
pulls_still true false false h k = cc
pulls_still false false false h k = cc

still : (past : List Stretch) (w : EdgeWire) → IsBegunWith past w → is_silent_in w ≡ false → w.begin + 444861 < w.time → (is_low_in w ≡ true) ⊎ (pulls_in w ≡ true)
still past w b goes late = by_kept (kept_end w.ended)
  where
    s : StandsOnLine w (line_of_past past w)
    s = stands_past past w b (omega (arith, late))

    by_kept : (w.ended ≡ None) ⊎ ((e : Ending_kept) × (w.ended ≡ Some e)) → (is_low_in w ≡ true) ⊎ (pulls_in w ≡ true)
    by_kept (inl h) =
        let r : w.time ≤ (reading_of (told_of (line_of_past past w) w.begin) w.begin).at = (subst (λ (x : Option Ending_kept). IsRead w.seats.items w.begin w.receiver w.bits.items (end_in x) w.held (told_of (line_of_past past w) w.begin) w.time) h s.at.read).0 in
        absurd (omega (arith, r, late, ends (told_of (line_of_past past w) w.begin) w.begin))
    by_kept (inr h) = pulls_still (is_some w.ended) (is_low_in w) (pulls_in w) goes (ap (λ (x : Option Ending_kept). is_some x) h.1)

-- the line was low, and where it is to be low it is
was_then : (past : List Stretch) (w : EdgeWire) → IsBegunWith past w → w.begin < w.time → is_low_in w ≡ true → line_of_past past w (w.time - 1) ≡ true
was_then past w b after h = (and_parts (nat_lt 0 w.time) (line_of_past past w (w.time - 1)) ((stands_past past w b after).records.was ∙ h)).1

pub goes_near : (past : List Stretch) (w : EdgeWire) → IsBegunWith past w → is_silent_in w ≡ false → w.time < latest_heard
goes_near past w b goes = elim (cases_lt (w.begin + 470000) w.time) [
  | inr ge ↦ omega (arith, ge, b.early)
  | inl lt ↦ (elim (still past w b goes (omega (arith, lt))) [
    | inl h ↦ (let x = low_soon past w b (w.time - 1) (omega (arith, lt)) (was_then past w b (omega (arith, lt)) h) in omega (arith, x))
    | inr h ↦ (let x = low_soon past w b w.time (omega (arith, lt)) (low_next past w b [] (line_of_past past w) (past_wave past b.wave) (none_later (w.time + 1)) (past_round past w) ∙ h) in omega (arith, x))
  ])
]

-- and up to the next wake
pub waits_near : (past : List Stretch) (w : EdgeWire) (t : ℕ) → IsBegunWith past w → is_silent_in w ≡ false → w.time ≤ t → t ≤ w.time + first_slot → pulls_in w ≡ is_low_in w → EachLine w.seats.items w.begin past t (IsCalm w t) → t < latest_heard
waits_near past w t b goes le near same calm = elim (cases_lt (w.begin + 470000) w.time) [
  | inr ge ↦ omega (arith, ge, b.early, near)
  | inl lt ↦ (elim (cases_lt w.time t) [
    | inr ge ↦ (let x = goes_near past w b goes in omega (arith, x, ge))
    | inl m ↦ (let h : is_low_in w ≡ true = low_is (still past w b goes (omega (arith, lt))) in
        let x = low_soon past w b (t - 1) (omega (arith, lt, m)) (calm [] (line_of_past past w) (past_wave past b.wave) (none_later t) (past_round past w) (t - 1) (omega (arith, m)) (omega (arith, m)) ∙ h) in omega (arith, x, m))
  ])
]
  where
    low_is : (is_low_in w ≡ true) ⊎ (pulls_in w ≡ true) → is_low_in w ≡ true
    low_is (inl h) = h
    low_is (inr h) = sym same ∙ h

-- with sparse pulses nothing is to be heard 458,462 after the begin
pub goes_short : (past : List Stretch) (w : EdgeWire) → IsBegunWith past w → AreSparse past → is_silent_in w ≡ false → w.time ≤ w.begin + 458461
goes_short past w b sparse goes = elim (cases_lt (w.begin + 458461) w.time) [
  | inr ge ↦ ge
  | inl lt ↦ (elim (still past w b goes (omega (arith, lt))) [
    | inl h ↦ (let x : true ≡ false = sym (was_then past w b (omega (arith, lt)) h) ∙ high (w.time - 1) (omega (arith, lt)) in cc)
    | inr h ↦ (let x : true ≡ false = sym (low_next past w b [] (line_of_past past w) (past_wave past b.wave) (none_later (w.time + 1)) (past_round past w) ∙ h) ∙ high w.time (omega (arith, lt)) in cc)
  ])
]
  where
    high : (u : ℕ) → w.begin + 458461 ≤ u → line_of_past past w u ≡ false
    high u l = sparse_high w.seats.items w.begin (past ++ []) (line_of_past past w) (past_round past w) (subst (λ (ps : List Stretch). AreSparse ps) (sym (append-nil past)) sparse) u l
