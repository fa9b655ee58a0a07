-- The line of a round while the pin is low.
use Rattle.std.proofs.Common.{◌≡◌, ℕ, ◌+◌, ◌<◌, ◌≤◌, Bool, true, false, ◌&&◌, ◌||◌, min, nat_lt, nat_le, if◌then◌else◌, List, [], ◌∷◌, ◌++◌, inl, inr, Some, None, refl, sym, ap, ap₂, ◌∙◌, arith}
use Rattle.std.specs.List.{list_any}
use Rattle.std.proofs.lemmas.Bool.{cases_lt}
use Rattle.std.proofs.lemmas.Bool.Decides.{nat_tests}
use Rattle.line_wave.specs.declared.Stretch.{Stretch}
use Rattle.line_wave.specs.Bounds.{latest_instant}
use Rattle.line_wave.specs.Line.{IsWaveFrom, covers, line_of, was_low}
use Rattle.line_reading.specs.Reading.{Read, known_at, reading_of}
use Rattle.line_rounds.specs.Round.{is_within, pulse_pulls, IsRoundLine}
use Rattle.line_rounds.specs.declared.Seat.{Seat}
use Rattle.live_session.specs.Edges.{pinned}
use Rattle.live_session.proofs.SameEdges.{before_it, in_it, low_in, past_first, quiet}

-- ---- the line with the pull of the pin

pub pinned_wave : (from low : ℕ) (wave : List Stretch) → IsWaveFrom from wave → from ≤ low → low < latest_instant → IsWaveFrom from (pinned low wave)
pinned_wave from low [] w l m = (l, m, tt)
pinned_wave from low (s ∷ wave) w l m = by_test (nat_lt s.to low) refl (λ before. pinned_wave (s.to + 1) low wave w.2 before m)
  where
    whole : Stretch
    whole = record { from = min s.from low; to = latest_instant }

    by_test : (b : Bool) → nat_lt s.to low ≡ b → (s.to + 1 ≤ low → IsWaveFrom (s.to + 1) (pinned low wave)) → IsWaveFrom from (if b then s ∷ pinned low wave else whole ∷ [])
    by_test true e rest = (let before : s.to + 1 ≤ low = grind (arith, nat_tests) in (w.0, w.1, rest before))
    by_test false e rest = (let x = w.0 in (omega (arith, x, l), omega (arith, m), tt))

pub pinned_before : (from low t : ℕ) (wave : List Stretch) → IsWaveFrom from wave → low < latest_instant → t < low → line_of (pinned low wave) t ≡ line_of wave t
pinned_before from low t [] w m l = ap (λ b. b || false) (before_it (record { from = low; to = latest_instant }) t l)
pinned_before from low t (s ∷ wave) w m l = by_test (nat_lt s.to low) refl (pinned_before (s.to + 1) low t wave w.2 m l)
  where
    whole : Stretch
    whole = record { from = min s.from low; to = latest_instant }

    by_test : (b : Bool) → nat_lt s.to low ≡ b → line_of (pinned low wave) t ≡ line_of wave t → line_of (if b then s ∷ pinned low wave else whole ∷ []) t ≡ line_of (s ∷ wave) t
    by_test true e rest = ap (λ b. covers s t || b) rest
    by_test false e rest =
        let after : low ≤ s.to = grind (arith, nat_tests) in
        let none : line_of wave t ≡ false = quiet wave (s.to + 1) t w.2 (omega (arith, l, after)) in
        elim (cases_lt t s.from) [
          | inl lt ↦ ap₂ (λ a b. a || b) (before_it whole t (omega (arith, lt, l)) ∙ sym (before_it s t lt)) (sym none)
          | inr ge ↦ low_in whole [] t (omega (arith, ge)) (omega (arith, l, m)) ∙ sym (low_in s wave t ge (omega (arith, l, after)))
        ]

pub pinned_after : (low t : ℕ) (wave : List Stretch) → low ≤ t → t < latest_instant → line_of (pinned low wave) t ≡ true
pinned_after low t [] l m = low_in (record { from = low; to = latest_instant }) [] t l m
pinned_after low t (s ∷ wave) l m = by_test (nat_lt s.to low) refl (pinned_after low t wave l m)
  where
    whole : Stretch
    whole = record { from = min s.from low; to = latest_instant }

    by_test : (b : Bool) → nat_lt s.to low ≡ b → line_of (pinned low wave) t ≡ true → line_of (if b then s ∷ pinned low wave else whole ∷ []) t ≡ true
    by_test true e rest = (let before : s.to < low = grind (arith, nat_tests) in past_first s (pinned low wave) t (omega (arith, before, l)) ∙ rest)
    by_test false e rest = low_in whole [] t (omega (arith, l)) m

-- ---- the line of the round, where the pin goes low within its reading

any_of : (P : Stretch → Bool) (ps later : List Stretch) (pull : Stretch) → P pull ≡ true → list_any P (ps ++ pull ∷ later) ≡ true
any_of P [] later pull e = ap (λ b. b || list_any P later) e
any_of P (p ∷ ps) later pull e = ap (λ b. P p || b) (any_of P ps later pull e) ∙ or_true (P p)
  where
    or_true : (b : Bool) → (b || true) ≡ true
    or_true true = refl
    or_true false = refl

or_left : (a b : Bool) → a ≡ true → (a || b) ≡ true
or_left true b e = refl
or_left false b e = cc

within : (r : Read) (t low : ℕ) → low ≤ r.until → is_within (known_at t r).ended low ≡ true
within r t low l = by_test (nat_lt r.until t)
  where
    by_test : (b : Bool) → is_within (if b then Some (record { ending = r.ending; at = r.at; until = r.until }) else None) low ≡ true
    by_test true = (let e : nat_le low r.until ≡ true = grind (arith, nat_tests) in e)
    by_test false = refl

pulls_in : (begin t : ℕ) (r : Read) (was : Bool) (pull : Stretch) → begin ≤ pull.from → pull.from ≤ r.until → pull.from ≤ t → t < pull.to → pulse_pulls begin (known_at t r).ended was t pull ≡ true
pulls_in begin t r was pull a b c d =
    let first : nat_le begin pull.from ≡ true = grind (arith, nat_tests) in
    ap₂ (λ x y. x && y) (in_it pull t c d) (ap₂ (λ x y. x && y) first (ap (λ x. x || was) (within r t pull.from b)))

pub held_low : (seats : List Seat) (begin t : ℕ) (pulses later : List Stretch) (pull : Stretch) (low : ℕ → Bool) → IsRoundLine seats begin (pulses ++ pull ∷ later) low → begin ≤ pull.from
    → pull.from ≤ (reading_of low begin).until → pull.from ≤ t → t < pull.to → low t ≡ true
held_low seats begin t pulses later pull low line a b c d =
    let r = reading_of low begin in
    let was = was_low low t in
    let pulled : list_any (pulse_pulls begin (known_at t r).ended was t) (pulses ++ pull ∷ later) ≡ true =
    any_of (pulse_pulls begin (known_at t r).ended was t) pulses later pull (pulls_in begin t r was pull a b c d) in
    line t ∙ or_left (list_any (pulse_pulls begin (known_at t r).ended was t) (pulses ++ pull ∷ later)) _ pulled
