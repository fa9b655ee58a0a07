-- A round has a line, and a pulse that comes later changes nothing before it.
use Rattle.std.proofs.Common.{◌≡◌, ℕ, zero, suc, ◌<◌, ◌≤◌, Bool, true, false, ◌&&◌, ◌||◌, nat_lt, nat_le, if◌then◌else◌, List, [], ◌∷◌, ◌++◌, map, inl, inr, Option, refl, arith, ap, ◌∙◌, sym}
use Rattle.std.specs.List.{list_any, filter, All}
use Rattle.std.proofs.lemmas.Bool.{cases_lt}
use Rattle.std.proofs.lemmas.Bool.Decides.{nat_tests}
use Rattle.line_wave.specs.declared.Stretch.{Stretch}
use Rattle.line_wave.specs.Line.{Line, covers, was_low}
use Rattle.line_reading.specs.Reading.{End, Known, known_at, reading_of}
use Rattle.line_reading.proofs.Causes.{reading_alike}
use Rattle.line_rounds.specs.declared.Seat.{Seat}
use Rattle.line_reading.specs.Sending.{sender_pulls}
use Rattle.line_rounds.specs.Round.{is_pulled, pulse_pulls, frames_of, is_within, is_acknowledged, is_broken, IsRoundLine}
use Rattle.line_rounds.specs.Contend.{AlikeBelow, AlikePulses, HasLine, LaterPulses}
use Rattle.line_rounds.proofs.Unique.{same_was}
use Rattle.line_reading.specs.Causality.{Agree}

-- the line below t, microsecond by microsecond
line_below : List Seat → ℕ → List Stretch → ℕ → Line
line_below seats begin pulses zero u = false
line_below seats begin pulses (suc t) u =
    if nat_lt u t then line_below seats begin pulses t u
    else if nat_lt t u then false
    else is_pulled seats begin pulses (was_low (line_below seats begin pulses t) t) (known_at t (reading_of (line_below seats begin pulses t) begin)) t

pub made_line : List Seat → ℕ → List Stretch → Line
made_line seats begin pulses t = line_below seats begin pulses (suc t) t

stable : (seats : List Seat) (begin : ℕ) (pulses : List Stretch) (n m u : ℕ) → u < n → n ≤ m → line_below seats begin pulses m u ≡ line_below seats begin pulses n u
unfolding line_below
stable seats begin pulses n zero u h l = absurd (omega arith)
stable seats begin pulses n (suc m) u h l =
    elim (cases_lt m n) [
      | inl last ↦ (let e : n ≡ suc m = omega arith in ap (λ k. line_below seats begin pulses k u) (sym e))
      | inr less ↦ (let e : nat_lt u m ≡ true = (let x : u < m = omega arith in grind (arith, nat_tests)) in rw e (stable seats begin pulses n m u h less))
    ]

made_below : (seats : List Seat) (begin : ℕ) (pulses : List Stretch) (t : ℕ) → Agree t (line_below seats begin pulses t) (made_line seats begin pulses)
unfolding made_line
made_below seats begin pulses t u h = stable seats begin pulses (suc u) t u (omega arith) (omega arith)

pub made_round : (seats : List Seat) (begin : ℕ) (pulses : List Stretch) → IsRoundLine seats begin pulses (made_line seats begin pulses)
unfolding line_below made_line
made_round seats begin pulses t =
    let e : nat_lt t t ≡ false = grind (arith, nat_tests) in
    let a = made_below seats begin pulses t in
    ap (λ c. if c then line_below seats begin pulses t t else if c then false else is_pulled seats begin pulses (was_low (line_below seats begin pulses t) t) (known_at t (reading_of (line_below seats begin pulses t) begin)) t) e
    ∙ ap (λ w. is_pulled seats begin pulses w (known_at t (reading_of (line_below seats begin pulses t) begin)) t) (same_was (line_below seats begin pulses t) (made_line seats begin pulses) t a)
    ∙ ap (λ k. is_pulled seats begin pulses (was_low (made_line seats begin pulses) t) k t) (reading_alike t (line_below seats begin pulses t) (made_line seats begin pulses) begin a)

pub has_line : HasLine
has_line seats begin pulses = (made_line seats begin pulses, made_round seats begin pulses)

-- ---- pulses that are alike so far

any_covered : (test : ℕ → Bool) (t : ℕ) (ps : List Stretch) → list_any (λ p. covers p t && test p.from) ps ≡ list_any test (map (λ p. p.from) (filter (λ p. covers p t) ps))
any_covered test t [] = refl
any_covered test t (p ∷ ps) = by (covers p t) (any_covered test t ps)
  where
    by : (b : Bool) → list_any (λ p. covers p t && test p.from) ps ≡ list_any test (map (λ p. p.from) (filter (λ p. covers p t) ps))
        → ((b && test p.from) || list_any (λ p. covers p t && test p.from) ps) ≡ list_any test (map (λ (p : Stretch). p.from) (if b then p ∷ filter (λ p. covers p t) ps else filter (λ p. covers p t) ps))
    by true r = ap (λ b. test p.from || b) r
    by false r = r

pulses_alike : (begin : ℕ) (ended : Option End) (was : Bool) (t : ℕ) (ps qs : List Stretch) → map (λ p. p.from) (filter (λ p. covers p t) ps) ≡ map (λ p. p.from) (filter (λ p. covers p t) qs)
    → list_any (pulse_pulls begin ended was t) ps ≡ list_any (pulse_pulls begin ended was t) qs
pulses_alike begin ended was t ps qs same =
    any_covered (λ from. nat_le begin from && (is_within ended from || was)) t ps ∙ ap (list_any (λ from. nat_le begin from && (is_within ended from || was))) same
    ∙ sym (any_covered (λ from. nat_le begin from && (is_within ended from || was)) t qs)

alike_at : (seats : List Seat) (begin u : ℕ) (ps qs : List Stretch) (low other : Line) → AlikeBelow u ps qs
    → IsRoundLine seats begin ps low → IsRoundLine seats begin qs other → (t : ℕ) → t < u → Agree t low other → low t ≡ other t
alike_at seats begin u ps qs low other alike r s t h a =
    r t ∙ ap (λ w. is_pulled seats begin ps w (known_at t (reading_of low begin)) t) (same_was low other t a)
    ∙ ap (λ k. is_pulled seats begin ps (was_low other t) k t) (reading_alike t low other begin a)
    ∙ ap (λ b. b || ((list_any (sender_pulls begin k t) (frames_of seats) && (is_within k.ended t || was_low other t)) || (is_acknowledged seats k t || is_broken seats k t k.ended)))
    (pulses_alike begin k.ended (was_low other t) t ps qs (alike t h))
    ∙ sym (s t)
  where
    k : Known
    k = known_at t (reading_of other begin)

alike_before : (seats : List Seat) (begin u : ℕ) (ps qs : List Stretch) (low other : Line) → AlikeBelow u ps qs
    → IsRoundLine seats begin ps low → IsRoundLine seats begin qs other → (t : ℕ) → t ≤ u → Agree t low other
alike_before seats begin u ps qs low other alike r s zero m v h = absurd (omega arith)
alike_before seats begin u ps qs low other alike r s (suc t) m v h =
    elim (cases_lt v t) [
      | inl lt ↦ alike_before seats begin u ps qs low other alike r s t (omega arith) v lt
      | inr ge ↦ let e : v ≡ t = omega arith in
          rw e (alike_at seats begin u ps qs low other alike r s t (omega arith) (alike_before seats begin u ps qs low other alike r s t (omega arith)))
    ]

pub alike_pulses : AlikePulses
alike_pulses seats begin u ps qs low other alike r s t h = alike_before seats begin u ps qs low other alike r s u (omega arith) t h

-- ---- later pulses

none_covers : (t u : ℕ) (later : List Stretch) → t < u → All (λ p. u ≤ p.from) later → filter (λ (p : Stretch). covers p t) later ≡ []
none_covers t u [] h l = refl
none_covers t u (p ∷ later) h l =
    let after : u ≤ p.from = l 0 p (omega arith) in
    let e : covers p t ≡ false = (let x : nat_le p.from t ≡ false = grind (arith, nat_tests) in rw x refl) in
    rw e (none_covers t u later h (λ i d m. l (suc i) d (omega arith)))

later_alike : (u : ℕ) (pulses later : List Stretch) → All (λ p. u ≤ p.from) later → AlikeBelow u pulses (pulses ++ later)
later_alike u [] later l t h = ap (map (λ (p : Stretch). p.from)) (sym (none_covers t u later h l))
later_alike u (p ∷ pulses) later l t h = by (covers p t) (later_alike u pulses later l t h)
  where
    by : (b : Bool) → map (λ p. p.from) (filter (λ p. covers p t) pulses) ≡ map (λ p. p.from) (filter (λ p. covers p t) (pulses ++ later))
        → map (λ (p : Stretch). p.from) (if b then p ∷ filter (λ p. covers p t) pulses else filter (λ p. covers p t) pulses)
        ≡ map (λ (p : Stretch). p.from) (if b then p ∷ filter (λ p. covers p t) (pulses ++ later) else filter (λ p. covers p t) (pulses ++ later))
    by true r = ap (λ xs. p.from ∷ xs) r
    by false r = r

pub later_pulses : LaterPulses
later_pulses seats begin pulses later u low other l r s t h = alike_pulses seats begin u pulses (pulses ++ later) low other (later_alike u pulses later l) r s t h
