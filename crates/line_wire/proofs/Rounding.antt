-- A whole round, over pulses of which the first come before it.
use Rattle.std.proofs.Common.{◌≡◌, ℕ, zero, suc, ◌+◌, ◌<◌, ◌≤◌, Bool, true, false, nat_le, ◌&&◌, List, [], ◌∷◌, ◌++◌, length, take, drop, slice_get, Option, Some, None, IfSome, MatchOption, is_some, refl, arith, ap, ◌∙◌, sym, subst}
use Rattle.std.specs.List.{All, list_any}
use Rattle.std.proofs.lemmas.Bool.Decides.{nat_tests}
use Rattle.std.proofs.lemmas.List.{take-append-drop}
use Rattle.std.proofs.lemmas.Option.{slice_get_past}
use Rattle.line_wave.specs.declared.Stretch.{Stretch}
use Rattle.line_wave.specs.declared.Edge.{Edge}
use Rattle.line_wave.specs.Line.{IsWave, IsWaveFrom, was_low, covers, line_of}
use Rattle.line_reading.specs.Reading.{End, Known, known_at, reading_of}
use Rattle.line_rounds.specs.declared.Seat.{Seat}
use Rattle.line_rounds.specs.declared.Outcome.{Outcome}
use Rattle.line_rounds.specs.Round.{IsRound, is_pulled, pulse_pulls}
use Rattle.line_wire.specs.declared.edge_wire.EdgeWire.{EdgeWire}
use Rattle.line_wave.specs.Pulls.{EndsInTime, AreTimely}
use Rattle.line_wire.specs.Wired.{ArePulls, IsBegunWith, IsRoundOf, SameRound, is_silent_in}
use Rattle.line_wire.proofs.Searching.{all_dropped, drop_get, drop_none, late_next}

-- ---- pulses before the round

not_taken : (begin : ℕ) (ended : Option End) (was : Bool) (t : ℕ) (p : Stretch) → p.from < begin → pulse_pulls begin ended was t p ≡ false
not_taken begin ended was t p l = let e : nat_le begin p.from ≡ false = grind (arith, nat_tests) in rw e (no (covers p t))
  where
    no : (b : Bool) → (b && false) ≡ false
    no true = refl
    no false = refl

none_taken : (begin : ℕ) (ended : Option End) (was : Bool) (t : ℕ) (before pulses : List Stretch) → All (λ p. p.from < begin) before
    → list_any (pulse_pulls begin ended was t) (before ++ pulses) ≡ list_any (pulse_pulls begin ended was t) pulses
none_taken begin ended was t [] pulses h = refl
none_taken begin ended was t (p ∷ before) pulses h =
    let e : pulse_pulls begin ended was t p ≡ false = not_taken begin ended was t p (h zero p (omega arith)) in
    rw e (none_taken begin ended was t before pulses (λ k d l. h (suc k) d (omega (arith, l))))

pulled_front : (seats : List Seat) (begin : ℕ) (before pulses : List Stretch) (was : Bool) (k : Known) (t : ℕ) → All (λ p. p.from < begin) before → is_pulled seats begin pulses was k t ≡ is_pulled seats begin (before ++ pulses) was k t
pulled_front seats begin before pulses was k t h = rw (none_taken begin k.ended was t before pulses h) refl

pub round_front : (seats : List Seat) (begin : ℕ) (before pulses : List Stretch) (o : Outcome) → All (λ p. p.from < begin) before → IsRound seats begin pulses o → IsRound seats begin (before ++ pulses) o
round_front seats begin before pulses o h r = record {
  line = λ t. r.line t ∙ pulled_front seats begin before pulses (was_low (line_of o.wave) t) (known_at t (reading_of (line_of o.wave) begin)) t h;
  starts = r.starts;
  ends = r.ends;
  ending = r.ending;
  bits = r.bits;
  survivors = r.survivors;
  losers = r.losers;
  rest = r.rest;
}

-- ---- pulls in order

wave_sooner : (from to : ℕ) (ss : List Stretch) → to ≤ from → IsWaveFrom from ss → IsWaveFrom to ss
wave_sooner from to [] l w = tt
wave_sooner from to (s ∷ ss) l w = (omega (arith, l, w.0), w.1, w.2)

-- without the first of them
wave_drop : (n : ℕ) (ss : List Stretch) (from : ℕ) → IsWaveFrom from ss → IsWaveFrom from (drop n ss)
wave_drop zero ss from w = w
wave_drop (suc n) [] from w = tt
wave_drop (suc n) (s ∷ ss) from w = wave_sooner (s.to + 1) from (drop n ss) (omega (arith, w.0, w.1)) (wave_drop n ss (s.to + 1) w.2)

-- where the one at a place begins at t or later, it and all after it do
pub late_place : (t k : ℕ) (ss : List Stretch) (o : Option Stretch) → o ≡ slice_get ss k → IsWave ss → IfSome o (λ p. t ≤ p.from) → All (λ p. t ≤ p.from) (drop k ss)
late_place t k ss None e w l = subst (λ (xs : List Stretch). All (λ (x : Stretch). t ≤ x.from) xs) (sym (drop_none ss k (sym e))) (λ i d m. absurd (omega (arith, m)))
late_place t k ss (Some p) e w l = late_next t 0 (drop k ss) p (drop (suc k) ss) (drop_get ss k p (sym e)) (wave_drop k ss 0 w) l

-- ---- the loop

pub record Rounds (seats : List Seat) (start : ℕ) (pulls : List Stretch) (w : EdgeWire) : Type 0 where
  pub begun : IsBegunWith (take w.begun pulls) w
  pub pulls_are : ArePulls (take w.begun pulls) pulls w
  pub seats_are : w.seats.items ≡ seats
  pub begin : w.begin ≡ start

pub rounds_begin : (seats : List Seat) (start n : ℕ) (ss : List Stretch) (w : EdgeWire) → AreTimely ss → IfSome (slice_get ss n) (λ p. start ≤ p.from) → IsBegunWith [] w → w.seats.items ≡ seats → w.begin ≡ start → w.time ≡ start
    → Rounds seats start (drop n ss) w
rounds_begin seats start n ss w timely late b e f t = record {
  begun = subst (λ (ps : List Stretch). IsBegunWith ps w) none b;
  pulls_are = record {
    wave = wave_drop n ss 0 timely.order;
    ends = all_dropped EndsInTime n ss timely.ends;
    begun = sym none ∙ ap (λ (k : ℕ). take k (drop n ss)) (ap (λ (ps : List Stretch). length ps) none);
    later = subst (λ (k : ℕ). All (λ (p : Stretch). w.time ≤ p.from) (drop k (drop n ss))) (ap (λ (ps : List Stretch). length ps) none)
        (subst (λ (u : ℕ). All (λ (p : Stretch). u ≤ p.from) (drop n ss)) (sym t) (late_place start n ss (slice_get ss n) refl timely.order late));
  };
  seats_are = e;
  begin = f;
}
  where
    none : [] ≡ take w.begun (drop n ss)
    none = ap (λ (k : ℕ). take k (drop n ss)) (let c : zero ≡ w.begun = sym b.count in c)

pub rounds_next : (seats : List Seat) (start : ℕ) (pulls : List Stretch) (old new : EdgeWire) → Rounds seats start pulls old → IsBegunWith (take new.begun pulls) new → ArePulls (take new.begun pulls) pulls new → SameRound old new
    → Rounds seats start pulls new
rounds_next seats start pulls old new r b a same = record {
  begun = b;
  pulls_are = a;
  seats_are = same.seats ∙ r.seats_are;
  begin = same.begin ∙ r.begin;
}

pub goes_later : (edge : Option Edge) (old new : EdgeWire) → is_some edge ≡ true → MatchOption edge (is_silent_in new ≡ true) (λ e. old.time < new.time) → old.time < new.time
goes_later None old new e g = cc
goes_later (Some x) old new e g = g

pub goes_quiet : (edge : Option Edge) (old new : EdgeWire) → is_some edge ≡ false → MatchOption edge (is_silent_in new ≡ true) (λ e. old.time < new.time) → is_silent_in new ≡ true
goes_quiet None old new e g = g
goes_quiet (Some x) old new e g = cc

pub rounds_end : (seats : List Seat) (start n : ℕ) (ss : List Stretch) (w : EdgeWire) (o : Outcome) → AreTimely ss → All (λ p. p.from < start) (take n ss)
    → Rounds seats start (drop n ss) w → IsRoundOf (take w.begun (drop n ss)) w o → IsRound seats start ss o
rounds_end seats start n ss w o timely before r h =
    subst (λ (ps : List Stretch). IsRound seats start ps o) (take-append-drop n ss)
    (round_front seats start (take n ss) (drop n ss) o before
    (subst (λ (ps : List Stretch). IsRound seats start ps o) (sym whole)
    (subst (λ (x : List Seat). IsRound x start ((take w.begun (drop n ss)) ++ drop w.begun (drop n ss)) o) r.seats_are
    (subst (λ (x : ℕ). IsRound w.seats.items x ((take w.begun (drop n ss)) ++ drop w.begun (drop n ss)) o) r.begin
    (h (drop w.begun (drop n ss)) (subst (λ (ps : List Stretch). IsWave ps) whole (wave_drop n ss 0 timely.order)) left_late)))))
  where
    whole : drop n ss ≡ take w.begun (drop n ss) ++ drop w.begun (drop n ss)
    whole = sym (take-append-drop w.begun (drop n ss))

    left_late : All (λ (p : Stretch). w.time ≤ p.from) (drop w.begun (drop n ss))
    left_late = subst (λ (k : ℕ). All (λ (p : Stretch). w.time ≤ p.from) (drop k (drop n ss))) (sym r.begun.count) r.pulls_are.later

-- ---- counting those that begin before the round

pub start_past : (start n : ℕ) (ss : List Stretch) → length ss ≤ n → IfSome (slice_get ss n) (λ p. start ≤ p.from)
start_past start n ss l = rw (slice_get_past ss n l) tt
