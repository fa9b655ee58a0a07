-- A round lasts: at its begin nothing is reported yet, so whoever begins it pulls then.
use Rattle.std.proofs.Common.{◌≡◌, ℕ, ◌+◌, ◌==◌, ◌<◌, ◌≤◌, Bool, true, false, ◌||◌, nat_lt, nat_le, if◌then◌else◌, List, [], ◌∷◌, inl, inr, Option, Some, None, is_some, Ok, Err, min, refl, arith, ap, ◌∙◌, sym, subst}
use Rattle.std.specs.List.{list_any, fold, cons_option}
use Rattle.std.proofs.lemmas.Bool.Decides.{nat_tests}
use Rattle.line_wave.specs.declared.Stretch.{Stretch}
use Rattle.line_wave.specs.Line.{Line, line_of, covers, was_low}
use Rattle.line_wave.specs.Sender.{sender_stretches}
use Rattle.line_frames.specs.Bits.{frame_bits, least_among}
use Rattle.line_reading.specs.Windows.{standard}
use Rattle.line_reading.specs.Reading.{known_at, reading_of, read_start, start_of}
use Rattle.line_reading.proofs.Ends.{ends_after}
use Rattle.line_rounds.specs.declared.Seat.{Seat}
use Rattle.line_reading.specs.Sending.{sender_pulls}
use Rattle.line_rounds.specs.Round.{frames_of, winning_frames}
use Rattle.line_rounds.specs.Contend.{IsContended, IsWinnersLine}
use Rattle.line_rounds.specs.Lasting.{RoundsLast}
use Rattle.line_rounds.specs.Begins.{BegunBy, RoundsAreContended, LowAtBegin}
use Rattle.line_rounds.specs.Rests.{RestRises, RestPast}
use Rattle.line_rounds.specs.Elements.{In}
use Rattle.line_rounds.specs.Least.{Least}
use Rattle.line_rounds.proofs.Differ.{is_least, in_any}
use Rattle.line_rounds.proofs.Early.{and_left, and_right, or_cases, pulse_low, sender_low}
use Rattle.line_rounds.proofs.OneOutcome.{covers_own}
use Rattle.line_rounds.proofs.Lows.{wave_wide}
use Rattle.line_rounds.proofs.Law.{least_of, filtered, known_start, pulled_more, pulled_then, through_more, start_falls}
use Rattle.line_rounds.proofs.Spans.{spans}

-- ---- the last low stretch

-- a later stretch ends later
pub rest_rises : RestRises
rest_rises until r from [] w h = omega arith
rest_rises until r from (s ∷ ss) w h =
    by_begin (rest_rises until s.to (s.to + 1) ss w.2 (omega arith)) (rest_rises until r (s.to + 1) ss w.2 (omega (arith, w.0, w.1))) (nat_le s.from until)
  where
    by_begin : s.to ≤ fold (λ rest s. if nat_le s.from until then s.to else rest) s.to ss → r ≤ fold (λ rest s. if nat_le s.from until then s.to else rest) r ss
        → (b : Bool) → r ≤ fold (λ rest s. if nat_le s.from until then s.to else rest) (if b then s.to else r) ss
    by_begin k m true = omega (arith, w.0, w.1)
    by_begin k m false = m

-- where the line is low by `until`, it rests after that
pub rest_past : RestPast
rest_past until t r from [] w h l = cc
rest_past until t r from (s ∷ ss) w h l =
    by_cover (λ m. rest_past until t (if nat_le s.from until then s.to else r) (s.to + 1) ss w.2 h m) (covers s t) refl l
  where
    by_cover : (line_of ss t ≡ true → t < fold (λ rest s. if nat_le s.from until then s.to else rest) (if nat_le s.from until then s.to else r) ss)
        → (b : Bool) → covers s t ≡ b → (b || line_of ss t) ≡ true
        → t < fold (λ rest s. if nat_le s.from until then s.to else rest) (if nat_le s.from until then s.to else r) ss
    by_cover k true c g =
        let left : nat_le s.from t ≡ true = and_left (nat_le s.from t) (nat_lt t s.to) c in
        let right : nat_lt t s.to ≡ true = and_right (nat_le s.from t) (nat_lt t s.to) c in
        let begun : nat_le s.from until ≡ true = grind (arith, nat_tests) in
        let past : t < s.to = grind (arith, nat_tests) in
        let rises : s.to ≤ fold (λ rest s. if nat_le s.from until then s.to else rest) s.to ss = rest_rises until s.to (s.to + 1) ss w.2 (omega arith) in
        rw begun (omega arith)
    by_cover k false c g = k g

-- ---- the ending is after the begin

pub begun_by : BegunBy
begun_by low begin (Err at) h =
    let l : begin < at = subst (λ s. begin < (read_start low begin s).at) h (ends_after low begin) in
    let e : nat_lt (min at (begin + standard.start_total.most)) begin ≡ false = grind (arith, nat_tests) in
    record { goes = omega arith; ends = l; reports = rw e refl }
begun_by low begin (Ok f) h =
    let d = start_falls low begin f h in
    let r = spans low 160 [] f d.fall in
    record {
      goes = omega (arith, d.far, r.begun);
      ends = subst (λ s. begin < (read_start low begin s).at) h (ends_after low begin);
      reports = ap (λ s. known_at begin (read_start low begin s)) (sym h) ∙ known_start low begin f begin h (omega (arith, d.far));
    }

-- ---- who begins the round pulls then

sends_frame : (seats : List Seat) → list_any (λ s. is_some s.sends) seats ≡ true → (c : List ℕ) × In c (frames_of seats)
sends_frame [] h = cc
sends_frame (s ∷ seats) h = by_frame (λ k. sends_frame seats k) s.sends h
  where
    by_frame : (list_any (λ s. is_some s.sends) seats ≡ true → (c : List ℕ) × In c (frames_of seats)) → (o : Option (List ℕ)) → (is_some o || list_any (λ s. is_some s.sends) seats) ≡ true → (c : List ℕ) × In c (cons_option o (frames_of seats))
    by_frame k None g = k g
    by_frame k (Some f) g = (f, inl refl)

pub contended : RoundsAreContended
contended seats begin pulses low r = record {
  kept = λ t h. r t ∙ pulled_more (winning_frames seats) (frames_of seats) seats begin pulses (was_low low t) (known_at t (reading_of low begin)) t
      (filtered (sender_pulls begin (known_at t (reading_of low begin)) t) (least_among (frames_of seats)) (frames_of seats)) h;
  made = λ t h. pulled_then (frames_of seats) seats begin pulses (was_low low t) (known_at t (reading_of low begin)) t (sym (r t) ∙ h);
}

-- and so is the line of the winners alone
pub contended_by_winners : (seats : List Seat) (begin : ℕ) (pulses : List Stretch) (low : Line) → IsWinnersLine seats begin pulses low → IsContended seats begin pulses low
contended_by_winners seats begin pulses low r = record {
  kept = λ t h. r t ∙ pulled_then (winning_frames seats) seats begin pulses (was_low low t) (known_at t (reading_of low begin)) t h;
  made = λ t h. through_more (winning_frames seats) (frames_of seats) seats begin pulses (was_low low t) (known_at t (reading_of low begin)) t
      (filtered (sender_pulls begin (known_at t (reading_of low begin)) t) (least_among (frames_of seats)) (frames_of seats)) (sym (r t) ∙ h);
}

start_low : (begin : ℕ) (bits : List Bool) → line_of (sender_stretches begin bits) begin ≡ true
start_low begin bits =
    let c : covers (record { from = begin; to = begin + 3700 }) begin ≡ true = grind (arith, nat_tests) in
    rw c refl

pub low_at_begin : LowAtBegin
low_at_begin seats begin pulses low order c reports h =
    elim (or_cases (list_any (λ s. is_some s.sends) seats) (list_any (λ p. p.from == begin) pulses) h) [
      | inl sends ↦ by_sender (sends_frame seats sends)
      | inr pulse ↦ by_pulse (in_any (λ (p : Stretch). p.from == begin) pulses pulse)
    ]
  where
    by_sender : (c : List ℕ) × In c (frames_of seats) → low begin ≡ true
    by_sender f =
        let l : Least (frames_of seats) = least_of (frames_of seats) f.0 f.1 in
        sender_low seats begin pulses low begin [] c reports l.frame l.one (is_least (frames_of seats) l) (λ n a b. absurd (omega arith)) (start_low begin (frame_bits l.frame))

    by_pulse : (p : Stretch) × In p pulses × ((p.from == begin) ≡ true) → low begin ≡ true
    by_pulse p =
        let test : (p.0.from == begin) ≡ true = p.2 in
        let e : p.0.from ≡ begin = grind (arith, nat_tests) in
        let n = wave_wide 0 pulses p.0 order p.1 in
        pulse_low seats begin pulses low begin [] c reports p.0 p.1 (covers_own p.0 begin (omega arith) (omega (arith, n.1, e))) (omega arith)

pub rounds_last : RoundsLast
rounds_last seats begin pulses o order wave round begun =
    let b = begun_by (line_of o.wave) begin (start_of (line_of o.wave) begin) refl in
    let low : line_of o.wave begin ≡ true = low_at_begin seats begin pulses (line_of o.wave) order (contended seats begin pulses (line_of o.wave) round.line) b.reports begun in (
      subst (λ n. begin < n) (sym round.rest) (rest_past (reading_of (line_of o.wave) begin).until begin 0 0 o.wave wave b.goes low),
      subst (λ n. begin < n) (sym round.ends) b.ends,
    )
