-- Where pulses are sparse, all who send and the winners alone make one line, and a sender has no fall to make at an ending for
-- want of a fall.
use Rattle.std.proofs.Common.{◌≡◌, ℕ, ◌+◌, ◌-◌, ◌<◌, ◌≤◌, Bool, true, false, ◌&&◌, ◌||◌, nat_lt, nat_le, if◌then◌else◌, List, length, slice_get, ◌⊎◌, inl, inr, Some, None, is_none, refl, arith, ap, ◌∙◌, sym}
use Rattle.std.specs.List.{list_any}
use Rattle.std.proofs.lemmas.Bool.Decides.{nat_tests}
use Rattle.line_wave.specs.declared.Stretch.{Stretch}
use Rattle.line_wave.specs.Line.{Line, line_of, was_low}
use Rattle.line_wave.specs.Pulses.{AreSparse}
use Rattle.line_wave.specs.Sender.{sender_stretches}
use Rattle.line_frames.specs.Bits.{frame_bits, least_among}
use Rattle.line_reading.specs.Windows.{standard}
use Rattle.line_reading.specs.Reading.{Slot, Known, known_at, reading_of, start_of}
use Rattle.line_reading.proofs.Ends.{at_by}
use Rattle.line_rounds.specs.declared.Seat.{Seat}
use Rattle.line_reading.specs.Sending.{out_slot, goes_on, sender_pulls}
use Rattle.line_rounds.specs.Round.{frames_of, winning_frames, is_within, pulse_pulls, pulled_by, IsRoundLine}
use Rattle.line_rounds.specs.Contend.{AreFrames, InWindow, IsContended, pulled_through, SameLine}
use Rattle.line_rounds.specs.Elements.{In}
use Rattle.line_rounds.specs.Made.{BeginsSlot}
use Rattle.line_rounds.proofs.Differ.{any_in, in_any, or_right}
use Rattle.line_rounds.proofs.Early.{and_left, and_right}
use Rattle.line_rounds.proofs.Law.{all_in, filtered, losers_inside, pulled_then, through_more, through_then}
use Rattle.line_rounds.proofs.Falls.{is_no, sender_before, sender_begin, within_before}
use Rattle.line_rounds.proofs.Lasting.{begun_by, contended, contended_by_winners}
use Rattle.line_rounds.proofs.Window.{winners_window}
use Rattle.line_rounds.proofs.Afterwards.{LateEnd, late_start, not_out}

same_bool : (a b : Bool) → (a ≡ true → b ≡ true) → (b ≡ true → a ≡ true) → a ≡ b
same_bool true b f g = sym (f refl)
same_bool false true f g = g refl
same_bool false false f g = refl

-- a winner that pulls past the reading's last microsecond pulled just before
pulled_on : (seats : List Seat) (begin : ℕ) (pulses : List Stretch) (low : Line) → AreFrames seats → AreSparse pulses → IsContended seats begin pulses low
    → (t : ℕ) → (reading_of low begin).until < t → (w : List ℕ) → In w (winning_frames seats) → sender_pulls begin (known_at t (reading_of low begin)) t w ≡ true
    → (0 < t) × (line_of (sender_stretches begin (frame_bits w)) (t - 1) ≡ true)
pulled_on seats begin pulses low frames sparse line t past w i p =
    by (sender_begin begin t (frame_bits w) (and_left (line_of (sender_stretches begin (frame_bits w)) t) _ p))
  where
    begins : begin ≤ (reading_of low begin).until
    begins = (begun_by low begin (start_of low begin) refl).goes

    more : (is_none (out_slot (known_at t (reading_of low begin)) (frame_bits w)) && goes_on (known_at t (reading_of low begin)).ended t) ≡ true
    more = and_right (line_of (sender_stretches begin (frame_bits w)) t) _ p

    out : out_slot (known_at t (reading_of low begin)) (frame_bits w) ≡ None
    out = is_no (out_slot (known_at t (reading_of low begin)) (frame_bits w)) (and_left (is_none (out_slot (known_at t (reading_of low begin)) (frame_bits w))) _ more)

    goes : goes_on (known_at t (reading_of low begin)).ended t ≡ true
    goes = and_right (is_none (out_slot (known_at t (reading_of low begin)) (frame_bits w))) _ more

    at_t : t ≤ (reading_of low begin).at
    at_t =
        let ended : nat_lt (reading_of low begin).until t ≡ true = grind (arith, nat_tests) in
        let x : nat_le t (reading_of low begin).at ≡ true =
        sym (ap (λ c. goes_on (if c then Some (record { ending = (reading_of low begin).ending; at = (reading_of low begin).at; until = (reading_of low begin).until }) else None) t) ended) ∙ goes in
        grind (arith, nat_tests)

    -- its slots all begin before
    no_slot : BeginsSlot begin t (length (frame_bits w)) → ⊥
    no_slot b = by_late (late_start low begin (start_of low begin) refl (omega (arith, at_t, past)))
      where
        by_late : ((reading_of low begin).at ≡ begin + (standard.start_total.most + 1)) ⊎ LateEnd (reading_of low begin).slots (reading_of low begin).at → ⊥
        by_late (inl x) = omega (arith, x, b.2, at_by low begin, past, at_t)
        by_late (inr q) =
            let d = all_in (λ w. (k : ℕ) (s : Slot) → slice_get (reading_of low begin).slots k ≡ Some s → out_slot (known_at s.fall (reading_of low begin)) (frame_bits w) ≡ None → (k < length (frame_bits w)) × InWindow begin k s) (winning_frames seats)
            (winners_window seats begin pulses low frames sparse line) w i q.0 q.1 q.2 (not_out low begin t q.1.fall w (omega (arith, q.3, at_by low begin, past)) out goes) in
            omega (arith, d.1.0, d.1.1, q.3, b.2, at_by low begin, past, at_t)

    by : ((t ≡ begin) ⊎ BeginsSlot begin t (length (frame_bits w))) ⊎ ((0 < t) × (line_of (sender_stretches begin (frame_bits w)) (t - 1) ≡ true))
        → (0 < t) × (line_of (sender_stretches begin (frame_bits w)) (t - 1) ≡ true)
    by (inl (inl e)) = absurd (omega (arith, e, begins, past))
    by (inl (inr b)) = absurd (no_slot b)
    by (inr l) = l

-- so where a sender pulls past it, the line was low just before
pub none_begins : (seats : List Seat) (begin : ℕ) (pulses : List Stretch) (low : Line) → AreFrames seats → AreSparse pulses → IsContended seats begin pulses low
    → (t : ℕ) → list_any (sender_pulls begin (known_at t (reading_of low begin)) t) (frames_of seats) ≡ true
    → (is_within (known_at t (reading_of low begin)).ended t || was_low low t) ≡ true
none_begins seats begin pulses low frames sparse line t h = by (nat_lt (reading_of low begin).until t) refl
  where
    winner : (w : List ℕ) × In w (winning_frames seats) × (sender_pulls begin (known_at t (reading_of low begin)) t w ≡ true)
    winner = in_any (sender_pulls begin (known_at t (reading_of low begin)) t) (winning_frames seats) (losers_inside seats begin pulses low frames sparse line t h)

    n : Known
    n = known_at (t - 1) (reading_of low begin)

    both : {a b : Bool} → a ≡ true → b ≡ true → (a && b) ≡ true
    both x y = rw (x, y) refl

    or_left : (a b : Bool) → a ≡ true → (a || b) ≡ true
    or_left true b x = refl
    or_left false b x = cc

    before : (0 < t) × (line_of (sender_stretches begin (frame_bits winner.0)) (t - 1) ≡ true) → was_low low t ≡ true
    before l =
        let sends : sender_pulls begin (known_at (t - 1) (reading_of low begin)) (t - 1) winner.0 ≡ true = sender_before low begin t winner.0 l.0 l.1 winner.2 in
        let goes : goes_on (known_at t (reading_of low begin)).ended t ≡ true =
        and_right (is_none (out_slot (known_at t (reading_of low begin)) (frame_bits winner.0))) _ (and_right (line_of (sender_stretches begin (frame_bits winner.0)) t) _ winner.2) in
        let pulls : pulled_by (winning_frames seats) seats begin pulses (was_low low (t - 1)) (known_at (t - 1) (reading_of low begin)) (t - 1) ≡ true =
        or_right (list_any (pulse_pulls begin n.ended (was_low low (t - 1)) (t - 1)) pulses) _ (or_left (list_any (sender_pulls begin n (t - 1)) (winning_frames seats) && (is_within n.ended (t - 1) || was_low low (t - 1))) _
        (both (any_in (sender_pulls begin n (t - 1)) (winning_frames seats) winner.0 winner.1 sends) (or_left (is_within n.ended (t - 1)) _ (within_before low begin t goes)))) in
        let low_before : low (t - 1) ≡ true = line.kept (t - 1) pulls in
        let some : nat_lt 0 t ≡ true = (let x = l.0 in grind (arith, nat_tests)) in
        both some low_before

    by : (b : Bool) → nat_lt (reading_of low begin).until t ≡ b
        → (is_within (if b then Some (record { ending = (reading_of low begin).ending; at = (reading_of low begin).at; until = (reading_of low begin).until }) else None) t || was_low low t) ≡ true
    by false e = refl
    by true e =
        let past : (reading_of low begin).until < t = grind (arith, nat_tests) in
        or_right (nat_le t (reading_of low begin).until) (was_low low t) (before (pulled_on seats begin pulses low frames sparse line t past winner.0 winner.1 winner.2))

-- on such a line all who send pull as the rule says, and as they do through the ending's instant
pub through_same : (seats : List Seat) (begin : ℕ) (pulses : List Stretch) (low : Line) → AreFrames seats → AreSparse pulses → IsContended seats begin pulses low → (t : ℕ)
    → pulled_by (frames_of seats) seats begin pulses (was_low low t) (known_at t (reading_of low begin)) t ≡ pulled_through (frames_of seats) seats begin pulses (was_low low t) (known_at t (reading_of low begin)) t
through_same seats begin pulses low frames sparse line t =
    same_bool _ _ (pulled_then (frames_of seats) seats begin pulses (was_low low t) (known_at t (reading_of low begin)) t)
    (through_then (frames_of seats) seats begin pulses (was_low low t) (known_at t (reading_of low begin)) t (none_begins seats begin pulses low frames sparse line t))

-- and as the winners do alone
winners_same : (seats : List Seat) (begin : ℕ) (pulses : List Stretch) (low : Line) → AreFrames seats → AreSparse pulses → IsContended seats begin pulses low → (t : ℕ)
    → pulled_through (frames_of seats) seats begin pulses (was_low low t) (known_at t (reading_of low begin)) t ≡ pulled_through (winning_frames seats) seats begin pulses (was_low low t) (known_at t (reading_of low begin)) t
winners_same seats begin pulses low frames sparse line t =
    same_bool _ _ (through_more (frames_of seats) (winning_frames seats) seats begin pulses (was_low low t) (known_at t (reading_of low begin)) t (losers_inside seats begin pulses low frames sparse line t))
    (through_more (winning_frames seats) (frames_of seats) seats begin pulses (was_low low t) (known_at t (reading_of low begin)) t
    (filtered (sender_pulls begin (known_at t (reading_of low begin)) t) (least_among (frames_of seats)) (frames_of seats)))

pub line_through : (seats : List Seat) (begin : ℕ) (pulses : List Stretch) (low : Line) → AreFrames seats → AreSparse pulses → IsRoundLine seats begin pulses low → (t : ℕ)
    → low t ≡ pulled_through (frames_of seats) seats begin pulses (was_low low t) (known_at t (reading_of low begin)) t
line_through seats begin pulses low frames sparse line t = line t ∙ through_same seats begin pulses low frames sparse (contended seats begin pulses low line) t

pub same_line : SameLine
same_line seats begin pulses low frames sparse = (
  λ line t. line_through seats begin pulses low frames sparse line t ∙ winners_same seats begin pulses low frames sparse (contended seats begin pulses low line) t,
  λ line t. line t ∙ sym (winners_same seats begin pulses low frames sparse (contended_by_winners seats begin pulses low line) t)
      ∙ sym (through_same seats begin pulses low frames sparse (contended_by_winners seats begin pulses low line) t),
)
