-- The first microsecond of a round.
use Rattle.std.proofs.Common.{◌≡◌, ℕ, zero, suc, ◌+◌, ◌-◌, ◌<◌, ◌≤◌, Bool, true, false, not, ◌&&◌, ◌||◌, nat_lt, nat_le, List, [], ◌∷◌, ◌++◌, Option, Some, None, refl, arith, ap, ◌∙◌, sym, All}
use Rattle.std.specs.List.{list_any, filter_map, cons_option}
use Rattle.std.proofs.lemmas.Bool.Decides.{nat_tests}
use Rattle.line_wave.specs.Line.{Line, line_of, was_low, IsWave}
use Rattle.line_wave.specs.Sender.{sender_stretches}
use Rattle.line_wave.specs.declared.Stretch.{Stretch}
use Rattle.line_frames.specs.Bits.{frame_bits}
use Rattle.line_reading.specs.declared.receiver.ReceiverState.TheVariants.{StartLow}
use Rattle.line_reading.specs.declared.sender.Sender.{Sender}
use Rattle.line_reading.specs.declared.sender.SenderState.{SenderState}
use Rattle.line_reading.specs.declared.sender.SenderState.TheVariants.{Sending}
use Rattle.line_reading.specs.Reading.{Known, known_at, reading_of}
use Rattle.line_reading.specs.Hears.{Hears, Heard, heard_by, hear_in, hears, hears_with, rest, starts}
use Rattle.line_reading.specs.Kept.{kept_before}
use Rattle.line_reading.specs.Sending.{out_slot, state_by, state_before, may_pull, pull_of, sender_pulls, SenderStood}
use Rattle.line_reading.proofs.Causes.{known_start_low}
use Rattle.line_reading.proofs.Ends.{ends_after}
use Rattle.line_reading.specs.declared.receiver.Receiver.{Receiver}
use Rattle.line_reading.specs.declared.receiver.Told.{Told}
use Rattle.line_rounds.specs.declared.Seat.{Seat}
use Rattle.line_rounds.specs.Round.{frames_of, pulled_by, IsRoundLine}
use Rattle.line_wire.specs.Listening.{IsReadOnce, IsSenderOf, SendsFor, AreBegun, AreSenders, IsSending, AreSending}
use Rattle.line_wire.specs.Pulls.{pull_in, takes_last, held_in, low_in}
use Rattle.line_wire.specs.Told.{FirstTicked}
use Rattle.line_wire.proofs.Lows.{pulls_by_last, was_high, before_heard}
use Rattle.line_wire.proofs.Told.{high_before}
use Rattle.line_wire.specs.Line.{HaveBegun}
use Rattle.line_wire.specs.Wire.{IsAt}
use Rattle.line_reading.specs.Known.{nothing}
pub use Rattle.line_wave.proofs.Waves.{was_now}

-- ---- senders that begin

state_first : (low : Line) (begin : ℕ) (sent : List Bool) → state_before low begin sent (begin + 1) ≡ Sending
unfolding nothing
state_first low begin sent =
    ap (λ (k : Known). state_by (out_slot k sent) (nat_lt (reading_of low begin).at (begin + 1))) (known_start_low low begin (begin + 1) (omega arith) (λ u a b. absurd (omega arith)))
    ∙ ap (λ b. state_by None b) (let e = ends_after low begin in let x : nat_lt (reading_of low begin).at (begin + 1) ≡ false = grind (arith, nat_tests) in x)

is_sending : (s : Sender) (begin : ℕ) → s.begin ≡ begin → ((low : Line) → SenderStood s low (begin + 1)) → s.state ≡ Sending
is_sending s begin e h =
    (h (λ u. false)).state ∙ ap (λ n. state_before (λ u. false) n (frame_bits s.frame) (begin + 1)) e ∙ state_first (λ u. false) begin (frame_bits s.frame)

sends_first : (s : Sender) (begin : ℕ) → s.begin ≡ begin → s.state ≡ Sending → pull_of s begin ≡ sender_pulls begin nothing begin s.frame
unfolding nothing
sends_first s begin e h =
    ap (λ n. line_of (sender_stretches n (frame_bits s.frame)) begin && may_pull s.state s.last begin) e
    ∙ ap (λ (x : SenderState). line_of (sender_stretches begin (frame_bits s.frame)) begin && may_pull x s.last begin) h

pub all_first : (seats : List Seat) (begin : ℕ) (os : List (Option Sender)) → AreBegun seats begin os → list_any (sender_pulls begin nothing begin) (frames_of seats) ≡ list_any (pull_in begin) os
all_first [] begin [] h = refl
all_first [] begin (o ∷ os) h = absurd h
all_first (x ∷ xs) begin [] h = absurd h
all_first (x ∷ xs) begin (o ∷ os) h = by_sender o x.sends refl h.0 (all_first xs begin os h.1)
  where
    by_sender : (o : Option Sender) (sends : Option (List ℕ)) → x.sends ≡ sends → IsSenderOf x begin o → list_any (sender_pulls begin nothing begin) (filter_map (λ s. s.sends) xs) ≡ list_any (pull_in begin) os
        → list_any (sender_pulls begin nothing begin) (cons_option sends (filter_map (λ s. s.sends) xs)) ≡ (pull_in begin o || list_any (pull_in begin) os)
    by_sender None None e h r = r
    by_sender None (Some f) e h r = let y : Some f ≡ None = sym e ∙ h in cc
    by_sender (Some s) None e h r = let y : None ≡ Some s.frame = sym e ∙ h.0 in cc
    by_sender (Some s) (Some f) e h r =
        let y : Some f ≡ Some s.frame = sym e ∙ h.0 in
        let z : f ≡ s.frame = cc in
        ap (λ (g : List ℕ). sender_pulls begin nothing begin g || list_any (sender_pulls begin nothing begin) (filter_map (λ s. s.sends) xs)) z
        ∙ ap (λ c. c || list_any (sender_pulls begin nothing begin) (filter_map (λ s. s.sends) xs)) (sym (sends_first s begin h.1 (is_sending s begin h.1 h.2)))
        ∙ ap (λ c. pull_of s begin || c) r

-- ---- the line

was_off : (low : Line) (begin u : ℕ) → ((v : ℕ) → v < begin → low v ≡ false) → u ≤ begin → was_low low u ≡ false
was_off low begin zero h l = let x : nat_lt 0 zero ≡ false = grind (arith, nat_tests) in ap (λ b. b && low (zero - 1)) x
was_off low begin (suc n) h l = ap (λ b. nat_lt 0 (suc n) && b) (h (suc n - 1) (omega arith)) ∙ and_no (nat_lt 0 (suc n))
  where
    and_no : (b : Bool) → (b && false) ≡ false
    and_no true = refl
    and_no false = refl

-- In the round's first microsecond nothing is known yet: the line is low where a sender or a pull begins.
pub first_low : (seats : List Seat) (begin : ℕ) (past later : List Stretch) (last : Option Stretch) (senders : List (Option Sender)) (low : ℕ → Bool) (w : ℕ)
    → IsWave (past ++ later) → IsRoundLine seats begin (past ++ later) low → All (λ p. w ≤ p.from) later → begin < w → HaveBegun begin past last begin
    → AreBegun seats begin senders → low begin ≡ low_in senders last begin 0 false begin
unfolding nothing
first_low seats begin past later last senders low w wave line far near begun h =
    line begin
    ∙ ap (λ b. pulled_by (frames_of seats) seats begin (past ++ later) b (known_at begin (reading_of low begin)) begin) (was_off low begin begin (high_before seats begin (past ++ later) low line) (omega arith))
    ∙ ap (λ (k : Known). pulled_by (frames_of seats) seats begin (past ++ later) false k begin) (known_start_low low begin begin (omega arith) (λ u a b. absurd (omega arith)))
    ∙ ap (λ c. c || ((list_any (sender_pulls begin nothing begin) (frames_of seats) && true) || false)) (pulls_by_last begin None false begin w past later last wave far near begun)
    ∙ ap (λ c. takes_last begin false begin last || ((c && true) || false)) (all_first seats begin senders h)
    ∙ ap (λ c. takes_last begin false begin last || ((list_any (pull_in begin) senders && c) || false)) (let x : true ≡ (nat_le begin begin || false) = grind (arith, nat_tests) in x)
    ∙ ap (λ c. takes_last begin false begin last || ((list_any (pull_in begin) senders && (nat_le begin begin || false)) || c)) (let x : false ≡ nat_lt begin 0 = grind (arith, nat_tests) in x)

-- ---- who has heard it

rests_until : (low : Line) (begin n : ℕ) → ((u : ℕ) → u < begin → low u ≡ false) → n ≤ begin → hears low n ≡ rest
unfolding hears hears_with
rests_until low begin zero h l = refl
rests_until low begin (suc n) h l =
    ap (λ (x : Hears). (hear_in n (was_low low n) (low n) x).state) (rests_until low begin n h (omega arith))
    ∙ ap (λ b. starts n (b && not (was_low low n))) (h n (omega arith))

pub begins_so : (low : Line) (begin : ℕ) → IsReadOnce low begin → hears low (suc begin) ≡ record { place = StartLow; begin = begin; fall = 0; bits = [] }
unfolding hears hears_with
begins_so low begin once =
    ap (λ (x : Hears). (hear_in begin (was_low low begin) (low begin) x).state) (rests_until low begin begin once.before (omega arith))
    ∙ ap (λ b. starts begin (low begin && not b)) (was_high low begin once begin (omega arith))
    ∙ ap (λ b. starts begin (b && true)) once.first

for_one : (seat : Seat) (begin : ℕ) (o : Option Sender) → IsSenderOf seat begin o → SendsFor seat begin o
for_one seat begin None h = h
for_one seat begin (Some s) h = (h.0, h.1)

pub begun_senders : (seats : List Seat) (begin : ℕ) (os : List (Option Sender)) → AreBegun seats begin os → AreSenders seats begin os
begun_senders [] begin [] h = tt
begun_senders [] begin (x ∷ os) h = absurd h
begun_senders (y ∷ seats) begin [] h = absurd h
begun_senders (y ∷ seats) begin (x ∷ os) h = (for_one y begin x h.0, begun_senders seats begin os h.1)

one_sends : (seat : Seat) (low : Line) (begin : ℕ) (o : Option Sender) → IsSenderOf seat begin o → IsSending low begin (begin + 1) o
one_sends seat low begin None h = tt
one_sends seat low begin (Some s) h = (h.1, λ k. absurd (omega (arith, k)), λ k. h.2 low)

begun_sends : (seats : List Seat) (low : Line) (begin : ℕ) (os : List (Option Sender)) → AreBegun seats begin os → AreSending low begin (begin + 1) os
begun_sends [] low begin [] h = tt
begun_sends [] low begin (x ∷ os) h = absurd h
begun_sends (y ∷ seats) low begin [] h = absurd h
begun_sends (y ∷ seats) low begin (x ∷ os) h = (one_sends y low begin x h.0, begun_sends seats low begin os h.1)

-- And after it the wire stands.
pub first_tick : (seats : List Seat) (begin : ℕ) (r new : Receiver) (reported : Told) (senders : List (Option Sender)) (low : ℕ → Bool)
    → IsReadOnce low begin → FirstTicked begin r new reported → AreBegun seats begin senders → IsAt seats begin new senders [] None 0 low (begin + 1)
first_tick seats begin r new reported senders low once k h = record {
  from = omega arith;
  once = once;
  stood = record {
    keeps = keeps ∙ sym (begins_so low begin once) ∙ sym (before_heard low (suc begin)) ∙ ap (λ n. kept_before low n) (let x : suc begin ≡ begin + 1 = omega arith in x);
    level = k.level.0 ∙ sym once.first ∙ sym (was_now low begin);
  };
  whose = begun_senders seats begin senders h;
  sending = begun_sends seats low begin senders h;
  read = (
    (let e = ends_after low begin in omega (arith, e)),
    sym (ap (λ (x : Hears). x.bits) keeps),
    sym (ap (λ (x : Hears). held_in seats x.place x.fall x.bits) keeps),
  );
}
  where
    keeps : heard_by new ≡ record { place = StartLow; begin = begin; fall = 0; bits = [] }
    keeps = ap (λ (x : Heard). x.state) (k.heard ∙ ap (λ (x : Hears). hear_in begin false true x) k.fresh)
