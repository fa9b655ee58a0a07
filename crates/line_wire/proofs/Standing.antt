-- The receiver and the senders of a round's line, from edge to edge.
use Rattle.std.proofs.Common.{◌≡◌, ◌≢◌, ℕ, zero, suc, ◌+◌, ◌-◌, ◌<◌, ◌≤◌, Bool, true, false, not, ◌&&◌, nat_lt, if◌then◌else◌, List, [], ◌∷◌, inl, inr, Option, Some, None, refl, arith, ap, ◌∙◌, sym, subst}
use Rattle.std.proofs.lemmas.Bool.{cases_lt}
use Rattle.std.proofs.lemmas.Bool.Decides.{nat_tests}
use Rattle.line_wave.specs.Line.{Line, was_low, is_fall}
use Rattle.line_frames.specs.Bits.{frame_bits}
use Rattle.line_reading.specs.declared.receiver.Told.{Told}
use Rattle.line_reading.specs.declared.receiver.Told.TheVariants.{Nothing}
use Rattle.line_reading.specs.declared.sender.Sender.{Sender}
use Rattle.line_reading.specs.declared.sender.SenderState.{SenderState}
use Rattle.line_reading.specs.declared.sender.SenderState.TheVariants.{Sending, Out, Stopped}
use Rattle.line_reading.specs.Reading.{known_at, reading_of, bits_of}
use Rattle.line_reading.specs.Kept.{running_from, running_of, runs_on, reported_in, reported_at}
use Rattle.line_reading.specs.Sends.{after_reported}
use Rattle.line_reading.specs.Sending.{is_whole, out_by, state_by, state_before, IsBefore, SenderStood}
use Rattle.line_reading.proofs.Search.{first_in_some}
pub use Rattle.line_reading.proofs.Ends.{until_by}
use Rattle.line_reading.proofs.Keeping.{none_runs, one_runs}
use Rattle.line_reading.proofs.Sent.{reports_state, stays_same}
use Rattle.line_rounds.specs.declared.Seat.{Seat}
use Rattle.line_wire.specs.Listening.{IsReadOnce, AreSenders, SendsFor, IsSending, AreSending, HeardOne, AllHeard}
pub use Rattle.line_rounds.proofs.Spans.{reading_spans}
pub use Rattle.line_rounds.proofs.Polled.{reported_bits}

-- ---- the one reading

was_high : (low : Line) (begin : ℕ) → IsReadOnce low begin → (u : ℕ) → u ≤ begin → was_low low u ≡ false
was_high low begin r zero l = let x : nat_lt 0 zero ≡ false = grind (arith, nat_tests) in ap (λ b. b && low (zero - 1)) x
was_high low begin r (suc n) l = ap (λ b. nat_lt 0 (suc n) && b) (r.before (suc n - 1) (omega arith)) ∙ and_no (nat_lt 0 (suc n))
  where
    and_no : (b : Bool) → (b && false) ≡ false
    and_no true = refl
    and_no false = refl

no_fall_before : (low : Line) (begin : ℕ) → IsReadOnce low begin → (u : ℕ) → u < begin → is_fall low u ≡ false
no_fall_before low begin r u l = ap (λ b. b && not (was_low low u)) (r.before u l)

falls_there : (low : Line) (begin : ℕ) → IsReadOnce low begin → is_fall low begin ≡ true
falls_there low begin r = ap (λ b. b && not (was_low low begin)) r.first ∙ ap (λ b. true && not b) (was_high low begin r begin (omega arith))

runs_in_it : (low : Line) (begin u : ℕ) → IsReadOnce low begin → begin ≤ u → u < (reading_of low begin).at → running_of low u ≡ Some begin
runs_in_it low begin u r l m = one_runs low u (u + 1) 0 begin (omega arith) (omega arith) (omega arith) (falls_there low begin r) (λ v a b. no_fall_before low begin r v b) m

runs_before : (low : Line) (begin u : ℕ) → IsReadOnce low begin → u < begin → running_of low u ≡ None
runs_before low begin u r l = none_runs low u (u + 1) 0 (λ v a b. no_fall_before low begin r v (omega arith))

pub runs_after : (low : Line) (begin u : ℕ) → IsReadOnce low begin → begin ≤ u → (reading_of low begin).at ≤ u → running_of low u ≡ None
unfolding running_from
runs_after low begin u r l m =
    ap (λ n. running_from low u n 0) (let x : u + 1 ≡ suc u = omega arith in x)
    ∙ ap (λ o. runs_on low u o (running_from low u u)) (first_in_some (is_fall low) 0 (u + 1 - 0) begin (omega arith) (omega arith) (falls_there low begin r) (λ v a b. no_fall_before low begin r v b))
    ∙ ap (λ c. if c then Some begin else running_from low u u ((reading_of low begin).until + 1)) (let y : nat_lt u (reading_of low begin).at ≡ false = grind (arith, nat_tests) in y)
    ∙ none_runs low u u ((reading_of low begin).until + 1) (λ v a b. r.quiet v (omega (arith, a)))

-- what is told is told of it
pub told_of_it : (low : Line) (begin t : ℕ) → IsReadOnce low begin → reported_at low t ≢ Nothing → (begin < t) × (running_of low (t - 1) ≡ Some begin)
told_of_it low begin zero r n = absurd (n refl)
told_of_it low begin (suc u) r n = elim (cases_lt u begin) [
  | inl lt ↦ absurd (n (ap (reported_in low (suc u)) (runs_before low begin u r lt)))
  | inr ge ↦ (elim (cases_lt u (reading_of low begin).at) [
    | inl lt ↦ (omega arith, ap (running_of low) (let x : suc u - 1 ≡ u = omega arith in x) ∙ runs_in_it low begin u r ge lt)
    | inr le ↦ absurd (n (ap (reported_in low (suc u)) (runs_after low begin u r ge le)))
  ])
]

-- ---- a sender that is told nothing

pub over_state : (low : Line) (begin n : ℕ) (sent : List Bool) → (reading_of low begin).until < n → (reading_of low begin).at < n
    → state_before low begin sent n ≡ state_by (out_by (bits_of (reading_of low begin)) (is_whole (Some (record { ending = (reading_of low begin).ending; at = (reading_of low begin).at; until = (reading_of low begin).until }))) sent) true
over_state low begin n sent l m =
    ap (λ (bs : List Bool). state_by (out_by bs (is_whole (known_at n (reading_of low begin)).ended) sent) (nat_lt (reading_of low begin).at n))
    (reported_bits n (reading_of low begin).until (reading_of low begin).slots (reading_spans low begin).reported l)
    ∙ ap (λ c. state_by (out_by (bits_of (reading_of low begin)) (is_whole (if c then Some (record { ending = (reading_of low begin).ending; at = (reading_of low begin).at; until = (reading_of low begin).until }) else None)) sent) (nat_lt (reading_of low begin).at n))
    (let x : nat_lt (reading_of low begin).until n ≡ true = grind (arith, nat_tests) in x)
    ∙ ap (λ c. state_by (out_by (bits_of (reading_of low begin)) (is_whole (Some (record { ending = (reading_of low begin).ending; at = (reading_of low begin).at; until = (reading_of low begin).until }))) sent) c)
    (let x : nat_lt (reading_of low begin).at n ≡ true = grind (arith, nat_tests) in x)

pub state_next : (low : Line) (begin n : ℕ) (sent : List Bool) → IsReadOnce low begin → begin < n → reported_at low n ≡ Nothing → state_before low begin sent (n + 1) ≡ state_before low begin sent n
state_next low begin n sent r l q = elim (cases_lt (n - 1) (reading_of low begin).at) [
  | inl lt ↦ reports_state low n begin sent (omega arith) (runs_in_it low begin (n - 1) r (omega arith) lt) ∙ ap (after_reported sent (state_before low begin sent n)) q ∙ stays_same sent (state_before low begin sent n)
  | inr ge ↦ (let u = until_by low begin in over_state low begin (n + 1) sent (omega (arith, u, ge, l)) (omega (arith, ge, l)) ∙ sym (over_state low begin n sent (omega (arith, u, ge, l)) (omega (arith, ge, l))))
]

state_later : (low : Line) (begin n m : ℕ) (sent : List Bool) → IsReadOnce low begin → begin < n → ((u : ℕ) → n ≤ u → u < n + m → reported_at low u ≡ Nothing) → state_before low begin sent (n + m) ≡ state_before low begin sent n
state_later low begin n zero sent r l q = ap (state_before low begin sent) (let x : n + zero ≡ n = omega arith in x)
state_later low begin n (suc m) sent r l q =
    ap (state_before low begin sent) (let x : n + suc m ≡ n + m + 1 = omega arith in x)
    ∙ state_next low begin (n + m) sent r (omega arith) (q (n + m) (omega arith) (omega arith))
    ∙ state_later low begin n m sent r l (λ u a b. q u a (omega arith))

past_later : (state : SenderState) (last n t : ℕ) → n ≤ t → IsBefore state last n → IsBefore state last t
past_later Sending last n t l b = tt
past_later (Out slot) last n t l b = omega (arith, b)
past_later Stopped last n t l b = omega (arith, b)

stays : (s : Sender) (low : Line) (n t : ℕ) → IsReadOnce low s.begin → SenderStood s low n → n ≤ t → ((u : ℕ) → n ≤ u → u < t → reported_at low u ≡ Nothing) → SenderStood s low t
stays s low n t r h l q =
    let e : n + (t - n) ≡ t = omega arith in
    record {
      after = omega (arith, h.after);
      state = h.state ∙ sym (state_later low s.begin n (t - n) (frame_bits s.frame) r h.after (λ u a b. q u a (omega (arith, b, l)))) ∙ ap (state_before low s.begin (frame_bits s.frame)) e;
      past = past_later s.state s.last n t l h.past;
    }

sends_later : (low : Line) (begin n t : ℕ) (o : Option Sender) → IsReadOnce low begin → begin ≤ n → n ≤ t → ((u : ℕ) → n ≤ u → u < t → reported_at low u ≡ Nothing) → IsSending low begin n o → IsSending low begin t o
sends_later low begin n t None r f l q s = tt
sends_later low begin n t (Some x) r f l q s = (s.0, λ k. s.1 (omega arith), late)
  where
    once : IsReadOnce low x.begin
    once = subst (λ b. IsReadOnce low b) (sym s.0) r

    late : begin < t → SenderStood x low t
    late k = elim (cases_lt begin n) [
      | inl lt ↦ stays x low n t once (s.2 lt) l q
      | inr ge ↦ stays x low (begin + 1) t once (s.1 ge) (omega arith) (λ u a b. q u (omega arith) b)
    ]

pub all_later : (low : Line) (begin n t : ℕ) (os : List (Option Sender)) → IsReadOnce low begin → begin ≤ n → n ≤ t → ((u : ℕ) → n ≤ u → u < t → reported_at low u ≡ Nothing) → AreSending low begin n os → AreSending low begin t os
all_later low begin n t [] r f l q s = tt
all_later low begin n t (o ∷ os) r f l q s = (sends_later low begin n t o r f l q s.0, all_later low begin n t os r f l q s.1)

-- ---- a sender that is told something

hears_told : (low : Line) (begin t : ℕ) (reported : Told) (o p : Option Sender) → IsReadOnce low begin → reported ≡ reported_at low t → reported ≢ Nothing → HeardOne reported t o p → IsSending low begin t o → IsSending low begin (t + 1) p
hears_told low begin t reported None None r e n h s = tt
hears_told low begin t reported None (Some y) r e n h s = let z : Some y ≡ None = h in cc
hears_told low begin t reported (Some x) None r e n h s = absurd h
hears_told low begin t reported (Some x) (Some y) r e n h s = (h.1 ∙ s.0, λ k. absurd (omega (arith, k, runs.0)), λ k. stood)
  where
    runs : (begin < t) × (running_of low (t - 1) ≡ Some begin)
    runs = told_of_it low begin t r (λ z. n (e ∙ z))

    stood : SenderStood y low (t + 1)
    stood = h.2 low t (s.2 runs.0) (record {
      from = omega arith;
      runs = λ u a b. ap (λ v. running_of low (v - 1)) (let z : u ≡ t = omega arith in z) ∙ runs.1 ∙ ap (λ (v : ℕ). Some v) (sym s.0);
      silent = λ u a b. absurd (omega arith);
    }) e

pub all_told : (low : Line) (begin t : ℕ) (reported : Told) (os ps : List (Option Sender)) → IsReadOnce low begin → reported ≡ reported_at low t → reported ≢ Nothing → AllHeard reported t os ps → AreSending low begin t os → AreSending low begin (t + 1) ps
all_told low begin t reported [] [] r e n h s = tt
all_told low begin t reported [] (p ∷ ps) r e n h s = absurd h
all_told low begin t reported (o ∷ os) [] r e n h s = absurd h
all_told low begin t reported (o ∷ os) (p ∷ ps) r e n h s = (hears_told low begin t reported o p r e n h.0 s.0, all_told low begin t reported os ps r e n h.1 s.1)

sends_for : (seat : Seat) (begin : ℕ) (reported : Told) (t : ℕ) (o p : Option Sender) → HeardOne reported t o p → SendsFor seat begin o → SendsFor seat begin p
sends_for seat begin reported t None None h s = s
sends_for seat begin reported t None (Some y) h s = let z : Some y ≡ None = h in cc
sends_for seat begin reported t (Some x) None h s = absurd h
sends_for seat begin reported t (Some x) (Some y) h s = (s.0 ∙ ap (λ (f : List ℕ). Some f) (sym h.0), h.1 ∙ s.1)

pub senders_kept : (seats : List Seat) (begin : ℕ) (reported : Told) (t : ℕ) (os ps : List (Option Sender)) → AllHeard reported t os ps → AreSenders seats begin os → AreSenders seats begin ps
senders_kept [] begin reported t [] [] h s = tt
senders_kept [] begin reported t [] (p ∷ ps) h s = absurd h
senders_kept [] begin reported t (o ∷ os) ps h s = absurd s
senders_kept (seat ∷ seats) begin reported t [] ps h s = absurd s
senders_kept (seat ∷ seats) begin reported t (o ∷ os) [] h s = absurd h
senders_kept (seat ∷ seats) begin reported t (o ∷ os) (p ∷ ps) h s = (sends_for seat begin reported t o p h.0 s.0, senders_kept seats begin reported t os ps h.1 s.1)
