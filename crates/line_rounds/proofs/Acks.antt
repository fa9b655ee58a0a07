-- Where an acknowledger pulls, the slot is read 0.
use Rattle.std.proofs.Common.{◌≡◌, ℕ, zero, suc, ◌+◌, ◌%◌, ◌==◌, ◌<◌, Bool, true, false, not, ◌&&◌, nat_lt, List, [], ◌∷◌, ◌++◌, length, length-append, slice_get, Option, Some, None, Result, Ok, Err, refl, arith, ap, ◌∙◌, sym, subst}
use Rattle.std.specs.List.{enumerate_from, list_any}
use Rattle.std.specs.Option.{option_to_list}
use Rattle.std.proofs.lemmas.Bool.Decides.{nat_tests}
use Rattle.line_wave.specs.declared.Stretch.{Stretch}
use Rattle.line_wave.specs.Line.{Line, was_low, is_fall}
use Rattle.line_reading.specs.Reading.After.{Next, Ends}
use Rattle.line_reading.specs.Windows.{sample_at}
use Rattle.line_reading.specs.Reading.{next_fall, Slot, Known, known_at, reading_of, read_start, read_slots, read_on, after_slot, last_ending, sample, bit_sampled_at, start_of, After}
use Rattle.line_reading.proofs.Search.{found_none}
use Rattle.line_rounds.specs.declared.Seat.{Seat}
use Rattle.line_reading.specs.Sending.{sender_pulls}
use Rattle.line_rounds.specs.Round.{acknowledges, frames_of, pulse_pulls, is_acknowledged, is_pulled, IsRoundLine}
use Rattle.line_rounds.specs.Contend.{AcknowledgedIsZero}
use Rattle.line_rounds.specs.Slots.{NextFall}
use Rattle.line_rounds.specs.Begins.{Reports}
use Rattle.line_rounds.specs.Reached.{Reached}
use Rattle.line_rounds.proofs.Differ.{or_right}
use Rattle.line_rounds.proofs.Walk.{next_falls, reach_next, known_unsampled}
use Rattle.line_rounds.proofs.Law.{reached_start}

any_last : (test : ℕ × Slot → Bool) (xs : List Slot) (s : Slot) (n m : ℕ) → m ≡ n + length xs → test (m, s) ≡ true → list_any test (enumerate_from n (xs ++ s ∷ [])) ≡ true
any_last test [] s n m e h = let f : m ≡ n = omega arith in let g : test (n, s) ≡ true = subst (λ i. test (i, s) ≡ true) f h in rw g refl
any_last test (x ∷ xs) s n m e h = or_right (test (n, x)) (list_any test (enumerate_from (n + 1) (xs ++ s ∷ []))) (any_last test xs s (n + 1) m (omega arith) h)

-- the slot's bit, where an acknowledger pulls
pub zero_here : (seats : List Seat) (begin : ℕ) (pulses : List Stretch) (low : Line) → IsRoundLine seats begin pulses low
    → (left : ℕ) (xs : List Slot) (bits : List Bool) (e m : ℕ) (b : Bool) → Reached low begin (suc left) xs bits e → m ≡ length xs + 1 → bit_sampled_at low e ≡ Some b → (m % 10 == 0) ≡ true
    → list_any (acknowledges (known_at (e + 1) (reading_of low begin)) m) seats ≡ true → b ≡ false
zero_here seats begin pulses low line left xs bits e m b r o s ten ack = by_fall (next_fall low e sample_at) refl s
  where
    k : Known
    k = record { slots = xs ++ record { fall = e; bit = None } ∷ []; ended = None }

    low_at : next_fall low e sample_at ≡ None → low (e + sample_at) ≡ true
    low_at q =
        let quiet = (λ (u : ℕ) (l : e < u) (h : u < e + (sample_at + 1)). found_none (is_fall low) (e + 1) sample_at q u (omega arith) (omega arith)) in
        let soon : Reports low begin (e + 1) (xs ++ record { fall = e; bit = None } ∷ []) = known_unsampled low begin left xs bits e (e + 1) r (λ u l h. quiet u l (omega arith)) (omega arith) (omega arith) in
        let then_ : Reports low begin (e + sample_at) (xs ++ record { fall = e; bit = None } ∷ []) = known_unsampled low begin left xs bits e (e + sample_at) r (λ u l h. quiet u l (omega arith)) (omega arith) (omega arith) in
        let ack2 : list_any (acknowledges k m) seats ≡ true = subst (λ (n : Known). list_any (acknowledges n m) seats ≡ true) soon ack in
        let within : nat_lt (e + sample_at) (e + 1500) ≡ true = grind (arith, nat_tests) in
        let one : ((m % 10 == 0) && (nat_lt (e + sample_at) (e + 1500) && list_any (acknowledges k m) seats)) ≡ true = rw (ten, within, ack2) refl in
        let all : is_acknowledged seats k (e + sample_at) ≡ true =
        any_last (λ (slot : ℕ × Slot). (slot.0 % 10 == 0) && (nat_lt (e + sample_at) (slot.1.fall + 1500) && list_any (acknowledges k slot.0) seats)) xs (record { fall = e; bit = None }) 1 m (omega arith) one in
        line (e + sample_at) ∙ ap (λ (n : Known). is_pulled seats begin pulses (was_low low (e + sample_at)) n (e + sample_at)) then_
        ∙ or_right (list_any (pulse_pulls begin None (was_low low (e + sample_at)) (e + sample_at)) pulses) _
        (or_right (list_any (sender_pulls begin k (e + sample_at)) (frames_of seats) && true) _ (rw all refl))

    by_fall : (q : Option ℕ) → next_fall low e sample_at ≡ q → sample low e q ≡ Some b → b ≡ false
    by_fall (Some f) q g = cc
    by_fall None q g = let x : not (low (e + sample_at)) ≡ b = cc in sym x ∙ ap not (low_at q)

ack_walk : (seats : List Seat) (begin : ℕ) (pulses : List Stretch) (low : Line) → IsRoundLine seats begin pulses low
    → (left : ℕ) (xs : List Slot) (bits : List Bool) (e : ℕ) → Reached low begin left xs bits e
    → (k m : ℕ) (s : Slot) (b : Bool) → m ≡ length xs + k + 1 → slice_get (read_slots low left bits e).slots k ≡ Some s → s.bit ≡ Some b → (m % 10 == 0) ≡ true
    → list_any (acknowledges (known_at (s.fall + 1) (reading_of low begin)) m) seats ≡ true → b ≡ false
unfolding read_slots
ack_walk seats begin pulses low line zero xs bits e r k m s b o h g ten ack = cc
ack_walk seats begin pulses low line (suc left) xs bits e r zero m s b o h g ten ack =
    let y : record { fall = e; bit = bit_sampled_at low e } ≡ s = cc in
    let f : s.fall ≡ e = ap (λ (q : Slot). q.fall) (sym y) in
    zero_here seats begin pulses low line left xs bits e m b r (omega arith) (ap (λ (q : Slot). q.bit) y ∙ g) ten
    (subst (λ t. list_any (acknowledges (known_at (t + 1) (reading_of low begin)) m) seats ≡ true) f ack)
ack_walk seats begin pulses low line (suc left) xs bits e r (suc k) m s b o h g ten ack =
    by_after (after_slot low e (last_ending bits)) refl h
    (λ f a n q. ack_walk seats begin pulses low line left (xs ++ record { fall = e; bit = bit_sampled_at low e } ∷ []) (bits ++ option_to_list (bit_sampled_at low e)) f
    (reach_next low begin left xs bits e f r a n.far) k m s b (omega (arith, o, length-append xs (record { fall = e; bit = bit_sampled_at low e } ∷ []))) q g ten ack)
  where
    by_after : (a : After) → after_slot low e (last_ending bits) ≡ a → slice_get (read_on (read_slots low left (bits ++ option_to_list (bit_sampled_at low e))) a).slots k ≡ Some s
        → ((f : ℕ) → after_slot low e (last_ending bits) ≡ Next f → NextFall low e bits f → slice_get (read_slots low left (bits ++ option_to_list (bit_sampled_at low e)) f).slots k ≡ Some s → b ≡ false) → b ≡ false
    by_after (Ends ending at) a q ih = cc
    by_after (Next f) a q ih = ih f a (next_falls low e bits f a) q

ack_from : (seats : List Seat) (begin : ℕ) (pulses : List Stretch) (low : Line) → IsRoundLine seats begin pulses low
    → (st : Result ℕ ℕ) → start_of low begin ≡ st → (k : ℕ) (s : Slot) (b : Bool) → slice_get (read_start low begin st).slots k ≡ Some s → s.bit ≡ Some b → ((k + 1) % 10 == 0) ≡ true
    → list_any (acknowledges (known_at (s.fall + 1) (reading_of low begin)) (k + 1)) seats ≡ true → b ≡ false
ack_from seats begin pulses low line (Err at) h k s b q g ten ack = cc
ack_from seats begin pulses low line (Ok f) h k s b q g ten ack =
    ack_walk seats begin pulses low line 160 [] [] f (reached_start low begin f h) k (k + 1) s b (omega arith) q g ten ack

pub acknowledged_is_zero : AcknowledgedIsZero
acknowledged_is_zero seats begin pulses low line k s b q g ten ack = ack_from seats begin pulses low line (start_of low begin) refl k s b q g ten ack
