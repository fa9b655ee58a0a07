-- The window of a winner's slots, for each slot of the reading.
use Rattle.std.proofs.Common.{◌≡◌, ℕ, zero, suc, ◌+◌, ◌-◌, ◌*◌, ◌%◌, ◌==◌, ◌<◌, ◌≤◌, Bool, true, false, not, if◌then◌else◌, List, [], ◌∷◌, ◌++◌, length, length-append, append-nil, slice_index_or, slice_get, ◌/◌, inl, inr, Option, Some, None, Result, Ok, Err, refl, arith, ap, ◌∙◌, sym, subst}
use Rattle.std.specs.List.{filter_map}
use Rattle.std.specs.Option.{option_to_list}
use mathlib.Core.Bool.{beq}
use Rattle.std.proofs.Math.ListN.{get_or-append}
use Rattle.std.proofs.lemmas.Bool.{cases_lt}
use Rattle.std.proofs.lemmas.Bool.Decides.{nat_tests}
use Rattle.line_wave.specs.declared.Stretch.{Stretch}
use Rattle.line_wave.specs.Line.{Line}
use Rattle.line_frames.specs.Bits.{frame_bits, least_among}
use Rattle.line_frames.specs.declared.Ending.TheVariants.{Complete, Long}
use Rattle.line_reading.specs.Reading.After.{Next, Ends}
use Rattle.line_reading.specs.Windows.{sample_at}
use Rattle.line_reading.specs.Reading.{Slot, Known, known_at, reading_of, read_start, read_slots, read_on, after_slot, last_ending, bit_sampled_at, start_of, After}
use Rattle.line_reading.proofs.Causes.{known_front, late_read}
use Rattle.line_rounds.specs.declared.Seat.{Seat}
use Rattle.line_reading.specs.Sending.{bit_read, destination, out_slot}
use Rattle.line_rounds.specs.Round.{frames_of, winning_frames}
use Rattle.line_rounds.specs.Contend.{WinnersWindow, InWindow, leaves, Stays}
use Rattle.line_rounds.specs.Slots.{NextFall}
use Rattle.line_rounds.specs.Reached.{Reached}
use Rattle.line_rounds.proofs.Early.{OnTime, stays_before}
use Rattle.line_rounds.proofs.Walk.{next_falls, quiet_sample, over_sampled, reach_next, Scene, step_on_time}
use Rattle.line_rounds.proofs.Inside.{stays_by}
use Rattle.line_rounds.proofs.Law.{in_at, in_filter, all_in, reached_start, on_time_start}
use Rattle.line_frames.proofs.Slots.{length-frame_bits, eom_slot}
use Rattle.std.proofs.lemmas.Option.{get_or_from_slice_get}
use Rattle.line_reading.specs.Known.{nothing}

-- ---- a sender's last slot ends the reading

pub eom_sent : (w : List ℕ) (n : ℕ) → 0 < length w → n + 1 ≡ 10 * length w → slice_index_or (frame_bits w) (n - 1) false ≡ true
eom_sent w n h e =
    let g : slice_get (frame_bits w) (n - 1) ≡ Some ((n - 1) / 10 + 1 == length w) = eom_slot w n (omega arith) (omega (arith, length-frame_bits w)) (omega arith) in
    let f : ((n - 1) / 10 + 1 == length w) ≡ true = (let x : (n - 1) / 10 + 1 ≡ length w = omega arith in grind (arith, nat_tests)) in
    get_or_from_slice_get (frame_bits w) (n - 1) ((n - 1) / 10 + 1 == length w) false g ∙ f

pub room_next : (w : List ℕ) (bits : List Bool) (b : Bool) → 0 < length w → last_ending bits ≡ None → length bits < length (frame_bits w)
    → Stays (bits ++ b ∷ []) (frame_bits w) → length (bits ++ b ∷ []) < length (frame_bits w)
room_next w bits b h none room stays =
    elim (cases_lt (length bits + 1) (length (frame_bits w))) [
      | inl lt ↦ omega (arith, length-append bits (b ∷ []), lt)
      | inr ge ↦ absurd (last (omega (arith, length-frame_bits w, room, ge)))
    ]
  where
    last : length bits + 1 ≡ 10 * length w → ⊥
    last e =
        let nine : (length bits % 10 == 9) ≡ true = (let x : length bits % 10 ≡ 9 = omega arith in grind (arith, nat_tests)) in
        let not_ack : (length bits % 10 == 0) ≡ false = (let x : length bits % 10 ≡ 9 = omega arith in grind (arith, nat_tests)) in
        let sent : slice_index_or (frame_bits w) (length bits - 1) false ≡ true = eom_sent w (length bits) h e in
        let same : bit_read (bits ++ b ∷ []) (length bits) ≡ slice_index_or bits (length bits - 1) false = get_or-append bits (b ∷ []) false (length bits - 1) (omega arith) in
        let stay : leaves (bits ++ b ∷ []) (frame_bits w) (length bits) ≡ false = stays (length bits) (omega arith) (omega (arith, length-append bits (b ∷ []))) in
        let eom : slice_index_or bits (length bits - 1) false ≡ true = by_read (slice_index_or bits (length bits - 1) false)
        (sym (ap (λ c. if c then not (beq (bit_read (bits ++ b ∷ []) (length bits)) (destination (bits ++ b ∷ []) == 15)) else not (beq (bit_read (bits ++ b ∷ []) (length bits)) (slice_index_or (frame_bits w) (length bits - 1) false))) not_ack
        ∙ ap (λ v. not (beq v (slice_index_or (frame_bits w) (length bits - 1) false))) same
        ∙ ap (λ v. not (beq (slice_index_or bits (length bits - 1) false) v)) sent) ∙ stay) in
        let end : last_ending bits ≡ Some Complete = ap (λ c. if c then (if slice_index_or bits (length bits - 1) false then Some Complete else if length bits == 159 then Some Long else None) else None) nine
        ∙ ap (λ c. if c then Some Complete else if length bits == 159 then Some Long else None) eom in
        let no : None ≡ Some Complete = sym none ∙ end in cc
      where
        by_read : (v : Bool) → not (beq v true) ≡ false → v ≡ true
        by_read true k = refl
        by_read false k = cc

-- at a slot's fall the bits of the slots before it are known
bits_at : (low : Line) (begin left : ℕ) (xs : List Slot) (bits : List Bool) (e : ℕ) → Reached low begin left xs bits e
    → known_at e (reading_of low begin) ≡ record { slots = xs ++ []; ended = None }
unfolding nothing
bits_at low begin left xs bits e r =
    ap (known_at e) (sym r.goes) ∙ known_front e xs (read_slots low left bits e) (over_sampled e e xs (omega arith) r.over)
    ∙ ap (λ (n : Known). let m : Known = record { slots = xs ++ n.slots; ended = n.ended } in m) (late_read e low left bits e (omega arith))

window_walk : (seats : List Seat) (begin : ℕ) (pulses : List Stretch) (low : Line) (w : List ℕ) → Scene seats begin pulses low w → 0 < length w
    → (left : ℕ) (xs : List Slot) (bits : List Bool) (e own : ℕ) → Reached low begin left xs bits e → own ≡ begin + 4500 + 2400 * length bits
    → (Stays bits (frame_bits w) → (length bits < length (frame_bits w)) × OnTime pulses e own)
    → (k : ℕ) (s : Slot) → slice_get (read_slots low left bits e).slots k ≡ Some s → out_slot (known_at s.fall (reading_of low begin)) (frame_bits w) ≡ None
    → (length bits + k < length (frame_bits w)) × (s.fall ≤ own + 2400 * k) × (own + 2400 * k ≤ s.fall + 350)
unfolding read_slots
window_walk seats begin pulses low w z full zero xs bits e own r o time k s h out = cc
window_walk seats begin pulses low w z full (suc left) xs bits e own r o time zero s h out =
    let f : e ≡ s.fall = (let x : Some (record { fall = e; bit = bit_sampled_at low e }) ≡ Some s = h in let y : record { fall = e; bit = bit_sampled_at low e } ≡ s = cc in ap (λ (q : Slot). q.fall) y) in
    let out2 : out_slot (known_at e (reading_of low begin)) (frame_bits w) ≡ None = subst (λ t. out_slot (known_at t (reading_of low begin)) (frame_bits w) ≡ None) (sym f) out in
    let here = bits_at low begin (suc left) xs bits e r in
    let stays0 : Stays (filter_map (λ (x : Slot). x.bit) (xs ++ [])) (frame_bits w) =
    stays_by (record { slots = xs ++ []; ended = None }) (frame_bits w) refl (subst (λ (q : Known). out_slot q (frame_bits w) ≡ None) here out2) in
    let stays : Stays bits (frame_bits w) = subst (λ (q : List Bool). Stays q (frame_bits w)) (ap (λ ys. filter_map (λ (x : Slot). x.bit) ys) (append-nil xs) ∙ r.reported) stays0 in
    let d = time stays in
    (omega (arith, d.0), omega (arith, f, (bounds d.1).0), omega (arith, f, (bounds d.1).1))
  where
    bounds : OnTime pulses e own → (e ≤ own) × (own ≤ e + 350)
    bounds (inl g) = (omega arith, omega arith)
    bounds (inr g) = (omega (arith, g.0), g.1)
window_walk seats begin pulses low w z full (suc left) xs bits e own r o time (suc k) s h out =
    by_after (after_slot low e (last_ending bits)) refl h
    (λ f a n t g. window_walk seats begin pulses low w z full left (xs ++ record { fall = e; bit = bit_sampled_at low e } ∷ []) (bits ++ option_to_list (bit_sampled_at low e)) f (own + 2400)
    (reach_next low begin left xs bits e f r a n.far) (counts n) t k s g out)
  where
    bits2 : List Bool
    bits2 = bits ++ option_to_list (bit_sampled_at low e)

    counts : {f : ℕ} → NextFall low e bits f → own + 2400 ≡ begin + 4500 + 2400 * length (bits ++ option_to_list (bit_sampled_at low e))
    counts n = let q : bit_sampled_at low e ≡ Some (not (low (e + sample_at))) = quiet_sample low e (λ u a b. n.quiet u a (omega (arith, n.far))) in
        rw q (omega (arith, length-append bits (not (low (e + sample_at)) ∷ [])))

    next_time : (f : ℕ) → NextFall low e bits f → Stays bits2 (frame_bits w) → (length bits2 < length (frame_bits w)) × OnTime pulses f (own + 2400)
    next_time f n stays =
        let q : bit_sampled_at low e ≡ Some (not (low (e + sample_at))) = quiet_sample low e (λ u a b. n.quiet u a (omega (arith, n.far))) in
        let stays2 : Stays (bits ++ not (low (e + sample_at)) ∷ []) (frame_bits w) = subst (λ (x : Option Bool). Stays (bits ++ option_to_list x) (frame_bits w)) q stays in
        let d = time (stays_before bits (not (low (e + sample_at)) ∷ []) (frame_bits w) stays2) in
        let room : length (bits ++ not (low (e + sample_at)) ∷ []) < length (frame_bits w) = room_next w bits (not (low (e + sample_at))) full n.last d.0 stays2 in (
          subst (λ (x : Option Bool). length (bits ++ option_to_list x) < length (frame_bits w)) (sym q) room,
          step_on_time seats begin pulses low w z left xs bits e own f (length bits) r n o (omega (arith, room, length-append bits (not (low (e + sample_at)) ∷ []))) d.1 stays,
        )

    by_after : (a : After) → after_slot low e (last_ending bits) ≡ a → slice_get (read_on (read_slots low left bits2) a).slots k ≡ Some s
        → ((f : ℕ) → after_slot low e (last_ending bits) ≡ Next f → NextFall low e bits f → (Stays bits2 (frame_bits w) → (length bits2 < length (frame_bits w)) × OnTime pulses f (own + 2400))
        → slice_get (read_slots low left bits2 f).slots k ≡ Some s → (length bits2 + k < length (frame_bits w)) × (s.fall ≤ own + 2400 + 2400 * k) × (own + 2400 + 2400 * k ≤ s.fall + 350))
        → (length bits + suc k < length (frame_bits w)) × (s.fall ≤ own + 2400 * suc k) × (own + 2400 * suc k ≤ s.fall + 350)
    by_after (Ends ending at) a g ih = cc
    by_after (Next f) a g ih =
        let n = next_falls low e bits f a in
        let d = ih f a n (next_time f n) g in
        (omega (arith, d.0, counts n, o), omega (arith, d.1), omega (arith, d.2))

window_from : (seats : List Seat) (begin : ℕ) (pulses : List Stretch) (low : Line) (w : List ℕ) → Scene seats begin pulses low w → 0 < length w
    → (st : Result ℕ ℕ) → start_of low begin ≡ st → (k : ℕ) (s : Slot) → slice_get (read_start low begin st).slots k ≡ Some s
    → out_slot (known_at s.fall (reading_of low begin)) (frame_bits w) ≡ None → (k < length (frame_bits w)) × InWindow begin k s
window_from seats begin pulses low w z full (Err at) h k s g out = cc
window_from seats begin pulses low w z full (Ok f) h k s g out =
    let d = window_walk seats begin pulses low w z full 160 [] [] f (begin + 4500) (reached_start low begin f h) (omega arith)
    (λ stays. (room, on_time_start seats begin pulses low w z f h room)) k s g out in
    (omega (arith, d.0), (d.1, d.2))
  where
    room : 0 < length (frame_bits w)
    room = omega (arith, length-frame_bits w, full)

pub winners_window : WinnersWindow
winners_window seats begin pulses low frames sparse line i d l =
    let n = in_filter (least_among (frames_of seats)) (frames_of seats) (slice_index_or (winning_frames seats) i d) (in_at (winning_frames seats) i d l) in
    window_from seats begin pulses low (slice_index_or (winning_frames seats) i d) (record { line = line; sparse = sparse; sends = n.0; least = n.1 })
    (all_in (λ f. 0 < length f) (frames_of seats) frames (slice_index_or (winning_frames seats) i d) n.0) (start_of low begin) refl
