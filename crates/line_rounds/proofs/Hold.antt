-- Who acknowledges is decided at the slot's fall.
use Rattle.std.proofs.Common.{◌≡◌, ℕ, zero, suc, ◌+◌, ◌-◌, ◌%◌, ◌==◌, ◌<◌, ◌≤◌, Bool, true, false, not, ◌&&◌, nat_lt, nat_le, if◌then◌else◌, List, [], ◌∷◌, ◌++◌, length, length-append, slice_index_or, slice_get, Option, Some, None, is_none, Result, Ok, Err, refl, arith, ap, ◌∙◌, sym, subst}
use Rattle.std.specs.List.{find, range_with_len}
use Rattle.std.specs.Option.{option_to_list}
use mathlib.Core.Bool.{beq}
use Rattle.std.proofs.lemmas.Bool.Decides.{nat_tests}
use Rattle.line_wave.specs.Line.{Line}
use Rattle.line_frames.specs.Bits.{frame_bits}
use Rattle.line_frames.specs.declared.Ending.{Ending}
use Rattle.line_frames.specs.declared.Ending.TheVariants.{Complete, Short, Silent, BadStart, Long, Open}
use Rattle.line_reading.specs.Reading.After.{Next, Ends}
use Rattle.line_reading.specs.Windows.{standard, sample_at}
use Rattle.line_reading.specs.Reading.{next_fall, Slot, End, Known, known_at, known_slot, reading_of, read_start, read_slots, read_on, after_slot, after_fall, after_last, last_ending, last_heard, sample, bit_sampled_at, start_of, After}
use Rattle.line_reading.proofs.Causes.{late_read}
use Rattle.line_rounds.specs.declared.Seat.{Seat}
use Rattle.line_reading.specs.Sending.{bit_read, destination, known_bits, is_whole, is_out_by, out_by}
use Rattle.line_rounds.specs.Round.{is_held, sends_in, is_not_before, acknowledges}
use Rattle.line_rounds.specs.Contend.{AcknowledgersHold, leaves}
use Rattle.line_rounds.proofs.Early.{destination_more, leaves_more}
use Rattle.line_rounds.proofs.Walk.{next_falls, quiet_sample, reach_next, reported_more}
use Rattle.line_rounds.proofs.Inside.{known_here}
use Rattle.line_rounds.proofs.Law.{reached_start}
use Rattle.line_rounds.specs.Machine as Machine
use Rattle.line_reading.specs.Known.{nothing}
use Rattle.line_rounds.specs.Slots.{NextFall}
use Rattle.line_rounds.specs.Reached.{Reached}

-- who acknowledges after these bits
sends_after : List Bool → Option (List ℕ) → Bool
sends_after bits None = false
sends_after bits (Some f) = is_none (find (leaves bits (frame_bits f)) (range_with_len 1 (length bits)))

acks_after : List Bool → Seat → Bool
acks_after bits seat = seat.plugged && (is_held seat.holds (destination bits) && not (sends_after bits seat.sends))

found_late : (p : ℕ → Bool) (a m c : ℕ) → m ≤ a → is_not_before m (find p (range_with_len a c)) ≡ true
found_late p a m zero h = refl
found_late p a m (suc c) h =
    elim (p a) as (λ b. is_not_before m (if b then Some a else find p (range_with_len (a + 1) c)) ≡ true) [
      | true ↦ grind (arith, nat_tests)
      | false ↦ found_late p (a + 1) m c (omega arith)
    ]

found_before : (p q : ℕ → Bool) (a n c total m : ℕ) → m ≡ a + n → total ≡ n + c → ((x : ℕ) → a ≤ x → x < a + n → p x ≡ q x)
    → is_not_before m (find p (range_with_len a total)) ≡ is_none (find q (range_with_len a n))
found_before p q a zero c total m e t h = found_late p a m total (omega arith)
found_before p q a (suc n) c zero m e t h = absurd (omega arith)
found_before p q a (suc n) c (suc total) m e t h =
    rw (h a (omega arith) (omega arith))
    (elim (q a) as (λ b. is_not_before m (if b then Some a else find p (range_with_len (a + 1) total)) ≡ is_none (if b then Some a else find q (range_with_len (a + 1) n))) [
      | true ↦ early
      | false ↦ found_before p q (a + 1) n c total m (omega arith) (omega arith) (λ x l k. h x (omega arith) (omega arith))
    ])
  where
    early : nat_le m a ≡ false
    early = grind (arith, nat_tests)

acks_by : (k : Known) (bits ys : List Bool) (m : ℕ) (seat : Seat) → known_bits k ≡ bits ++ ys → m ≡ length bits + 1 → (m % 10 == 0) ≡ true → (is_whole k.ended ≡ true → 0 < length ys)
    → acknowledges k m seat ≡ acks_after bits seat
unfolding acks_after sends_after
acks_by k bits ys m seat e o ten w =
    ap (λ d. seat.plugged && (is_held seat.holds d && not (sends_in k seat.sends m))) (ap destination e ∙ destination_more bits ys (omega (arith, o, tens)))
    ∙ ap (λ b. seat.plugged && (is_held seat.holds (destination bits) && not b)) (by_sends seat.sends)
  where
    tens : m % 10 ≡ 0
    tens = grind (arith, nat_tests)

    count : length (known_bits k) ≡ length bits + length ys
    count = ap (λ (b : List Bool). length b) e ∙ length-append bits ys

    not_last : (n : ℕ) → n ≤ length bits → (b : Bool) → is_whole k.ended ≡ b → (b && (n == length (known_bits k))) ≡ false
    not_last n l false q = refl
    not_last n l true q = let x : 0 < length ys = w q in let c = count in grind (arith, nat_tests)

    same : (sent : List Bool) (n : ℕ) → 1 ≤ n → n < 1 + length bits → is_out_by (known_bits k) (is_whole k.ended) sent n ≡ leaves bits sent n
    same sent n l h =
        ap (λ c. if n % 10 == 0 then not c && not (beq (bit_read (known_bits k) n) (destination (known_bits k) == 15)) else not (beq (bit_read (known_bits k) n) (slice_index_or sent (n - 1) false))) (not_last n (omega arith) (is_whole k.ended) refl)
        ∙ (ap (λ (b : List Bool). leaves b sent n) e ∙ leaves_more bits ys sent n l (omega arith))

    by_sends : (o2 : Option (List ℕ)) → sends_in k o2 m ≡ (elim o2 as (λ x. Bool) [ None ↦ false | Some f ↦ is_none (find (leaves bits (frame_bits f)) (range_with_len 1 (length bits))) ])
    by_sends None = refl
    by_sends (Some f) = found_before (is_out_by (known_bits k) (is_whole k.ended) (frame_bits f)) (leaves bits (frame_bits f)) 1 (length bits) (length ys) (length (known_bits k)) m (omega arith) count (same (frame_bits f))

-- in a slot, within 1,500 of its fall
whole_sampled : (low : Line) (e t : ℕ) (last : Option Ending) (ending : Ending) (at : ℕ) → after_slot low e last ≡ Ends ending at
    → is_whole (if nat_lt (last_heard ending at) t then Some (record { ending = ending; at = at; until = last_heard ending at }) else None) ≡ true
    → 0 < length (option_to_list (if nat_lt (e + sample_at) t then bit_sampled_at low e else None))
whole_sampled low e t None ending at h w = by_fall (next_fall low e standard.bit_total.most) h
  where
    short : Ends Short at ≡ Ends ending at → ⊥
    short q = let x : Short ≡ ending = cc in by_test (nat_lt (last_heard ending at) t) (subst (λ y. is_whole (if nat_lt (last_heard ending at) t then Some (record { ending = y; at = at; until = last_heard ending at }) else None) ≡ true) (sym x) w)
      where
        by_test : (b : Bool) → is_whole (if b then Some (record { ending = Short; at = at; until = last_heard ending at }) else None) ≡ true → ⊥
        by_test true g = cc
        by_test false g = cc

    silent : Ends Silent at ≡ Ends ending at → ⊥
    silent q = let x : Silent ≡ ending = cc in by_test (nat_lt (last_heard ending at) t) (subst (λ y. is_whole (if nat_lt (last_heard ending at) t then Some (record { ending = y; at = at; until = last_heard ending at }) else None) ≡ true) (sym x) w)
      where
        by_test : (b : Bool) → is_whole (if b then Some (record { ending = Silent; at = at; until = last_heard ending at }) else None) ≡ true → ⊥
        by_test true g = cc
        by_test false g = cc

    by_time : (g : ℕ) (b : Bool) → (if b then Ends Short g else Next g) ≡ Ends ending at → 0 < length (option_to_list (if nat_lt (e + sample_at) t then bit_sampled_at low e else None))
    by_time g true k = let y : g ≡ at = cc in absurd (short (subst (λ z. Ends Short z ≡ Ends ending at) y k))
    by_time g false k = cc

    by_fall : (o : Option ℕ) → after_fall e o ≡ Ends ending at → 0 < length (option_to_list (if nat_lt (e + sample_at) t then bit_sampled_at low e else None))
    by_fall None k = let y : e + (standard.bit_total.most + 1) ≡ at = cc in absurd (silent (subst (λ z. Ends Silent z ≡ Ends ending at) y k))
    by_fall (Some g) k = by_time g (nat_lt g (e + standard.bit_total.least)) k
whole_sampled low e t (Some last) ending at h w = by_fall (next_fall low e sample_at) refl h
  where
    by_ending : (x : Ending) → is_whole (if nat_lt (last_heard x (e + sample_at)) t then Some (record { ending = x; at = e + sample_at; until = last_heard x (e + sample_at) }) else None) ≡ true → nat_lt (e + sample_at) t ≡ true
    by_ending Complete g = by_test (nat_lt (e + sample_at) t) g
      where
        by_test : (b : Bool) → is_whole (if b then Some (record { ending = Complete; at = e + sample_at; until = e + sample_at }) else None) ≡ true → b ≡ true
        by_test true g = refl
        by_test false g = cc
    by_ending Long g = by_test (nat_lt (e + sample_at) t) g
      where
        by_test : (b : Bool) → is_whole (if b then Some (record { ending = Long; at = e + sample_at; until = e + sample_at }) else None) ≡ true → b ≡ true
        by_test true g = refl
        by_test false g = cc
    by_ending Short g = by_test (nat_lt (e + sample_at) t) g
      where
        by_test : (b : Bool) → is_whole (if b then Some (record { ending = Short; at = e + sample_at; until = e + sample_at }) else None) ≡ true → b ≡ true
        by_test true g = refl
        by_test false g = cc
    by_ending Open g = by_test (nat_lt (e + sample_at) t) g
      where
        by_test : (b : Bool) → is_whole (if b then Some (record { ending = Open; at = e + sample_at; until = e + sample_at }) else None) ≡ true → b ≡ true
        by_test true g = refl
        by_test false g = cc
    by_ending BadStart g = by_test (nat_lt (e + sample_at) t) g
      where
        by_test : (b : Bool) → is_whole (if b then Some (record { ending = BadStart; at = e + sample_at; until = e + sample_at }) else None) ≡ true → b ≡ true
        by_test true g = refl
        by_test false g = cc
    by_ending Silent g = by_test (nat_lt (e + sample_at - 1) t) g
      where
        by_test : (b : Bool) → is_whole (if b then Some (record { ending = Silent; at = e + sample_at; until = e + sample_at - 1 }) else None) ≡ true → nat_lt (e + sample_at) t ≡ true
        by_test true g = cc
        by_test false g = cc

    by_fall : (o : Option ℕ) → next_fall low e sample_at ≡ o → after_last e last o ≡ Ends ending at → 0 < length (option_to_list (if nat_lt (e + sample_at) t then bit_sampled_at low e else None))
    by_fall None q k =
        let y : last ≡ ending = cc in let z : e + sample_at ≡ at = cc in
        let w2 = subst (λ x. is_whole (if nat_lt (last_heard x (e + sample_at)) t then Some (record { ending = x; at = e + sample_at; until = last_heard x (e + sample_at) }) else None) ≡ true) (sym y)
        (subst (λ n. is_whole (if nat_lt (last_heard ending n) t then Some (record { ending = ending; at = n; until = last_heard ending n }) else None) ≡ true) (sym z) w) in
        rw (by_ending last w2, ap (sample low e) q) (omega arith)
    by_fall (Some g) q k = let x : Short ≡ ending = cc in absurd (by_test (nat_lt (last_heard ending at) t) (subst (λ y. is_whole (if nat_lt (last_heard ending at) t then Some (record { ending = y; at = at; until = last_heard ending at }) else None) ≡ true) (sym x) w))
      where
        by_test : (b : Bool) → is_whole (if b then Some (record { ending = Short; at = at; until = last_heard ending at }) else None) ≡ true → ⊥
        by_test true g = cc
        by_test false g = cc

acks_here : (low : Line) (begin left : ℕ) (xs : List Slot) (bits : List Bool) (e m t : ℕ) (seat : Seat) → Reached low begin (suc left) xs bits e → m ≡ length bits + 1 → (m % 10 == 0) ≡ true
    → e < t → t < e + 1500 → acknowledges (known_at t (reading_of low begin)) m seat ≡ acks_after bits seat
unfolding nothing
acks_here low begin left xs bits e m t seat r o ten l h = by_after (after_slot low e (last_ending bits)) refl
  where
    known_one : Slot
    known_one = known_slot t (record { fall = e; bit = bit_sampled_at low e })

    by_after : (a : After) → after_slot low e (last_ending bits) ≡ a → acknowledges (known_at t (reading_of low begin)) m seat ≡ acks_after bits seat
    by_after (Next f) a =
        let n = next_falls low e bits f a in
        let g : known_at t (reading_of low begin) ≡ record { slots = xs ++ known_one ∷ []; ended = None } =
        known_here low begin left xs bits e t r l (Next f) a
        ∙ ap (λ (q : Known). let x : Known = record { slots = xs ++ known_one ∷ q.slots; ended = q.ended } in x) (late_read t low left (bits ++ option_to_list (bit_sampled_at low e)) f (omega (arith, n.far))) in
        ap (λ (q : Known). acknowledges q m seat) g
        ∙ acks_by (record { slots = xs ++ known_one ∷ []; ended = None }) bits (option_to_list known_one.bit) m seat (reported_more xs bits known_one r.reported) o ten (λ w. cc)
    by_after (Ends ending at) a =
        let end : Option End = if nat_lt (last_heard ending at) t then Some (record { ending = ending; at = at; until = last_heard ending at }) else None in
        ap (λ (q : Known). acknowledges q m seat) (known_here low begin left xs bits e t r l (Ends ending at) a)
        ∙ acks_by (record { slots = xs ++ known_one ∷ []; ended = end }) bits (option_to_list known_one.bit) m seat (reported_more xs bits known_one r.reported) o ten
        (λ w. whole_sampled low e t (last_ending bits) ending at a w)

hold_walk : (low : Line) (begin left : ℕ) (xs : List Slot) (bits : List Bool) (e : ℕ) → Reached low begin left xs bits e
    → (k m : ℕ) (s : Slot) → m ≡ length bits + k + 1 → slice_get (read_slots low left bits e).slots k ≡ Some s → (m % 10 == 0) ≡ true
    → (t : ℕ) → s.fall < t → t < s.fall + 1500 → (seat : Seat) → acknowledges (known_at t (reading_of low begin)) m seat ≡ acknowledges (known_at (s.fall + 1) (reading_of low begin)) m seat
unfolding read_slots
hold_walk low begin zero xs bits e r k m s o h ten t l u seat = cc
hold_walk low begin (suc left) xs bits e r zero m s o h ten t l u seat =
    let y : record { fall = e; bit = bit_sampled_at low e } ≡ s = cc in
    let f : s.fall ≡ e = ap (λ (q : Slot). q.fall) (sym y) in
    acks_here low begin left xs bits e m t seat r (omega arith) ten (omega arith) (omega arith)
    ∙ sym (acks_here low begin left xs bits e m (s.fall + 1) seat r (omega arith) ten (omega arith) (omega arith))
hold_walk low begin (suc left) xs bits e r (suc k) m s o h ten t l u seat =
    by_after (after_slot low e (last_ending bits)) refl h
    (λ f a n c q. hold_walk low begin left (xs ++ record { fall = e; bit = bit_sampled_at low e } ∷ []) (bits ++ option_to_list (bit_sampled_at low e)) f
    (reach_next low begin left xs bits e f r a n.far) k m s c q ten t l u seat)
  where
    by_after : (a : After) → after_slot low e (last_ending bits) ≡ a → slice_get (read_on (read_slots low left (bits ++ option_to_list (bit_sampled_at low e))) a).slots k ≡ Some s
        → ((f : ℕ) → after_slot low e (last_ending bits) ≡ Next f → NextFall low e bits f → m ≡ length (bits ++ option_to_list (bit_sampled_at low e)) + k + 1 → slice_get (read_slots low left (bits ++ option_to_list (bit_sampled_at low e)) f).slots k ≡ Some s
        → acknowledges (known_at t (reading_of low begin)) m seat ≡ acknowledges (known_at (s.fall + 1) (reading_of low begin)) m seat)
        → acknowledges (known_at t (reading_of low begin)) m seat ≡ acknowledges (known_at (s.fall + 1) (reading_of low begin)) m seat
    by_after (Ends ending at) a q ih = cc
    by_after (Next f) a q ih =
        let n = next_falls low e bits f a in
        let v : bit_sampled_at low e ≡ Some (not (low (e + sample_at))) = quiet_sample low e (λ u2 x y. n.quiet u2 x (omega (arith, n.far))) in
        let c : length (bits ++ option_to_list (bit_sampled_at low e)) ≡ length bits + 1 = rw v (length-append bits (not (low (e + sample_at)) ∷ [])) in
        ih f a n (omega (arith, c, o)) q

hold_from : (low : Line) (begin : ℕ) (st : Result ℕ ℕ) → start_of low begin ≡ st → (k : ℕ) (s : Slot) → slice_get (read_start low begin st).slots k ≡ Some s → ((k + 1) % 10 == 0) ≡ true
    → (t : ℕ) → s.fall < t → t < s.fall + 1500 → (seat : Seat) → acknowledges (known_at t (reading_of low begin)) (k + 1) seat ≡ acknowledges (known_at (s.fall + 1) (reading_of low begin)) (k + 1) seat
hold_from low begin (Err at) h k s q ten t l u seat = cc
hold_from low begin (Ok f) h k s q ten t l u seat = hold_walk low begin 160 [] [] f (reached_start low begin f h) k (k + 1) s (omega arith) q ten t l u seat

pub acknowledgers_hold : AcknowledgersHold
acknowledgers_hold low begin k s q ten t l u seat = hold_from low begin (start_of low begin) refl k s q ten t l u seat

-- ---- for a wire that goes from microsecond to microsecond

-- who acknowledges in a slot, by the bits before it
pub acks_known : (low : Line) (begin left : ℕ) (xs : List Slot) (bits : List Bool) (e m t : ℕ) (seat : Seat) → Reached low begin (suc left) xs bits e → m ≡ length bits + 1 → (m % 10 == 0) ≡ true
    → e < t → t < e + 1500 → acknowledges (known_at t (reading_of low begin)) m seat ≡ Machine.acks_after bits seat
unfolding acks_after sends_after
acks_known low begin left xs bits e m t seat r o ten l h = acks_here low begin left xs bits e m t seat r o ten l h ∙ by_sends seat.sends
  where
    by_sends : (f : Option (List ℕ)) → (seat.plugged && (is_held seat.holds (destination bits) && not (sends_after bits f)))
        ≡ (seat.plugged && (is_held seat.holds (destination bits) && not (Machine.sends_after bits f)))
    by_sends None = refl
    by_sends (Some f) = refl

-- who is sending still after a reading that broke
pub sends_known : (k : Known) (bits : List Bool) (sends : Option (List ℕ)) → known_bits k ≡ bits → is_whole k.ended ≡ false
    → sends_in k sends (length (known_bits k) + 1) ≡ Machine.sends_after bits sends
sends_known k bits None h w = refl
sends_known k bits (Some f) h w =
    ap (λ (b : Bool). is_not_before (length (known_bits k) + 1) (out_by (known_bits k) b (frame_bits f))) w
    ∙ ap (λ (bs : List Bool). is_not_before (length bs + 1) (out_by bs false (frame_bits f))) h
    ∙ found_before (is_out_by bits false (frame_bits f)) (is_out_by bits false (frame_bits f)) 1 (length bits) 0 (length bits) (length bits + 1) (omega arith) (omega arith) (λ x l m. refl)
