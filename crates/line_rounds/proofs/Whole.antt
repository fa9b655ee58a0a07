-- A complete reading is a winner's frame.
use Rattle.std.proofs.Common.{◌≡◌, ℕ, zero, suc, ◌+◌, ◌-◌, ◌*◌, ◌%◌, ◌==◌, ◌<◌, ◌≤◌, Bool, true, false, not, ◌&&◌, nat_lt, nat_le, if◌then◌else◌, List, [], ◌∷◌, ◌++◌, length, length-append, append_assoc, append-nil, slice_index_or, slice_get, ◌/◌, inl, inr, Option, Some, None, is_none, Result, Ok, Err, refl, arith, ap, ◌∙◌, sym, subst}
use Rattle.std.specs.List.{Any, list_any, filter_map, cons_option, filter}
use Rattle.std.specs.Option.{option_to_list}
use mathlib.Core.Bool.{beq}
use Rattle.std.proofs.Math.ListN.{get_or-append}
use Rattle.std.proofs.Math.Seq.{get_or-append_seam}
use Rattle.std.proofs.lemmas.Bool.{cases_lt}
use Rattle.std.proofs.lemmas.Bool.Decides.{nat_tests}
use Rattle.line_wave.specs.declared.Stretch.{Stretch}
use Rattle.line_wave.specs.Line.{Line, line_of, covers, was_low, is_fall}
use Rattle.line_wave.specs.Pulses.{AreSparse}
use Rattle.line_wave.specs.Sender.{sender_stretches, slot_stretches}
use Rattle.line_frames.specs.Bits.{frame_bits, least_among}
use Rattle.line_frames.specs.declared.Ending.{Ending}
use Rattle.line_frames.specs.declared.Ending.TheVariants.{Complete, Short, Long}
use Rattle.line_reading.specs.Reading.After.{Next, Ends}
use Rattle.line_reading.specs.Windows.{standard, sample_at}
use Rattle.line_reading.specs.Reading.{bits_of, next_fall, Slot, read_start, read_slots, read_on, after_slot, after_fall, after_last, last_ending, sample, bit_sampled_at, start_of, After}
use Rattle.line_rounds.specs.declared.Seat.{Seat}
use Rattle.line_reading.specs.Sending.{bit_read, destination, is_out_by, out_slot, sender_pulls}
use Rattle.line_rounds.specs.Round.{frames_of, winning_frames, pulse_pulls, is_acknowledged}
use Rattle.line_rounds.specs.Contend.{CompleteIsWinners, HasBits, AreFrames, IsWinnersLine, leaves, pulled_through, Stays}
use Rattle.line_rounds.specs.Elements.{In}
use Rattle.line_rounds.specs.Least.{Least}
use Rattle.line_rounds.specs.Slots.{NextFall}
use Rattle.line_rounds.specs.Begins.{Reports}
use Rattle.line_rounds.specs.Follow.{AreDone}
use Rattle.line_rounds.specs.Reached.{Reached}
use Rattle.line_rounds.proofs.Differ.{is_least, compare_frames, split_before, in_any, or_right}
use Rattle.line_rounds.proofs.Lows.{far_apart}
use Rattle.line_rounds.proofs.Early.{no_acks, PulseAt, pulse_low, no_fall, leaves_more, OnTime, BeginsAt, sender_low, and_left, and_right, none_found, or_cases}
use Rattle.line_rounds.proofs.Walk.{over_done, next_falls, quiet_sample, reach_next, known_next, known_unsampled, reported_more, Scene, step_on_time}
use Rattle.line_rounds.proofs.Law.{start_falls, not_before, not_true, least_of, in_filter, all_in, known_start, reached_start, on_time_start}
use Rattle.line_rounds.proofs.Lasting.{contended_by_winners}
use Rattle.line_rounds.proofs.SameLine.{same_line}
use Rattle.line_frames.proofs.Slots.{length-frame_bits, eom_slot}
use Rattle.std.proofs.lemmas.Option.{get_or_from_slice_get}
use Rattle.line_rounds.proofs.Window.{room_next}

-- ---- elements

to_any : {X : Type 0} (P : X → Type 0) (xs : List X) (x : X) → In x xs → P x → Any P xs
to_any P [] x h p = absurd h
to_any P (y ∷ ys) x (inl e) p = (0, x, omega arith, sym e, p)
to_any P (y ∷ ys) x (inr h) p = let r = to_any P ys x h p in (suc r.0, r.1, omega (arith, r.2), r.3, r.4)

in_filtered : {X : Type 0} (test : X → Bool) (xs : List X) (x : X) → In x xs → test x ≡ true → In x (filter test xs)
in_filtered test [] x h e = absurd h
in_filtered test (y ∷ ys) x (inl s) e = let f : test y ≡ true = ap test (sym s) ∙ e in subst (λ b. In x (if b then y ∷ filter test ys else filter test ys)) (sym f) (inl s)
in_filtered test (y ∷ ys) x (inr h) e =
    elim (test y) as (λ b. In x (if b then y ∷ filter test ys else filter test ys)) [ true ↦ inr (in_filtered test ys x h e) | false ↦ in_filtered test ys x h e ]

-- in the 1,500 of a 0, by its place
zero_at : (bits : List Bool) (n k t : ℕ) → k < length bits → slice_index_or bits k false ≡ false → n + 2400 * k ≤ t → t < n + 2400 * k + 1500 → line_of (slot_stretches n bits) t ≡ true
zero_at [] n k t r z h l = absurd (omega (arith, r))
zero_at (true ∷ bits) n zero t r z h l = cc
zero_at (false ∷ bits) n zero t r z h l = let e : covers (record { from = n; to = n + 1500 }) t ≡ true = grind (arith, nat_tests) in rw e refl
zero_at (b ∷ bits) n (suc k) t r z h l =
    or_right (covers (record { from = n; to = n + (if b then 600 else 1500) }) t) (line_of (slot_stretches (n + 2400) bits) t) (zero_at bits (n + 2400) k t (omega (arith, r)) z (omega arith) (omega arith))

-- ---- a round whose winners are out

-- every winner is out, by the bits of these slots
abbrev AllOut : List Seat → List Slot → Type 0
AllOut seats zs = (w : List ℕ) → In w (winning_frames seats) → is_none (out_slot (record { slots = zs; ended = None }) (frame_bits w)) ≡ false

only_pulse : (seats : List Seat) (begin : ℕ) (pulses : List Stretch) (low : Line) (t : ℕ) (zs : List Slot) → IsWinnersLine seats begin pulses low
    → Reports low begin t zs → AreDone t zs → AllOut seats zs → low t ≡ true → PulseAt begin pulses t
only_pulse seats begin pulses low t zs r reports done out l =
    elim (or_cases (list_any (pulse_pulls begin None (was_low low t) t) pulses) _ made) [
      | inl a ↦ (let q = in_any (pulse_pulls begin None (was_low low t) t) pulses a in
          (q.0, q.1, and_left (covers q.0 t) (nat_le begin q.0.from && true) q.2, begun q.0 (and_left (nat_le begin q.0.from) true (and_right (covers q.0 t) (nat_le begin q.0.from && true) q.2))))
      | inr b ↦ elim (or_cases (list_any (sender_pulls begin (record { slots = zs; ended = None }) t) (winning_frames seats)) _ b) [
        | inl a ↦ (let q = in_any (sender_pulls begin (record { slots = zs; ended = None }) t) (winning_frames seats) a in
            let n : is_none (out_slot (record { slots = zs; ended = None }) (frame_bits q.0)) ≡ true =
            and_left (is_none (out_slot (record { slots = zs; ended = None }) (frame_bits q.0))) true (and_right (line_of (sender_stretches begin (frame_bits q.0)) t) _ q.2) in
            let x : true ≡ false = sym n ∙ out q.0 q.1 in cc)
        | inr d ↦ elim (or_cases (is_acknowledged seats (record { slots = zs; ended = None }) t) false d) [
          | inl a ↦ (let e : true ≡ false = sym a ∙ no_acks seats (record { slots = zs; ended = None }) t zs 1 done in cc)
          | inr a ↦ cc
        ]
      ]
    ]
  where
    made : pulled_through (winning_frames seats) seats begin pulses (was_low low t) (record { slots = zs; ended = None }) t ≡ true
    made = ap (λ k. pulled_through (winning_frames seats) seats begin pulses (was_low low t) k t) (sym reports) ∙ (sym (r t) ∙ l)

    begun : (p : Stretch) → nat_le begin p.from ≡ true → begin ≤ p.from
    begun p e = grind (arith, nat_tests)

-- then a fall is a pulse's
pulse_falls : (seats : List Seat) (begin : ℕ) (pulses : List Stretch) (low : Line) (f : ℕ) (zs : List Slot) → IsWinnersLine seats begin pulses low
    → Reports low begin f zs → Reports low begin (f - 1) zs → AreDone f zs → AllOut seats zs → is_fall low f ≡ true → BeginsAt pulses f
pulse_falls seats begin pulses low f zs r now before done out fall =
    from_pulse (only_pulse seats begin pulses low f zs r now done out (and_left (low f) _ fall))
  where
    covers_before : (p : Stretch) → covers p f ≡ true → p.from < f → covers p (f - 1) ≡ true
    covers_before p v h = grind (arith, nat_tests)

    from_here : (p : Stretch) → covers p f ≡ true → f ≤ p.from → p.from ≡ f
    from_here p v h = let a : nat_le p.from f ≡ true = and_left (nat_le p.from f) (nat_lt f p.to) v in grind (arith, nat_tests)

    from_pulse : PulseAt begin pulses f → BeginsAt pulses f
    from_pulse p = elim (cases_lt p.0.from f) [
      | inl lt ↦ absurd (no_fall low f fall (omega arith) (pulse_low seats begin pulses low (f - 1) zs (contended_by_winners seats begin pulses low r) before p.0 p.1 (covers_before p.0 p.2 lt) p.3))
      | inr ge ↦ (p.0, p.1, from_here p.0 p.2 ge)
    ]

-- ---- the slot after the winners are out

-- a reading that has come here with every winner out
abbrev OutSince : List Seat → List Bool → Type 0
OutSince seats bits = (zs : List Slot) (ys : List Bool) → filter_map (λ (s : Slot). s.bit) zs ≡ bits ++ ys → AllOut seats zs

pub complete_last : (low : Line) (e : ℕ) (last : Option Ending) (at : ℕ) → after_slot low e last ≡ Ends Complete at → last ≡ Some Complete
complete_last low e None at h = by_fall (next_fall low e standard.bit_total.most) h
  where
    by_time : (g : ℕ) (b : Bool) → (if b then Ends Short g else Next g) ≡ Ends Complete at → None ≡ Some Complete
    by_time g true k = cc
    by_time g false k = cc

    by_fall : (o : Option ℕ) → after_fall e o ≡ Ends Complete at → None ≡ Some Complete
    by_fall None k = cc
    by_fall (Some g) k = by_time g (nat_lt g (e + standard.bit_total.least)) k
complete_last low e (Some ending) at h = by_fall (next_fall low e sample_at) h
  where
    by_fall : (o : Option ℕ) → after_last e ending o ≡ Ends Complete at → Some ending ≡ Some Complete
    by_fall None k = let x : ending ≡ Complete = cc in ap (λ y. Some y) x
    by_fall (Some g) k = cc

pub complete_quiet : (low : Line) (e : ℕ) (ending : Ending) (at : ℕ) → after_slot low e (Some ending) ≡ Ends Complete at → next_fall low e sample_at ≡ None
complete_quiet low e ending at h = by_fall (next_fall low e sample_at) refl h
  where
    by_fall : (o : Option ℕ) → next_fall low e sample_at ≡ o → after_last e ending o ≡ Ends Complete at → next_fall low e sample_at ≡ None
    by_fall None s k = s
    by_fall (Some g) s k = cc

far_pulses : (pulses : List Stretch) (e f : ℕ) → AreSparse pulses → BeginsAt pulses e → BeginsAt pulses f → e + standard.bit_total.least ≤ f → f ≤ e + standard.bit_total.most → ⊥
far_pulses pulses e f s p q l h =
    let x : p.0.from + 25000 ≤ q.0.from = far_apart pulses s.far s.narrow p.0 q.0 p.1 q.1 (omega (arith, p.2, q.2, l)) in
    absurd (omega (arith, x, p.2, q.2, h))

dead : (seats : List Seat) (begin : ℕ) (pulses : List Stretch) (low : Line) → IsWinnersLine seats begin pulses low → AreSparse pulses
    → (left : ℕ) (xs : List Slot) (bits : List Bool) (e : ℕ) → Reached low begin left xs bits e → BeginsAt pulses e → OutSince seats bits
    → (last_ending bits ≡ Some Complete → ⊥) → (read_slots low left bits e).ending ≡ Complete → ⊥
unfolding read_slots
dead seats begin pulses low line sparse zero xs bits e r p out never h = cc
dead seats begin pulses low line sparse (suc left) xs bits e r p out never h = by_after (after_slot low e (last_ending bits)) refl h
  where
    by_after : (a : After) → after_slot low e (last_ending bits) ≡ a → (read_on (read_slots low left (bits ++ option_to_list (bit_sampled_at low e))) a).ending ≡ Complete → ⊥
    by_after (Ends ending at) a g = never (complete_last low e (last_ending bits) at (a ∙ ap (λ x. Ends x at) g))
    by_after (Next f) a g =
        let n = next_falls low e bits f a in
        let r2 = reach_next low begin left xs bits e f r a n.far in
        far_pulses pulses e f sparse p
        (pulse_falls seats begin pulses low f (xs ++ record { fall = e; bit = bit_sampled_at low e } ∷ []) line
        (known_next low begin left xs bits e f f r n (omega (arith, n.far)) (omega arith))
        (known_next low begin left xs bits e f (f - 1) r n (omega (arith, n.far)) (omega arith))
        (over_done f (xs ++ record { fall = e; bit = bit_sampled_at low e } ∷ []) r2.over)
        (out (xs ++ record { fall = e; bit = bit_sampled_at low e } ∷ []) (option_to_list (bit_sampled_at low e)) (reported_more xs bits (record { fall = e; bit = bit_sampled_at low e }) r.reported)) n.fall)
        n.far n.near

-- a winner that is told to stop is out
is_out : (zs : List Slot) (bits ys sent : List Bool) (k : ℕ) → filter_map (λ (s : Slot). s.bit) zs ≡ bits ++ ys → 1 ≤ k → k ≤ length bits → leaves bits sent k ≡ true
    → is_none (out_slot (record { slots = zs; ended = None }) sent) ≡ false
is_out zs bits ys sent k g l m h = step (out_slot (record { slots = zs; ended = None }) sent) refl
  where
    all : leaves (filter_map (λ (s : Slot). s.bit) zs) sent k ≡ true
    all = subst (λ (b : List Bool). leaves b sent k ≡ true) (sym g) (leaves_more bits ys sent k l m ∙ h)

    count : k ≤ length (filter_map (λ (s : Slot). s.bit) zs)
    count = let x : length (filter_map (λ (s : Slot). s.bit) zs) ≡ length (bits ++ ys) = ap (λ (b : List Bool). length b) g in omega (arith, x, length-append bits ys, m)

    step : (o : Option ℕ) → out_slot (record { slots = zs; ended = None }) sent ≡ o → is_none o ≡ false
    step (Some x) e = refl
    step None e =
        let no : leaves (filter_map (λ (s : Slot). s.bit) zs) sent k ≡ false =
        none_found (is_out_by (filter_map (λ (s : Slot). s.bit) zs) false sent) 1 (length (filter_map (λ (s : Slot). s.bit) zs)) e k l (omega (arith, count)) in
        let x : true ≡ false = sym all ∙ no in cc

-- winners send the same
same_winner : (seats : List Seat) → AreFrames seats → (w v : List ℕ) → In w (frames_of seats) → least_among (frames_of seats) w ≡ true → In v (frames_of seats) → least_among (frames_of seats) v ≡ true
    → frame_bits w ≡ frame_bits v
same_winner seats frames w v in_w least_w in_v least_v =
    elim (compare_frames w v (all_in (λ f. 0 < length f) (frames_of seats) frames w in_w) (all_in (λ f. 0 < length f) (frames_of seats) frames v in_v)) [
      | inl same ↦ same
      | inr o ↦ elim o [
        | inl p ↦ absurd (not_before (frames_of seats) (frames_of seats) (frame_bits w) (not_true _ least_w) v in_v (split_before 0 (frame_bits w) (frame_bits v) p))
        | inr p ↦ absurd (not_before (frames_of seats) (frames_of seats) (frame_bits v) (not_true _ least_v) w in_w (split_before 0 (frame_bits v) (frame_bits w) p))
      ]
    ]

out_since : (seats : List Seat) → AreFrames seats → (w : List ℕ) → In w (frames_of seats) → least_among (frames_of seats) w ≡ true
    → (bits : List Bool) (k : ℕ) → 1 ≤ k → k ≤ length bits → leaves bits (frame_bits w) k ≡ true → OutSince seats bits
out_since seats frames w in_w least_w bits k l m h zs ys g v in_v =
    let i = in_filter (least_among (frames_of seats)) (frames_of seats) v in_v in
    subst (λ (xs : List Bool). is_none (out_slot (record { slots = zs; ended = None }) xs) ≡ false) (same_winner seats frames w v in_w least_w i.0 i.1) (is_out zs bits ys (frame_bits w) k g l m h)

-- ---- a last slot

last_complete : (bits : List Bool) → last_ending bits ≡ Some Complete → (length bits % 10 ≡ 9) × (slice_index_or bits (length bits - 1) false ≡ true)
last_complete bits h = step (length bits % 10 == 9) (slice_index_or bits (length bits - 1) false) (length bits == 159) refl refl h
  where
    step : (a b c : Bool) → (length bits % 10 == 9) ≡ a → slice_index_or bits (length bits - 1) false ≡ b
        → (if a then (if b then Some Complete else if c then Some Long else None) else None) ≡ Some Complete → (length bits % 10 ≡ 9) × (slice_index_or bits (length bits - 1) false ≡ true)
    step true true c e f k = (grind (arith, nat_tests), f)
    step true false true e f k = cc
    step true false false e f k = cc
    step false b c e f k = cc

-- a slot that does not tell to stop was read as it was sent
read_sent : (bits sent : List Bool) (n : ℕ) → (n % 10 == 0) ≡ false → leaves bits sent n ≡ false → bit_read bits n ≡ slice_index_or sent (n - 1) false
read_sent bits sent n e h =
    same (bit_read bits n) (slice_index_or sent (n - 1) false)
    (sym (ap (λ c. if c then not (beq (bit_read bits n) (destination bits == 15)) else not (beq (bit_read bits n) (slice_index_or sent (n - 1) false))) e) ∙ h)
  where
    same : (a b : Bool) → not (beq a b) ≡ false → a ≡ b
    same true true k = refl
    same false false k = refl
    same true false k = cc
    same false true k = cc

-- the winner's last slot
whole_sent : (w : List ℕ) (n : ℕ) → 1 ≤ n → n ≤ length (frame_bits w) → n % 10 ≡ 9 → slice_index_or (frame_bits w) (n - 1) false ≡ true → length (frame_bits w) ≡ n + 1
whole_sent w n l m e h =
    let g : slice_get (frame_bits w) (n - 1) ≡ Some ((n - 1) / 10 + 1 == length w) = eom_slot w n l m (omega arith) in
    let f : ((n - 1) / 10 + 1 == length w) ≡ true = sym (get_or_from_slice_get (frame_bits w) (n - 1) ((n - 1) / 10 + 1 == length w) false g) ∙ h in
    let x : (n - 1) / 10 + 1 ≡ length w = grind (arith, nat_tests) in
    omega (arith, x, e, l, length-frame_bits w)

pub has_whole : (w : List ℕ) (bits : List Bool) (v : Bool) → length bits < length (frame_bits w) → Stays bits (frame_bits w) → last_ending bits ≡ Some Complete → HasBits (bits ++ v ∷ []) (frame_bits w)
has_whole w bits v room stays h = record { long = omega (arith, length-append bits (v ∷ []), whole); same = agree }
  where
    d : (length bits % 10 ≡ 9) × (slice_index_or bits (length bits - 1) false ≡ true)
    d = last_complete bits h

    here : slice_index_or (frame_bits w) (length bits - 1) false ≡ true
    here = let e : (length bits % 10 == 0) ≡ false = (let x : length bits % 10 ≡ 9 = d.0 in grind (arith, nat_tests)) in
        sym (read_sent bits (frame_bits w) (length bits) e (stays (length bits) (omega (arith, d.0)) (omega arith))) ∙ d.1

    whole : length (frame_bits w) ≡ length bits + 1
    whole = whole_sent w (length bits) (omega (arith, d.0)) (omega (arith, room)) d.0 here

    agree : (n : ℕ) → 1 ≤ n → n ≤ length (bits ++ v ∷ []) → (n % 10 == 0) ≡ false → bit_read (bits ++ v ∷ []) n ≡ slice_index_or (frame_bits w) (n - 1) false
    agree n l m e = elim (cases_lt (length bits) n) [
      | inl past ↦ (let x : n ≡ length bits + 1 = omega (arith, m, length-append bits (v ∷ []), past) in
          let y : (n % 10 == 0) ≡ true = (let z : n % 10 ≡ 0 = omega (arith, x, d.0) in grind (arith, nat_tests)) in
          let no : true ≡ false = sym y ∙ e in cc)
      | inr within ↦ get_or-append bits (v ∷ []) false (n - 1) (omega arith) ∙ read_sent bits (frame_bits w) n e (stays n l within)
    ]

-- ---- along the slots

alive : (seats : List Seat) (begin : ℕ) (pulses : List Stretch) (low : Line) (w : List ℕ) → IsWinnersLine seats begin pulses low → AreFrames seats → Scene seats begin pulses low w → 0 < length w
    → (left : ℕ) (xs : List Slot) (bits : List Bool) (e own : ℕ) → Reached low begin left xs bits e → own ≡ begin + 4500 + 2400 * length bits
    → length bits < length (frame_bits w) → Stays bits (frame_bits w) → OnTime pulses e own → (read_slots low left bits e).ending ≡ Complete
    → HasBits (bits ++ bits_of (read_slots low left bits e)) (frame_bits w)
unfolding read_slots
alive seats begin pulses low w line frames z full zero xs bits e own r o room stays time h = cc
alive seats begin pulses low w line frames z full (suc left) xs bits e own r o room stays time h =
    by_after (after_slot low e (last_ending bits)) refl h
    (λ f a n more on g. alive seats begin pulses low w line frames z full left (xs ++ record { fall = e; bit = bit_sampled_at low e } ∷ []) (bits ++ option_to_list (bit_sampled_at low e)) f (own + 2400)
    (reach_next low begin left xs bits e f r a n.far) (counts n) more.0 more.1 on g)
  where
    bits2 : List Bool
    bits2 = bits ++ option_to_list (bit_sampled_at low e)

    v : Bool
    v = not (low (e + sample_at))

    sample_of : {f : ℕ} → NextFall low e bits f → bit_sampled_at low e ≡ Some (not (low (e + sample_at)))
    sample_of n = quiet_sample low e (λ u a b. n.quiet u a (omega (arith, n.far)))

    counts : {f : ℕ} → NextFall low e bits f → own + 2400 ≡ begin + 4500 + 2400 * length (bits ++ option_to_list (bit_sampled_at low e))
    counts n = rw (sample_of n) (omega (arith, length-append bits (not (low (e + sample_at)) ∷ [])))

    joined : (b : Option Bool) (ys : List Bool) → bits ++ cons_option b ys ≡ (bits ++ option_to_list b) ++ ys
    joined None ys = ap (λ zs. zs ++ ys) (sym (append-nil bits))
    joined (Some b) ys = sym (append_assoc bits (b ∷ []) ys)

    stays_more : leaves (bits ++ v ∷ []) (frame_bits w) (length bits + 1) ≡ false → Stays (bits ++ v ∷ []) (frame_bits w)
    stays_more k n l m = elim (cases_lt (length bits) n) [
      | inl past ↦ (let x : n ≡ length bits + 1 = omega (arith, m, length-append bits (v ∷ []), past) in rw x k)
      | inr within ↦ leaves_more bits (v ∷ []) (frame_bits w) n l within ∙ stays n l within
    ]

    -- the slot at which a winner is out is not the end-of-message slot of a last block
    not_last : {f : ℕ} → NextFall low e bits f → leaves (bits ++ v ∷ []) (frame_bits w) (length bits + 1) ≡ true → last_ending (bits ++ v ∷ []) ≡ Some Complete → ⊥
    not_last n k l =
        let d = last_complete (bits ++ v ∷ []) l in
        let count : length (bits ++ v ∷ []) ≡ length bits + 1 = length-append bits (v ∷ []) in
        let nine : ((length bits + 1) % 10 == 0) ≡ false = (let x : (length bits + 1) % 10 ≡ 9 = rw (sym count) d.0 in grind (arith, nat_tests)) in
        let i : length bits + 1 - 1 ≡ length bits = omega arith in
        let read : bit_read (bits ++ v ∷ []) (length bits + 1) ≡ v = ap (λ j. slice_index_or (bits ++ v ∷ []) j false) i ∙ get_or-append_seam bits v [] false in
        let j : length (bits ++ v ∷ []) - 1 ≡ length bits = omega (arith, count) in
        let yes : v ≡ true = sym (get_or-append_seam bits v [] false) ∙ ap (λ q. slice_index_or (bits ++ v ∷ []) q false) (sym j) ∙ d.1 in
        let sent : slice_index_or (frame_bits w) (length bits) false ≡ false =
        by_bit (slice_index_or (frame_bits w) (length bits) false)
        (sym (ap (λ c. if c then not (beq (bit_read (bits ++ v ∷ []) (length bits + 1)) (destination (bits ++ v ∷ []) == 15)) else not (beq (bit_read (bits ++ v ∷ []) (length bits + 1)) (slice_index_or (frame_bits w) (length bits + 1 - 1) false))) nine
        ∙ ap (λ q. not (beq q (slice_index_or (frame_bits w) (length bits + 1 - 1) false))) (read ∙ yes)
        ∙ ap (λ q. not (beq true (slice_index_or (frame_bits w) q false))) i) ∙ k) in
        let lowly : low (e + sample_at) ≡ true = low_here n sent in
        let no2 : true ≡ false = sym yes ∙ ap not lowly in cc
      where
        by_bit : (b : Bool) → not (beq true b) ≡ true → b ≡ false
        by_bit false q = refl
        by_bit true q = cc

        from_own : OnTime pulses e own → own ≤ e + sample_at
        from_own (inl g) = omega arith
        from_own (inr g) = omega (arith, g.1)

        to_own : OnTime pulses e own → e + sample_at < own + 1500
        to_own (inl g) = omega arith
        to_own (inr g) = omega (arith, g.0)

        low_here : {f : ℕ} → NextFall low e bits f → slice_index_or (frame_bits w) (length bits) false ≡ false → low (e + sample_at) ≡ true
        low_here n s =
            sender_low seats begin pulses low (e + sample_at) (xs ++ record { fall = e; bit = None } ∷ []) z.line
            (known_unsampled low begin left xs bits e (e + sample_at) r (λ u a b. n.quiet u a (omega (arith, n.far))) (omega arith) (omega arith))
            w z.sends z.least (rw (reported_more xs bits (record { fall = e; bit = None }) r.reported, append-nil bits) stays)
            (or_right (covers (record { from = begin; to = begin + 3700 }) (e + sample_at)) (line_of (slot_stretches (begin + 4500) (frame_bits w)) (e + sample_at))
            (zero_at (frame_bits w) (begin + 4500) (length bits) (e + sample_at) room s (omega (arith, from_own time, o)) (omega (arith, to_own time, o))))

    by_out : (f : ℕ) → after_slot low e (last_ending bits) ≡ Next f → NextFall low e bits f → (b : Bool) → leaves (bits ++ v ∷ []) (frame_bits w) (length bits + 1) ≡ b
        → (read_slots low left bits2 f).ending ≡ Complete
        → ((length bits2 < length (frame_bits w)) × Stays bits2 (frame_bits w) → OnTime pulses f (own + 2400) → (read_slots low left bits2 f).ending ≡ Complete
        → HasBits (bits2 ++ bits_of (read_slots low left bits2 f)) (frame_bits w))
        → HasBits (bits2 ++ bits_of (read_slots low left bits2 f)) (frame_bits w)
    by_out f a n false k g ih =
        let st : Stays (bits ++ v ∷ []) (frame_bits w) = stays_more k in
        let rm : length (bits ++ v ∷ []) < length (frame_bits w) = room_next w bits v full n.last room st in
        let st2 : Stays bits2 (frame_bits w) = subst (λ (x : Option Bool). Stays (bits ++ option_to_list x) (frame_bits w)) (sym (sample_of n)) st in
        let rm2 : length bits2 < length (frame_bits w) = subst (λ (x : Option Bool). length (bits ++ option_to_list x) < length (frame_bits w)) (sym (sample_of n)) rm in
        ih (rm2, st2) (step_on_time seats begin pulses low w z left xs bits e own f (length bits) r n o (omega (arith, rm, length-append bits (v ∷ []))) time st2) g
    by_out f a n true k g ih =
        let r2 = reach_next low begin left xs bits e f r a n.far in
        let zs : List Slot = xs ++ record { fall = e; bit = bit_sampled_at low e } ∷ [] in
        let same : bits ++ v ∷ [] ≡ bits2 = ap (λ (x : Option Bool). bits ++ option_to_list x) (sym (sample_of n)) in
        let since : OutSince seats bits2 = subst (λ (q : List Bool). OutSince seats q) same
        (out_since seats frames w z.sends z.least (bits ++ v ∷ []) (length bits + 1) (omega arith) (omega (arith, length-append bits (v ∷ []))) k) in
        let p : BeginsAt pulses f = pulse_falls seats begin pulses low f zs line
        (known_next low begin left xs bits e f f r n (omega (arith, n.far)) (omega arith))
        (known_next low begin left xs bits e f (f - 1) r n (omega (arith, n.far)) (omega arith))
        (over_done f zs r2.over) (since zs [] (r2.reported ∙ sym (append-nil bits2))) n.fall in
        absurd (dead seats begin pulses low line z.sparse left zs bits2 f r2 p since
        (λ l. not_last n k (subst (λ (q : List Bool). last_ending q ≡ Some Complete) (sym same) l)) g)

    by_after : (a : After) → after_slot low e (last_ending bits) ≡ a → (read_on (read_slots low left bits2) a).ending ≡ Complete
        → ((f : ℕ) → after_slot low e (last_ending bits) ≡ Next f → NextFall low e bits f → (length bits2 < length (frame_bits w)) × Stays bits2 (frame_bits w) → OnTime pulses f (own + 2400)
        → (read_slots low left bits2 f).ending ≡ Complete → HasBits (bits2 ++ bits_of (read_slots low left bits2 f)) (frame_bits w))
        → HasBits (bits ++ cons_option (bit_sampled_at low e) (bits_of (read_on (read_slots low left bits2) (after_slot low e (last_ending bits))))) (frame_bits w)
    by_after (Next f) a g ih =
        let n = next_falls low e bits f a in
        subst (λ (q : List Bool). HasBits q (frame_bits w))
        (sym (joined (bit_sampled_at low e) (bits_of (read_slots low left bits2 f))) ∙ ap (λ x. bits ++ cons_option (bit_sampled_at low e) (bits_of (read_on (read_slots low left bits2) x))) (sym a))
        (by_out f a n (leaves (bits ++ v ∷ []) (frame_bits w) (length bits + 1)) refl g (ih f a n))
    by_after (Ends ending at) a g ih =
        let c : after_slot low e (last_ending bits) ≡ Ends Complete at = a ∙ ap (λ x. Ends x at) g in
        let l : last_ending bits ≡ Some Complete = complete_last low e (last_ending bits) at c in
        let q : next_fall low e sample_at ≡ None = complete_quiet low e Complete at (ap (after_slot low e) (sym l) ∙ c) in
        subst (λ (y : List Bool). HasBits y (frame_bits w))
        (ap (λ (x : Option Bool). bits ++ cons_option x []) (sym (ap (sample low e) q)) ∙ ap (λ x. bits ++ cons_option (bit_sampled_at low e) (bits_of (read_on (read_slots low left bits2) x))) (sym a))
        (has_whole w bits v room stays l)

-- ---- the whole reading

whole_from : (seats : List Seat) (begin : ℕ) (pulses : List Stretch) (low : Line) → AreFrames seats → AreSparse pulses → IsWinnersLine seats begin pulses low
    → (st : Result ℕ ℕ) → start_of low begin ≡ st → (read_start low begin st).ending ≡ Complete → (fs : List (List ℕ)) → frames_of seats ≡ fs
    → Any (λ w. HasBits (bits_of (read_start low begin st)) (frame_bits w)) (winning_frames seats)
whole_from seats begin pulses low frames sparse line (Err at) h g fs e = cc
whole_from seats begin pulses low frames sparse line (Ok f) h g [] e =
    absurd (dead seats begin pulses low line sparse 160 [] [] f (reached_start low begin f h)
    (pulse_falls seats begin pulses low f [] line (known_start low begin f f h (omega arith)) (known_start low begin f (f - 1) h (omega arith)) tt (nobody []) (start_falls low begin f h).fall)
    (λ zs ys q. nobody zs) (λ l. cc) g)
  where
    nobody : (zs : List Slot) → AllOut seats zs
    nobody zs v i = absurd (subst (λ (xs : List (List ℕ)). In v xs) e (in_filter (least_among (frames_of seats)) (frames_of seats) v i).0)
whole_from seats begin pulses low frames sparse line (Ok f) h g (x ∷ fs) e =
    to_any (λ w. HasBits (bits_of (read_slots low 160 [] f)) (frame_bits w)) (winning_frames seats) l.frame (in_filtered (least_among (frames_of seats)) (frames_of seats) l.frame l.one (is_least (frames_of seats) l))
    (alive seats begin pulses low l.frame line frames z full 160 [] [] f (begin + 4500) (reached_start low begin f h) (omega arith) room (λ n a b. absurd (omega arith))
    (on_time_start seats begin pulses low l.frame z f h room) g)
  where
    l : Least (frames_of seats)
    l = least_of (frames_of seats) x (subst (λ (xs : List (List ℕ)). In x xs) (sym e) (inl refl))

    z : Scene seats begin pulses low l.frame
    z = record { line = contended_by_winners seats begin pulses low line; sparse = sparse; sends = l.one; least = is_least (frames_of seats) l }

    full : 0 < length l.frame
    full = all_in (λ f2. 0 < length f2) (frames_of seats) frames l.frame l.one

    room : 0 < length (frame_bits l.frame)
    room = omega (arith, length-frame_bits l.frame, full)

pub complete_is_winners : CompleteIsWinners
complete_is_winners seats begin pulses low frames sparse line h =
    whole_from seats begin pulses low frames sparse ((same_line seats begin pulses low frames sparse).0 line) (start_of low begin) refl h (frames_of seats) refl
