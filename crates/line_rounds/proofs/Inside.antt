-- Losers pull inside winners.
use Rattle.std.proofs.Common.{◌≡◌, ℕ, zero, suc, ◌+◌, ◌-◌, ◌*◌, ◌%◌, ◌==◌, ◌<◌, ◌≤◌, Bool, true, false, not, ◌&&◌, nat_lt, if◌then◌else◌, List, [], ◌∷◌, ◌++◌, length, length-append, append-nil, slice_index_or, ◌⊎◌, inl, inr, Option, Some, None, Result, Ok, Err, refl, arith, ap, ◌∙◌, sym}
use Rattle.std.specs.List.{filter_map, cons_option}
use Rattle.std.specs.Option.{option_to_list}
use mathlib.Core.Bool.{beq}
use Rattle.std.proofs.lemmas.List.Elements.{filter_map-append}
use Rattle.std.proofs.Math.ListN.{get_or-append}
use Rattle.std.proofs.Math.Seq.{get_or-append_seam}
use Rattle.std.proofs.lemmas.Bool.Decides.{nat_tests}
use Rattle.line_wave.specs.declared.Stretch.{Stretch}
use Rattle.line_wave.specs.Line.{Line, line_of, covers, is_fall}
use Rattle.line_wave.specs.Sender.{sender_stretches, slot_stretches}
use Rattle.line_frames.specs.Bits.{frame_bits}
use Rattle.line_frames.specs.declared.Ending.{Ending}
use Rattle.line_frames.specs.declared.Ending.TheVariants.{Complete, Short, Silent, BadStart, Long, Open}
use Rattle.line_reading.specs.Reading.After.{Next, Ends}
use Rattle.line_reading.specs.Windows.{sample_at}
use Rattle.line_reading.specs.Reading.{Read, Slot, Known, known_at, known_slot, reading_of, read_start, read_slots, read_on, after_slot, last_ending, last_heard, bit_sampled_at, After}
use Rattle.line_reading.proofs.Causes.{known_front, known_then}
use Rattle.line_rounds.specs.declared.Seat.{Seat}
use Rattle.line_reading.specs.Sending.{bit_read, destination, known_bits, is_whole, is_out_by, goes_on}
use Rattle.line_rounds.specs.Contend.{leaves, Stays}
use Rattle.line_rounds.specs.Known.{StaysBy}
use Rattle.line_rounds.specs.Reached.{KnownHere, Reached}
use Rattle.line_rounds.proofs.Differ.{Splits, or_right}
use Rattle.line_rounds.proofs.Lows.{zero_low}
use Rattle.line_rounds.proofs.Early.{OnTime, sender_low, none_found}
use Rattle.line_rounds.proofs.Walk.{over_sampled, known_unsampled, reported_more, Scene}

-- ---- an ending

abbrev pub EndsHeard : Read → Type 0
EndsHeard r = (r.until ≡ r.at) ⊎ (is_whole (Some (record { ending = r.ending; at = r.at; until = r.until })) ≡ false)

heard_end : (ending : Ending) (at : ℕ) → EndsHeard (record { slots = []; ending = ending; at = at; until = last_heard ending at })
heard_end Complete at = inl refl
heard_end Short at = inl refl
heard_end Silent at = inr refl
heard_end BadStart at = inr refl
heard_end Long at = inl refl
heard_end Open at = inl refl

heard_on : (rest : ℕ → Read) (a : After) → ((f : ℕ) → EndsHeard (rest f)) → EndsHeard (read_on rest a)
heard_on rest (Next f) h = h f
heard_on rest (Ends ending at) h = heard_end ending at

heard_slots : (low : Line) (left : ℕ) (bits : List Bool) (e : ℕ) → EndsHeard (read_slots low left bits e)
unfolding read_slots
heard_slots low zero bits e = inl refl
heard_slots low (suc left) bits e =
    heard_on (read_slots low left (bits ++ option_to_list (bit_sampled_at low e))) (after_slot low e (last_ending bits)) (λ f. heard_slots low left (bits ++ option_to_list (bit_sampled_at low e)) f)

pub heard_start : (low : Line) (e : ℕ) (s : Result ℕ ℕ) → EndsHeard (read_start low e s)
heard_start low e (Ok f) = heard_slots low 160 [] f
heard_start low e (Err at) = inr refl

-- while a sender goes on, the reading has not ended with all its blocks
pub not_whole : (t : ℕ) (r : Read) → EndsHeard r → goes_on (known_at t r).ended t ≡ true → is_whole (known_at t r).ended ≡ false
not_whole t r h g = step (nat_lt r.until t) refl g h
  where
    step : (b : Bool) → nat_lt r.until t ≡ b → goes_on (if b then Some (record { ending = r.ending; at = r.at; until = r.until }) else None) t ≡ true → EndsHeard r
        → is_whole (if b then Some (record { ending = r.ending; at = r.at; until = r.until }) else None) ≡ false
    step false e k w = refl
    step true e k (inr w) = w
    step true e k (inl s) =
        let a : r.until < t = grind (arith, nat_tests) in
        let b : t ≤ r.at = grind (arith, nat_tests) in
        absurd (omega arith)

-- a sender that is not out stays, by all the bits that are known
pub stays_by : StaysBy
stays_by k sent w o n l m =
    step (n % 10 == 0) refl (none_found (is_out_by (known_bits k) (is_whole k.ended) sent) 1 (length (known_bits k)) o n l (omega arith))
  where
    step : (c : Bool) → (n % 10 == 0) ≡ c
        → (if c then not (is_whole k.ended && (n == length (known_bits k))) && not (beq (bit_read (known_bits k) n) (destination (known_bits k) == 15))
        else not (beq (bit_read (known_bits k) n) (slice_index_or sent (n - 1) false))) ≡ false
        → (if c then not (beq (bit_read (known_bits k) n) (destination (known_bits k) == 15)) else not (beq (bit_read (known_bits k) n) (slice_index_or sent (n - 1) false))) ≡ false
    step true e h = rw w at h
    step false e h = h

-- ---- what is known in a slot

pub known_here : KnownHere
unfolding read_slots
known_here low begin left xs bits e t r l a h =
    ap (known_at t) (sym r.goes)
    ∙ known_front t xs (read_slots low (suc left) bits e) (over_sampled e t xs (omega arith) r.over)
    ∙ ap (λ (n : Known). let m : Known = record { slots = xs ++ n.slots; ended = n.ended } in m)
    (known_then t (record { fall = e; bit = bit_sampled_at low e }) (read_on (read_slots low left (bits ++ option_to_list (bit_sampled_at low e))) (after_slot low e (last_ending bits))) l)
    ∙ ap (λ b. let m : Known = record {
      slots = xs ++ known_slot t (record { fall = e; bit = bit_sampled_at low e }) ∷ (known_at t (read_on (read_slots low left (bits ++ option_to_list (bit_sampled_at low e))) b)).slots;
      ended = (known_at t (read_on (read_slots low left (bits ++ option_to_list (bit_sampled_at low e))) b)).ended;
    } in m) h

-- the bits that are known after a sample
pub bits_here : (low : Line) (begin left : ℕ) (xs : List Slot) (bits : List Bool) (e t : ℕ) (v : Bool) → Reached low begin (suc left) xs bits e → e + sample_at < t → bit_sampled_at low e ≡ Some v
    → (a : After) → after_slot low e (last_ending bits) ≡ a
    → known_bits (known_at t (reading_of low begin)) ≡ bits ++ v ∷ filter_map (λ (s : Slot). s.bit) (known_at t (read_on (read_slots low left (bits ++ option_to_list (bit_sampled_at low e))) a)).slots
bits_here low begin left xs bits e t v r l s a h =
    ap known_bits (known_here low begin left xs bits e t r (omega arith) a h)
    ∙ filter_map-append (λ (x : Slot). x.bit) xs (known_slot t (record { fall = e; bit = bit_sampled_at low e }) ∷ more)
    ∙ ap (λ ys. ys ++ cons_option (if nat_lt (e + sample_at) t then bit_sampled_at low e else None) (filter_map (λ (x : Slot). x.bit) more)) r.reported
    ∙ ap (λ (c : Bool). bits ++ cons_option (if c then bit_sampled_at low e else None) (filter_map (λ (x : Slot). x.bit) more)) yes
    ∙ ap (λ (o : Option Bool). bits ++ cons_option o (filter_map (λ (x : Slot). x.bit) more)) s
  where
    more : List Slot
    more = (known_at t (read_on (read_slots low left (bits ++ option_to_list (bit_sampled_at low e))) a)).slots

    yes : nat_lt (e + sample_at) t ≡ true
    yes = grind (arith, nat_tests)

-- and where the slot ends unsampled
pub bits_unsampled : (low : Line) (begin left : ℕ) (xs : List Slot) (bits : List Bool) (e t at : ℕ) (ending : Ending) → Reached low begin (suc left) xs bits e → e < t → bit_sampled_at low e ≡ None
    → after_slot low e (last_ending bits) ≡ Ends ending at → known_bits (known_at t (reading_of low begin)) ≡ bits
bits_unsampled low begin left xs bits e t at ending r l s h =
    ap known_bits (known_here low begin left xs bits e t r l (Ends ending at) h)
    ∙ filter_map-append (λ (x : Slot). x.bit) xs (known_slot t (record { fall = e; bit = bit_sampled_at low e }) ∷ [])
    ∙ ap (λ ys. ys ++ cons_option (if nat_lt (e + sample_at) t then bit_sampled_at low e else None) []) r.reported
    ∙ ap (λ (o : Option Bool). bits ++ cons_option (if nat_lt (e + sample_at) t then o else None) []) s
    ∙ either (nat_lt (e + sample_at) t)
  where
    either : (c : Bool) → bits ++ cons_option (if c then None else None) [] ≡ bits
    either true = append-nil bits
    either false = append-nil bits

-- ---- the winner's 0 is read 0

pub same_sent : (bits cs ws : List Bool) (p : Splits 0 cs ws) (n : ℕ) → 1 ≤ n → n ≤ length p.front → leaves bits cs n ≡ leaves bits ws n
same_sent bits cs ws p n l m =
    ap (λ b. if n % 10 == 0 then not (beq (bit_read bits n) (destination bits == 15)) else not (beq (bit_read bits n) b))
    (ap (λ (xs : List Bool). slice_index_or xs (n - 1) false) p.first ∙ get_or-append p.front (true ∷ p.more) false (n - 1) (omega arith)
    ∙ sym (ap (λ (xs : List Bool). slice_index_or xs (n - 1) false) p.second ∙ get_or-append p.front (false ∷ p.less) false (n - 1) (omega arith)))

pub stays_other : (bits cs ws : List Bool) (p : Splits 0 cs ws) → length bits ≤ length p.front → Stays bits cs → Stays bits ws
stays_other bits cs ws p h s n l m = sym (same_sent bits cs ws p n l (omega arith)) ∙ s n l m

-- the other, which sent a 1 there, is out
pub other_out : (bits ys cs ws : List Bool) (p : Splits 0 cs ws) → length bits ≡ length p.front → Stays (bits ++ false ∷ ys) cs → ⊥
other_out bits ys cs ws p h s =
    let n = length bits + 1 in
    let e : (n % 10 == 0) ≡ false = (let x : n % 10 ≡ p.place + 1 = omega (arith, p.at, p.early) in grind (arith, nat_tests)) in
    let i : n - 1 ≡ length bits = omega arith in
    let read : bit_read (bits ++ false ∷ ys) n ≡ false = ap (λ j. slice_index_or (bits ++ false ∷ ys) j false) i ∙ get_or-append_seam bits false ys false in
    let sent : slice_index_or cs (n - 1) false ≡ true =
    ap (λ j. slice_index_or cs j false) (i ∙ h) ∙ ap (λ (xs : List Bool). slice_index_or xs (length p.front) false) p.first ∙ get_or-append_seam p.front true p.more false in
    let out : leaves (bits ++ false ∷ ys) cs n ≡ true = rw (e, read, sent) refl in
    let no : true ≡ false = sym out ∙ s n (omega arith) (omega (arith, length-append bits (false ∷ ys))) in cc

pub winner_low : (seats : List Seat) (begin : ℕ) (pulses : List Stretch) (low : Line) (w : List ℕ) → Scene seats begin pulses low w
    → (cs : List Bool) (p : Splits 0 cs (frame_bits w)) (left : ℕ) (xs : List Slot) (bits : List Bool) (e own : ℕ) → Reached low begin (suc left) xs bits e
    → own ≡ begin + 4500 + 2400 * length bits → length bits ≡ length p.front → OnTime pulses e own → Stays bits (frame_bits w)
    → ((u : ℕ) → e < u → u < e + sample_at → is_fall low u ≡ false) → low (e + sample_at) ≡ true
winner_low seats begin pulses low w z cs p left xs bits e own r o h time s q =
    sender_low seats begin pulses low (e + sample_at) zs z.line
    (known_unsampled low begin left xs bits e (e + sample_at) r q (omega arith) (omega arith))
    w z.sends z.least stays lows
  where
    zs : List Slot
    zs = xs ++ record { fall = e; bit = None } ∷ []

    stays : Stays (filter_map (λ s. s.bit) zs) (frame_bits w)
    stays = rw (reported_more xs bits (record { fall = e; bit = None }) r.reported, append-nil bits) s

    from_own : OnTime pulses e own → own ≤ e + sample_at
    from_own (inl g) = omega arith
    from_own (inr g) = omega (arith, g.1)

    to_own : OnTime pulses e own → e + sample_at < own + 1500
    to_own (inl g) = omega arith
    to_own (inr g) = omega (arith, g.0)

    lows : line_of (sender_stretches begin (frame_bits w)) (e + sample_at) ≡ true
    lows = or_right (covers (record { from = begin; to = begin + 3700 }) (e + sample_at)) (line_of (slot_stretches (begin + 4500) (frame_bits w)) (e + sample_at))
        (rw p.second (zero_low p.front p.less (begin + 4500) (e + sample_at) (omega (arith, from_own time, o, h)) (omega (arith, to_own time, o, h))))
