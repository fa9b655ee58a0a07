-- The bits of a round that no pulse comes into are whole blocks.
use Rattle.std.proofs.Common.{◌≡◌, ◌≢◌, ℕ, zero, suc, ◌+◌, ◌-◌, ◌*◌, ◌/◌, ◌%◌, ◌==◌, ◌<◌, ◌≤◌, Bool, true, false, not, ◌&&◌, ◌||◌, nat_lt, if◌then◌else◌, List, [], ◌∷◌, ◌++◌, length, length-append, slice_index_or, slice_get, get_or, ◌⊎◌, inl, inr, Option, Some, None, is_some, Result, Ok, Err, refl, arith, ap, ◌∙◌, sym, subst, append_assoc}
use Rattle.std.specs.List.{list_any, filter_map, cons_option}
use Rattle.std.specs.Option.{option_to_list}
use Rattle.std.proofs.Math.Seq.{get_or-append_seam}
use Rattle.std.proofs.lemmas.Bool.{cases_lt, false≢true, and_parts}
use Rattle.std.proofs.lemmas.Bool.Decides.{nat_tests}
use Rattle.std.proofs.lemmas.Option.{get_or_from_slice_get}
use mathlib.Core.Bool.{beq}
use Rattle.line_wave.specs.Line.{Line, line_of, is_fall}
use Rattle.line_wave.specs.Sender.{sender_stretches}
use Rattle.line_frames.specs.Bits.{frame_bits, least_among}
use Rattle.line_frames.specs.declared.Ending.{Ending}
use Rattle.line_frames.specs.declared.Ending.TheVariants.{Complete, Short, Silent, Long}
use Rattle.line_frames.proofs.Slots.{ack_slot, eom_slot, length-frame_bits}
use Rattle.line_reading.specs.Windows.{standard, sample_at}
use Rattle.line_reading.specs.Reading.After.{Next, Ends}
use Rattle.line_reading.specs.Reading.{next_fall, Read, Slot, Known, known_at, reading_of, read_slots, read_on, read_start, after_slot, after_fall, after_last, last_ending, bit_sampled_at, bits_of, After}
use Rattle.line_reading.specs.Sending.{bit_read, destination}
use Rattle.line_reading.proofs.Search.{found_first, found_none}
use Rattle.line_reading.proofs.Causes.{known_in_slot}
use Rattle.line_reading.proofs.AlongBy.{reported_more}
use Rattle.line_rounds.specs.declared.Seat.{Seat}
use Rattle.line_rounds.specs.declared.Outcome.{Outcome}
use Rattle.line_rounds.specs.Round.{IsRound, frames_of, is_acknowledged, is_broken}
use Rattle.line_rounds.specs.Contend.{AreFrames, Stays, leaves}
use Rattle.line_rounds.specs.Elements.{In}
use Rattle.line_rounds.specs.Begins.{Reports}
use Rattle.line_rounds.specs.Machine.{acks_after, acks_until}
use Rattle.line_rounds.proofs.Early.{destination_more, leaves_more, sender_low}
use Rattle.line_rounds.proofs.Inside.{stays_by}
use Rattle.line_rounds.proofs.Law.{reached_start}
use Rattle.line_rounds.proofs.Lasting.{contended}
use Rattle.line_rounds.proofs.Walk.{known_unsampled}
use Rattle.verdict_laws.specs.Sent.{AreBlocks, is_last, was_taken}
use Rattle.timing_laws.specs.Verdicts.{RoundsAreBlocks}
use Rattle.timing_laws.proofs.Lists.{over_sampled}
use Rattle.timing_laws.proofs.Slots.{Calm, KnownIn, OnSlot, Puller, SlotLow, Starter, acks_in, in_slot, is_less, later_low, low_for, no_some, quiet_slot, reported_unsampled, sender_in, slot_known, slot_low, soon_low, starter, who_makes, zero_bit}
use Rattle.timing_laws.proofs.Nominal.{on_next, reported_slots, sent_first, slot_falls, starts}
use Rattle.timing_laws.proofs.Nominal as nominal

-- ---- a winner that has sent these bits

record Winner (seats : List Seat) (bits : List Bool) : Type 0 where
  frame : List ℕ
  among : In frame (frames_of seats)
  least : least_among (frames_of seats) frame ≡ true
  stays : Stays bits (frame_bits frame)
  fits : length bits ≤ length (frame_bits frame)

stays_more : (bits sent : List Bool) (bit : Bool) → Stays bits sent → leaves (bits ++ bit ∷ []) sent (length bits + 1) ≡ false → Stays (bits ++ bit ∷ []) sent
stays_more bits sent bit s h n l m = elim (cases_lt (length bits) n) [
  | inl last ↦ (let at : n ≡ length bits + 1 = omega (arith, length-append bits (bit ∷ []), m) in subst (λ (i : ℕ). leaves (bits ++ bit ∷ []) sent i ≡ false) (sym at) h)
  | inr before ↦ leaves_more bits (bit ∷ []) sent n l before ∙ s n l before
]

same_bits : (a b c : Bool) → a ≡ c → b ≡ c → not (beq a b) ≡ false
same_bits a b true e f = rw (e, f) refl
same_bits a b false e f = rw (e, f) refl

-- the bit that it sends is read
sent_so : (bits sent : List Bool) (bit : Bool) → ((length bits + 1) % 10 == 0) ≡ false → slice_index_or sent (length bits) false ≡ bit → leaves (bits ++ bit ∷ []) sent (length bits + 1) ≡ false
sent_so bits sent bit ten is =
    ap (λ (b : Bool). if b then not (beq (bit_read (bits ++ bit ∷ []) (length bits + 1)) (destination (bits ++ bit ∷ []) == 15)) else not (beq (bit_read (bits ++ bit ∷ []) (length bits + 1)) (slice_index_or sent (length bits + 1 - 1) false))) ten
    ∙ same_bits (bit_read (bits ++ bit ∷ []) (length bits + 1)) (slice_index_or sent (length bits + 1 - 1) false) bit
    (ap (λ (j : ℕ). slice_index_or (bits ++ bit ∷ []) j false) at ∙ get_or-append_seam bits bit [] false) (ap (λ (j : ℕ). slice_index_or sent j false) at ∙ is)
  where
    at : length bits + 1 - 1 ≡ length bits
    at = omega arith

-- ---- a winner that goes on makes the next slot fall

goes_further : (seats : List Seat) (begin : ℕ) (low : Line) → Calm seats begin low → (left : ℕ) (xs : List Slot) (bits : List Bool) (e : ℕ) → OnSlot low begin (suc left) xs bits e → (bit : Bool) → SlotLow low e bit → last_ending bits ≡ None
    → (w : Winner seats (bits ++ bit ∷ [])) → length bits + 1 < length (frame_bits w.frame) → (ending : Ending) (at : ℕ) → after_slot low e (last_ending bits) ≡ Ends ending at → ⊥
goes_further seats begin low c left xs bits e s bit d none w room ending at ends =
    by_fall (next_fall low e standard.bit_total.most) refl (sym (ap (λ (o : Option Ending). after_slot low e o) none) ∙ ends)
  where
    sent : List Bool
    sent = frame_bits w.frame

    quiet : (u : ℕ) → e < u → u < e + 2400 → is_fall low u ≡ false
    quiet = quiet_slot seats begin low c (suc left) xs bits e s

    more : length (bits ++ bit ∷ []) ≡ length bits + 1
    more = length-append bits (bit ∷ [])

    known : Reports low begin (e + 2400) (xs ++ record { fall = e; bit = Some bit } ∷ [])
    known =
        known_in_slot low begin (e + 2400) e left xs bits s.reached.goes (over_sampled e (e + 2400) xs (omega arith) s.reached.over) (omega arith) (λ u a b. quiet u a (omega arith)) (omega arith) (no_some (last_ending bits) (e + 2400) (e + sample_at) none)
        ∙ ap (λ (b : Bool). let k : Known = record { slots = xs ++ record { fall = e; bit = if b then bit_sampled_at low e else None } ∷ []; ended = None } in k) (let y : nat_lt (e + sample_at) (e + 2400) ≡ true = grind (arith, nat_tests) in y)
        ∙ ap (λ (o : Option Bool). let k : Known = record { slots = xs ++ record { fall = e; bit = o } ∷ []; ended = None } in k) d.read

    there : nat_lt (length (bits ++ bit ∷ [])) (length sent) ≡ true
    there = let r : length (bits ++ bit ∷ []) < length sent = omega (arith, more, room) in grind (arith, nat_tests)

    pulls : line_of (sender_stretches begin sent) (e + 2400) ≡ true
    pulls =
        sym (in_slot begin (e + 2400) 0 (e + 2400) (bits ++ bit ∷ []) sent (let time = s.time in omega (arith, time, more)) (omega arith) (omega arith))
        ∙ soon_low (nat_lt (length (bits ++ bit ∷ [])) (length sent)) (slice_index_or sent (length (bits ++ bit ∷ [])) false) 0 there (omega arith)

    low_there : low (e + 2400) ≡ true
    low_there =
        sender_low seats begin [] low (e + 2400) (xs ++ record { fall = e; bit = Some bit } ∷ []) (contended seats begin [] low c.line) known w.frame w.among w.least
        (subst (λ (ys : List Bool). Stays ys sent) (sym (reported_more xs bits (record { fall = e; bit = Some bit }) s.reached.reported)) w.stays) pulls

    narrow : (b : Bool) → e + low_for b ≤ e + 2400 - 1
    narrow true = omega arith
    narrow false = omega arith

    falls : is_fall low (e + 2400) ≡ true
    falls =
        let f : low (e + 2400 - 1) ≡ false = d.highs (e + 2400 - 1) (narrow bit) (omega arith) in
        let g : nat_lt 0 (e + 2400) ≡ true = grind (arith, nat_tests) in
        let h = low_there in
        rw (h, f, g) refl

    by_time : (f : ℕ) (b : Bool) → e < f → is_fall low f ≡ true → nat_lt f (e + standard.bit_total.least) ≡ b → (if b then Ends Short f else Next f) ≡ Ends ending at → ⊥
    by_time f true after fall early k = let lt : f < e + standard.bit_total.least = grind (arith, nat_tests) in false≢true (sym (quiet f after (omega arith)) ∙ fall)
    by_time f false after fall late k = cc

    by_fall : (o : Option ℕ) → next_fall low e standard.bit_total.most ≡ o → after_fall e o ≡ Ends ending at → ⊥
    by_fall None found k = false≢true (sym (found_none (is_fall low) (e + 1) standard.bit_total.most found (e + 2400) (omega arith) (omega arith)) ∙ falls)
    by_fall (Some f) found k = let x = found_first (is_fall low) (e + 1) standard.bit_total.most f found in by_time f (nat_lt f (e + standard.bit_total.least)) (omega (arith, x.after)) x.passes refl k

-- ---- in a slot that is none for acknowledging a winner's bit is read

no_acks_here : (seats : List Seat) (bits : List Bool) (e : ℕ) → ((length bits + 1) % 10 == 0) ≡ false → nat_lt (e + 600) (acks_until seats bits e) ≡ false
no_acks_here seats bits e ten = ap (λ (b : Bool). nat_lt (e + 600) (if b && list_any (acks_after bits) seats then e + 1500 else 0)) ten ∙ none (e + 600)
  where
    none : (n : ℕ) → nat_lt n 0 ≡ false
    none n = grind (arith, nat_tests)

winner_zero : (seats : List Seat) (begin : ℕ) (low : Line) → Calm seats begin low → (left : ℕ) (xs : List Slot) (bits : List Bool) (e : ℕ) → OnSlot low begin (suc left) xs bits e → ((length bits + 1) % 10 == 0) ≡ false → low (e + 600) ≡ true
    → Winner seats (bits ++ false ∷ [])
winner_zero seats begin low c left xs bits e s ten lies = made (who_makes seats begin low c (e + 600) k here.reports lies)
  where
    here : KnownIn low begin xs e (e + 600)
    here = record {
      slot = record { fall = e; bit = None };
      ended = None;
      reports = known_unsampled low begin left xs bits e (e + 600) s.reached (λ u a b. quiet_slot seats begin low c (suc left) xs bits e s u a (omega arith)) (omega arith) (omega arith);
      falls = refl;
      whole = tt;
    }

    k : Known
    k = record { slots = xs ++ record { fall = e; bit = None } ∷ []; ended = None }

    by_puller : Puller seats begin (e + 600) k → Winner seats (bits ++ false ∷ [])
    by_puller p =
        let pulls : (nat_lt (length bits) (length (frame_bits p.frame)) && nat_lt 600 (low_for (slice_index_or (frame_bits p.frame) (length bits) false))) ≡ true = in_slot begin e 600 (e + 600) bits (frame_bits p.frame) s.time refl (omega arith) ∙ p.low in
        let parts = and_parts (nat_lt (length bits) (length (frame_bits p.frame))) (nat_lt 600 (low_for (slice_index_or (frame_bits p.frame) (length bits) false))) pulls in
        let room : length bits < length (frame_bits p.frame) = is_less (length bits) (length (frame_bits p.frame)) parts.0 in
        record {
          frame = p.frame;
          among = p.among;
          least = p.least;
          stays = stays_more bits (frame_bits p.frame) false
              (subst (λ (ys : List Bool). Stays ys (frame_bits p.frame)) (reported_unsampled low begin (suc left) xs bits e s.reached) (stays_by k (frame_bits p.frame) refl p.goes))
              (sent_so bits (frame_bits p.frame) false ten (zero_bit (slice_index_or (frame_bits p.frame) (length bits) false) parts.1));
          fits = let more = length-append bits (false ∷ []) in omega (arith, more, room);
        }

    made : Puller seats begin (e + 600) k ⊎ ((is_acknowledged seats k (e + 600) ≡ true) ⊎ (is_broken seats k (e + 600) None ≡ true)) → Winner seats (bits ++ false ∷ [])
    made (inl p) = by_puller p
    made (inr (inl a)) = absurd (false≢true (sym (no_acks_here seats bits e ten) ∙ sym (acks_in seats begin low left xs bits e s (e + 600) (omega arith) here) ∙ a))
    made (inr (inr b)) = absurd (false≢true b)

winner_one : (seats : List Seat) (begin : ℕ) (low : Line) → Calm seats begin low → (left : ℕ) (xs : List Slot) (bits : List Bool) (e : ℕ) → OnSlot low begin (suc left) xs bits e → ((length bits + 1) % 10 == 0) ≡ false → low (e + 600) ≡ false
    → Winner seats (bits ++ true ∷ [])
winner_one seats begin low c left xs bits e s ten lies = record {
  frame = w.frame;
  among = w.among;
  least = w.least;
  stays = stays_more bits (frame_bits w.frame) true w.stays (sent_so bits (frame_bits w.frame) true ten (one (slice_index_or (frame_bits w.frame) (length bits) false) refl));
  fits = let more = length-append bits (true ∷ []) in let room = w.room in omega (arith, more, room);
}
  where
    w : Starter seats bits
    w = starter seats begin low c (suc left) xs bits e s

    room : nat_lt (length bits) (length (frame_bits w.frame)) ≡ true
    room = let x = w.room in grind (arith, nat_tests)

    one : (b : Bool) → slice_index_or (frame_bits w.frame) (length bits) false ≡ b → slice_index_or (frame_bits w.frame) (length bits) false ≡ true
    one true is = is
    one false is =
        absurd (false≢true (sym lies ∙ sender_in seats begin low c left xs bits e s w.frame w.among w.least w.stays (e + 600) (omega arith) (omega arith)
        (sym (in_slot begin e 600 (e + 600) bits (frame_bits w.frame) s.time refl (omega arith))
        ∙ later_low (nat_lt (length bits) (length (frame_bits w.frame))) (slice_index_or (frame_bits w.frame) (length bits) false) 600 room is (omega arith))))

winner_in : (seats : List Seat) (begin : ℕ) (low : Line) → Calm seats begin low → (left : ℕ) (xs : List Slot) (bits : List Bool) (e : ℕ) → OnSlot low begin (suc left) xs bits e → ((length bits + 1) % 10 == 0) ≡ false
    → (bit : Bool) → SlotLow low e bit → Winner seats (bits ++ bit ∷ [])
winner_in seats begin low c left xs bits e s ten true d = winner_one seats begin low c left xs bits e s ten (d.highs (e + 600) (omega arith) (omega arith))
winner_in seats begin low c left xs bits e s ten false d = winner_zero seats begin low c left xs bits e s ten (d.lows (e + 600) (omega arith) (omega arith))

-- ---- the slots of a block

is_ten : (n : ℕ) → (n % 10 == 0) ≡ true → n % 10 ≡ 0
is_ten n h = grind (arith, nat_tests)

ten_is : (n : ℕ) → n % 10 ≡ 0 → (n % 10 == 0) ≡ true
ten_is n h = grind (arith, nat_tests)

not_ten : (n m : ℕ) → n ≡ 10 * m + 9 → (n % 10 == 0) ≡ false
not_ten n m e = let x : n % 10 ≢ 0 = (λ z. omega (arith, e, z)) in grind (arith, nat_tests)

nine_not : (n : ℕ) → ((n + 1) % 10 == 0) ≡ false → (n % 10 == 9) ≡ false
nine_not n h = let x : (n + 1) % 10 ≢ 0 = grind (arith, nat_tests) in let y : n % 10 ≢ 9 = (λ z. x (omega (arith, z))) in grind (arith, nat_tests)

nine_is : (n : ℕ) → ((n + 1) % 10 == 0) ≡ true → (n % 10 == 9) ≡ true
nine_is n h = let x : (n + 1) % 10 ≡ 0 = is_ten (n + 1) h in let y : n % 10 ≡ 9 = omega (arith, x) in grind (arith, nat_tests)

same_of : (a b : Bool) → not (beq a b) ≡ false → a ≡ b
same_of true true h = refl
same_of true false h = absurd cc
same_of false true h = absurd cc
same_of false false h = refl

taken_of : (a : Bool) → not a ≡ false → a ≡ true
taken_of true h = refl
taken_of false h = absurd cc

-- a bit that it sent and went on after
sent_bit : (bits sent : List Bool) → Stays bits sent → (n : ℕ) → 1 ≤ n → n ≤ length bits → (n % 10 == 0) ≡ false → bit_read bits n ≡ slice_index_or sent (n - 1) false
sent_bit bits sent s n l h ten =
    same_of (bit_read bits n) (slice_index_or sent (n - 1) false)
    (sym (ap (λ (b : Bool). if b then not (beq (bit_read bits n) (destination bits == 15)) else not (beq (bit_read bits n) (slice_index_or sent (n - 1) false))) ten) ∙ s n l h)

-- the EOM of a block that it sent
sent_eom : (bits : List Bool) (frame : List ℕ) → Stays bits (frame_bits frame) → (block : ℕ) → 0 < block → 10 * block - 1 ≤ length bits → 10 * block ≤ length (frame_bits frame) → is_last bits block ≡ (block == length frame)
sent_eom bits frame s block some there fits =
    sent_bit bits (frame_bits frame) s (10 * block - 1) (omega (arith, some)) there (not_ten (10 * block - 1) (block - 1) (omega (arith, some)))
    ∙ get_or_from_slice_get (frame_bits frame) (10 * block - 1 - 1) ((10 * block - 1 - 1) / 10 + 1 == length frame) false (eom_slot frame (10 * block - 1) (omega (arith, some)) (omega (arith, fits)) (omega (arith, some)))
    ∙ ap (λ (n : ℕ). n == length frame) (let x : (10 * block - 1 - 1) / 10 + 1 ≡ block = omega (arith, some) in x)

-- a block after which it went on was taken
sent_taken : (bits sent : List Bool) → Stays bits sent → (block : ℕ) → 0 < block → 10 * block ≤ length bits → was_taken bits block ≡ true
sent_taken bits sent s block some there =
    taken_of (was_taken bits block)
    (sym (ap (λ (b : Bool). if b then not (beq (bit_read bits (10 * block)) (destination bits == 15)) else not (beq (bit_read bits (10 * block)) (slice_index_or sent (10 * block - 1) false)))
    (ten_is (10 * block) (let x : 10 * block % 10 ≡ 0 = omega arith in x))) ∙ s (10 * block) (omega (arith, some)) there)

-- ---- the last slot

other_number : (n m : ℕ) → n < m → (n == m) ≡ false
other_number n m h = let x : n ≢ m = (λ e. omega (arith, h, e)) in grind (arith, nat_tests)

is_number : (n m : ℕ) → (n == m) ≡ false → n ≢ m
is_number n m h = grind (arith, nat_tests)

in_front : (xs ys : List Bool) (i : ℕ) (d : Bool) → i < length xs → get_or (xs ++ ys) i d ≡ get_or xs i d
in_front [] ys i d h = absurd (omega (arith, h))
in_front (x ∷ xs) ys zero d h = refl
in_front (x ∷ xs) ys (suc i) d h = in_front xs ys i d (omega (arith, h))

-- the blocks before the last one, and how the last one ends
record LastSlot (bits : List Bool) (bit : Bool) : Type 0 where
  count : ℕ
  all : length bits + 1 ≡ 10 * count
  few : count ≤ 16
  frame : List ℕ
  stays : Stays bits (frame_bits frame)
  room : length bits < length (frame_bits frame)
  ends : (is_last (bits ++ bit ∷ []) count || not (was_taken (bits ++ bit ∷ []) count)) ≡ true

last_front : (bits ys : List Bool) (block : ℕ) → 0 < block → 10 * block ≤ length bits + 1 → is_last (bits ++ ys) block ≡ is_last bits block
last_front bits ys block some there = in_front bits ys (10 * block - 1 - 1) false (omega (arith, some, there))

taken_front : (bits ys : List Bool) (block : ℕ) → 0 < block → 10 * block ≤ length bits → was_taken (bits ++ ys) block ≡ was_taken bits block
taken_front bits ys block some there =
    ap (λ (b : Bool). beq b (destination (bits ++ ys) == 15)) (in_front bits ys (10 * block - 1) false (omega (arith, some, there)))
    ∙ ap (λ (n : ℕ). beq (bit_read bits (10 * block)) (n == 15)) (destination_more bits ys (omega (arith, some, there)))

are_blocks : (bits : List Bool) (bit : Bool) → LastSlot bits bit → AreBlocks (bits ++ bit ∷ [])
are_blocks bits bit l = record {
  count = l.count;
  some = let all = l.all in omega (arith, all);
  few = l.few;
  long = let all = l.all in let more = length-append bits (bit ∷ []) in omega (arith, all, more);
  more = λ block some less. let all = l.all in let room = l.room in let tens = length-frame_bits l.frame in
      last_front bits (bit ∷ []) block some (omega (arith, less, all))
      ∙ sent_eom bits l.frame l.stays block some (omega (arith, less, all)) (omega (arith, less, all, room))
      ∙ other_number block (length l.frame) (omega (arith, less, all, room, tens));
  taken = λ block some less. let all = l.all in
      taken_front bits (bit ∷ []) block some (omega (arith, less, all)) ∙ sent_taken bits (frame_bits l.frame) l.stays block some (omega (arith, less, all));
  ends = l.ends;
}

ends_as : (x ending : Ending) (a at : ℕ) → Ends x a ≡ Ends ending at → x ≡ ending
ends_as x ending a at same = subst P same refl
  where
    P : After → Type 0
    P (Next f) = Unit {0}
    P (Ends z b) = x ≡ z

-- where the reading ends with this slot
last_slot : (seats : List Seat) (begin : ℕ) (low : Line) → Calm seats begin low → (left : ℕ) (xs : List Slot) (bits : List Bool) (e : ℕ) → OnSlot low begin (suc left) xs bits e → length bits + suc left ≡ 160
    → (bit : Bool) → SlotLow low e bit → (ending : Ending) (at : ℕ) → after_slot low e (last_ending bits) ≡ Ends ending at → ending ≢ Long → LastSlot bits bit
last_slot seats begin low c left xs bits e s full bit d ending at ends short = by_ten ((length bits + 1) % 10 == 0) refl
  where
    w : Starter seats bits
    w = starter seats begin low c (suc left) xs bits e s

    quiet : (u : ℕ) → e < u → u < e + 2400 → is_fall low u ≡ false
    quiet = quiet_slot seats begin low c (suc left) xs bits e s

    final : (if length bits % 10 == 9 then (if slice_index_or bits (length bits - 1) false then Some Complete else if length bits == 159 then Some Long else None) else None) ≡ last_ending bits
    final = refl

    -- at slot 160 without EOM it ends otherwise
    never_long : last_ending bits ≡ Some Long → ⊥
    never_long some = by (next_fall low e sample_at) refl (sym (ap (λ (o : Option Ending). after_slot low e o) some) ∙ ends)
      where
        by : (o : Option ℕ) → next_fall low e sample_at ≡ o → after_last e Long o ≡ Ends ending at → ⊥
        by None found k = short (sym (ends_as Long ending (e + sample_at) at k))
        by (Some f) found k =
            let x = found_first (is_fall low) (e + 1) sample_at f found in
            false≢true (sym (quiet f (omega (arith, x.after)) (omega (arith, x.within))) ∙ x.passes)

    by_ten : (b : Bool) → ((length bits + 1) % 10 == 0) ≡ b → LastSlot bits bit
    by_ten false ten =
        absurd (goes_further seats begin low c left xs bits e s bit d none (winner_in seats begin low c left xs bits e s ten bit d)
        (let v = winner_in seats begin low c left xs bits e s ten bit d in let fits = v.fits in let more = length-append bits (bit ∷ []) in let tens = length-frame_bits v.frame in
        let rest : (length bits + 1) % 10 ≢ 0 = grind (arith, nat_tests) in by_room (length bits) (length (bits ++ bit ∷ [])) (length (frame_bits v.frame)) (length v.frame) more fits tens rest)
        ending at ends)
      where
        none : last_ending bits ≡ None
        none = ap (λ (b : Bool). if b then (if slice_index_or bits (length bits - 1) false then Some Complete else if length bits == 159 then Some Long else None) else None) (nine_not (length bits) ten)

        by_room : (n more sent blocks : ℕ) → more ≡ n + 1 → more ≤ sent → sent ≡ 10 * blocks → (n + 1) % 10 ≢ 0 → n + 1 < sent
        by_room n more sent blocks a b t r = elim (cases_lt (n + 1) sent) [ inl lt ↦ lt | inr ge ↦ absurd (r (omega (arith, a, b, t, ge))) ]
    by_ten true ten = record {
      count = count;
      all = all;
      few = omega (arith, all, full);
      frame = w.frame;
      stays = w.stays;
      room = w.room;
      ends = by_eom (is_last (bits ++ bit ∷ []) count) (was_taken (bits ++ bit ∷ []) count) refl refl;
    }
      where
        count : ℕ
        count = (length bits + 1) / 10

        all : length bits + 1 ≡ 10 * ((length bits + 1) / 10)
        all = let z : (length bits + 1) % 10 ≡ 0 = is_ten (length bits + 1) ten in omega (arith, z)

        some : 0 < (length bits + 1) / 10
        some = omega (arith, all)

        nine : (length bits % 10 == 9) ≡ true
        nine = nine_is (length bits) ten

        eom_bit : is_last (bits ++ bit ∷ []) ((length bits + 1) / 10) ≡ false → slice_index_or bits (length bits - 1) false ≡ false
        eom_bit h =
            ap (λ (n : ℕ). get_or bits n false) (let x : length bits - 1 ≡ 10 * ((length bits + 1) / 10) - 1 - 1 = omega (arith, all) in x)
            ∙ sym (last_front bits (bit ∷ []) ((length bits + 1) / 10) some (omega (arith, all))) ∙ h

        by_last : slice_index_or bits (length bits - 1) false ≡ false → (b : Bool) → (length bits == 159) ≡ b → last_ending bits ≡ None
        by_last eom true h = absurd (never_long (
            ap (λ (x : Bool). if x then (if slice_index_or bits (length bits - 1) false then Some Complete else if length bits == 159 then Some Long else None) else None) nine
            ∙ ap (λ (x : Bool). if x then Some Complete else if length bits == 159 then Some Long else None) eom
            ∙ ap (λ (x : Bool). if x then Some Long else None) h))
        by_last eom false h =
            ap (λ (x : Bool). if x then (if slice_index_or bits (length bits - 1) false then Some Complete else if length bits == 159 then Some Long else None) else None) nine
            ∙ ap (λ (x : Bool). if x then Some Complete else if length bits == 159 then Some Long else None) eom
            ∙ ap (λ (x : Bool). if x then Some Long else None) h

        goes : is_last (bits ++ bit ∷ []) ((length bits + 1) / 10) ≡ false → was_taken (bits ++ bit ∷ []) ((length bits + 1) / 10) ≡ true → ⊥
        goes eom taken =
            goes_further seats begin low c left xs bits e s bit d (by_last (eom_bit eom) (length bits == 159) refl)
            (record {
              frame = w.frame;
              among = w.among;
              least = w.least;
              stays = stays_more bits (frame_bits w.frame) bit w.stays stayed;
              fits = let more = length-append bits (bit ∷ []) in let room = w.room in omega (arith, more, room);
            })
            (let room = w.room in let tens = length-frame_bits w.frame in
            let other : (length bits + 1) / 10 ≢ length w.frame =
            is_number ((length bits + 1) / 10) (length w.frame)
            (sym (sent_eom bits w.frame w.stays ((length bits + 1) / 10) some (omega (arith, all)) (omega (arith, all, room))) ∙ sym (last_front bits (bit ∷ []) ((length bits + 1) / 10) some (omega (arith, all))) ∙ eom) in
            by_room (length bits) ((length bits + 1) / 10) (length (frame_bits w.frame)) (length w.frame) all room tens other)
            ending at ends
          where
            stayed : leaves (bits ++ bit ∷ []) (frame_bits w.frame) (length bits + 1) ≡ false
            stayed =
                ap (λ (b : Bool). if b then not (beq (bit_read (bits ++ bit ∷ []) (length bits + 1)) (destination (bits ++ bit ∷ []) == 15)) else not (beq (bit_read (bits ++ bit ∷ []) (length bits + 1)) (slice_index_or (frame_bits w.frame) (length bits + 1 - 1) false))) ten
                ∙ ap (λ (n : ℕ). not (beq (bit_read (bits ++ bit ∷ []) n) (destination (bits ++ bit ∷ []) == 15))) all
                ∙ ap (λ (b : Bool). not b) taken

            by_room : (n count sent blocks : ℕ) → n + 1 ≡ 10 * count → n < sent → sent ≡ 10 * blocks → count ≢ blocks → n + 1 < sent
            by_room n count sent blocks a r t o = elim (cases_lt (n + 1) sent) [ inl lt ↦ lt | inr ge ↦ absurd (o (omega (arith, a, r, t, ge))) ]

        by_eom : (eom taken : Bool) → is_last (bits ++ bit ∷ []) ((length bits + 1) / 10) ≡ eom → was_taken (bits ++ bit ∷ []) ((length bits + 1) / 10) ≡ taken
            → (is_last (bits ++ bit ∷ []) ((length bits + 1) / 10) || not (was_taken (bits ++ bit ∷ []) ((length bits + 1) / 10))) ≡ true
        by_eom true taken a b = ap (λ (x : Bool). x || not (was_taken (bits ++ bit ∷ []) ((length bits + 1) / 10))) a
        by_eom false true a b = absurd (goes a b)
        by_eom false false a b = rw (a, b) refl

-- ---- slot by slot

abbrev AreBlocksOf : List Bool → Ending → Type 0
AreBlocksOf bits ending = ending ≢ Long → AreBlocks bits

abbrev BlocksLater : Line → ℕ → List Bool → List Bool → Option Bool → After → Type 0
BlocksLater low left before bits bit a = AreBlocksOf (before ++ cons_option bit (reported_slots (read_on (read_slots low left bits) a))) (read_on (read_slots low left bits) a).ending

slots_blocks : (seats : List Seat) (begin : ℕ) (low : Line) → Calm seats begin low → (left : ℕ) (xs : List Slot) (bits : List Bool) (e : ℕ) → OnSlot low begin left xs bits e → length bits + left ≡ 160 → 0 < left
    → AreBlocksOf (bits ++ reported_slots (read_slots low left bits e)) (read_slots low left bits e).ending
unfolding read_slots
slots_blocks seats begin low c zero xs bits e s all some = absurd (omega arith)
slots_blocks seats begin low c (suc left) xs bits e s all some =
    by_bit (slot_low seats begin low c left xs bits e s) (after_slot low e (last_ending bits)) refl
    (λ f more room on. slots_blocks seats begin low c left (xs ++ record { fall = e; bit = bit_sampled_at low e } ∷ []) (bits ++ option_to_list (bit_sampled_at low e)) f on more room)
  where
    More : Type 0
    More = (f : ℕ) → length (bits ++ option_to_list (bit_sampled_at low e)) + left ≡ 160 → 0 < left → OnSlot low begin left (xs ++ record { fall = e; bit = bit_sampled_at low e } ∷ []) (bits ++ option_to_list (bit_sampled_at low e)) f
        → AreBlocksOf ((bits ++ option_to_list (bit_sampled_at low e)) ++ reported_slots (read_slots low left (bits ++ option_to_list (bit_sampled_at low e)) f)) (read_slots low left (bits ++ option_to_list (bit_sampled_at low e)) f).ending

    by_after : (bit : Bool) → SlotLow low e bit → (a : After) → after_slot low e (last_ending bits) ≡ a → More → BlocksLater low left bits (bits ++ option_to_list (bit_sampled_at low e)) (Some bit) a
    by_after bit d (Next f) h ih =
        let n = on_next seats begin low c left xs bits e s all bit d f h in
        let m = ih f n.2 n.3 n.1 in
        let rest : List Bool = reported_slots (read_slots low left (bits ++ option_to_list (bit_sampled_at low e)) f) in
        let same : (bits ++ option_to_list (bit_sampled_at low e)) ++ rest ≡ bits ++ bit ∷ rest = ap (λ (o : Option Bool). (bits ++ option_to_list o) ++ rest) d.read ∙ append_assoc bits (bit ∷ []) rest in
        subst (λ (ys : List Bool). AreBlocksOf ys (read_slots low left (bits ++ option_to_list (bit_sampled_at low e)) f).ending) same m
    by_after bit d (Ends ending at) h ih = λ short. are_blocks bits bit (last_slot seats begin low c left xs bits e s all bit d ending at h short)

    by_bit : (bit : Bool) × SlotLow low e bit → (a : After) → after_slot low e (last_ending bits) ≡ a → More
        → BlocksLater low left bits (bits ++ option_to_list (bit_sampled_at low e)) (bit_sampled_at low e) (after_slot low e (last_ending bits))
    by_bit d a h ih =
        subst (λ (b : After). BlocksLater low left bits (bits ++ option_to_list (bit_sampled_at low e)) (bit_sampled_at low e) b) (sym h)
        (subst (λ (o : Option Bool). BlocksLater low left bits (bits ++ option_to_list (bit_sampled_at low e)) o a) (sym d.1.read) (by_after d.0 d.1 a h ih))

-- ---- a round

pub rounds_are_blocks : RoundsAreBlocks
rounds_are_blocks seats begin o frames r h short =
    let bits : o.reading.bits.items ≡ reported_slots (read_slots low 160 [] (begin + 4500)) = r.bits ∙ ap (λ (q : Result ℕ ℕ). bits_of (read_start low begin q)) (starts seats begin low s) in
    let ending : o.reading.ending ≡ (read_slots low 160 [] (begin + 4500)).ending = r.ending ∙ ap (λ (q : Result ℕ ℕ). (read_start low begin q).ending) (starts seats begin low s) in
    subst AreBlocks (sym bits) (d (subst (λ (x : Ending). x ≢ Long) ending short))
  where
    low : Line
    low = line_of o.wave

    s : nominal.Sent seats begin low
    s = sent_first seats begin low (record { line = r.line; frames = frames }) h

    d : AreBlocksOf (reported_slots (read_slots low 160 [] (begin + 4500))) (read_slots low 160 [] (begin + 4500)).ending
    d = slots_blocks seats begin low s.calm 160 [] [] (begin + 4500) (record { reached = reached_start low begin (begin + 4500) (starts seats begin low s); time = omega arith; count = refl; fall = slot_falls seats begin low s }) refl (omega arith)
