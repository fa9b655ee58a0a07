-- Where a round's line falls: acknowledgers and those who pull after a fall too early make no fall.
use Rattle.std.proofs.Common.{◌≡◌, ℕ, zero, suc, ◌+◌, ◌-◌, ◌*◌, ◌%◌, ◌==◌, ◌<◌, ◌≤◌, Bool, true, false, not, ◌&&◌, ◌||◌, nat_lt, nat_le, if◌then◌else◌, List, [], ◌∷◌, ◌++◌, length, slice_index_or, slice_get, ◌⊎◌, inl, inr, Option, Some, None, is_none, refl, arith, ap, ◌∙◌, sym, subst}
use Rattle.std.specs.List.{enumerate_from, Any, list_any, All}
use mathlib.Core.Bool.{beq}
use Rattle.std.proofs.lemmas.Bool.{cases_lt}
use Rattle.std.proofs.lemmas.Bool.Decides.{nat_tests}
use Rattle.line_wave.specs.declared.Stretch.{Stretch}
use Rattle.line_wave.specs.Line.{Line, line_of, covers, was_low, is_fall}
use Rattle.line_wave.specs.Sender.{sender_stretches, slot_stretches}
use Rattle.line_frames.specs.Bits.{frame_bits}
use Rattle.line_frames.specs.declared.Ending.{Ending}
use Rattle.line_frames.specs.declared.Ending.TheVariants.{Complete, Short, Silent, BadStart, Long, Open}
use Rattle.line_reading.specs.Windows.{sample_at}
use Rattle.line_reading.specs.Reading.{Read, Slot, End, Known, known_at, known_slot, known_slots, reading_of, start_of}
use Rattle.line_reading.proofs.Ends.{at_by}
use Rattle.line_rounds.specs.declared.Seat.{Seat}
use Rattle.line_reading.specs.Sending.{bit_read, destination, known_bits, is_whole, is_out_by, out_slot, goes_on, sender_pulls}
use Rattle.line_rounds.specs.Round.{frames_of, is_within, acknowledges, pulse_pulls, is_acknowledged, is_broken, pulled_by}
use Rattle.line_rounds.specs.Contend.{pulled_through, Stays}
use Rattle.line_rounds.proofs.Differ.{any_in, in_any, or_right}
use Rattle.line_rounds.proofs.Early.{no_fall, and_left, and_right, find_none, stays_before, or_cases}
use Rattle.line_rounds.proofs.Inside.{not_whole, heard_start, stays_by}
use Rattle.line_rounds.proofs.Law.{not_true, all_in, pulled_then}
use Rattle.line_frames.proofs.Slots.{length-frame_bits}
use Rattle.line_rounds.specs.Falls.{IsPullBegin}
use Rattle.line_rounds.specs.Made.{RoundFallBy, BeginsSlot, FallBy}
use Rattle.line_rounds.specs.Elements.{In}
use Rattle.line_rounds.specs.Slots.{AreSpaced, AreFalls, Spans}
use Rattle.line_rounds.proofs.Hold.{acknowledgers_hold}
use Rattle.line_rounds.proofs.Spans.{reading_spans, bits_more, reported_all}

-- where these frames are sent, the line is low at t if somebody pulls
abbrev pub Keeps : List (List ℕ) → List Seat → ℕ → List Stretch → Line → ℕ → Type 0
Keeps fs seats begin pulses low t = pulled_by fs seats begin pulses (was_low low t) (known_at t (reading_of low begin)) t ≡ true → low t ≡ true

-- and only then, or where a sender pulls through the ending's instant
abbrev pub Makes : List (List ℕ) → List Seat → ℕ → List Stretch → Line → ℕ → Type 0
Makes fs seats begin pulses low t = low t ≡ true → pulled_through fs seats begin pulses (was_low low t) (known_at t (reading_of low begin)) t ≡ true

-- ---- a sender's stretches

-- a stretch of the slots begins here, or holds the microsecond before
slot_begin : (bits : List Bool) (n t : ℕ) → line_of (slot_stretches n bits) t ≡ true
    → ((k : ℕ) × (k < length bits) × (t ≡ n + 2400 * k)) ⊎ ((0 < t) × (line_of (slot_stretches n bits) (t - 1) ≡ true))
slot_begin [] n t h = cc
slot_begin (b ∷ bits) n t h =
    by_first (or_cases (covers (record { from = n; to = n + (if b then 600 else 1500) }) t) (line_of (slot_stretches (n + 2400) bits) t) h) (slot_begin bits (n + 2400) t)
  where
    first : Stretch
    first = record { from = n; to = n + (if b then 600 else 1500) }

    low_end : covers first t ≡ true → n ≤ t
    low_end c = let x : nat_le n t ≡ true = and_left (nat_le n t) (nat_lt t first.to) c in grind (arith, nat_tests)

    high_end : covers first t ≡ true → t < first.to
    high_end c = let x : nat_lt t first.to ≡ true = and_right (nat_le n t) (nat_lt t first.to) c in grind (arith, nat_tests)

    here : n < t → t < first.to → covers first (t - 1) ≡ true
    here l m = let x : nat_le n (t - 1) ≡ true = grind (arith, nat_tests) in let y : nat_lt (t - 1) first.to ≡ true = grind (arith, nat_tests) in rw (x, y) refl

    later : ((k : ℕ) × (k < length bits) × (t ≡ n + 2400 + 2400 * k)) ⊎ ((0 < t) × (line_of (slot_stretches (n + 2400) bits) (t - 1) ≡ true))
        → ((k : ℕ) × (k < length (b ∷ bits)) × (t ≡ n + 2400 * k)) ⊎ ((0 < t) × (line_of (slot_stretches n (b ∷ bits)) (t - 1) ≡ true))
    later (inl q) = inl (suc q.0, omega (arith, q.1), omega (arith, q.2))
    later (inr q) = inr (q.0, or_right (covers first (t - 1)) (line_of (slot_stretches (n + 2400) bits) (t - 1)) q.1)

    by_first : (covers first t ≡ true) ⊎ (line_of (slot_stretches (n + 2400) bits) t ≡ true)
        → (line_of (slot_stretches (n + 2400) bits) t ≡ true → ((k : ℕ) × (k < length bits) × (t ≡ n + 2400 + 2400 * k)) ⊎ ((0 < t) × (line_of (slot_stretches (n + 2400) bits) (t - 1) ≡ true)))
        → ((k : ℕ) × (k < length (b ∷ bits)) × (t ≡ n + 2400 * k)) ⊎ ((0 < t) × (line_of (slot_stretches n (b ∷ bits)) (t - 1) ≡ true))
    by_first (inl c) ih =
        elim (cases_lt n t) [
          | inl lt ↦ (let x : covers first (t - 1) ≡ true = here lt (high_end c) in inr (omega arith, rw x refl))
          | inr ge ↦ (let l = low_end c in inl (0, omega arith, omega arith))
        ]
    by_first (inr g) ih = later (ih g)

pub sender_begin : (begin t : ℕ) (bits : List Bool) → line_of (sender_stretches begin bits) t ≡ true
    → ((t ≡ begin) ⊎ BeginsSlot begin t (length bits)) ⊎ ((0 < t) × (line_of (sender_stretches begin bits) (t - 1) ≡ true))
sender_begin begin t bits h = by_first (or_cases (covers first t) (line_of (slot_stretches (begin + 4500) bits) t) h)
  where
    first : Stretch
    first = record { from = begin; to = begin + 3700 }

    by_slots : ((k : ℕ) × (k < length bits) × (t ≡ begin + 4500 + 2400 * k)) ⊎ ((0 < t) × (line_of (slot_stretches (begin + 4500) bits) (t - 1) ≡ true))
        → ((t ≡ begin) ⊎ BeginsSlot begin t (length bits)) ⊎ ((0 < t) × (line_of (sender_stretches begin bits) (t - 1) ≡ true))
    by_slots (inl q) = inl (inr (q.0, q.1, q.2))
    by_slots (inr q) = inr (q.0, or_right (covers first (t - 1)) (line_of (slot_stretches (begin + 4500) bits) (t - 1)) q.1)

    by_first : (covers first t ≡ true) ⊎ (line_of (slot_stretches (begin + 4500) bits) t ≡ true)
        → ((t ≡ begin) ⊎ BeginsSlot begin t (length bits)) ⊎ ((0 < t) × (line_of (sender_stretches begin bits) (t - 1) ≡ true))
    by_first (inl c) =
        let l : nat_le begin t ≡ true = and_left (nat_le begin t) (nat_lt t (begin + 3700)) c in
        let m : nat_lt t (begin + 3700) ≡ true = and_right (nat_le begin t) (nat_lt t (begin + 3700)) c in
        elim (cases_lt begin t) [
          | inl lt ↦ (let x : nat_le begin (t - 1) ≡ true = grind (arith, nat_tests) in let y : nat_lt (t - 1) (begin + 3700) ≡ true = grind (arith, nat_tests) in
              inr (omega arith, rw (x, y) refl))
          | inr ge ↦ (let g : begin ≤ t = grind (arith, nat_tests) in inl (inl (omega arith)))
        ]
    by_first (inr g) = by_slots (slot_begin bits (begin + 4500) t g)

-- ---- who pulled at t, and was to pull just before

-- a sender that is not out by all that is known is not out
pub out_none : (k : Known) (sent : List Bool) → Stays (known_bits k) sent → out_slot k sent ≡ None
out_none k sent h = find_none (is_out_by (known_bits k) (is_whole k.ended) sent) 1 (length (known_bits k)) (λ n l m. step n (n % 10 == 0) refl (h n l (omega arith)))
  where
    step : (n : ℕ) (c : Bool) → (n % 10 == 0) ≡ c
        → (if c then not (beq (bit_read (known_bits k) n) (destination (known_bits k) == 15)) else not (beq (bit_read (known_bits k) n) (slice_index_or sent (n - 1) false))) ≡ false
        → (if c then not (is_whole k.ended && (n == length (known_bits k))) && not (beq (bit_read (known_bits k) n) (destination (known_bits k) == 15))
        else not (beq (bit_read (known_bits k) n) (slice_index_or sent (n - 1) false))) ≡ false
    step n true e g = rw g (and_no (not (is_whole k.ended && (n == length (known_bits k)))))
      where
        and_no : (b : Bool) → (b && false) ≡ false
        and_no true = refl
        and_no false = refl
    step n false e g = g

pub is_no : {X : Type 0} (o : Option X) → is_none o ≡ true → o ≡ None
is_no None h = refl
is_no (Some x) h = cc

pub sender_before : (low : Line) (begin t : ℕ) (f : List ℕ) → 0 < t → line_of (sender_stretches begin (frame_bits f)) (t - 1) ≡ true
    → sender_pulls begin (known_at t (reading_of low begin)) t f ≡ true → sender_pulls begin (known_at (t - 1) (reading_of low begin)) (t - 1) f ≡ true
sender_before low begin t f p lows h = rw (lows, out_u, go_u) refl
  where
    r : Read
    r = reading_of low begin

    k : Known
    k = known_at t (reading_of low begin)

    n : Known
    n = known_at (t - 1) (reading_of low begin)

    more : (is_none (out_slot k (frame_bits f)) && goes_on k.ended t) ≡ true
    more = and_right (line_of (sender_stretches begin (frame_bits f)) t) _ h

    out_t : out_slot k (frame_bits f) ≡ None
    out_t = is_no (out_slot k (frame_bits f)) (and_left (is_none (out_slot k (frame_bits f))) _ more)

    go_t : goes_on k.ended t ≡ true
    go_t = and_right (is_none (out_slot k (frame_bits f))) _ more

    stays_t : Stays (known_bits k) (frame_bits f)
    stays_t = stays_by k (frame_bits f) (not_whole t (reading_of low begin) (heard_start low begin (start_of low begin)) go_t) out_t

    reported : (ys : List Bool) × (known_bits k ≡ known_bits n ++ ys)
    reported = bits_more (t - 1) t (reading_of low begin).slots 0 (reading_spans low begin).spaced (omega arith)

    stays_u : Stays (known_bits n) (frame_bits f)
    stays_u = stays_before (known_bits n) reported.0 (frame_bits f) (subst (λ (b : List Bool). Stays b (frame_bits f)) reported.1 stays_t)

    out_u : out_slot n (frame_bits f) ≡ None
    out_u = out_none n (frame_bits f) stays_u

    go_u : goes_on n.ended (t - 1) ≡ true
    go_u = step (nat_lt (reading_of low begin).until (t - 1)) refl
      where
        step : (b : Bool) → nat_lt (reading_of low begin).until (t - 1) ≡ b
            → goes_on (if b then Some (record { ending = (reading_of low begin).ending; at = (reading_of low begin).at; until = (reading_of low begin).until }) else None) (t - 1) ≡ true
        step false e = refl
        step true e =
            let l : (reading_of low begin).until < t - 1 = grind (arith, nat_tests) in
            let y : nat_lt (reading_of low begin).until t ≡ true = grind (arith, nat_tests) in
            let g : goes_on (if true then Some (record { ending = (reading_of low begin).ending; at = (reading_of low begin).at; until = (reading_of low begin).until }) else None) t ≡ true =
            subst (λ (b : Bool). goes_on (if b then Some (record { ending = (reading_of low begin).ending; at = (reading_of low begin).at; until = (reading_of low begin).until }) else None) t ≡ true) y go_t in
            let m : nat_le t (reading_of low begin).at ≡ true = g in
            grind (arith, nat_tests)

-- it pulls by the instant of the ending at the latest, so just before the reading was not over
pub within_before : (low : Line) (begin t : ℕ) → goes_on (known_at t (reading_of low begin)).ended t ≡ true → is_within (known_at (t - 1) (reading_of low begin)).ended (t - 1) ≡ true
within_before low begin t g = by (nat_lt (reading_of low begin).until (t - 1)) refl
  where
    by : (b : Bool) → nat_lt (reading_of low begin).until (t - 1) ≡ b
        → is_within (if b then Some (record { ending = (reading_of low begin).ending; at = (reading_of low begin).at; until = (reading_of low begin).until }) else None) (t - 1) ≡ true
    by false e = refl
    by true e =
        let l : (reading_of low begin).until < t - 1 = grind (arith, nat_tests) in
        let y : nat_lt (reading_of low begin).until t ≡ true = grind (arith, nat_tests) in
        let m : nat_le t (reading_of low begin).at ≡ true =
        subst (λ (b : Bool). goes_on (if b then Some (record { ending = (reading_of low begin).ending; at = (reading_of low begin).at; until = (reading_of low begin).until }) else None) t ≡ true) y g in
        let n : t ≤ (reading_of low begin).at = grind (arith, nat_tests) in
        absurd (omega (arith, at_by low begin))

-- ---- acknowledgers

any_same : {X : Type 0} (p q : X → Bool) (xs : List X) → ((x : X) → p x ≡ q x) → list_any p xs ≡ list_any q xs
any_same p q [] h = refl
any_same p q (x ∷ xs) h = rw (h x, any_same p q xs h) refl

-- a slot that is known at t and passes a test
found_slot : (test : ℕ × Slot → Bool) (t : ℕ) (ss : List Slot) (n : ℕ) → list_any test (enumerate_from n (known_slots t ss)) ≡ true
    → (i : ℕ) × (s : Slot) × (slice_get ss i ≡ Some s) × (s.fall < t) × (test (n + i, known_slot t s) ≡ true)
found_slot test t [] n h = cc
found_slot test t (x ∷ ss) n h = by_fall (nat_lt x.fall t) refl h (λ g. found_slot test t ss (n + 1) g)
  where
    later : ((i : ℕ) × (s : Slot) × (slice_get ss i ≡ Some s) × (s.fall < t) × (test (n + 1 + i, known_slot t s) ≡ true))
        → (i : ℕ) × (s : Slot) × (slice_get (x ∷ ss) i ≡ Some s) × (s.fall < t) × (test (n + i, known_slot t s) ≡ true)
    later q = let e : n + 1 + q.0 ≡ n + suc q.0 = omega arith in (suc q.0, q.1, q.2, q.3, subst (λ m. test (m, known_slot t q.1) ≡ true) e q.4)

    here : nat_lt x.fall t ≡ true → test (n, known_slot t x) ≡ true → (i : ℕ) × (s : Slot) × (slice_get (x ∷ ss) i ≡ Some s) × (s.fall < t) × (test (n + i, known_slot t s) ≡ true)
    here e q = let l : x.fall < t = grind (arith, nat_tests) in let z : n ≡ n + 0 = omega arith in (0, x, refl, l, subst (λ m. test (m, known_slot t x) ≡ true) z q)

    by_fall : (b : Bool) → nat_lt x.fall t ≡ b → list_any test (enumerate_from n (if b then known_slot t x ∷ known_slots t ss else [])) ≡ true
        → (list_any test (enumerate_from (n + 1) (known_slots t ss)) ≡ true → (i : ℕ) × (s : Slot) × (slice_get ss i ≡ Some s) × (s.fall < t) × (test (n + 1 + i, known_slot t s) ≡ true))
        → (i : ℕ) × (s : Slot) × (slice_get (x ∷ ss) i ≡ Some s) × (s.fall < t) × (test (n + i, known_slot t s) ≡ true)
    by_fall false e g ih = cc
    by_fall true e g ih =
        elim (or_cases (test (n, known_slot t x)) (list_any test (enumerate_from (n + 1) (known_slots t ss))) g) [ inl a ↦ here e a | inr b ↦ later (ih b) ]

fall_in : (ss : List Slot) (from i : ℕ) (s : Slot) → AreSpaced from ss → slice_get ss i ≡ Some s → from ≤ s.fall
fall_in [] from i s a h = cc
fall_in (x ∷ ss) from zero s a h = let e : x ≡ s = cc in let f : x.fall ≡ s.fall = ap (λ (y : Slot). y.fall) e in omega (arith, a.0)
fall_in (x ∷ ss) from (suc i) s a h = omega (arith, a.0, fall_in ss (x.fall + (sample_at + 1)) i s a.1 h)

made_slot : (test : ℕ × Slot → Bool) (u : ℕ) (ss : List Slot) (from n m i : ℕ) (s : Slot) → AreSpaced from ss → slice_get ss i ≡ Some s → s.fall < u → m ≡ n + i → test (m, known_slot u s) ≡ true
    → list_any test (enumerate_from n (known_slots u ss)) ≡ true
made_slot test u [] from n m i s a h l e q = cc
made_slot test u (x ∷ ss) from n m zero s a h l e q =
    let y : x ≡ s = cc in
    let f : x.fall ≡ s.fall = ap (λ (z : Slot). z.fall) y in
    let g : nat_lt x.fall u ≡ true = grind (arith, nat_tests) in
    let z : m ≡ n = omega arith in
    let k : test (n, known_slot u x) ≡ true = subst (λ (w : Slot). test (n, known_slot u w) ≡ true) (sym y) (subst (λ c. test (c, known_slot u s) ≡ true) z q) in
    ap (λ b. list_any test (enumerate_from n (if b then known_slot u x ∷ known_slots u ss else []))) g ∙ rw k refl
made_slot test u (x ∷ ss) from n m (suc i) s a h l e q =
    let b : x.fall + (sample_at + 1) ≤ s.fall = fall_in ss (x.fall + (sample_at + 1)) i s a.1 h in
    let g : nat_lt x.fall u ≡ true = grind (arith, nat_tests) in
    ap (λ b. list_any test (enumerate_from n (if b then known_slot u x ∷ known_slots u ss else []))) g
    ∙ or_right (test (n, known_slot u x)) (list_any test (enumerate_from (n + 1) (known_slots u ss))) (made_slot test u ss (x.fall + (sample_at + 1)) (n + 1) m i s a.1 h l (omega arith) q)

falls_at : (low : Line) (ss : List Slot) (i : ℕ) (s : Slot) → AreFalls low ss → slice_get ss i ≡ Some s → is_fall low s.fall ≡ true
falls_at low [] i s f h = cc
falls_at low (x ∷ ss) zero s f h = let e : x ≡ s = cc in ap (λ (y : Slot). is_fall low y.fall) (sym e) ∙ f.0
falls_at low (x ∷ ss) (suc i) s f h = falls_at low ss i s f.1 h

-- an acknowledger that pulls at t pulled just before, or the slot fell there
ack_before : (low : Line) (seats : List Seat) (begin t : ℕ) → is_acknowledged seats (known_at t (reading_of low begin)) t ≡ true
    → (0 < t) × ((low (t - 1) ≡ true) ⊎ (is_acknowledged seats (known_at (t - 1) (reading_of low begin)) (t - 1) ≡ true))
ack_before low seats begin t h = (omega (arith, q.3), by_fall (cases_lt q.1.fall (t - 1)))
  where
    r : Read
    r = reading_of low begin

    test : ℕ → ℕ × Slot → Bool
    test u slot = (slot.0 % 10 == 0) && (nat_lt u (slot.1.fall + 1500) && list_any (acknowledges (known_at u (reading_of low begin)) slot.0) seats)

    q : (i : ℕ) × (s : Slot) × (slice_get (reading_of low begin).slots i ≡ Some s) × (s.fall < t) × (test t (1 + i, known_slot t s) ≡ true)
    q = found_slot (test t) t (reading_of low begin).slots 1 h

    ten : ((1 + q.0) % 10 == 0) ≡ true
    ten = and_left ((1 + q.0) % 10 == 0) _ q.4

    ten2 : ((q.0 + 1) % 10 == 0) ≡ true
    ten2 = let e : 1 + q.0 ≡ q.0 + 1 = omega arith in subst (λ m. (m % 10 == 0) ≡ true) e ten

    rest : (nat_lt t (q.1.fall + 1500) && list_any (acknowledges (known_at t (reading_of low begin)) (1 + q.0)) seats) ≡ true
    rest = and_right ((1 + q.0) % 10 == 0) _ q.4

    within : nat_lt t (q.1.fall + 1500) ≡ true
    within = and_left (nat_lt t (q.1.fall + 1500)) _ rest

    acks : list_any (acknowledges (known_at t (reading_of low begin)) (q.0 + 1)) seats ≡ true
    acks = let e : 1 + q.0 ≡ q.0 + 1 = omega arith in
        subst (λ m. list_any (acknowledges (known_at t (reading_of low begin)) m) seats ≡ true) e (and_right (nat_lt t (q.1.fall + 1500)) _ rest)

    by_fall : (q.1.fall < t - 1) ⊎ (t - 1 ≤ q.1.fall) → (low (t - 1) ≡ true) ⊎ (is_acknowledged seats (known_at (t - 1) (reading_of low begin)) (t - 1) ≡ true)
    by_fall (inr ge) =
        let e : q.1.fall ≡ t - 1 = omega (arith, q.3) in
        let f : is_fall low q.1.fall ≡ true = falls_at low (reading_of low begin).slots q.0 q.1 (reading_spans low begin).falls q.2 in
        inl (subst (λ u. low u ≡ true) e (and_left (low q.1.fall) _ f))
    by_fall (inl lt) =
        let m : t < q.1.fall + 1500 = grind (arith, nat_tests) in
        let w : nat_lt (t - 1) (q.1.fall + 1500) ≡ true = grind (arith, nat_tests) in
        let same : (seat : Seat) → acknowledges (known_at t (reading_of low begin)) (q.0 + 1) seat ≡ acknowledges (known_at (t - 1) (reading_of low begin)) (q.0 + 1) seat =
        λ seat. acknowledgers_hold low begin q.0 q.1 q.2 ten2 t (omega (arith, q.3)) m seat
        ∙ sym (acknowledgers_hold low begin q.0 q.1 q.2 ten2 (t - 1) lt (omega arith) seat) in
        let acks2 : list_any (acknowledges (known_at (t - 1) (reading_of low begin)) (q.0 + 1)) seats ≡ true =
        sym (any_same (acknowledges (known_at t (reading_of low begin)) (q.0 + 1)) (acknowledges (known_at (t - 1) (reading_of low begin)) (q.0 + 1)) seats same) ∙ acks in
        let one : test (t - 1) (q.0 + 1, known_slot (t - 1) q.1) ≡ true = rw (ten2, w, acks2) refl in
        inr (made_slot (test (t - 1)) (t - 1) (reading_of low begin).slots 0 1 (q.0 + 1) q.0 q.1 (reading_spans low begin).spaced q.2 lt (omega arith) one)

-- ---- those who pull after a fall too early

short_only : (seats : List Seat) (k : Known) (t at until : ℕ) (ending : Ending) → is_broken seats k t (Some (record { ending = ending; at = at; until = until })) ≡ true → ending ≡ Short
short_only seats k t at until Short h = refl
short_only seats k t at until Complete h = cc
short_only seats k t at until Silent h = cc
short_only seats k t at until BadStart h = cc
short_only seats k t at until Long h = cc
short_only seats k t at until Open h = cc

still_broken : (seats : List Seat) (k : Known) (u t at until : ℕ) (ending : Ending) → u ≤ t → is_broken seats k t (Some (record { ending = ending; at = at; until = until })) ≡ true
    → is_broken seats k u (Some (record { ending = ending; at = at; until = until })) ≡ true
still_broken seats k u t at until Short l h =
    let a : nat_lt t (at + 3600) ≡ true = and_left (nat_lt t (at + 3600)) _ h in
    let b : nat_lt u (at + 3600) ≡ true = grind (arith, nat_tests) in
    rw b (and_right (nat_lt t (at + 3600)) _ h)
still_broken seats k u t at until Complete l h = cc
still_broken seats k u t at until Silent l h = cc
still_broken seats k u t at until BadStart l h = cc
still_broken seats k u t at until Long l h = cc
still_broken seats k u t at until Open l h = cc

broken_before : (low : Line) (seats : List Seat) (begin t : ℕ) → is_broken seats (known_at t (reading_of low begin)) t (known_at t (reading_of low begin)).ended ≡ true
    → (0 < t) × ((low (t - 1) ≡ true) ⊎ (is_broken seats (known_at (t - 1) (reading_of low begin)) (t - 1) (known_at (t - 1) (reading_of low begin)).ended ≡ true))
broken_before low seats begin t h = by_end (nat_lt r.until t) refl h
  where
    r : Read
    r = reading_of low begin

    d : Spans low 0 (reading_of low begin)
    d = reading_spans low begin

    end : End
    end = record { ending = (reading_of low begin).ending; at = (reading_of low begin).at; until = (reading_of low begin).until }

    by_time : nat_lt r.until t ≡ true → is_broken seats (known_at t (reading_of low begin)) t (Some end) ≡ true → r.ending ≡ Short → (r.until < t - 1) ⊎ (t - 1 ≤ r.until)
        → (low (t - 1) ≡ true) ⊎ (is_broken seats (known_at (t - 1) (reading_of low begin)) (t - 1) (known_at (t - 1) (reading_of low begin)).ended ≡ true)
    by_time e g s (inr ge) =
        let l : r.until < t = grind (arith, nat_tests) in
        let m : (reading_of low begin).at ≡ t - 1 = omega (arith, (d.short s).1) in
        inl (subst (λ u. low u ≡ true) m (and_left (low (reading_of low begin).at) _ (d.short s).0))
    by_time e g s (inl lt) =
        let f : nat_lt (reading_of low begin).until (t - 1) ≡ true = grind (arith, nat_tests) in
        let same : known_slots (t - 1) (reading_of low begin).slots ≡ known_slots t (reading_of low begin).slots = reported_all (t - 1) t (reading_of low begin).until (reading_of low begin).slots d.reported lt (omega arith) in
        let e2 : Some end ≡ (known_at t (reading_of low begin)).ended = ap (λ (b : Bool). if b then Some end else None) (sym e) in
        let e3 : Some end ≡ (known_at (t - 1) (reading_of low begin)).ended = ap (λ (b : Bool). if b then Some end else None) (sym f) in
        let k : known_at t (reading_of low begin) ≡ known_at (t - 1) (reading_of low begin) =
        ap (λ (ss : List Slot). let n : Known = record { slots = ss; ended = (known_at t (reading_of low begin)).ended } in n) (sym same)
        ∙ ap (λ (o : Option End). let n : Known = record { slots = known_slots (t - 1) (reading_of low begin).slots; ended = o } in n) (sym e2 ∙ e3) in
        let b : is_broken seats (known_at t (reading_of low begin)) (t - 1) (Some end) ≡ true = still_broken seats (known_at t (reading_of low begin)) (t - 1) t (reading_of low begin).at (reading_of low begin).until (reading_of low begin).ending (omega arith) g in
        inr (subst (λ (o : Option End). is_broken seats (known_at (t - 1) (reading_of low begin)) (t - 1) o ≡ true) e3
        (subst (λ (n : Known). is_broken seats n (t - 1) (Some end) ≡ true) k b))

    by_end : (b : Bool) → nat_lt r.until t ≡ b → is_broken seats (known_at t (reading_of low begin)) t (if b then Some end else None) ≡ true
        → (0 < t) × ((low (t - 1) ≡ true) ⊎ (is_broken seats (known_at (t - 1) (reading_of low begin)) (t - 1) (known_at (t - 1) (reading_of low begin)).ended ≡ true))
    by_end false e g = cc
    by_end true e g =
        let l : r.until < t = grind (arith, nat_tests) in
        (omega arith, by_time e g (short_only seats (known_at t (reading_of low begin)) t (reading_of low begin).at (reading_of low begin).until (reading_of low begin).ending g) (cases_lt r.until (t - 1)))

-- ---- the four who pull

or_left : (a b : Bool) → a ≡ true → (a || b) ≡ true
or_left true b h = refl
or_left false b h = cc

any_from : (P : Stretch → Type 0) (ps : List Stretch) (p : Stretch) → In p ps → P p → Any P ps
any_from P [] p i h = absurd i
any_from P (q ∷ ps) p (inl e) h = (0, q, omega arith, refl, subst P e h)
any_from P (q ∷ ps) p (inr i) h = let r = any_from P ps p i h in (suc r.0, r.1, omega (arith, r.2), r.3, r.4)

-- A fall is where a sender's stretch or a pulse begins. Of the line it takes the rule at that instant and just before.
pub fall_by : (fs : List (List ℕ)) (seats : List Seat) (begin : ℕ) (pulses : List Stretch) (low : Line) (t : ℕ)
    → Makes fs seats begin pulses low t → (0 < t → Keeps fs seats begin pulses low (t - 1)) → is_fall low t ≡ true → FallBy fs begin pulses low t
fall_by fs seats begin pulses low t now before fall =
    elim (or_cases (list_any (pulse_pulls begin k.ended (was_low low t) t) pulses) _ made) [
      | inl a ↦ by_pulse (in_any (pulse_pulls begin k.ended (was_low low t) t) pulses a)
      | inr b ↦ elim (or_cases (list_any (sender_pulls begin k t) fs) _ b) [
        | inl a ↦ by_sender (in_any (sender_pulls begin k t) fs a)
        | inr c ↦ elim (or_cases (is_acknowledged seats k t) _ c) [
          | inl a ↦ by_ack (ack_before low seats begin t a)
          | inr d ↦ by_break (broken_before low seats begin t d)
        ]
      ]
    ]
  where
    k : Known
    k = known_at t (reading_of low begin)

    n : Known
    n = known_at (t - 1) (reading_of low begin)

    Goal : Type 0
    Goal = FallBy fs begin pulses low t

    made : pulled_through fs seats begin pulses (was_low low t) (known_at t (reading_of low begin)) t ≡ true
    made = now (and_left (low t) _ fall)

    -- nobody pulled just before
    never : 0 < t → pulled_by fs seats begin pulses (was_low low (t - 1)) (known_at (t - 1) (reading_of low begin)) (t - 1) ≡ true → ⊥
    never p h = no_fall low t fall p (before p h)

    by_ack : (0 < t) × ((low (t - 1) ≡ true) ⊎ (is_acknowledged seats (known_at (t - 1) (reading_of low begin)) (t - 1) ≡ true)) → FallBy fs begin pulses low t
    by_ack q = absurd (elim q.1 [
      | inl a ↦ no_fall low t fall q.0 a
      | inr b ↦ never q.0 (or_right (list_any (pulse_pulls begin n.ended (was_low low (t - 1)) (t - 1)) pulses) _
          (or_right (list_any (sender_pulls begin n (t - 1)) fs && (is_within n.ended (t - 1) || was_low low (t - 1))) _ (or_left (is_acknowledged seats n (t - 1)) _ b)))
    ])

    by_break : (0 < t) × ((low (t - 1) ≡ true) ⊎ (is_broken seats (known_at (t - 1) (reading_of low begin)) (t - 1) (known_at (t - 1) (reading_of low begin)).ended ≡ true)) → FallBy fs begin pulses low t
    by_break q = absurd (elim q.1 [
      | inl a ↦ no_fall low t fall q.0 a
      | inr b ↦ never q.0 (or_right (list_any (pulse_pulls begin n.ended (was_low low (t - 1)) (t - 1)) pulses) _
          (or_right (list_any (sender_pulls begin n (t - 1)) fs && (is_within n.ended (t - 1) || was_low low (t - 1))) _ (or_right (is_acknowledged seats n (t - 1)) _ b)))
    ])

    by_sender : (f : List ℕ) × In f fs × (sender_pulls begin (known_at t (reading_of low begin)) t f ≡ true) → FallBy fs begin pulses low t
    by_sender q =
        elim (sender_begin begin t (frame_bits q.0) (and_left (line_of (sender_stretches begin (frame_bits q.0)) t) _ q.2)) [
          | inl (inl e) ↦ inl e
          | inl (inr s) ↦ inr (inl (q.0, q.1, q.2, s))
          | inr l ↦ absurd (never l.0 (or_right (list_any (pulse_pulls begin n.ended (was_low low (t - 1)) (t - 1)) pulses) _
              (or_left (list_any (sender_pulls begin n (t - 1)) fs && (is_within n.ended (t - 1) || was_low low (t - 1))) _
              (both (any_in (sender_pulls begin n (t - 1)) fs q.0 q.1 (sender_before low begin t q.0 l.0 l.1 q.2)) (or_left (is_within n.ended (t - 1)) _ (within_before low begin t (goes q.0 q.2)))))))
        ]
      where
        both : {a b : Bool} → a ≡ true → b ≡ true → (a && b) ≡ true
        both x y = rw (x, y) refl

        goes : (f : List ℕ) → sender_pulls begin (known_at t (reading_of low begin)) t f ≡ true → goes_on (known_at t (reading_of low begin)).ended t ≡ true
        goes f s = and_right (is_none (out_slot (known_at t (reading_of low begin)) (frame_bits f))) _ (and_right (line_of (sender_stretches begin (frame_bits f)) t) _ s)

    by_pulse : (p : Stretch) × In p pulses × (pulse_pulls begin (known_at t (reading_of low begin)).ended (was_low low t) t p ≡ true) → FallBy fs begin pulses low t
    by_pulse q = by_place (cases_lt q.0.from t)
      where
        p : Stretch
        p = q.0

        over : covers q.0 t ≡ true
        over = and_left (covers q.0 t) _ q.2

        more : (nat_le begin q.0.from && (is_within (known_at t (reading_of low begin)).ended q.0.from || was_low low t)) ≡ true
        more = and_right (covers q.0 t) _ q.2

        begun : nat_le begin q.0.from ≡ true
        begun = and_left (nat_le begin q.0.from) _ more

        not_was : was_low low t ≡ false
        not_was = not_true (was_low low t) (and_right (low t) _ fall)

        inside : is_within (known_at t (reading_of low begin)).ended q.0.from ≡ true
        inside = by_was (is_within (known_at t (reading_of low begin)).ended q.0.from) (was_low low t) not_was (and_right (nat_le begin q.0.from) _ more)
          where
            by_was : (a b : Bool) → b ≡ false → (a || b) ≡ true → a ≡ true
            by_was true b e g = refl
            by_was false b e g = sym e ∙ g

        from_le : q.0.from ≤ t
        from_le = let x : nat_le q.0.from t ≡ true = and_left (nat_le q.0.from t) (nat_lt t q.0.to) over in grind (arith, nat_tests)

        -- it begins by the reading's end
        ends : (b : Bool) → nat_lt (reading_of low begin).until t ≡ b
            → is_within (if b then Some (record { ending = (reading_of low begin).ending; at = (reading_of low begin).at; until = (reading_of low begin).until }) else None) q.0.from ≡ true
            → q.0.from ≤ (reading_of low begin).until
        ends true e g = let x : nat_le q.0.from (reading_of low begin).until ≡ true = g in grind (arith, nat_tests)
        ends false e g = let x : t ≤ (reading_of low begin).until = grind (arith, nat_tests) in let y : q.0.from ≤ t = from_le in omega arith

        by_until : q.0.from ≤ (reading_of low begin).until
        by_until = ends (nat_lt (reading_of low begin).until t) refl inside

        -- so it pulled before, if it began before
        inside2 : (b : Bool) → nat_lt (reading_of low begin).until (t - 1) ≡ b
            → is_within (if b then Some (record { ending = (reading_of low begin).ending; at = (reading_of low begin).at; until = (reading_of low begin).until }) else None) q.0.from ≡ true
        inside2 true e = let x : q.0.from ≤ (reading_of low begin).until = by_until in grind (arith, nat_tests)
        inside2 false e = refl

        by_place : (q.0.from < t) ⊎ (t ≤ q.0.from) → FallBy fs begin pulses low t
        by_place (inr ge) =
            let e : q.0.from ≡ t = omega (arith, from_le) in
            let b : begin ≤ q.0.from = grind (arith, nat_tests) in
            inr (inr (any_from (λ p. p.from ≡ t) pulses q.0 q.1 e, omega arith, omega (arith, by_until)))
        by_place (inl lt) =
            let to : nat_lt t q.0.to ≡ true = and_right (nat_le q.0.from t) (nat_lt t q.0.to) over in
            let c1 : nat_le q.0.from (t - 1) ≡ true = grind (arith, nat_tests) in
            let c2 : nat_lt (t - 1) q.0.to ≡ true = grind (arith, nat_tests) in
            let w : is_within (known_at (t - 1) (reading_of low begin)).ended q.0.from ≡ true = inside2 (nat_lt (reading_of low begin).until (t - 1)) refl in
            let one : pulse_pulls begin (known_at (t - 1) (reading_of low begin)).ended (was_low low (t - 1)) (t - 1) q.0 ≡ true = rw (c1, c2, begun, w) refl in
            absurd (never (omega arith) (or_left (list_any (pulse_pulls begin n.ended (was_low low (t - 1)) (t - 1)) pulses) _
            (any_in (pulse_pulls begin n.ended (was_low low (t - 1)) (t - 1)) pulses q.0 q.1 one)))

pub fall_begins : (fs : List (List ℕ)) (seats : List Seat) (begin : ℕ) (pulses : List Stretch) (low : Line) (t : ℕ) → All (λ f. length f ≤ 16) fs
    → Makes fs seats begin pulses low t → (0 < t → Keeps fs seats begin pulses low (t - 1)) → is_fall low t ≡ true → IsPullBegin begin (reading_of low begin).until pulses t
fall_begins fs seats begin pulses low t short now before fall = elim (fall_by fs seats begin pulses low t now before fall) [
  | inl e ↦ inl e
  | inr (inl q) ↦ (let l : length q.0 ≤ 16 = all_in (λ f. length f ≤ 16) fs short q.0 q.1 in inr (inl (q.3.0, omega (arith, q.3.1, length-frame_bits q.0, l), q.3.2)))
  | inr (inr p) ↦ inr (inr p)
]

-- of a line that keeps the rule itself
pub makes : (fs : List (List ℕ)) (seats : List Seat) (begin : ℕ) (pulses : List Stretch) (low : Line) (t : ℕ)
    → low t ≡ pulled_by fs seats begin pulses (was_low low t) (known_at t (reading_of low begin)) t → Makes fs seats begin pulses low t
makes fs seats begin pulses low t rule l = pulled_then fs seats begin pulses (was_low low t) (known_at t (reading_of low begin)) t (sym rule ∙ l)

pub round_fall_by : RoundFallBy
round_fall_by seats begin pulses low t line fall =
    fall_by (frames_of seats) seats begin pulses low t (makes (frames_of seats) seats begin pulses low t (line t)) (λ p h. line (t - 1) ∙ h) fall
