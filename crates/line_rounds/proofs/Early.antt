-- A slot's fall as it is read: at the sender's own fall, or at most 350 early and made by a pulse.
use Rattle.std.proofs.Common.{◌≡◌, ℕ, zero, suc, ◌+◌, ◌-◌, ◌*◌, ◌%◌, ◌==◌, ◌<◌, ◌≤◌, Bool, true, false, not, ◌&&◌, ◌||◌, nat_lt, nat_le, if◌then◌else◌, List, [], ◌∷◌, ◌++◌, length, length-append, slice_index_or, ◌⊎◌, inl, inr, Some, None, refl, arith, ap, ◌∙◌, sym}
use Rattle.std.specs.List.{list_any, filter_map, find, range_with_len}
use Rattle.std.proofs.Math.ListN.{get_or-append}
use mathlib.Core.Bool.{beq}
use Rattle.std.proofs.lemmas.Bool.{cases_lt}
use Rattle.std.proofs.lemmas.Bool.Decides.{nat_tests}
use Rattle.line_wave.specs.declared.Stretch.{Stretch}
use Rattle.line_wave.specs.Line.{Line, line_of, covers, was_low, is_fall}
use Rattle.line_wave.specs.Pulses.{AreSparse}
use Rattle.line_wave.specs.Sender.{sender_stretches, slot_stretches}
use Rattle.line_frames.specs.Bits.{frame_bits, least_among}
use Rattle.line_reading.specs.Windows.{standard}
use Rattle.line_reading.specs.Reading.{Slot}
use Rattle.line_rounds.specs.declared.Seat.{Seat}
use Rattle.line_reading.specs.Sending.{bit_read, destination, is_out_by, out_slot, sender_pulls}
use Rattle.line_rounds.specs.Round.{frames_of, winning_frames, acknowledges, is_acknowledged, pulse_pulls, pulled_by}
use Rattle.line_rounds.specs.Contend.{IsContended, pulled_through, Stays}
use Rattle.line_rounds.specs.Begins.{SenderLow, Reports}
use Rattle.line_rounds.specs.Known.{DestinationMore, LeavesMore}
use Rattle.line_rounds.specs.Follow.{NoAcks, AreDone}
use Rattle.line_rounds.specs.Elements.{In}
use Rattle.line_rounds.proofs.Differ.{any_in, in_any, any_filter, or_right}
use Rattle.line_rounds.proofs.Lows.{between_slots, slot_begins, far_apart}

-- ---- tests

pub or_cases : (a b : Bool) → (a || b) ≡ true → (a ≡ true) ⊎ (b ≡ true)
or_cases true b h = inl refl
or_cases false b h = inr h

pub and_left : (a b : Bool) → (a && b) ≡ true → a ≡ true
and_left true b h = refl
and_left false b h = h

pub and_right : (a b : Bool) → (a && b) ≡ true → b ≡ true
and_right true b h = h
and_right false b h = cc

pub and_mid : (a b c : Bool) → b ≡ false → (a && (b && c)) ≡ false
and_mid true b c h = rw h refl
and_mid false b c h = refl

pub find_none : (p : ℕ → Bool) (a m : ℕ) → ((n : ℕ) → a ≤ n → n < a + m → p n ≡ false) → find p (range_with_len a m) ≡ None
find_none p a zero h = refl
find_none p a (suc m) h = rw (h a (omega arith) (omega arith)) (find_none p (a + 1) m (λ n l k. h n (omega arith) (omega arith)))

pub none_found : (p : ℕ → Bool) (a m : ℕ) → find p (range_with_len a m) ≡ None → (n : ℕ) → a ≤ n → n < a + m → p n ≡ false
none_found p a zero h n l k = absurd (omega arith)
none_found p a (suc m) h n l k = step (p a) refl h (λ g m2 l2 k2. none_found p (a + 1) m g m2 l2 k2)
  where
    step : (b : Bool) → p a ≡ b → (if b then Some a else find p (range_with_len (a + 1) m)) ≡ None
        → (find p (range_with_len (a + 1) m) ≡ None → (x : ℕ) → a + 1 ≤ x → x < a + 1 + m → p x ≡ false) → p n ≡ false
    step true e g r = cc
    step false e g r = elim (cases_lt a n) [ inl lt ↦ r g n (omega arith) (omega arith) | inr ge ↦ let s : n ≡ a = omega arith in rw s e ]

-- ---- a sender that stays

pub stays_in : (zs : List Slot) (sent : List Bool) → Stays (filter_map (λ s. s.bit) zs) sent → out_slot (record { slots = zs; ended = None }) sent ≡ None
stays_in zs sent h = find_none (is_out_by (filter_map (λ (s : Slot). s.bit) zs) false sent) 1 (length (filter_map (λ s. s.bit) zs)) (λ n l k. h n l (omega arith))

pub destination_more : DestinationMore
destination_more [] ys h = absurd (omega (arith, h))
destination_more (a ∷ []) ys h = absurd (omega (arith, h))
destination_more (a ∷ b ∷ []) ys h = absurd (omega (arith, h))
destination_more (a ∷ b ∷ c ∷ []) ys h = absurd (omega (arith, h))
destination_more (a ∷ b ∷ c ∷ d ∷ []) ys h = absurd (omega (arith, h))
destination_more (a ∷ b ∷ c ∷ d ∷ e ∷ []) ys h = absurd (omega (arith, h))
destination_more (a ∷ b ∷ c ∷ d ∷ e ∷ f ∷ []) ys h = absurd (omega (arith, h))
destination_more (a ∷ b ∷ c ∷ d ∷ e ∷ f ∷ g ∷ []) ys h = absurd (omega (arith, h))
destination_more (a ∷ b ∷ c ∷ d ∷ e ∷ f ∷ g ∷ k ∷ bits) ys h = refl

-- more slots change nothing of the earlier ones
pub leaves_more : LeavesMore
leaves_more bits ys sent n h k = step (n % 10 == 0) refl
  where
    same : bit_read (bits ++ ys) n ≡ bit_read bits n
    same = get_or-append bits ys false (n - 1) (omega arith)

    step : (c : Bool) → (n % 10 == 0) ≡ c
        → (if c then not (beq (bit_read (bits ++ ys) n) (destination (bits ++ ys) == 15)) else not (beq (bit_read (bits ++ ys) n) (slice_index_or sent (n - 1) false)))
        ≡ (if c then not (beq (bit_read bits n) (destination bits == 15)) else not (beq (bit_read bits n) (slice_index_or sent (n - 1) false)))
    step true e =
        let z : n % 10 ≡ 0 = grind (arith, nat_tests) in
        rw (same, destination_more bits ys (omega arith)) refl
    step false e = rw same refl

pub stays_before : (bits ys sent : List Bool) → Stays (bits ++ ys) sent → Stays bits sent
stays_before bits ys sent h n l k = sym (leaves_more bits ys sent n l k) ∙ h n l (omega (arith, length-append bits ys))

-- ---- who pulls

pub no_acks : NoAcks
no_acks seats k t [] n d = refl
no_acks seats k t (z ∷ zs) n d =
    let e : nat_lt t (z.fall + 1500) ≡ false = grind (arith, nat_tests, d.0) in
    rw (and_mid (n % 10 == 0) (nat_lt t (z.fall + 1500)) (list_any (acknowledges k n) seats) e) (no_acks seats k t zs (n + 1) d.1)

abbrev pub PulseAt : ℕ → List Stretch → ℕ → Type 0
PulseAt begin pulses t = (p : Stretch) × In p pulses × (covers p t ≡ true) × (begin ≤ p.from)

abbrev pub SenderAt : ℕ → ℕ → Type 0
SenderAt begin t = (g : List ℕ) × (line_of (sender_stretches begin (frame_bits g)) t ≡ true)

-- in a reading that has not ended, past the acknowledgements, a low is a pulse's or a sender's
pub who_pulls : (seats : List Seat) (begin : ℕ) (pulses : List Stretch) (low : Line) (t : ℕ) (zs : List Slot) → IsContended seats begin pulses low
    → Reports low begin t zs → AreDone t zs → low t ≡ true → PulseAt begin pulses t ⊎ SenderAt begin t
who_pulls seats begin pulses low t zs c reports done l =
    elim (or_cases (list_any (pulse_pulls begin None (was_low low t) t) pulses) _ made) [
      | inl a ↦ (let r = in_any (pulse_pulls begin None (was_low low t) t) pulses a in
          inl (r.0, r.1, and_left (covers r.0 t) (nat_le begin r.0.from && true) r.2, begun r.0 (and_left (nat_le begin r.0.from) true (and_right (covers r.0 t) (nat_le begin r.0.from && true) r.2))))
      | inr b ↦ elim (or_cases (list_any (sender_pulls begin (record { slots = zs; ended = None }) t) (frames_of seats)) _ b) [
        | inl a ↦ (let r = in_any (sender_pulls begin (record { slots = zs; ended = None }) t) (frames_of seats) a in
            inr (r.0, and_left (line_of (sender_stretches begin (frame_bits r.0)) t) _ r.2))
        | inr d ↦ elim (or_cases (is_acknowledged seats (record { slots = zs; ended = None }) t) false d) [
          | inl a ↦ (let e : true ≡ false = sym a ∙ no_acks seats (record { slots = zs; ended = None }) t zs 1 done in cc)
          | inr a ↦ cc
        ]
      ]
    ]
  where
    made : pulled_through (frames_of seats) seats begin pulses (was_low low t) (record { slots = zs; ended = None }) t ≡ true
    made = ap (λ k. pulled_through (frames_of seats) seats begin pulses (was_low low t) k t) (sym reports) ∙ c.made t l

    begun : (p : Stretch) → nat_le begin p.from ≡ true → begin ≤ p.from
    begun p e = grind (arith, nat_tests)

pub pulse_low : (seats : List Seat) (begin : ℕ) (pulses : List Stretch) (low : Line) (t : ℕ) (zs : List Slot) → IsContended seats begin pulses low
    → Reports low begin t zs → (p : Stretch) → In p pulses → covers p t ≡ true → begin ≤ p.from → low t ≡ true
pulse_low seats begin pulses low t zs c reports p i v b =
    c.kept t (ap (λ k. pulled_by (winning_frames seats) seats begin pulses (was_low low t) k t) reports ∙ rw pulls refl)
  where
    one : pulse_pulls begin None (was_low low t) t p ≡ true
    one = let e : nat_le begin p.from ≡ true = grind (arith, nat_tests) in rw (v, e) refl

    pulls : list_any (pulse_pulls begin None (was_low low t) t) pulses ≡ true
    pulls = any_in (pulse_pulls begin None (was_low low t) t) pulses p i one

pub sender_low : SenderLow
sender_low seats begin pulses low t zs c reports w i e s l =
    c.kept t (ap (λ k. pulled_by (winning_frames seats) seats begin pulses (was_low low t) k t) reports
    ∙ or_right (list_any (pulse_pulls begin None (was_low low t) t) pulses) _ (rw pulls refl))
  where
    one : sender_pulls begin (record { slots = zs; ended = None }) t w ≡ true
    one = rw (l, stays_in zs (frame_bits w) s) refl

    pulls : list_any (sender_pulls begin (record { slots = zs; ended = None }) t) (winning_frames seats) ≡ true
    pulls = any_filter (sender_pulls begin (record { slots = zs; ended = None }) t) (least_among (frames_of seats)) (frames_of seats) w i e one

-- ---- the fall of a slot

pub no_fall : (low : Line) (f : ℕ) → is_fall low f ≡ true → 0 < f → low (f - 1) ≡ true → ⊥
no_fall low f h p l =
    let e : nat_lt 0 f ≡ true = grind (arith, nat_tests) in
    let g : is_fall low f ≡ false = rw (e, l) (and_false (low f)) in
    let k : true ≡ false = sym h ∙ g in cc
  where
    and_false : (a : Bool) → (a && false) ≡ false
    and_false true = refl
    and_false false = refl

abbrev pub BeginsAt : List Stretch → ℕ → Type 0
BeginsAt pulses e = (p : Stretch) × In p pulses × (p.from ≡ e)

-- at its own instant, or early by a pulse
abbrev pub OnTime : List Stretch → ℕ → ℕ → Type 0
OnTime pulses e own = (e ≡ own) ⊎ ((e < own) × (own ≤ e + 350) × BeginsAt pulses e)

-- a stretch of the sender's at its slot
own_low : (begin own k t : ℕ) (bits : List Bool) → own ≡ begin + 4500 + 2400 * k → k < length bits → own ≤ t → t < own + 600 → line_of (sender_stretches begin bits) t ≡ true
own_low begin own k t bits e r h l =
    or_right (covers (record { from = begin; to = begin + 3700 }) t) (line_of (slot_stretches (begin + 4500) bits) t) (slot_begins bits (begin + 4500) k t r (omega arith) (omega arith))

-- no sender pulls in the last 800 before a slot
none_pulls : (begin own k t : ℕ) (bits : List Bool) → own ≡ begin + 4500 + 2400 * k → own ≤ t + 800 → t < own → line_of (sender_stretches begin bits) t ≡ false
none_pulls begin own k t bits e h l =
    let f : covers (record { from = begin; to = begin + 3700 }) t ≡ false = grind (arith, nat_tests) in
    rw f (between_slots bits (begin + 4500) k t (omega arith) (omega arith))

-- A slot falls when its sender makes it fall, or before, by a pulse.
pub falls_so : (seats : List Seat) (begin : ℕ) (pulses : List Stretch) (low : Line) (w : List ℕ) (own k f : ℕ) (zs : List Slot) → IsContended seats begin pulses low
    → In w (frames_of seats) → least_among (frames_of seats) w ≡ true → Stays (filter_map (λ s. s.bit) zs) (frame_bits w)
    → own ≡ begin + 4500 + 2400 * k → k < length (frame_bits w) → is_fall low f ≡ true → Reports low begin f zs → Reports low begin (f - 1) zs → AreDone f zs
    → own ≤ f + 800 → f < own + 600 → (f ≡ own) ⊎ ((f < own) × BeginsAt pulses f)
falls_so seats begin pulses low w own k f zs c i e s o r fall now before done near far =
    elim (cases_lt f own) [
      | inl early ↦ elim (who_pulls seats begin pulses low f zs c now done (and_left (low f) _ fall)) [
        | inl p ↦ elim (cases_lt p.0.from f) [
          | inl lt ↦ absurd (no_fall low f fall (omega arith) (pulse_low seats begin pulses low (f - 1) zs c before p.0 p.1 (covers_before p.0 p.2 lt) p.3))
          | inr ge ↦ inr (early, (p.0, p.1, from_here p.0 p.2 ge))
        ]
        | inr g ↦ (let x : true ≡ false = sym g.1 ∙ none_pulls begin own k f (frame_bits g.0) o near early in cc)
      ]
      | inr late ↦ elim (cases_lt own f) [
        | inl past ↦ absurd (no_fall low f fall (omega arith)
            (sender_low seats begin pulses low (f - 1) zs c before w i e s (own_low begin own k (f - 1) (frame_bits w) o r (omega arith) (omega arith))))
        | inr same ↦ inl (omega arith)
      ]
    ]
  where
    covers_before : (p : Stretch) → covers p f ≡ true → p.from < f → covers p (f - 1) ≡ true
    covers_before p v h = grind (arith, nat_tests)

    from_here : (p : Stretch) → covers p f ≡ true → f ≤ p.from → p.from ≡ f
    from_here p v h = let a : nat_le p.from f ≡ true = and_left (nat_le p.from f) (nat_lt f p.to) v in grind (arith, nat_tests)

-- after a slot on time the next one is on time
pub next_on_time : (pulses : List Stretch) (e own f : ℕ) → AreSparse pulses → OnTime pulses e own → e + standard.bit_total.least ≤ f → f ≤ e + standard.bit_total.most
    → (f ≡ own + 2400) ⊎ ((f < own + 2400) × BeginsAt pulses f) → OnTime pulses f (own + 2400)
next_on_time pulses e own f s o l h (inl same) = inl same
next_on_time pulses e own f s (inl g) l h (inr b) = inr (b.0, omega arith, b.1)
next_on_time pulses e own f s (inr g) l h (inr b) =
    let p = g.2 in let q = b.1 in
    let x : p.0.from + 25000 ≤ q.0.from = far_apart pulses s.far s.narrow p.0 q.0 p.1 q.1 (omega (arith, p.2, q.2, l)) in
    absurd (omega (arith, x, p.2, q.2, h))
