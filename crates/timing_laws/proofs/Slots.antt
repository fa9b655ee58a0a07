-- The slots of a round that no pulse comes into: where they fall, and how long they are low.
use Rattle.std.proofs.Common.{◌≡◌, ◌≢◌, ℕ, zero, suc, ◌+◌, ◌-◌, ◌*◌, ◌%◌, ◌==◌, ◌<◌, ◌≤◌, Bool, true, false, not, ◌&&◌, ◌||◌, nat_lt, if◌then◌else◌, List, [], ◌∷◌, ◌++◌, length, length-append, append-nil, slice_index_or, slice_get, ◌⊎◌, inl, inr, Option, Some, None, is_none, IsSome, refl, arith, ap, ◌∙◌, sym, subst}
use Rattle.std.specs.List.{list_any, filter_map}
use Rattle.std.proofs.Math.Seq.{get_or-append_seam}
use Rattle.std.proofs.lemmas.Bool.{cases_lt, false≢true, or_cases, or_right, and_parts}
use Rattle.std.proofs.lemmas.Bool.Decides.{nat_tests}
use Rattle.std.proofs.lemmas.Option.{get_or_from_slice_get}
use Rattle.line_wave.specs.Line.{Line, line_of, was_low, is_fall}
use Rattle.line_wave.specs.Pulses.{AreSparse}
use Rattle.line_wave.specs.Sender.{sender_stretches}
use Rattle.line_frames.specs.Bits.{frame_bits, least_among}
use Rattle.line_frames.specs.declared.Ending.{Ending}
use Rattle.line_frames.specs.declared.Ending.TheVariants.{Complete, Short, Silent, BadStart, Long, Open}
use Rattle.line_frames.proofs.Slots.{ack_slot}
use Rattle.line_reading.specs.Windows.{sample_at}
use Rattle.line_reading.specs.Reading.After.{Ends}
use Rattle.line_reading.specs.Reading.{next_fall, Slot, End, Known, known_at, known_slot, reading_of, read_slots, after_slot, after_last, last_ending, last_heard, bit_sampled_at}
use Rattle.line_reading.specs.Sending.{bit_read, out_slot, sender_pulls, goes_on}
use Rattle.line_reading.proofs.Search.{first_in_none}
use Rattle.line_reading.proofs.Causes.{known_front, late_read, known_in_slot}
use Rattle.line_reading.proofs.AlongBy.{quiet_sample, reported_more}
use Rattle.line_rounds.specs.declared.Seat.{Seat}
use Rattle.line_rounds.specs.Round.{IsRoundLine, frames_of, is_acknowledged, is_broken, winning_frames}
use Rattle.line_rounds.specs.Contend.{AreFrames, pulled_through, Stays}
use Rattle.line_rounds.specs.Machine.{acks_until}
use Rattle.line_rounds.specs.Elements.{In}
use Rattle.line_rounds.specs.Begins.{Reports}
use Rattle.line_rounds.specs.Made.{FallBy}
use Rattle.line_rounds.specs.Reached.{Reached}
use Rattle.line_rounds.proofs.Lays.{slot_or_none, after_start}
use Rattle.line_rounds.proofs.Early.{leaves_more, no_acks, sender_low}
use Rattle.line_rounds.proofs.Walk.{known_unsampled}
use Rattle.line_rounds.proofs.Inside.{stays_by, known_here}
use Rattle.line_rounds.proofs.Holding.{acks_now, done_by}
use Rattle.line_rounds.proofs.Lasting.{contended}
use Rattle.line_rounds.proofs.Falls.{round_fall_by}
use Rattle.line_rounds.proofs.SameLine.{same_line}
use Rattle.line_reading.specs.Known.{nothing}
use Rattle.timing_laws.proofs.Lists.{in_any, in_filter, over_sampled}

-- ---- a line without falls

pub no_pulses : AreSparse []
no_pulses = record { few = omega arith; narrow = λ i d l. absurd (omega (arith, l)); far = tt }

pub after_high : (low : Line) (t : ℕ) → 0 < t → low (t - 1) ≡ false → is_fall low t ≡ false → low t ≡ false
after_high low t p before quiet = by (low t) refl
  where
    yes : nat_lt 0 t ≡ true
    yes = grind (arith, nat_tests)

    by : (b : Bool) → low t ≡ b → low t ≡ false
    by false e = e
    by true e =
        let fall : is_fall low t ≡ true = rw (e, yes, before) refl in
        absurd (false≢true (sym quiet ∙ fall))

-- it stays high from an instant on, as long as it does not fall
pub high_on : (low : Line) (a n : ℕ) → low a ≡ false → ((u : ℕ) → a < u → u ≤ a + n → is_fall low u ≡ false) → low (a + n) ≡ false
high_on low a zero h q = ap low (let e : a + zero ≡ a = omega arith in e) ∙ h
high_on low a (suc n) h q =
    let before : low (a + n) ≡ false = high_on low a n h (λ u l m. q u l (omega arith)) in
    after_high low (a + suc n) (omega arith) (ap low (let e : a + suc n - 1 ≡ a + n = omega arith in e) ∙ before) (q (a + suc n) (omega arith) (omega arith))

pub high_to : (low : Line) (a t : ℕ) → low a ≡ false → a ≤ t → ((u : ℕ) → a < u → u ≤ t → is_fall low u ≡ false) → low t ≡ false
high_to low a t h l q =
    ap low (let e : t ≡ a + (t - a) = omega arith in e) ∙ high_on low a (t - a) h (λ u m k. q u m (omega arith))

-- ---- a round without pulses

pub record Calm (seats : List Seat) (begin : ℕ) (low : Line) : Type 0 where
  pub line : IsRoundLine seats begin [] low
  pub frames : AreFrames seats

-- a slot of the nominal times begins
abbrev pub IsSlotTime : ℕ → ℕ → Type 0
IsSlotTime begin t = (k : ℕ) × (t ≡ begin + 4500 + 2400 * k)

-- its falls come at the nominal instants
pub falls_nominal : (seats : List Seat) (begin : ℕ) (low : Line) → Calm seats begin low → (u : ℕ) → is_fall low u ≡ true → (u ≡ begin) ⊎ IsSlotTime begin u
falls_nominal seats begin low c u fall =
    by (round_fall_by seats begin [] low u c.line fall)
  where
    by : FallBy (frames_of seats) begin [] low u → (u ≡ begin) ⊎ IsSlotTime begin u
    by (inl e) = inl e
    by (inr (inl s)) = inr (s.3.0, s.3.2)
    by (inr (inr p)) = let none : p.0.0 < 0 = p.0.2 in absurd (omega arith)

-- and nowhere between two of them
pub quiet_between : (seats : List Seat) (begin : ℕ) (low : Line) → Calm seats begin low → (n u : ℕ) → begin + 4500 + 2400 * n < u → u < begin + 4500 + 2400 * n + 2400 → is_fall low u ≡ false
quiet_between seats begin low c n u l h = by (is_fall low u) refl
  where
    no : (u ≡ begin) ⊎ IsSlotTime begin u → ⊥
    no (inl e) = omega arith
    no (inr s) = let e = s.1 in omega (arith, e)

    by : (b : Bool) → is_fall low u ≡ b → is_fall low u ≡ false
    by false e = e
    by true e = absurd (no (falls_nominal seats begin low c u e))

pub quiet_start : (seats : List Seat) (begin : ℕ) (low : Line) → Calm seats begin low → (u : ℕ) → begin < u → u < begin + 4500 → is_fall low u ≡ false
quiet_start seats begin low c u l h = by (is_fall low u) refl
  where
    no : (u ≡ begin) ⊎ IsSlotTime begin u → ⊥
    no (inl e) = omega arith
    no (inr s) = let e = s.1 in omega (arith, e)

    by : (b : Bool) → is_fall low u ≡ b → is_fall low u ≡ false
    by false e = e
    by true e = absurd (no (falls_nominal seats begin low c u e))

-- a winner that pulls
pub record Puller (seats : List Seat) (begin t : ℕ) (k : Known) : Type 0 where
  pub frame : List ℕ
  pub among : In frame (frames_of seats)
  pub least : least_among (frames_of seats) frame ≡ true
  pub low : line_of (sender_stretches begin (frame_bits frame)) t ≡ true
  pub goes : out_slot k (frame_bits frame) ≡ None

pub no_option : {X : Type 0} (o : Option X) → is_none o ≡ true → o ≡ None
no_option None h = refl
no_option (Some x) h = cc

pub puller : (seats : List Seat) (begin t : ℕ) (k : Known) → list_any (sender_pulls begin k t) (winning_frames seats) ≡ true → Puller seats begin t k
puller seats begin t k h =
    let w = in_any (sender_pulls begin k t) (winning_frames seats) h in
    let i = in_filter (least_among (frames_of seats)) (frames_of seats) w.0 w.1 in
    let rest : (is_none (out_slot k (frame_bits w.0)) && goes_on k.ended t) ≡ true = (and_parts (line_of (sender_stretches begin (frame_bits w.0)) t) (is_none (out_slot k (frame_bits w.0)) && goes_on k.ended t) w.2).1 in
    record {
      frame = w.0;
      among = i.0;
      least = i.1;
      low = (and_parts (line_of (sender_stretches begin (frame_bits w.0)) t) (is_none (out_slot k (frame_bits w.0)) && goes_on k.ended t) w.2).0;
      goes = no_option (out_slot k (frame_bits w.0)) (and_parts (is_none (out_slot k (frame_bits w.0))) (goes_on k.ended t) rest).0;
    }

-- who makes it low: a winner, an acknowledger, or one who breaks the message
pub who_makes : (seats : List Seat) (begin : ℕ) (low : Line) → Calm seats begin low → (t : ℕ) (k : Known) → known_at t (reading_of low begin) ≡ k → low t ≡ true
    → Puller seats begin t k ⊎ ((is_acknowledged seats k t ≡ true) ⊎ (is_broken seats k t k.ended ≡ true))
who_makes seats begin low c t k reports h =
    elim (or_cases (list_any (sender_pulls begin k t) (winning_frames seats)) (is_acknowledged seats k t || is_broken seats k t k.ended) made) [
      | inl a ↦ inl (puller seats begin t k a)
      | inr b ↦ elim (or_cases (is_acknowledged seats k t) (is_broken seats k t k.ended) b) [ inl a ↦ inr (inl a) | inr d ↦ inr (inr d) ]
    ]
  where
    made : (list_any (sender_pulls begin k t) (winning_frames seats) || (is_acknowledged seats k t || is_broken seats k t k.ended)) ≡ true
    made = ap (λ (m : Known). pulled_through (winning_frames seats) seats begin [] (was_low low t) m t) (sym reports) ∙ sym ((same_line seats begin [] low c.frames no_pulses).0 c.line t) ∙ h

pub acked_low : (seats : List Seat) (begin : ℕ) (low : Line) → Calm seats begin low → (t : ℕ) (k : Known) → known_at t (reading_of low begin) ≡ k → is_acknowledged seats k t ≡ true → low t ≡ true
acked_low seats begin low c t k reports h =
    (same_line seats begin [] low c.frames no_pulses).0 c.line t ∙ ap (λ (m : Known). pulled_through (winning_frames seats) seats begin [] (was_low low t) m t) reports
    ∙ or_right (list_any (sender_pulls begin k t) (winning_frames seats)) (is_acknowledged seats k t || is_broken seats k t k.ended) (rw h refl)

-- ---- a slot

-- where the reading has come, slot by slot on time
pub record OnSlot (low : Line) (begin left : ℕ) (xs : List Slot) (bits : List Bool) (e : ℕ) : Type 0 where
  pub reached : Reached low begin left xs bits e
  pub time : e ≡ begin + 4500 + 2400 * length bits
  pub count : length xs ≡ length bits
  pub fall : is_fall low e ≡ true

-- a frame pulls in the slot that it has, and for a 1 for 600, for a 0 for 1,500
pub in_slot : (begin e within t : ℕ) (bits sent : List Bool) → e ≡ begin + 4500 + 2400 * length bits → t ≡ e + within → within < 2400
    → (nat_lt (length bits) (length sent) && nat_lt within (if slice_index_or sent (length bits) false then 600 else 1500)) ≡ line_of (sender_stretches begin sent) t
in_slot begin e within t bits sent time at small =
    slot_or_none sent (begin + 4500) (length bits) within t (omega arith) small ∙ sym (after_start sent begin t (omega arith))

pub is_less : (a b : ℕ) → nat_lt a b ≡ true → a < b
is_less a b h = grind (arith, nat_tests)

-- at its fall
pub known_fall : (low : Line) (begin left : ℕ) (xs : List Slot) (bits : List Bool) (e : ℕ) → Reached low begin left xs bits e → known_at e (reading_of low begin) ≡ record { slots = xs; ended = None }
unfolding nothing
known_fall low begin left xs bits e r =
    ap (known_at e) (sym r.goes) ∙ known_front e xs (read_slots low left bits e) (over_sampled e e xs (omega arith) r.over)
    ∙ ap (λ (n : Known). let m : Known = record { slots = xs ++ n.slots; ended = n.ended } in m) (late_read e low left bits e (omega arith))
    ∙ ap (λ (ys : List Slot). let m : Known = record { slots = ys; ended = None } in m) (append-nil xs)

-- a winner makes it fall
pub record Starter (seats : List Seat) (bits : List Bool) : Type 0 where
  pub frame : List ℕ
  pub among : In frame (frames_of seats)
  pub least : least_among (frames_of seats) frame ≡ true
  pub stays : Stays bits (frame_bits frame)
  pub room : length bits < length (frame_bits frame)

pub starter : (seats : List Seat) (begin : ℕ) (low : Line) → Calm seats begin low → (left : ℕ) (xs : List Slot) (bits : List Bool) (e : ℕ) → OnSlot low begin left xs bits e → Starter seats bits
starter seats begin low c left xs bits e s = by (who_makes seats begin low c e k (known_fall low begin left xs bits e s.reached) (and_parts (low e) (not (was_low low e)) s.fall).0)
  where
    k : Known
    k = record { slots = xs; ended = None }

    by : Puller seats begin e k ⊎ ((is_acknowledged seats k e ≡ true) ⊎ (is_broken seats k e None ≡ true)) → Starter seats bits
    by (inl p) =
        let test = in_slot begin e 0 e bits (frame_bits p.frame) s.time (omega arith) (omega arith) ∙ p.low in
        record {
          frame = p.frame;
          among = p.among;
          least = p.least;
          stays = subst (λ (ys : List Bool). Stays ys (frame_bits p.frame)) s.reached.reported (stays_by k (frame_bits p.frame) refl p.goes);
          room = is_less (length bits) (length (frame_bits p.frame)) (and_parts (nat_lt (length bits) (length (frame_bits p.frame))) _ test).0;
        }
    by (inr (inl a)) = absurd (false≢true (sym (no_acks seats k e xs 1 (done_by e e xs (omega arith) s.reached.over)) ∙ a))
    by (inr (inr b)) = absurd (false≢true b)

pub quiet_slot : (seats : List Seat) (begin : ℕ) (low : Line) → Calm seats begin low → (left : ℕ) (xs : List Slot) (bits : List Bool) (e : ℕ) → OnSlot low begin left xs bits e
    → (u : ℕ) → e < u → u < e + 2400 → is_fall low u ≡ false
quiet_slot seats begin low c left xs bits e s u l h =
    let time = s.time in quiet_between seats begin low c (length bits) u (omega (arith, time)) (omega (arith, time))

-- ---- what is known in a slot

-- nobody breaks the message
abbrev pub NotShort : Option End → Type 0
NotShort None = Unit {0}
NotShort (Some end) = end.ending ≢ Short

pub record KnownIn (low : Line) (begin : ℕ) (xs : List Slot) (e t : ℕ) : Type 0 where
  pub slot : Slot
  pub ended : Option End
  pub reports : known_at t (reading_of low begin) ≡ record { slots = xs ++ slot ∷ []; ended = ended }
  pub falls : slot.fall ≡ e
  pub whole : NotShort ended

pub broken_by : (seats : List Seat) (k : Known) (t at until : ℕ) (ending : Ending) → ending ≢ Short → is_broken seats k t (Some (record { ending = ending; at = at; until = until })) ≡ false
broken_by seats k t at until Complete h = refl
broken_by seats k t at until Short h = absurd (h refl)
broken_by seats k t at until Silent h = refl
broken_by seats k t at until BadStart h = refl
broken_by seats k t at until Long h = refl
broken_by seats k t at until Open h = refl

pub not_broken : (seats : List Seat) (k : Known) (t : ℕ) (ended : Option End) → NotShort ended → is_broken seats k t ended ≡ false
not_broken seats k t None h = refl
not_broken seats k t (Some end) h = broken_by seats k t end.at end.until end.ending h

-- a last slot breaks nothing
pub last_by : (nine eom end : Bool) (x : Ending) → (if nine then (if eom then Some Complete else if end then Some Long else None) else None) ≡ Some x → x ≢ Short
last_by true true end x h = λ s. (let e : Some Complete ≡ Some Short = h ∙ ap (λ (y : Ending). Some y) s in cc)
last_by true false true x h = λ s. (let e : Some Long ≡ Some Short = h ∙ ap (λ (y : Ending). Some y) s in cc)
last_by true false false x h = cc
last_by false eom end x h = cc

pub last_not_short : (bits : List Bool) (x : Ending) → last_ending bits ≡ Some x → x ≢ Short
last_not_short bits x h = last_by (length bits % 10 == 9) (slice_index_or bits (length bits - 1) false) (length bits == 159) x h

pub no_some : (o : Option Ending) (t m : ℕ) → o ≡ None → IsSome o → t ≤ m
no_some None t m h s = cc
no_some (Some x) t m h s = cc

pub slot_known : (seats : List Seat) (begin : ℕ) (low : Line) → Calm seats begin low → (left : ℕ) (xs : List Slot) (bits : List Bool) (e : ℕ) → OnSlot low begin (suc left) xs bits e
    → (t : ℕ) → e < t → t < e + 2400 → KnownIn low begin xs e t
slot_known seats begin low c left xs bits e s t l h = elim (cases_lt (e + sample_at) t) [
  | inl late ↦ by_last late (last_ending bits) refl
  | inr soon ↦ record { slot = record { fall = e; bit = None }; ended = None; reports = known_unsampled low begin left xs bits e t s.reached (λ u a b. quiet u a (omega arith)) l soon; falls = refl; whole = tt }
]
  where
    quiet : (u : ℕ) → e < u → u < e + 2400 → is_fall low u ≡ false
    quiet = quiet_slot seats begin low c (suc left) xs bits e s

    slot : Slot
    slot = known_slot t (record { fall = e; bit = bit_sampled_at low e })

    not_short : (b : Bool) (x : Ending) (at until : ℕ) → x ≢ Short → NotShort (if b then Some (record { ending = x; at = at; until = until }) else None)
    not_short true x at until n = n
    not_short false x at until n = tt

    by_last : e + sample_at < t → (last : Option Ending) → last_ending bits ≡ last → KnownIn low begin xs e t
    by_last late None none = record {
      slot = slot;
      ended = None;
      reports = known_in_slot low begin t e left xs bits s.reached.goes (over_sampled e t xs (omega arith) s.reached.over) l (λ u a b. quiet u a (omega arith)) (omega arith) (no_some (last_ending bits) t (e + sample_at) none);
      falls = refl;
      whole = tt;
    }
    by_last late (Some x) some =
        let found : next_fall low e sample_at ≡ None = first_in_none (is_fall low) (e + 1) sample_at (λ u a b. quiet u (omega arith) (omega arith)) in
        let after : after_slot low e (last_ending bits) ≡ Ends x (e + sample_at) = ap (after_slot low e) some ∙ ap (after_last e x) found in
        record {
          slot = slot;
          ended = if nat_lt (last_heard x (e + sample_at)) t then Some (record { ending = x; at = e + sample_at; until = last_heard x (e + sample_at) }) else None;
          reports = known_here low begin left xs bits e t s.reached l (Ends x (e + sample_at)) after;
          falls = refl;
          whole = not_short (nat_lt (last_heard x (e + sample_at)) t) x (e + sample_at) (last_heard x (e + sample_at)) (last_not_short bits x some);
        }

-- ---- how long a slot is low

abbrev pub low_for : Bool → ℕ
low_for bit = if bit then 600 else 1500

pub record SlotLow (low : Line) (e : ℕ) (bit : Bool) : Type 0 where
  pub lows : (t : ℕ) → e ≤ t → t < e + low_for bit → low t ≡ true
  pub highs : (t : ℕ) → e + low_for bit ≤ t → t < e + 2400 → low t ≡ false
  pub read : bit_sampled_at low e ≡ Some bit

pub soon_low : (room : Bool) (bit : Bool) (within : ℕ) → room ≡ true → within < 600 → (room && nat_lt within (low_for bit)) ≡ true
soon_low room true within r h = rw r (grind (arith, nat_tests))
soon_low room false within r h = rw r (grind (arith, nat_tests))

pub later_low : (room : Bool) (bit : Bool) (within : ℕ) → room ≡ true → bit ≡ false → within < 1500 → (room && nat_lt within (low_for bit)) ≡ true
later_low room bit within r z h = rw (r, z) (grind (arith, nat_tests))

pub never_past : (room bit : Bool) → (room && nat_lt 1500 (low_for bit)) ≡ true → ⊥
never_past true true h = false≢true h
never_past true false h = false≢true h
never_past false bit h = false≢true h

pub zero_bit : (bit : Bool) → nat_lt 600 (low_for bit) ≡ true → bit ≡ false
zero_bit true h = absurd (false≢true h)
zero_bit false h = refl

pub acks_end : (e : ℕ) (b : Bool) → nat_lt (e + 1500) (if b then e + 1500 else 0) ≡ true → ⊥
acks_end e true h = let x : e + 1500 < e + 1500 = grind (arith, nat_tests) in omega arith
acks_end e false h = let x : e + 1500 < 0 = grind (arith, nat_tests) in omega arith

pub acks_hold : (e t : ℕ) (b : Bool) → nat_lt (e + 600) (if b then e + 1500 else 0) ≡ true → t < e + 1500 → nat_lt t (if b then e + 1500 else 0) ≡ true
acks_hold e t true h l = grind (arith, nat_tests)
acks_hold e t false h l = let x : e + 600 < 0 = grind (arith, nat_tests) in absurd (omega arith)

-- acknowledgers hold the line for 1,500
pub acks_in : (seats : List Seat) (begin : ℕ) (low : Line) (left : ℕ) (xs : List Slot) (bits : List Bool) (e : ℕ) → OnSlot low begin (suc left) xs bits e
    → (t : ℕ) → e < t → (k : KnownIn low begin xs e t) → is_acknowledged seats (record { slots = xs ++ k.slot ∷ []; ended = k.ended }) t ≡ nat_lt t (acks_until seats bits e)
acks_in seats begin low left xs bits e s t l k =
    ap (λ (m : Known). is_acknowledged seats m t) (sym k.reports) ∙ acks_now seats low begin left xs bits e t s.reached s.count l k.slot k.ended k.reports k.falls

-- at 1,500 nobody pulls
pub high_at : (seats : List Seat) (begin : ℕ) (low : Line) → Calm seats begin low → (left : ℕ) (xs : List Slot) (bits : List Bool) (e : ℕ) → OnSlot low begin (suc left) xs bits e → low (e + 1500) ≡ false
high_at seats begin low c left xs bits e s = by (low (e + 1500)) refl
  where
    k : KnownIn low begin xs e (e + 1500)
    k = slot_known seats begin low c left xs bits e s (e + 1500) (omega arith) (omega arith)

    m : Known
    m = record { slots = xs ++ k.slot ∷ []; ended = k.ended }

    nobody : Puller seats begin (e + 1500) m ⊎ ((is_acknowledged seats m (e + 1500) ≡ true) ⊎ (is_broken seats m (e + 1500) m.ended ≡ true)) → ⊥
    nobody (inl p) = never_past (nat_lt (length bits) (length (frame_bits p.frame))) (slice_index_or (frame_bits p.frame) (length bits) false) (in_slot begin e 1500 (e + 1500) bits (frame_bits p.frame) s.time refl (omega arith) ∙ p.low)
    nobody (inr (inl a)) = acks_end e _ (sym (acks_in seats begin low left xs bits e s (e + 1500) (omega arith) k) ∙ a)
    nobody (inr (inr b)) = false≢true (sym (not_broken seats m (e + 1500) k.ended k.whole) ∙ b)

    by : (b : Bool) → low (e + 1500) ≡ b → low (e + 1500) ≡ false
    by false h = h
    by true h = absurd (nobody (who_makes seats begin low c (e + 1500) m k.reports h))

-- what is reported with a slot that is not sampled
pub reported_unsampled : (low : Line) (begin left : ℕ) (xs : List Slot) (bits : List Bool) (e : ℕ) → Reached low begin left xs bits e → filter_map (λ (x : Slot). x.bit) (xs ++ record { fall = e; bit = None } ∷ []) ≡ bits
reported_unsampled low begin left xs bits e r = reported_more xs bits (record { fall = e; bit = None }) r.reported ∙ append-nil bits

-- until its sample a sender that stays pulls
pub sender_in : (seats : List Seat) (begin : ℕ) (low : Line) → Calm seats begin low → (left : ℕ) (xs : List Slot) (bits : List Bool) (e : ℕ) → OnSlot low begin (suc left) xs bits e
    → (frame : List ℕ) → In frame (frames_of seats) → least_among (frames_of seats) frame ≡ true → Stays bits (frame_bits frame)
    → (t : ℕ) → e < t → t ≤ e + sample_at → line_of (sender_stretches begin (frame_bits frame)) t ≡ true → low t ≡ true
sender_in seats begin low c left xs bits e s frame among least stays t l h pulls =
    sender_low seats begin [] low t (xs ++ record { fall = e; bit = None } ∷ []) (contended seats begin [] low c.line)
    (known_unsampled low begin left xs bits e t s.reached (λ u a b. quiet_slot seats begin low c (suc left) xs bits e s u a (omega arith)) l h) frame among least
    (subst (λ (ys : List Bool). Stays ys (frame_bits frame)) (sym (reported_unsampled low begin (suc left) xs bits e s.reached)) stays) pulls

-- the first 600
pub soon_held : (seats : List Seat) (begin : ℕ) (low : Line) → Calm seats begin low → (left : ℕ) (xs : List Slot) (bits : List Bool) (e : ℕ) → OnSlot low begin (suc left) xs bits e
    → (t : ℕ) → e ≤ t → t < e + 600 → low t ≡ true
soon_held seats begin low c left xs bits e s t l h = elim (cases_lt e t) [
  | inl after ↦
      let w = starter seats begin low c (suc left) xs bits e s in
      let room : nat_lt (length bits) (length (frame_bits w.frame)) ≡ true = (let x = w.room in grind (arith, nat_tests)) in
      sender_in seats begin low c left xs bits e s w.frame w.among w.least w.stays t after (omega arith)
      (sym (in_slot begin e (t - e) t bits (frame_bits w.frame) s.time (omega arith) (omega arith))
      ∙ soon_low (nat_lt (length bits) (length (frame_bits w.frame))) (slice_index_or (frame_bits w.frame) (length bits) false) (t - e) room (omega arith))
  | inr same ↦ (let x : t ≡ e = omega arith in ap low x ∙ (and_parts (low e) (not (was_low low e)) s.fall).0)
]

-- a slot that is held for 1,500
pub held_slot : (seats : List Seat) (begin : ℕ) (low : Line) → Calm seats begin low → (left : ℕ) (xs : List Slot) (bits : List Bool) (e : ℕ) → OnSlot low begin (suc left) xs bits e
    → ((t : ℕ) → e + 600 ≤ t → t < e + 1500 → low t ≡ true) → SlotLow low e false
held_slot seats begin low c left xs bits e s held = record {
  lows = λ t l h. elim (cases_lt t (e + 600)) [ inl soon ↦ soon_held seats begin low c left xs bits e s t l soon | inr late ↦ held t late h ];
  highs = λ t l h. high_to low (e + 1500) t (high_at seats begin low c left xs bits e s) l (λ u a b. quiet_slot seats begin low c (suc left) xs bits e s u (omega arith) (omega arith));
  read = quiet_sample low e (λ u a b. quiet_slot seats begin low c (suc left) xs bits e s u a (omega arith)) ∙ ap (λ (b : Bool). Some (not b)) (held (e + sample_at) (omega arith) (omega arith));
}

-- a winner that sends a 0
pub zero_held : (seats : List Seat) (begin : ℕ) (low : Line) → Calm seats begin low → (left : ℕ) (xs : List Slot) (bits : List Bool) (e : ℕ) → OnSlot low begin (suc left) xs bits e
    → Puller seats begin (e + 600) (record { slots = xs ++ record { fall = e; bit = None } ∷ []; ended = None }) → (t : ℕ) → e + 600 ≤ t → t < e + 1500 → low t ≡ true
zero_held seats begin low c left xs bits e s p = held
  where
    sent : List Bool
    sent = frame_bits p.frame

    pulls_there : (nat_lt (length bits) (length sent) && nat_lt 600 (low_for (slice_index_or sent (length bits) false))) ≡ true
    pulls_there = in_slot begin e 600 (e + 600) bits sent s.time refl (omega arith) ∙ p.low

    room : nat_lt (length bits) (length sent) ≡ true
    room = (and_parts (nat_lt (length bits) (length sent)) (nat_lt 600 (low_for (slice_index_or sent (length bits) false))) pulls_there).0

    zero_sent : slice_index_or sent (length bits) false ≡ false
    zero_sent = zero_bit (slice_index_or sent (length bits) false) (and_parts (nat_lt (length bits) (length sent)) (nat_lt 600 (low_for (slice_index_or sent (length bits) false))) pulls_there).1

    -- acknowledge slots are sent as 1
    no_ack : length bits % 10 ≡ 9 → ⊥
    no_ack nine =
        let fits : length bits < length (frame_bits p.frame) = is_less (length bits) (length sent) room in
        let got : slice_get (frame_bits p.frame) (length bits + 1 - 1) ≡ Some true = ack_slot p.frame (length bits + 1) (omega arith) (omega (arith, fits)) (omega (arith, nine)) in
        let one : slice_index_or sent (length bits + 1 - 1) false ≡ true = get_or_from_slice_get (frame_bits p.frame) (length bits + 1 - 1) true false got in
        false≢true (sym zero_sent ∙ ap (λ i. slice_index_or sent i false) (let x : length bits ≡ length bits + 1 - 1 = omega arith in x) ∙ one)

    nine_not : (length bits % 10 == 9) ≡ false
    nine_not = by (length bits % 10 == 9) refl
      where
        by : (b : Bool) → (length bits % 10 == 9) ≡ b → (length bits % 10 == 9) ≡ false
        by false h = h
        by true h = absurd (no_ack (let x : length bits % 10 ≡ 9 = grind (arith, nat_tests) in x))

    ten_not : ((length bits + 1) % 10 == 0) ≡ false
    ten_not = let n : length bits % 10 ≢ 9 = no_ack in let x : (length bits + 1) % 10 ≢ 0 = (λ z. n (omega (arith, z))) in grind (arith, nat_tests)

    not_last : last_ending bits ≡ None
    not_last = ap (λ (b : Bool). if b then (if slice_index_or bits (length bits - 1) false then Some Complete else if length bits == 159 then Some Long else None) else None) nine_not

    stays : Stays bits sent
    stays = subst (λ (ys : List Bool). Stays ys sent) (reported_unsampled low begin (suc left) xs bits e s.reached) (stays_by (record { slots = xs ++ record { fall = e; bit = None } ∷ []; ended = None }) sent refl p.goes)

    pulls : (t : ℕ) → e ≤ t → t < e + 1500 → line_of (sender_stretches begin sent) t ≡ true
    pulls t l h =
        sym (in_slot begin e (t - e) t bits sent s.time (omega arith) (omega arith))
        ∙ later_low (nat_lt (length bits) (length sent)) (slice_index_or sent (length bits) false) (t - e) room zero_sent (omega arith)

    soon : (t : ℕ) → e < t → t ≤ e + sample_at → low t ≡ true
    soon t l h = sender_in seats begin low c left xs bits e s p.frame p.among p.least stays t l h (pulls t (omega arith) (omega arith))

    read : bit_sampled_at low e ≡ Some false
    read = quiet_sample low e (λ u a b. quiet_slot seats begin low c (suc left) xs bits e s u a (omega arith)) ∙ ap (λ (b : Bool). Some (not b)) (soon (e + sample_at) (omega arith) (omega arith))

    -- what it sent was read, so it stays
    stays_on : Stays (bits ++ false ∷ []) sent
    stays_on n l m = elim (cases_lt (length bits) n) [
      | inl last ↦
          let at : n ≡ length bits + 1 = omega (arith, length-append bits (false ∷ []), m) in
          let ten : (n % 10 == 0) ≡ false = ap (λ (i : ℕ). i % 10 == 0) at ∙ ten_not in
          let i : n - 1 ≡ length bits = omega arith in
          let was : bit_read (bits ++ false ∷ []) n ≡ false = ap (λ j. slice_index_or (bits ++ false ∷ []) j false) i ∙ get_or-append_seam bits false [] false in
          let is : slice_index_or sent (n - 1) false ≡ false = ap (λ j. slice_index_or sent j false) i ∙ zero_sent in
          rw (ten, was, is) refl
      | inr before ↦ leaves_more bits (false ∷ []) sent n l before ∙ stays n l before
    ]

    after : (t : ℕ) → e + sample_at < t → t < e + 1500 → Reports low begin t (xs ++ record { fall = e; bit = Some false } ∷ [])
    after t l h =
        known_in_slot low begin t e left xs bits s.reached.goes (over_sampled e t xs (omega arith) s.reached.over) (omega arith) (λ u a b. quiet_slot seats begin low c (suc left) xs bits e s u a (omega arith)) (omega arith) (no_some (last_ending bits) t (e + sample_at) not_last)
        ∙ ap (λ (b : Bool). let k : Known = record { slots = xs ++ record { fall = e; bit = if b then bit_sampled_at low e else None } ∷ []; ended = None } in k) (let y : nat_lt (e + sample_at) t ≡ true = grind (arith, nat_tests) in y)
        ∙ ap (λ (o : Option Bool). let k : Known = record { slots = xs ++ record { fall = e; bit = o } ∷ []; ended = None } in k) read

    held : (t : ℕ) → e + 600 ≤ t → t < e + 1500 → low t ≡ true
    held t l h = elim (cases_lt (e + sample_at) t) [
      | inl late ↦ sender_low seats begin [] low t (xs ++ record { fall = e; bit = Some false } ∷ []) (contended seats begin [] low c.line) (after t late h) p.frame p.among p.least
          (subst (λ (ys : List Bool). Stays ys sent) (sym (reported_more xs bits (record { fall = e; bit = Some false }) s.reached.reported)) stays_on) (pulls t (omega arith) h)
      | inr early ↦ soon t (omega arith) early
    ]

-- acknowledgers
pub acks_held : (seats : List Seat) (begin : ℕ) (low : Line) → Calm seats begin low → (left : ℕ) (xs : List Slot) (bits : List Bool) (e : ℕ) → OnSlot low begin (suc left) xs bits e
    → (k : KnownIn low begin xs e (e + 600)) → is_acknowledged seats (record { slots = xs ++ k.slot ∷ []; ended = k.ended }) (e + 600) ≡ true → (t : ℕ) → e + 600 ≤ t → t < e + 1500 → low t ≡ true
acks_held seats begin low c left xs bits e s k a t l h =
    let m = slot_known seats begin low c left xs bits e s t (omega arith) (omega arith) in
    acked_low seats begin low c t (record { slots = xs ++ m.slot ∷ []; ended = m.ended }) m.reports
    (acks_in seats begin low left xs bits e s t (omega arith) m ∙ acks_hold e t _ (sym (acks_in seats begin low left xs bits e s (e + 600) (omega arith) k) ∙ a) h)

pub slot_low : (seats : List Seat) (begin : ℕ) (low : Line) → Calm seats begin low → (left : ℕ) (xs : List Slot) (bits : List Bool) (e : ℕ) → OnSlot low begin (suc left) xs bits e → (bit : Bool) × SlotLow low e bit
slot_low seats begin low c left xs bits e s = by (low (e + 600)) refl
  where
    quiet : (u : ℕ) → e < u → u < e + 2400 → is_fall low u ≡ false
    quiet = quiet_slot seats begin low c (suc left) xs bits e s

    here : KnownIn low begin xs e (e + 600)
    here = record { slot = record { fall = e; bit = None }; ended = None; reports = known_unsampled low begin left xs bits e (e + 600) s.reached (λ u a b. quiet u a (omega arith)) (omega arith) (omega arith); falls = refl; whole = tt }

    k : Known
    k = record { slots = xs ++ record { fall = e; bit = None } ∷ []; ended = None }

    made : Puller seats begin (e + 600) k ⊎ ((is_acknowledged seats k (e + 600) ≡ true) ⊎ (is_broken seats k (e + 600) None ≡ true)) → SlotLow low e false
    made (inl p) = held_slot seats begin low c left xs bits e s (zero_held seats begin low c left xs bits e s p)
    made (inr (inl a)) = held_slot seats begin low c left xs bits e s (acks_held seats begin low c left xs bits e s here a)
    made (inr (inr b)) = absurd (false≢true b)

    high : low (e + 600) ≡ false → (t : ℕ) → e + 600 ≤ t → t < e + 2400 → low t ≡ false
    high h t l m = high_to low (e + 600) t h l (λ u a b. quiet u (omega arith) (omega arith))

    by : (b : Bool) → low (e + 600) ≡ b → (bit : Bool) × SlotLow low e bit
    by true h = (false, made (who_makes seats begin low c (e + 600) k here.reports h))
    by false h = (
      true,
      record {
        lows = λ t l m. soon_held seats begin low c left xs bits e s t l m;
        highs = λ t l m. high h t l m;
        read = quiet_sample low e (λ u a b. quiet u a (omega arith)) ∙ ap (λ (b : Bool). Some (not b)) (high h (e + sample_at) (omega arith) (omega arith));
      },
    )
