-- How long a sender pulls: to the sample of the slot at which it is out, or to the reading's end.
use Rattle.std.proofs.Common.{◌≡◌, ℕ, zero, suc, ◌+◌, ◌-◌, ◌%◌, ◌==◌, ◌<◌, ◌≤◌, Bool, true, false, not, ◌&&◌, nat_lt, nat_le, if◌then◌else◌, List, [], ◌∷◌, ◌++◌, length, length-append, slice_get, slice_index_or, option_map, inl, inr, Option, Some, None, is_none, Result, Ok, Err, refl, arith, ap, ◌∙◌, sym, subst}
use Rattle.std.specs.List.{filter_map, cons_option, find, range_with_len}
use Rattle.std.specs.Option.{option_to_list}
use mathlib.Core.Bool.{beq}
use Rattle.std.proofs.lemmas.Bool.{cases_lt}
use Rattle.std.proofs.lemmas.Bool.Decides.{nat_tests}
use Rattle.line_wave.specs.Line.{Line}
use Rattle.line_reading.specs.Windows.{standard, sample_at}
use Rattle.line_reading.specs.Reading.After.{Next, Ends}
use Rattle.line_frames.specs.declared.Ending.{Ending}
use Rattle.line_frames.specs.declared.Ending.TheVariants.{Complete, Short, Silent, BadStart, Long, Open}
use Rattle.line_reading.specs.Reading.{after_fall, after_last, last_heard, next_fall, sample, Read, Known, Slot, known_at, known_slots, reading_of, read_start, read_slots, read_on, after_slot, last_ending, bit_sampled_at, start_of, bits_of, After}
use Rattle.line_reading.specs.Sending.{bit_read, destination, known_bits, is_whole, has_all, is_out_by, out_by, out_slot, goes_on}
use Rattle.line_reading.proofs.Ends.{until_by}
use Rattle.line_reading.proofs.AlongBy.{quiet_sample}
use Rattle.line_rounds.specs.Round.{all_known, is_not_before}
use Rattle.line_rounds.specs.Contend.{leaves}
use Rattle.line_rounds.specs.Slots.{AreSpaced, IsReported, AreReported, MoreBits}
use Rattle.line_rounds.proofs.Early.{leaves_more}
use Rattle.line_rounds.proofs.Polled.{reported_bits}
use Rattle.line_rounds.proofs.Spans.{bits_more, reading_spans, reported_all}
use Rattle.line_rounds.proofs.Walk.{next_falls}
use Rattle.room_drives.specs.Stretches.{sample_by}

-- ---- every slot but the last was sampled

abbrev pub FrontReported : List Slot → Type 0
FrontReported [] = Unit {0}
FrontReported (s ∷ []) = Unit {0}
FrontReported (s ∷ x ∷ ss) = ((b : Bool) × (s.bit ≡ Some b)) × FrontReported (x ∷ ss)

front_on : (low : Line) (e left : ℕ) (bits more : List Bool) (a : After) → after_slot low e (last_ending bits) ≡ a
    → ((f : ℕ) → FrontReported (read_slots low left more f).slots) → FrontReported (record { fall = e; bit = bit_sampled_at low e } ∷ (read_on (read_slots low left more) a).slots)
front_on low e left bits more (Ends ending at) h ih = tt
front_on low e left bits more (Next f) h ih = step (read_slots low left more f).slots (ih f)
  where
    here : bit_sampled_at low e ≡ Some (not (low (e + sample_at)))
    here = let n = next_falls low e bits f h in quiet_sample low e (λ u a b. n.quiet u a (omega (arith, n.far)))

    step : (ss : List Slot) → FrontReported ss → FrontReported (record { fall = e; bit = bit_sampled_at low e } ∷ ss)
    step [] t = tt
    step (x ∷ ss) t = ((not (low (e + sample_at)), here), t)

front_slots : (low : Line) (left : ℕ) (bits : List Bool) (e : ℕ) → FrontReported (read_slots low left bits e).slots
unfolding read_slots
front_slots low zero bits e = tt
front_slots low (suc left) bits e =
    front_on low e left bits (bits ++ option_to_list (bit_sampled_at low e)) (after_slot low e (last_ending bits)) refl
    (λ f. front_slots low left (bits ++ option_to_list (bit_sampled_at low e)) f)

front_start : (low : Line) (begin : ℕ) (s : Result ℕ ℕ) → FrontReported (read_start low begin s).slots
front_start low begin (Ok f) = front_slots low 160 [] f
front_start low begin (Err at) = tt

pub front_reported : (low : Line) (begin : ℕ) → FrontReported (reading_of low begin).slots
front_reported low begin = front_start low begin (start_of low begin)

-- ---- how many bits are known

abbrev pub bits_at : ℕ → List Slot → List Bool
bits_at t ss = filter_map (λ (s : Slot). s.bit) (known_slots t ss)

none_known : (t : ℕ) (ss : List Slot) (from : ℕ) → AreSpaced from ss → t ≤ from → known_slots t ss ≡ []
none_known t [] from s h = refl
none_known t (x ∷ ss) from s h = let e : nat_lt x.fall t ≡ false = grind (arith, nat_tests, s.0) in rw e refl

few_known : (t : ℕ) (x : Slot) (ss : List Slot) (from : ℕ) → AreSpaced from (x ∷ ss) → t ≤ x.fall + sample_at → length (bits_at t (x ∷ ss)) ≡ 0
few_known t x ss from spaced early = by (nat_lt x.fall t) refl
  where
    unsampled : nat_lt (x.fall + sample_at) t ≡ false
    unsampled = grind (arith, nat_tests)

    by : (b : Bool) → nat_lt x.fall t ≡ b → length (bits_at t (x ∷ ss)) ≡ 0
    by true f = rw (f, unsampled, none_known t ss (x.fall + (sample_at + 1)) spaced.1 (omega arith)) refl
    by false f = rw f refl

pub one_known : (t : ℕ) (x : Slot) (ss : List Slot) (b : Bool) → x.fall + sample_at < t → x.bit ≡ Some b → length (bits_at t (x ∷ ss)) ≡ suc (length (bits_at t ss))
one_known t x ss b late e =
    let f : nat_lt x.fall t ≡ true = grind (arith, nat_tests) in
    let g : nat_lt (x.fall + sample_at) t ≡ true = grind (arith, nat_tests) in
    rw (f, g, e) refl

pub spaced_get : (ss : List Slot) (from k : ℕ) (s : Slot) → AreSpaced from ss → slice_get ss k ≡ Some s → from ≤ s.fall
spaced_get [] from k s spaced h = cc
spaced_get (x ∷ ss) from zero s spaced h = let same : x ≡ s = cc in subst (λ (y : Slot). from ≤ y.fall) same spaced.0
spaced_get (x ∷ ss) from (suc k) s spaced h = omega (arith, spaced.0, spaced_get ss (x.fall + (sample_at + 1)) k s spaced.1 h)

-- a bit is known once its slot was sampled
pub count_at : (t : ℕ) (ss : List Slot) (from k : ℕ) (s : Slot) (b : Bool) → AreSpaced from ss → FrontReported ss → slice_get ss k ≡ Some s → s.bit ≡ Some b
    → nat_le (length (bits_at t ss)) k ≡ nat_le t (s.fall + sample_at)
count_at t [] from k s b spaced front h e = cc
count_at t (x ∷ ss) from zero s b spaced front h e =
    let same : x ≡ s = cc in
    let bit : x.bit ≡ Some b = ap (λ (y : Slot). y.bit) same ∙ e in
    let fall : x.fall ≡ s.fall = ap (λ (y : Slot). y.fall) same in
    elim (cases_lt (x.fall + sample_at) t) [
      | inl late ↦ (let n = one_known t x ss b late bit in
          let left : nat_le (length (bits_at t (x ∷ ss))) 0 ≡ false = grind (arith, nat_tests) in
          let right : nat_le t (s.fall + sample_at) ≡ false = grind (arith, nat_tests) in left ∙ sym right)
      | inr early ↦ (let n = few_known t x ss from spaced early in
          let left : nat_le (length (bits_at t (x ∷ ss))) 0 ≡ true = grind (arith, nat_tests) in
          let right : nat_le t (s.fall + sample_at) ≡ true = grind (arith, nat_tests) in left ∙ sym right)
    ]
count_at t (x ∷ []) from (suc k) s b spaced front h e = cc
count_at t (x ∷ y ∷ ss) from (suc k) s b spaced front h e =
    let rest = count_at t (y ∷ ss) (x.fall + (sample_at + 1)) k s b spaced.1 front.1 h e in
    let later = spaced_get (y ∷ ss) (x.fall + (sample_at + 1)) k s spaced.1 h in
    elim (cases_lt (x.fall + sample_at) t) [
      | inl late ↦ (let n = one_known t x (y ∷ ss) front.0.0 late front.0.1 in
          let left : nat_le (length (bits_at t (x ∷ y ∷ ss))) (suc k) ≡ nat_le (length (bits_at t (y ∷ ss))) k = grind (arith, nat_tests) in left ∙ rest)
      | inr early ↦ (let n = few_known t x (y ∷ ss) from spaced early in
          let left : nat_le (length (bits_at t (x ∷ y ∷ ss))) (suc k) ≡ true = grind (arith, nat_tests) in
          let right : nat_le t (s.fall + sample_at) ≡ true = grind (arith, nat_tests) in left ∙ sym right)
    ]

-- the slot of a bit
pub record SlotOf (ss : List Slot) (k : ℕ) : Type 0 where
  pub slot : Slot
  pub bit : Bool
  pub there : slice_get ss k ≡ Some slot
  pub sampled_so : slot.bit ≡ Some bit

pub slot_of : (ss : List Slot) (k : ℕ) → FrontReported ss → k < length (filter_map (λ (s : Slot). s.bit) ss) → SlotOf ss k
slot_of [] k front h = absurd (omega (arith, h))
slot_of (x ∷ []) k front h = by x.bit refl h
  where
    by : (o : Option Bool) → x.bit ≡ o → k < length (cons_option o []) → SlotOf (x ∷ []) k
    by None e l = absurd (omega (arith, l))
    by (Some b) e l = let first : k ≡ 0 = omega (arith, l) in rw first (record { slot = x; bit = b; there = refl; sampled_so = e })
slot_of (x ∷ y ∷ ss) zero front h = record { slot = x; bit = front.0.0; there = refl; sampled_so = front.0.1 }
slot_of (x ∷ y ∷ ss) (suc k) front h =
    let more : length (filter_map (λ (s : Slot). s.bit) (x ∷ y ∷ ss)) ≡ suc (length (filter_map (λ (s : Slot). s.bit) (y ∷ ss))) = rw front.0.1 refl in
    let r = slot_of (y ∷ ss) k front.1 (omega (arith, h, more)) in
    record { slot = r.slot; bit = r.bit; there = r.there; sampled_so = r.sampled_so }

-- ---- searches

found_late : (p : ℕ → Bool) (a m c : ℕ) → m ≤ a → is_not_before m (find p (range_with_len a c)) ≡ true
found_late p a m zero h = refl
found_late p a m (suc c) h =
    elim (p a) as (λ b. is_not_before m (if b then Some a else find p (range_with_len (a + 1) c)) ≡ true) [
      | true ↦ grind (arith, nat_tests)
      | false ↦ found_late p (a + 1) m c (omega arith)
    ]

pub found_before : (p q : ℕ → Bool) (a n c total m : ℕ) → m ≡ a + n → total ≡ n + c → ((x : ℕ) → a ≤ x → x < a + n → p x ≡ q x)
    → is_not_before m (find p (range_with_len a total)) ≡ is_none (find q (range_with_len a n))
found_before p q a zero c total m e t h = found_late p a m total (omega arith)
found_before p q a (suc n) c zero m e t h = absurd (omega arith)
found_before p q a (suc n) c (suc total) m e t h =
    rw (h a (omega arith) (omega arith))
    (elim (q a) as (λ b. is_not_before m (if b then Some a else find p (range_with_len (a + 1) total)) ≡ is_none (if b then Some a else find q (range_with_len (a + 1) n))) [
      | true ↦ early
      | false ↦ found_before p q (a + 1) n c total m (omega arith) (omega arith) (λ x l k. h x (omega arith) (omega arith))
    ])
  where
    early : nat_le m a ≡ false
    early = grind (arith, nat_tests)

pub found_within : (p : ℕ → Bool) (a n x : ℕ) → find p (range_with_len a n) ≡ Some x → (a ≤ x) × (x < a + n)
found_within p a zero x h = cc
found_within p a (suc n) x h = by (p a) h (λ k. found_within p (a + 1) n x k)
  where
    by : (b : Bool) → (if b then Some a else find p (range_with_len (a + 1) n)) ≡ Some x → (find p (range_with_len (a + 1) n) ≡ Some x → (a + 1 ≤ x) × (x < a + 1 + n)) → (a ≤ x) × (x < a + suc n)
    by true k go = let same : a ≡ x = cc in (omega arith, omega arith)
    by false k go = let r = go k in (omega (arith, r.0), omega (arith, r.1))

-- ---- a reading with all its blocks ends at its last slot's sample

abbrev pub HasBit : Option Bool → Type 0
HasBit o = (b : Bool) × (o ≡ Some b)

abbrev pub EndsSampled : List Slot → ℕ → Type 0
EndsSampled [] until = ⊥
EndsSampled (s ∷ []) until = HasBit s.bit × (s.fall + sample_at ≡ until)
EndsSampled (s ∷ x ∷ ss) until = EndsSampled (x ∷ ss) until

later_end : (s : Slot) (ss : List Slot) (until : ℕ) → EndsSampled ss until → EndsSampled (s ∷ ss) until
later_end s [] until e = absurd e
later_end s (x ∷ ss) until e = e

whole_at : (low : Line) (e : ℕ) (last : Option Ending) (ending : Ending) (at : ℕ) → after_slot low e last ≡ Ends ending at → has_all ending ≡ true
    → HasBit (bit_sampled_at low e) × (e + sample_at ≡ last_heard ending at)
whole_at low e None ending at h w = by_fall (next_fall low e standard.bit_total.most) h
  where
    by_time : (g : ℕ) (b : Bool) → (if b then Ends Short g else Next g) ≡ Ends ending at → HasBit (bit_sampled_at low e) × (e + sample_at ≡ last_heard ending at)
    by_time g true k = let x : Short ≡ ending = cc in let y : has_all Short ≡ true = ap has_all x ∙ w in cc
    by_time g false k = cc

    by_fall : (o : Option ℕ) → after_fall e o ≡ Ends ending at → HasBit (bit_sampled_at low e) × (e + sample_at ≡ last_heard ending at)
    by_fall None k = let x : Silent ≡ ending = cc in let y : has_all Silent ≡ true = ap has_all x ∙ w in cc
    by_fall (Some g) k = by_time g (nat_lt g (e + standard.bit_total.least)) k
whole_at low e (Some last) ending at h w = by_fall (next_fall low e sample_at) refl h
  where
    heard : (x : Ending) (n : ℕ) → has_all x ≡ true → n ≡ last_heard x n
    heard Complete n k = refl
    heard Long n k = refl
    heard Short n k = refl
    heard Open n k = refl
    heard BadStart n k = refl
    heard Silent n k = cc

    by_fall : (o : Option ℕ) → next_fall low e sample_at ≡ o → after_last e last o ≡ Ends ending at → HasBit (bit_sampled_at low e) × (e + sample_at ≡ last_heard ending at)
    by_fall None q k = let y : e + sample_at ≡ at = cc in ((not (low (e + sample_at)), ap (sample low e) q), y ∙ heard ending at w)
    by_fall (Some g) q k = let x : Short ≡ ending = cc in let y : has_all Short ≡ true = ap has_all x ∙ w in cc

whole_on : (low : Line) (e left : ℕ) (bits more : List Bool) (a : After) → after_slot low e (last_ending bits) ≡ a
    → ((f : ℕ) → has_all (read_slots low left more f).ending ≡ true → EndsSampled (read_slots low left more f).slots (read_slots low left more f).until)
    → has_all (read_on (read_slots low left more) a).ending ≡ true
    → EndsSampled (record { fall = e; bit = bit_sampled_at low e } ∷ (read_on (read_slots low left more) a).slots) (read_on (read_slots low left more) a).until
whole_on low e left bits more (Ends ending at) h ih w = whole_at low e (last_ending bits) ending at h w
whole_on low e left bits more (Next f) h ih w =
    later_end (record { fall = e; bit = bit_sampled_at low e }) (read_slots low left more f).slots (read_slots low left more f).until (ih f w)

whole_slots : (low : Line) (left : ℕ) (bits : List Bool) (e : ℕ) → has_all (read_slots low left bits e).ending ≡ true
    → EndsSampled (read_slots low left bits e).slots (read_slots low left bits e).until
unfolding read_slots
whole_slots low zero bits e w = cc
whole_slots low (suc left) bits e w =
    whole_on low e left bits (bits ++ option_to_list (bit_sampled_at low e)) (after_slot low e (last_ending bits)) refl
    (λ f. whole_slots low left (bits ++ option_to_list (bit_sampled_at low e)) f) w

whole_start : (low : Line) (begin : ℕ) (s : Result ℕ ℕ) → has_all (read_start low begin s).ending ≡ true → EndsSampled (read_start low begin s).slots (read_start low begin s).until
whole_start low begin (Ok f) w = whole_slots low 160 [] f w
whole_start low begin (Err at) w = cc

-- so before that not all its bits are known
less_known : (t until : ℕ) (ss : List Slot) (from : ℕ) → AreSpaced from ss → FrontReported ss → EndsSampled ss until → t ≤ until
    → length (bits_at t ss) < length (filter_map (λ (s : Slot). s.bit) ss)
less_known t until [] from spaced front e h = absurd e
less_known t until (s ∷ []) from spaced front e h =
    let n = few_known t s [] from spaced (omega (arith, e.1)) in
    let one : length (filter_map (λ (x : Slot). x.bit) (s ∷ [])) ≡ 1 = rw e.0.1 refl in
    omega (arith, n, one)
less_known t until (s ∷ x ∷ ss) from spaced front e h =
    let more : length (filter_map (λ (y : Slot). y.bit) (s ∷ x ∷ ss)) ≡ suc (length (filter_map (λ (y : Slot). y.bit) (x ∷ ss))) = rw front.0.1 refl in
    let rest = less_known t until (x ∷ ss) (s.fall + (sample_at + 1)) spaced.1 front.1 e h in
    elim (cases_lt (s.fall + sample_at) t) [
      | inl late ↦ (let n = one_known t s (x ∷ ss) front.0.0 late front.0.1 in omega (arith, n, more, rest))
      | inr early ↦ (let n = few_known t s (x ∷ ss) from spaced early in omega (arith, n, more))
    ]

-- ---- how long a sender pulls

abbrev pub last_by : Read → Option ℕ → ℕ
last_by r None = r.at
last_by r (Some n) = sample_by (option_map (λ (s : Slot). s.fall) (slice_get r.slots (n - 1)))

reported_get : (until : ℕ) (ss : List Slot) (k : ℕ) (s : Slot) (b : Bool) → AreReported until ss → slice_get ss k ≡ Some s → s.bit ≡ Some b → s.fall + sample_at ≤ until
reported_get until [] k s b reported h e = cc
reported_get until (x ∷ ss) zero s b reported h e =
    let same : x ≡ s = cc in
    let bit : x.bit ≡ Some b = ap (λ (y : Slot). y.bit) same ∙ e in
    let fall : x.fall ≡ s.fall = ap (λ (y : Slot). y.fall) same in
    omega (arith, fall, subst (λ (o : Option Bool). IsReported until x.fall o) bit reported.1)
reported_get until (x ∷ ss) (suc k) s b reported h e = reported_get until ss k s b reported.2 h e

-- what is known after a reading is all
pub known_after : (t : ℕ) (low : Line) (begin : ℕ) → (reading_of low begin).until < t → known_at t (reading_of low begin) ≡ all_known (reading_of low begin)
known_after t low begin past =
    let r : Read = reading_of low begin in
    let now : nat_lt (reading_of low begin).until t ≡ true = grind (arith, nat_tests) in
    let then_ : nat_lt (reading_of low begin).until ((reading_of low begin).until + 1) ≡ true = grind (arith, nat_tests) in
    let slots = reported_all ((reading_of low begin).until + 1) t (reading_of low begin).until (reading_of low begin).slots (reading_spans low begin).reported (omega arith) (omega arith) in
    rw (now, then_, slots) refl

-- all bits are known in the end
pub all_bits : (low : Line) (begin : ℕ) → bits_at ((reading_of low begin).until + 1) (reading_of low begin).slots ≡ bits_of (reading_of low begin)
all_bits low begin = reported_bits ((reading_of low begin).until + 1) (reading_of low begin).until (reading_of low begin).slots (reading_spans low begin).reported (omega arith)

is_whole_end : (low : Line) (begin : ℕ) → is_whole (all_known (reading_of low begin)).ended ≡ has_all (reading_of low begin).ending
is_whole_end low begin =
    let over : nat_lt (reading_of low begin).until ((reading_of low begin).until + 1) ≡ true = grind (arith, nat_tests) in rw over refl

-- the slot at which a sender is out
pub out_slot_of : (low : Line) (begin : ℕ) (sent : List Bool) (n : ℕ) → out_slot (all_known (reading_of low begin)) sent ≡ Some n → (1 ≤ n) × SlotOf (reading_of low begin).slots (n - 1)
out_slot_of low begin sent n h =
    let ss = (reading_of low begin).slots in
    let w = found_within (is_out_by (known_bits (all_known (reading_of low begin))) (is_whole (all_known (reading_of low begin)).ended) sent) 1 (length (known_bits (all_known (reading_of low begin)))) n h in
    let count : length (known_bits (all_known (reading_of low begin))) ≡ length (bits_of (reading_of low begin)) = ap length (all_bits low begin) in
    (w.0, slot_of ss (n - 1) (front_reported low begin) (omega (arith, w.0, w.1, count)))

sample_of : (ss : List Slot) (k : ℕ) (s : Slot) → slice_get ss k ≡ Some s → sample_by (option_map (λ (x : Slot). x.fall) (slice_get ss k)) ≡ s.fall + sample_at
sample_of ss k s h = ap (λ (o : Option Slot). sample_by (option_map (λ (x : Slot). x.fall) o)) h

-- a sender is out at a sample, which the reading has
pub out_by_then : (low : Line) (begin t : ℕ) (sent : List Bool) (n : ℕ) → out_slot (all_known (reading_of low begin)) sent ≡ Some n
    → nat_le t (last_by (reading_of low begin) (Some n)) ≡ true → t ≤ (reading_of low begin).until
out_by_then low begin t sent n e h =
    let s = (out_slot_of low begin sent n e).1 in
    let reported = reported_get (reading_of low begin).until (reading_of low begin).slots (n - 1) s.slot s.bit (reading_spans low begin).reported s.there s.sampled_so in
    let by_sample : nat_le t (s.slot.fall + sample_at) ≡ true = sym (ap (λ m. nat_le t m) (sample_of (reading_of low begin).slots (n - 1) s.slot s.there)) ∙ h in
    let before : t ≤ s.slot.fall + sample_at = grind (arith, nat_tests) in
    omega (arith, before, reported)

pub stops : (low : Line) (begin t : ℕ) (sent : List Bool)
    → (is_none (out_slot (known_at t (reading_of low begin)) sent) && goes_on (known_at t (reading_of low begin)).ended t)
    ≡ nat_le t (last_by (reading_of low begin) (out_slot (all_known (reading_of low begin)) sent))
stops low begin t sent = elim (cases_lt (reading_of low begin).until t) [ inl past ↦ after past | inr by_then ↦ before by_then ]
  where
    r : Read
    r = reading_of low begin

    after : (reading_of low begin).until < t → (is_none (out_slot (known_at t (reading_of low begin)) sent) && goes_on (known_at t (reading_of low begin)).ended t)
        ≡ nat_le t (last_by (reading_of low begin) (out_slot (all_known (reading_of low begin)) sent))
    after past =
        ap (λ (k : Known). is_none (out_slot k sent) && goes_on k.ended t) (known_after t low begin past)
        ∙ ap (λ b. is_none (out_slot (all_known (reading_of low begin)) sent) && goes_on (if b then Some (record { ending = (reading_of low begin).ending; at = (reading_of low begin).at; until = (reading_of low begin).until }) else None) t) over
        ∙ by_out (out_slot (all_known (reading_of low begin)) sent) refl
      where
        over : nat_lt (reading_of low begin).until ((reading_of low begin).until + 1) ≡ true
        over = grind (arith, nat_tests)

        by_out : (o : Option ℕ) → out_slot (all_known (reading_of low begin)) sent ≡ o → (is_none o && nat_le t (reading_of low begin).at) ≡ nat_le t (last_by (reading_of low begin) o)
        by_out None e = refl
        by_out (Some n) e =
            let s = (out_slot_of low begin sent n e).1 in
            let reported = reported_get (reading_of low begin).until (reading_of low begin).slots (n - 1) s.slot s.bit (reading_spans low begin).reported s.there s.sampled_so in
            let stop : nat_le t (s.slot.fall + sample_at) ≡ false = grind (arith, nat_tests) in
            sym (ap (λ m. nat_le t m) (sample_of (reading_of low begin).slots (n - 1) s.slot s.there) ∙ stop)

    before : t ≤ (reading_of low begin).until → (is_none (out_slot (known_at t (reading_of low begin)) sent) && goes_on (known_at t (reading_of low begin)).ended t)
        ≡ nat_le t (last_by (reading_of low begin) (out_slot (all_known (reading_of low begin)) sent))
    before by_then =
        ap (λ b. is_none (out_by (bits_at t (reading_of low begin).slots) (is_whole (if b then Some (record { ending = (reading_of low begin).ending; at = (reading_of low begin).at; until = (reading_of low begin).until }) else None)) sent)
        && goes_on (if b then Some (record { ending = (reading_of low begin).ending; at = (reading_of low begin).at; until = (reading_of low begin).until }) else None) t) not_yet
        ∙ and_true (is_none (out_by (bits_at t (reading_of low begin).slots) false sent))
        ∙ sym (found_before (is_out_by all whole sent) (is_out_by now false sent) 1 (length now) (length more.0) (length all) (length now + 1) (omega arith) count tests)
        ∙ by_out (out_slot (all_known (reading_of low begin)) sent) refl
      where
        not_yet : nat_lt (reading_of low begin).until t ≡ false
        not_yet = grind (arith, nat_tests)

        and_true : (b : Bool) → (b && true) ≡ b
        and_true true = refl
        and_true false = refl

        now : List Bool
        now = bits_at t (reading_of low begin).slots

        all : List Bool
        all = bits_at ((reading_of low begin).until + 1) (reading_of low begin).slots

        whole : Bool
        whole = is_whole (all_known (reading_of low begin)).ended

        more : MoreBits t ((reading_of low begin).until + 1) (reading_of low begin).slots
        more = bits_more t ((reading_of low begin).until + 1) (reading_of low begin).slots 0 (reading_spans low begin).spaced (omega arith)

        count : length all ≡ length now + length more.0
        count = ap length more.1 ∙ length-append now more.0

        not_last : (n : ℕ) → n ≤ length now → (b : Bool) → whole ≡ b → (b && (n == length all)) ≡ false
        not_last n l false w = refl
        not_last n l true w =
            let ends = whole_start low begin (start_of low begin) (sym (is_whole_end low begin) ∙ w) in
            let less = less_known t (reading_of low begin).until (reading_of low begin).slots 0 (reading_spans low begin).spaced (front_reported low begin) ends by_then in
            let total : length all ≡ length (bits_of (reading_of low begin)) = ap length (all_bits low begin) in
            let other : (n == length all) ≡ false = grind (arith, nat_tests, less, total) in other

        tests : (n : ℕ) → 1 ≤ n → n < 1 + length now → is_out_by all whole sent n ≡ is_out_by now false sent n
        tests n l h =
            ap (λ c. if n % 10 == 0 then not c && not (beq (bit_read all n) (destination all == 15)) else not (beq (bit_read all n) (slice_index_or sent (n - 1) false)))
            (not_last n (omega arith) whole refl)
            ∙ (ap (λ (b : List Bool). leaves b sent n) more.1 ∙ leaves_more now more.0 sent n l (omega arith))

        by_out : (o : Option ℕ) → out_slot (all_known (reading_of low begin)) sent ≡ o → is_not_before (length now + 1) o ≡ nat_le t (last_by (reading_of low begin) o)
        by_out None e = let u = until_by low begin in let yes : nat_le t (reading_of low begin).at ≡ true = grind (arith, nat_tests, u) in sym yes
        by_out (Some n) e =
            let found = out_slot_of low begin sent n e in
            let s = found.1 in
            let one = found.0 in
            let less : nat_le (length now + 1) n ≡ nat_le (length now) (n - 1) = grind (arith, nat_tests, one) in
            less ∙ count_at t (reading_of low begin).slots 0 (n - 1) s.slot s.bit (reading_spans low begin).spaced (front_reported low begin) s.there s.sampled_so
            ∙ sym (ap (λ m. nat_le t m) (sample_of (reading_of low begin).slots (n - 1) s.slot s.there))
