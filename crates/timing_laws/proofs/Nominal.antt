-- Without pulses the line of a round is that of one sender of the nominal times, which sends the bits that are read.
use Rattle.std.proofs.Common.{◌≡◌, ◌≢◌, ℕ, zero, suc, ◌+◌, ◌-◌, ◌*◌, ◌%◌, ◌==◌, ◌<◌, ◌≤◌, Bool, true, false, ◌||◌, nat_lt, if◌then◌else◌, List, [], ◌∷◌, ◌++◌, length, length-append, slice_index_or, ◌⊎◌, inl, inr, Option, Some, None, is_some, Result, Ok, Err, refl, arith, ap, ◌∙◌, sym, subst, append_assoc}
use Rattle.std.specs.List.{list_any, filter_map, cons_option}
use Rattle.std.specs.Option.{option_to_list}
use Rattle.std.proofs.Math.Path.{fun_ext}
use Rattle.std.proofs.lemmas.Bool.{cases_lt, false≢true}
use Rattle.std.proofs.lemmas.Bool.Decides.{nat_tests}
use Rattle.line_wave.specs.declared.Stretch.{Stretch}
use Rattle.line_wave.specs.Line.{Line, line_of, covers, is_fall, is_rise, IsWave, IsWaveFrom}
use Rattle.line_wave.specs.Sender.{slot_stretches, sender_stretches}
use Rattle.line_frames.specs.Bits.{frame_bits, least_among}
use Rattle.line_frames.specs.declared.Ending.{Ending}
use Rattle.line_frames.specs.declared.Ending.TheVariants.{Complete, Short, Silent, BadStart, Long, Open}
use Rattle.line_frames.proofs.Slots.{length-frame_bits}
use Rattle.line_reading.specs.Windows.{standard, sample_at}
use Rattle.line_reading.specs.Reading.After.{Next, Ends}
use Rattle.line_reading.specs.Reading.{next_fall, next_rise, Read, Slot, known_at, reading_of, read_slots, read_on, read_start, after_slot, after_fall, after_last, last_ending, last_heard, bit_sampled_at, start_of, start_fall, bits_of, After}
use Rattle.line_reading.proofs.Search.{first_in_some, found_first, found_none}
use Rattle.line_reading.proofs.Causes.{known_start_low, known_start_high, start_risen}
use Rattle.line_rounds.specs.declared.Seat.{Seat}
use Rattle.line_rounds.specs.declared.Outcome.{Outcome}
use Rattle.line_rounds.specs.Round.{IsRound, IsRoundLine, frames_of, is_acknowledged, is_broken, losers_from, rest_of, survivors_from}
use Rattle.line_rounds.specs.Contend.{AreFrames}
use Rattle.line_rounds.specs.Lasting.{is_begun}
use Rattle.line_rounds.specs.Elements.{In}
use Rattle.line_rounds.specs.Least.{Least}
use Rattle.line_rounds.specs.Slots.{NextFall}
use Rattle.line_rounds.specs.Reached.{Reached}
use Rattle.line_rounds.proofs.Differ.{is_least}
use Rattle.line_rounds.proofs.Lows.{before_slots}
use Rattle.line_rounds.proofs.Lays.{start_at, before_start, after_start}
use Rattle.line_rounds.proofs.Early.{sender_low}
use Rattle.line_rounds.proofs.Walk.{next_falls, reach_next}
use Rattle.line_rounds.proofs.Law.{least_of, reached_start}
use Rattle.line_rounds.proofs.Lasting.{begun_by, contended, low_at_begin}
use Rattle.line_rounds.proofs.Afterwards.{no_fall_after}
use Rattle.line_rounds.proofs.Still.{high_before}
use Rattle.line_rounds.proofs.OneOutcome.{one_outcome}
use Rattle.timing_laws.specs.Nominal.{RoundsAreNominal}
use Rattle.timing_laws.proofs.Slots.{Calm, IsSlotTime, OnSlot, Puller, SlotLow, Starter, falls_nominal, high_to, in_slot, low_for, quiet_slot, quiet_start, slot_low, soon_low, starter, who_makes}
use Rattle.line_reading.specs.Known.{nothing}
use Rattle.timing_laws.proofs.Lists.{all_in}

-- ---- from slot to slot

next_on_time : (seats : List Seat) (begin : ℕ) (low : Line) → Calm seats begin low → (left : ℕ) (xs : List Slot) (bits : List Bool) (e : ℕ) → OnSlot low begin left xs bits e
    → (f : ℕ) → NextFall low e bits f → f ≡ e + 2400
next_on_time seats begin low c left xs bits e s f n = by (falls_nominal seats begin low c f n.fall)
  where
    by : (f ≡ begin) ⊎ IsSlotTime begin f → f ≡ e + 2400
    by (inl x) = let t = s.time in let l = n.far in absurd (omega (arith, t, l))
    by (inr x) = let t = s.time in let l = n.far in let m = n.near in let y = x.1 in omega (arith, t, l, m, y)

-- once the reading has ended it does not fall any more
record IsOver (low : Line) (e at until : ℕ) : Type 0 where
  later : e < at
  near : at ≤ until + 1
  quiet : (u : ℕ) → e < u → u ≤ until → is_fall low u ≡ false

ends_over : (low : Line) (e : ℕ) (bits : List Bool) (ending : Ending) (at : ℕ) → ((u : ℕ) → e < u → u < e + 2400 → is_fall low u ≡ false) → after_slot low e (last_ending bits) ≡ Ends ending at → IsOver low e at (last_heard ending at)
ends_over low e bits ending at quiet h = by_last (last_ending bits) refl h
  where
    over : (x y : Ending) (a b : ℕ) → Ends x a ≡ Ends y b → IsOver low e a (last_heard x a) → IsOver low e b (last_heard y b)
    over x y a b same i = subst P same i
      where
        P : After → Type 0
        P (Next f) = Unit {0}
        P (Ends z c) = IsOver low e c (last_heard z c)

    silent : (o : Option ℕ) → next_fall low e standard.bit_total.most ≡ o → after_fall e o ≡ Ends ending at → IsOver low e at (last_heard ending at)
    silent None none k = over Silent ending (e + (standard.bit_total.most + 1)) at k (record { later = omega arith; near = omega arith; quiet = λ u a b. found_none (is_fall low) (e + 1) standard.bit_total.most none u (omega arith) (omega arith) })
    silent (Some f) found k = by_time (nat_lt f (e + standard.bit_total.least)) refl k
      where
        by_time : (b : Bool) → nat_lt f (e + standard.bit_total.least) ≡ b → (if b then Ends Short f else Next f) ≡ Ends ending at → IsOver low e at (last_heard ending at)
        by_time true early g =
            let d = found_first (is_fall low) (e + 1) standard.bit_total.most f found in
            let lt : f < e + standard.bit_total.least = grind (arith, nat_tests) in
            absurd (false≢true (sym (quiet f (omega (arith, d.after)) (omega arith)) ∙ d.passes))
        by_time false late g = cc

    last : (x : Ending) → last_ending bits ≡ Some x → (o : Option ℕ) → next_fall low e sample_at ≡ o → after_last e x o ≡ Ends ending at → IsOver low e at (last_heard ending at)
    last x some None none k = over x ending (e + sample_at) at k (whole x (last_heard x (e + sample_at)) refl)
      where
        whole : (y : Ending) (n : ℕ) → last_heard y (e + sample_at) ≡ n → IsOver low e (e + sample_at) n
        whole Silent n g = record { later = omega arith; near = omega (arith, g); quiet = λ u a b. quiet u a (omega (arith, g)) }
        whole Complete n g = record { later = omega arith; near = omega (arith, g); quiet = λ u a b. quiet u a (omega (arith, g)) }
        whole Short n g = record { later = omega arith; near = omega (arith, g); quiet = λ u a b. quiet u a (omega (arith, g)) }
        whole BadStart n g = record { later = omega arith; near = omega (arith, g); quiet = λ u a b. quiet u a (omega (arith, g)) }
        whole Long n g = record { later = omega arith; near = omega (arith, g); quiet = λ u a b. quiet u a (omega (arith, g)) }
        whole Open n g = record { later = omega arith; near = omega (arith, g); quiet = λ u a b. quiet u a (omega (arith, g)) }
    last x some (Some f) found k =
        let d = found_first (is_fall low) (e + 1) sample_at f found in
        absurd (false≢true (sym (quiet f (omega (arith, d.after)) (omega (arith, d.within))) ∙ d.passes))

    by_last : (o : Option Ending) → last_ending bits ≡ o → after_slot low e o ≡ Ends ending at → IsOver low e at (last_heard ending at)
    by_last None none k = silent (next_fall low e standard.bit_total.most) refl k
    by_last (Some x) some k = last x some (next_fall low e sample_at) refl k

-- how the reading ends, by its last slot
reading_ends : (low : Line) (begin left : ℕ) (xs : List Slot) (bits : List Bool) (e at : ℕ) (ending : Ending) → Reached low begin (suc left) xs bits e → after_slot low e (last_ending bits) ≡ Ends ending at
    → ((reading_of low begin).until ≡ last_heard ending at) × ((reading_of low begin).at ≡ at)
unfolding read_slots
reading_ends low begin left xs bits e at ending r h = (
  ap (λ (q : Read). q.until) (sym r.goes) ∙ ap (λ (a : After). (read_on (read_slots low left (bits ++ option_to_list (bit_sampled_at low e))) a).until) h,
  ap (λ (q : Read). q.at) (sym r.goes) ∙ ap (λ (a : After). (read_on (read_slots low left (bits ++ option_to_list (bit_sampled_at low e))) a).at) h,
)

high_after : (seats : List Seat) (begin : ℕ) (low : Line) → Calm seats begin low → (left : ℕ) (xs : List Slot) (bits : List Bool) (e : ℕ) → OnSlot low begin (suc left) xs bits e
    → (bit : Bool) → SlotLow low e bit → (ending : Ending) (at : ℕ) → after_slot low e (last_ending bits) ≡ Ends ending at → (t : ℕ) → e + 2400 ≤ t → low t ≡ false
high_after seats begin low c left xs bits e s bit d ending at h t l =
    high_to low (e + 2399) t (d.highs (e + 2399) (short bit) (omega arith)) (omega arith) (λ u a b. quiet u (omega arith))
  where
    short : (b : Bool) → e + low_for b ≤ e + 2399
    short true = omega arith
    short false = omega arith

    over : IsOver low e at (last_heard ending at)
    over = ends_over low e bits ending at (quiet_slot seats begin low c (suc left) xs bits e s) h

    ends : ((reading_of low begin).until ≡ last_heard ending at) × ((reading_of low begin).at ≡ at)
    ends = reading_ends low begin left xs bits e at ending s.reached h

    quiet : (u : ℕ) → e < u → is_fall low u ≡ false
    quiet u m = elim (cases_lt (last_heard ending at) u) [
      | inl past ↦ no_fall_after seats begin [] low c.line u (omega (arith, ends.0))
      | inr within ↦ over.quiet u m within
    ]

-- slot 160 is a last one
last_at : (eom : Bool) (n : ℕ) → n ≡ 159 → (if n % 10 == 9 then (if eom then Some Complete else if n == 159 then Some Long else None) else None) ≡ None → ⊥
last_at true n e h = let f : Some Complete ≡ None = ap (λ (m : ℕ). let o : Option Ending = if m % 10 == 9 then Some Complete else None in o) (sym e) ∙ h in cc
last_at false n e h = let f : Some Long ≡ None = ap (λ (m : ℕ). let o : Option Ending = if m % 10 == 9 then (if m == 159 then Some Long else None) else None in o) (sym e) ∙ h in cc

-- the next slot
pub on_next : (seats : List Seat) (begin : ℕ) (low : Line) → Calm seats begin low → (left : ℕ) (xs : List Slot) (bits : List Bool) (e : ℕ) → OnSlot low begin (suc left) xs bits e → length bits + suc left ≡ 160 → (bit : Bool) → SlotLow low e bit → (f : ℕ) → after_slot low e (last_ending bits) ≡ Next f
    → (f ≡ e + 2400) × OnSlot low begin left (xs ++ record { fall = e; bit = bit_sampled_at low e } ∷ []) (bits ++ option_to_list (bit_sampled_at low e)) f × (length (bits ++ option_to_list (bit_sampled_at low e)) + left ≡ 160) × (0 < left)
on_next seats begin low c left xs bits e s all bit d f h =
    let n = next_falls low e bits f h in
    let far = n.far in
    let g : f ≡ e + 2400 = next_on_time seats begin low c (suc left) xs bits e s f n in
    let more : length (bits ++ option_to_list (bit_sampled_at low e)) ≡ length bits + 1 = ap (λ (o : Option Bool). length (bits ++ option_to_list o)) d.read ∙ length-append bits (bit ∷ []) in
    let time = s.time in
    let count = s.count in (
      g,
      record {
        reached = reach_next low begin left xs bits e f s.reached h far;
        time = omega (arith, g, more, time);
        count = let y = length-append xs (record { fall = e; bit = bit_sampled_at low e } ∷ []) in omega (arith, y, more, count);
        fall = n.fall;
      },
      omega (arith, more, all),
      elim (cases_lt 0 left) [
        | inl room ↦ room
        | inr none ↦ (let full : length bits ≡ 159 = omega (arith, all) in absurd (last_at (slice_index_or bits (length bits - 1) false) (length bits) full n.last))
      ],
    )

slots_line : (seats : List Seat) (begin : ℕ) (low : Line) → Calm seats begin low → (left : ℕ) (xs : List Slot) (bits : List Bool) (e : ℕ) → OnSlot low begin left xs bits e → length bits + left ≡ 160 → 0 < left
    → (t : ℕ) → e ≤ t → low t ≡ line_of (slot_stretches e (filter_map (λ (s : Slot). s.bit) (read_slots low left bits e).slots)) t
unfolding read_slots
slots_line seats begin low c zero xs bits e s all some t l = absurd (omega arith)
slots_line seats begin low c (suc left) xs bits e s all some t l =
    by_bit (slot_low seats begin low c left xs bits e s) (after_slot low e (last_ending bits)) refl
    (λ f more room on. slots_line seats begin low c left (xs ++ record { fall = e; bit = bit_sampled_at low e } ∷ []) (bits ++ option_to_list (bit_sampled_at low e)) f on more room t)
  where
    first : (bit : Bool) → SlotLow low e bit → t < e + 2400 → low t ≡ covers (record { from = e; to = e + low_for bit }) t
    first bit d h = elim (cases_lt t (e + low_for bit)) [
      | inl soon ↦ d.lows t l soon ∙ (let y : true ≡ covers (record { from = e; to = e + low_for bit }) t = grind (arith, nat_tests) in y)
      | inr late ↦ d.highs t late h ∙ (let y : false ≡ covers (record { from = e; to = e + low_for bit }) t = grind (arith, nat_tests) in y)
    ]

    past : (bit : Bool) → e + 2400 ≤ t → covers (record { from = e; to = e + low_for bit }) t ≡ false
    past true h = grind (arith, nat_tests)
    past false h = grind (arith, nat_tests)

    or_none : (b : Bool) → b ≡ (b || false)
    or_none true = refl
    or_none false = refl

    joined : (bit : Bool) (more : List Bool) → SlotLow low e bit → (e + 2400 ≤ t → low t ≡ line_of (slot_stretches (e + 2400) more) t) → low t ≡ (covers (record { from = e; to = e + low_for bit }) t || line_of (slot_stretches (e + 2400) more) t)
    joined bit more d later = elim (cases_lt t (e + 2400)) [
      | inl now ↦ first bit d now ∙ or_none (covers (record { from = e; to = e + low_for bit }) t) ∙ ap (λ (b : Bool). covers (record { from = e; to = e + low_for bit }) t || b) (sym (before_slots more (e + 2400) t now))
      | inr after ↦ later after ∙ ap (λ (b : Bool). b || line_of (slot_stretches (e + 2400) more) t) (sym (past bit after))
    ]

    by_after : (bit : Bool) → SlotLow low e bit → (a : After) → after_slot low e (last_ending bits) ≡ a
        → ((f : ℕ) → length (bits ++ option_to_list (bit_sampled_at low e)) + left ≡ 160 → 0 < left → OnSlot low begin left (xs ++ record { fall = e; bit = bit_sampled_at low e } ∷ []) (bits ++ option_to_list (bit_sampled_at low e)) f
        → f ≤ t → low t ≡ line_of (slot_stretches f (filter_map (λ (s : Slot). s.bit) (read_slots low left (bits ++ option_to_list (bit_sampled_at low e)) f).slots)) t)
        → low t ≡ line_of (slot_stretches e (cons_option (bit_sampled_at low e) (filter_map (λ (s : Slot). s.bit) (read_on (read_slots low left (bits ++ option_to_list (bit_sampled_at low e))) a).slots))) t
    by_after bit d (Next f) h ih =
        let n = on_next seats begin low c left xs bits e s all bit d f h in
        let more : List Bool = filter_map (λ (s : Slot). s.bit) (read_slots low left (bits ++ option_to_list (bit_sampled_at low e)) f).slots in
        joined bit more d (λ after. ih f n.2 n.3 n.1 (omega (arith, n.0)) ∙ ap (λ (g : ℕ). line_of (slot_stretches g more) t) n.0)
        ∙ ap (λ (o : Option Bool). line_of (slot_stretches e (cons_option o more)) t) (sym d.read)
    by_after bit d (Ends ending at) h ih =
        joined bit [] d (high_after seats begin low c left xs bits e s bit d ending at h t)
        ∙ ap (λ (o : Option Bool). line_of (slot_stretches e (cons_option o [])) t) (sym d.read)

    by_bit : (bit : Bool) × SlotLow low e bit → (a : After) → after_slot low e (last_ending bits) ≡ a
        → ((f : ℕ) → length (bits ++ option_to_list (bit_sampled_at low e)) + left ≡ 160 → 0 < left → OnSlot low begin left (xs ++ record { fall = e; bit = bit_sampled_at low e } ∷ []) (bits ++ option_to_list (bit_sampled_at low e)) f
        → f ≤ t → low t ≡ line_of (slot_stretches f (filter_map (λ (s : Slot). s.bit) (read_slots low left (bits ++ option_to_list (bit_sampled_at low e)) f).slots)) t)
        → low t ≡ line_of (slot_stretches e (cons_option (bit_sampled_at low e) (filter_map (λ (s : Slot). s.bit) (read_on (read_slots low left (bits ++ option_to_list (bit_sampled_at low e))) (after_slot low e (last_ending bits))).slots))) t
    by_bit d a h ih =
        by_after d.0 d.1 a h ih ∙ ap (λ (b : After). line_of (slot_stretches e (cons_option (bit_sampled_at low e) (filter_map (λ (s : Slot). s.bit) (read_on (read_slots low left (bits ++ option_to_list (bit_sampled_at low e))) b).slots))) t) (sym h)

-- a reading ends in one of the ways of the standard
last_open : (nine eom end : Bool) (x : Ending) → (if nine then (if eom then Some Complete else if end then Some Long else None) else None) ≡ Some x → x ≢ Open
last_open true true end x h = λ s. (let e : Some Complete ≡ Some Open = h ∙ ap (λ (y : Ending). Some y) s in cc)
last_open true false true x h = λ s. (let e : Some Long ≡ Some Open = h ∙ ap (λ (y : Ending). Some y) s in cc)
last_open true false false x h = cc
last_open false eom end x h = cc

ends_so : (x ending : Ending) (a at : ℕ) → Ends x a ≡ Ends ending at → x ≢ Open → ending ≢ Open
ends_so x ending a at same h = subst P same h
  where
    P : After → Type 0
    P (Next f) = Unit {0}
    P (Ends z c) = z ≢ Open

silent_so : Silent ≢ Open
silent_so = λ s. cc

short_so : Short ≢ Open
short_so = λ s. cc

ends_closed : (low : Line) (e : ℕ) (bits : List Bool) (ending : Ending) (at : ℕ) → after_slot low e (last_ending bits) ≡ Ends ending at → ending ≢ Open
ends_closed low e bits ending at h = by_last (last_ending bits) refl h
  where
    by_time : (f : ℕ) (b : Bool) → (if b then Ends Short f else Next f) ≡ Ends ending at → ending ≢ Open
    by_time f true k = ends_so Short ending f at k short_so
    by_time f false k = cc

    by_fall : (o : Option ℕ) → after_fall e o ≡ Ends ending at → ending ≢ Open
    by_fall None k = ends_so Silent ending (e + (standard.bit_total.most + 1)) at k silent_so
    by_fall (Some f) k = by_time f (nat_lt f (e + standard.bit_total.least)) k

    by_end : (x : Ending) → last_ending bits ≡ Some x → (o : Option ℕ) → after_last e x o ≡ Ends ending at → ending ≢ Open
    by_end x some None k = ends_so x ending (e + sample_at) at k (last_open (length bits % 10 == 9) (slice_index_or bits (length bits - 1) false) (length bits == 159) x some)
    by_end x some (Some f) k = ends_so Short ending f at k short_so

    by_last : (o : Option Ending) → last_ending bits ≡ o → after_slot low e o ≡ Ends ending at → ending ≢ Open
    by_last None none k = by_fall (next_fall low e standard.bit_total.most) k
    by_last (Some x) some k = by_end x some (next_fall low e sample_at) k

-- and no fall breaks it
whole_last : (nine eom end : Bool) (x : Ending) → (if nine then (if eom then Some Complete else if end then Some Long else None) else None) ≡ Some x → x ≢ Short
whole_last true true end x h = λ s. (let e : Some Complete ≡ Some Short = h ∙ ap (λ (y : Ending). Some y) s in cc)
whole_last true false true x h = λ s. (let e : Some Long ≡ Some Short = h ∙ ap (λ (y : Ending). Some y) s in cc)
whole_last true false false x h = cc
whole_last false eom end x h = cc

ends_whole_so : (x ending : Ending) (a at : ℕ) → Ends x a ≡ Ends ending at → x ≢ Short → ending ≢ Short
ends_whole_so x ending a at same h = subst P same h
  where
    P : After → Type 0
    P (Next f) = Unit {0}
    P (Ends z c) = z ≢ Short

silent_whole : Silent ≢ Short
silent_whole = λ s. cc

ends_whole : (low : Line) (e : ℕ) (bits : List Bool) (ending : Ending) (at : ℕ) → ((u : ℕ) → e < u → u < e + 2400 → is_fall low u ≡ false) → after_slot low e (last_ending bits) ≡ Ends ending at → ending ≢ Short
ends_whole low e bits ending at quiet h = by_last (last_ending bits) refl h
  where
    by_time : (f : ℕ) (b : Bool) → e < f → is_fall low f ≡ true → nat_lt f (e + standard.bit_total.least) ≡ b → (if b then Ends Short f else Next f) ≡ Ends ending at → ending ≢ Short
    by_time f true after falls early k = let lt : f < e + standard.bit_total.least = grind (arith, nat_tests) in absurd (false≢true (sym (quiet f after (omega arith)) ∙ falls))
    by_time f false after falls late k = cc

    by_fall : (o : Option ℕ) → next_fall low e standard.bit_total.most ≡ o → after_fall e o ≡ Ends ending at → ending ≢ Short
    by_fall None none k = ends_whole_so Silent ending (e + (standard.bit_total.most + 1)) at k silent_whole
    by_fall (Some f) found k = let d = found_first (is_fall low) (e + 1) standard.bit_total.most f found in by_time f (nat_lt f (e + standard.bit_total.least)) (omega (arith, d.after)) d.passes refl k

    by_end : (x : Ending) → last_ending bits ≡ Some x → (o : Option ℕ) → next_fall low e sample_at ≡ o → after_last e x o ≡ Ends ending at → ending ≢ Short
    by_end x some None none k = ends_whole_so x ending (e + sample_at) at k (whole_last (length bits % 10 == 9) (slice_index_or bits (length bits - 1) false) (length bits == 159) x some)
    by_end x some (Some f) found k =
        let d = found_first (is_fall low) (e + 1) sample_at f found in
        absurd (false≢true (sym (quiet f (omega (arith, d.after)) (omega (arith, d.within))) ∙ d.passes))

    by_last : (o : Option Ending) → last_ending bits ≡ o → after_slot low e o ≡ Ends ending at → ending ≢ Short
    by_last None none k = by_fall (next_fall low e standard.bit_total.most) refl k
    by_last (Some x) some k = by_end x some (next_fall low e sample_at) refl k

pub record IsOwnEnding (ending : Ending) : Type 0 where
  pub closed : ending ≢ Open
  pub whole : ending ≢ Short

-- it ends after its last slot has fallen, and has a slot
abbrev IsEndOf : ℕ → List Bool → Read → Type 0
IsEndOf e bits r = (e + 2400 * length bits < r.at + 2400) × (0 < length bits) × IsOwnEnding r.ending

abbrev pub reported_slots : Read → List Bool
reported_slots r = filter_map (λ (s : Slot). s.bit) r.slots

abbrev EndsLater : Line → ℕ → List Bool → ℕ → Option Bool → After → Type 0
EndsLater low left bits e bit a = IsEndOf e (cons_option bit (reported_slots (read_on (read_slots low left bits) a))) (read_on (read_slots low left bits) a)

slots_end : (seats : List Seat) (begin : ℕ) (low : Line) → Calm seats begin low → (left : ℕ) (xs : List Slot) (bits : List Bool) (e : ℕ) → OnSlot low begin left xs bits e → length bits + left ≡ 160 → 0 < left
    → IsEndOf e (reported_slots (read_slots low left bits e)) (read_slots low left bits e)
unfolding read_slots
slots_end seats begin low c zero xs bits e s all some = absurd (omega arith)
slots_end seats begin low c (suc left) xs bits e s all some =
    by_bit (slot_low seats begin low c left xs bits e s) (after_slot low e (last_ending bits)) refl
    (λ f more room on. slots_end seats begin low c left (xs ++ record { fall = e; bit = bit_sampled_at low e } ∷ []) (bits ++ option_to_list (bit_sampled_at low e)) f on more room)
  where
    More : Type 0
    More = (f : ℕ) → length (bits ++ option_to_list (bit_sampled_at low e)) + left ≡ 160 → 0 < left → OnSlot low begin left (xs ++ record { fall = e; bit = bit_sampled_at low e } ∷ []) (bits ++ option_to_list (bit_sampled_at low e)) f
        → IsEndOf f (reported_slots (read_slots low left (bits ++ option_to_list (bit_sampled_at low e)) f)) (read_slots low left (bits ++ option_to_list (bit_sampled_at low e)) f)

    by_after : (bit : Bool) → SlotLow low e bit → (a : After) → after_slot low e (last_ending bits) ≡ a → More → EndsLater low left (bits ++ option_to_list (bit_sampled_at low e)) e (Some bit) a
    by_after bit d (Next f) h ih =
        let n = on_next seats begin low c left xs bits e s all bit d f h in
        let m = ih f n.2 n.3 n.1 in
        let room = m.0 in
        let late = n.0 in
        (omega (arith, room, late), omega arith, m.2)
    by_after bit d (Ends ending at) h ih =
        let over : IsOver low e at (last_heard ending at) = ends_over low e bits ending at (quiet_slot seats begin low c (suc left) xs bits e s) h in
        let later = over.later in
        (omega (arith, later), omega arith, record { closed = ends_closed low e bits ending at h; whole = ends_whole low e bits ending at (quiet_slot seats begin low c (suc left) xs bits e s) h })

    by_bit : (bit : Bool) × SlotLow low e bit → (a : After) → after_slot low e (last_ending bits) ≡ a → More → EndsLater low left (bits ++ option_to_list (bit_sampled_at low e)) e (bit_sampled_at low e) (after_slot low e (last_ending bits))
    by_bit d a h ih =
        subst (λ (b : After). EndsLater low left (bits ++ option_to_list (bit_sampled_at low e)) e (bit_sampled_at low e) b) (sym h)
        (subst (λ (o : Option Bool). EndsLater low left (bits ++ option_to_list (bit_sampled_at low e)) e o a) (sym d.1.read) (by_after d.0 d.1 a h ih))

-- ---- the last slot

-- no slot ends a bad start
begun_last : (nine eom end : Bool) (x : Ending) → (if nine then (if eom then Some Complete else if end then Some Long else None) else None) ≡ Some x → x ≢ BadStart
begun_last true true end x h = λ s. (let e : Some Complete ≡ Some BadStart = h ∙ ap (λ (y : Ending). Some y) s in cc)
begun_last true false true x h = λ s. (let e : Some Long ≡ Some BadStart = h ∙ ap (λ (y : Ending). Some y) s in cc)
begun_last true false false x h = cc
begun_last false eom end x h = cc

ends_begun_so : (x ending : Ending) (a at : ℕ) → Ends x a ≡ Ends ending at → x ≢ BadStart → ending ≢ BadStart
ends_begun_so x ending a at same h = subst P same h
  where
    P : After → Type 0
    P (Next f) = Unit {0}
    P (Ends z c) = z ≢ BadStart

silent_begun : Silent ≢ BadStart
silent_begun = λ s. cc

short_begun : Short ≢ BadStart
short_begun = λ s. cc

ends_begun : (low : Line) (e : ℕ) (bits : List Bool) (ending : Ending) (at : ℕ) → after_slot low e (last_ending bits) ≡ Ends ending at → ending ≢ BadStart
ends_begun low e bits ending at h = by_last (last_ending bits) refl h
  where
    by_time : (f : ℕ) (b : Bool) → (if b then Ends Short f else Next f) ≡ Ends ending at → ending ≢ BadStart
    by_time f true k = ends_begun_so Short ending f at k short_begun
    by_time f false k = cc

    by_fall : (o : Option ℕ) → after_fall e o ≡ Ends ending at → ending ≢ BadStart
    by_fall None k = ends_begun_so Silent ending (e + 2751) at k silent_begun
    by_fall (Some f) k = by_time f (nat_lt f (e + 2050)) k

    by_end : (x : Ending) → last_ending bits ≡ Some x → (o : Option ℕ) → after_last e x o ≡ Ends ending at → ending ≢ BadStart
    by_end x some None k = ends_begun_so x ending (e + 1050) at k (begun_last (length bits % 10 == 9) (slice_index_or bits (length bits - 1) false) (length bits == 159) x some)
    by_end x some (Some f) k = ends_begun_so Short ending f at k short_begun

    by_last : (o : Option Ending) → last_ending bits ≡ o → after_slot low e o ≡ Ends ending at → ending ≢ BadStart
    by_last None none k = by_fall (next_fall low e 2750) k
    by_last (Some x) some k = by_end x some (next_fall low e 1050) k

-- a winner makes the last slot fall, which has not stopped in one before
pub record LastStarts (seats : List Seat) (bits : List Bool) : Type 0 where
  pub before : List Bool
  pub last : Bool
  pub all : bits ≡ before ++ last ∷ []
  pub starts : Starter seats before

abbrev LastLater : List Seat → Line → ℕ → List Bool → List Bool → Option Bool → After → Type 0
LastLater seats low left before bits bit a = LastStarts seats (before ++ cons_option bit (reported_slots (read_on (read_slots low left bits) a))) × ((read_on (read_slots low left bits) a).ending ≢ BadStart)

slots_last : (seats : List Seat) (begin : ℕ) (low : Line) → Calm seats begin low → (left : ℕ) (xs : List Slot) (bits : List Bool) (e : ℕ) → OnSlot low begin left xs bits e → length bits + left ≡ 160 → 0 < left
    → LastStarts seats (bits ++ reported_slots (read_slots low left bits e)) × ((read_slots low left bits e).ending ≢ BadStart)
unfolding read_slots
slots_last seats begin low c zero xs bits e s all some = absurd (omega arith)
slots_last seats begin low c (suc left) xs bits e s all some =
    by_bit (slot_low seats begin low c left xs bits e s) (after_slot low e (last_ending bits)) refl
    (λ f more room on. slots_last seats begin low c left (xs ++ record { fall = e; bit = bit_sampled_at low e } ∷ []) (bits ++ option_to_list (bit_sampled_at low e)) f on more room)
  where
    More : Type 0
    More = (f : ℕ) → length (bits ++ option_to_list (bit_sampled_at low e)) + left ≡ 160 → 0 < left → OnSlot low begin left (xs ++ record { fall = e; bit = bit_sampled_at low e } ∷ []) (bits ++ option_to_list (bit_sampled_at low e)) f
        → LastStarts seats ((bits ++ option_to_list (bit_sampled_at low e)) ++ reported_slots (read_slots low left (bits ++ option_to_list (bit_sampled_at low e)) f))
        × ((read_slots low left (bits ++ option_to_list (bit_sampled_at low e)) f).ending ≢ BadStart)

    by_after : (bit : Bool) → SlotLow low e bit → (a : After) → after_slot low e (last_ending bits) ≡ a → More → LastLater seats low left bits (bits ++ option_to_list (bit_sampled_at low e)) (Some bit) a
    by_after bit d (Next f) h ih =
        let n = on_next seats begin low c left xs bits e s all bit d f h in
        let m = ih f n.2 n.3 n.1 in
        let rest : List Bool = reported_slots (read_slots low left (bits ++ option_to_list (bit_sampled_at low e)) f) in
        let same : (bits ++ option_to_list (bit_sampled_at low e)) ++ rest ≡ bits ++ bit ∷ rest = ap (λ (o : Option Bool). (bits ++ option_to_list o) ++ rest) d.read ∙ append_assoc bits (bit ∷ []) rest in
        (subst (λ (xs : List Bool). LastStarts seats xs) same m.0, m.1)
    by_after bit d (Ends ending at) h ih = (
      record { before = bits; last = bit; all = refl; starts = starter seats begin low c (suc left) xs bits e s },
      ends_begun low e bits ending at h,
    )

    by_bit : (bit : Bool) × SlotLow low e bit → (a : After) → after_slot low e (last_ending bits) ≡ a → More
        → LastLater seats low left bits (bits ++ option_to_list (bit_sampled_at low e)) (bit_sampled_at low e) (after_slot low e (last_ending bits))
    by_bit d a h ih =
        subst (λ (b : After). LastLater seats low left bits (bits ++ option_to_list (bit_sampled_at low e)) (bit_sampled_at low e) b) (sym h)
        (subst (λ (o : Option Bool). LastLater seats low left bits (bits ++ option_to_list (bit_sampled_at low e)) o a) (sym d.1.read) (by_after d.0 d.1 a h ih))

-- ---- the start bit

least_sender : (seats : List Seat) → list_any (λ s. is_some s.sends) seats ≡ true → (f : List ℕ) × In f (frames_of seats)
least_sender [] h = cc
least_sender (s ∷ seats) h = by s.sends (λ k. least_sender seats k) h
  where
    by : (o : Option (List ℕ)) → (list_any (λ s. is_some s.sends) seats ≡ true → (f : List ℕ) × In f (frames_of seats)) → (is_some o || list_any (λ s. is_some s.sends) seats) ≡ true → (f : List ℕ) × In f (cons_option o (frames_of seats))
    by None more g = more g
    by (Some f) more g = (f, inl refl)

-- a round in which somebody sends
pub record Sent (seats : List Seat) (begin : ℕ) (low : Line) : Type 0 where
  pub calm : Calm seats begin low
  frame : List ℕ
  among : In frame (frames_of seats)
  least : least_among (frames_of seats) frame ≡ true
  first : low begin ≡ true

-- where nothing is known yet it pulls
pulls_early : (seats : List Seat) (begin : ℕ) (low : Line) → (s : Sent seats begin low) → (t : ℕ) → known_at t (reading_of low begin) ≡ nothing → line_of (sender_stretches begin (frame_bits s.frame)) t ≡ true → low t ≡ true
unfolding nothing
pulls_early seats begin low s t k pulls =
    sender_low seats begin [] low t [] (contended seats begin [] low s.calm.line) k s.frame s.among s.least (λ n a b. absurd (omega arith)) pulls

low_by : (seats : List Seat) (begin : ℕ) (low : Line) → Sent seats begin low → (n : ℕ) → n < 3700 → (u : ℕ) → u ≤ n → low (begin + u) ≡ true
low_by seats begin low s zero h u l = ap low (let e : begin + u ≡ begin = omega arith in e) ∙ s.first
low_by seats begin low s (suc n) h u l = elim (cases_lt u (suc n)) [
  | inl lt ↦ low_by seats begin low s n (omega arith) u (omega arith)
  | inr ge ↦
      let before = low_by seats begin low s n (omega arith) in
      let k : known_at (begin + u) (reading_of low begin) ≡ nothing = known_start_low low begin (begin + u) (omega arith) (λ v a b. no_rise_at v (ap low (let e : v ≡ begin + (v - begin) = omega arith in e) ∙ before (v - begin) (omega arith))) in
      pulls_early seats begin low s (begin + u) k (start_at (frame_bits s.frame) begin (begin + u) (omega arith) (omega arith) ∙ (let e : nat_lt (begin + u - begin) 3700 ≡ true = grind (arith, nat_tests) in e))
]
  where
    no_rise_at : (v : ℕ) → low v ≡ true → is_rise low v ≡ false
    no_rise_at v e = rw e refl

start_low : (seats : List Seat) (begin : ℕ) (low : Line) → Sent seats begin low → (t : ℕ) → begin ≤ t → t < begin + 3700 → low t ≡ true
start_low seats begin low s t l h = ap low (let e : t ≡ begin + (t - begin) = omega arith in e) ∙ low_by seats begin low s (t - begin) (omega arith) (t - begin) (omega arith)

no_rise_in : (seats : List Seat) (begin : ℕ) (low : Line) → Sent seats begin low → (v : ℕ) → begin < v → v < begin + 3700 → is_rise low v ≡ false
no_rise_in seats begin low s v a b = let e : low v ≡ true = start_low seats begin low s v (omega arith) b in rw e refl

-- it rises after 3,700
start_high : (seats : List Seat) (begin : ℕ) (low : Line) → Sent seats begin low → low (begin + 3700) ≡ false
unfolding nothing
start_high seats begin low s = by (low (begin + 3700)) refl
  where
    k : known_at (begin + 3700) (reading_of low begin) ≡ nothing
    k = known_start_low low begin (begin + 3700) (omega arith) (no_rise_in seats begin low s)

    nobody : Puller seats begin (begin + 3700) nothing ⊎ ((is_acknowledged seats nothing (begin + 3700) ≡ true) ⊎ (is_broken seats nothing (begin + 3700) None ≡ true)) → ⊥
    nobody (inl p) =
        let e : nat_lt (begin + 3700 - begin) 3700 ≡ false = grind (arith, nat_tests) in
        false≢true (sym e ∙ sym (start_at (frame_bits p.frame) begin (begin + 3700) (omega arith) (omega arith)) ∙ p.low)
    nobody (inr (inl a)) = false≢true a
    nobody (inr (inr b)) = false≢true b

    by : (b : Bool) → low (begin + 3700) ≡ b → low (begin + 3700) ≡ false
    by false h = h
    by true h = absurd (nobody (who_makes seats begin low s.calm (begin + 3700) nothing k h))

high_till : (seats : List Seat) (begin : ℕ) (low : Line) → Sent seats begin low → (t : ℕ) → begin + 3700 ≤ t → t < begin + 4500 → low t ≡ false
high_till seats begin low s t l h = high_to low (begin + 3700) t (start_high seats begin low s) l (λ u a b. quiet_start seats begin low s.calm u (omega arith) (omega arith))

rises : (seats : List Seat) (begin : ℕ) (low : Line) → Sent seats begin low → next_rise low begin standard.start_low.most ≡ Some (begin + 3700)
rises seats begin low s =
    first_in_some (is_rise low) (begin + 1) standard.start_low.most (begin + 3700) (omega arith) (omega arith) rise (λ u a b. no_rise_in seats begin low s u (omega arith) b)
  where
    rise : is_rise low (begin + 3700) ≡ true
    rise =
        let e : low (begin + 3700) ≡ false = start_high seats begin low s in
        let f : low (begin + 3700 - 1) ≡ true = start_low seats begin low s (begin + 3700 - 1) (omega arith) (omega arith) in
        let g : nat_lt 0 (begin + 3700) ≡ true = grind (arith, nat_tests) in
        rw (e, f, g) refl

-- and slot 1 falls after 4,500
pub slot_falls : (seats : List Seat) (begin : ℕ) (low : Line) → Sent seats begin low → is_fall low (begin + 4500) ≡ true
slot_falls seats begin low s =
    let e : low (begin + 4500) ≡ true = pulls_early seats begin low s (begin + 4500) k pulls in
    let f : low (begin + 4500 - 1) ≡ false = high_till seats begin low s (begin + 4500 - 1) (omega arith) (omega arith) in
    let g : nat_lt 0 (begin + 4500) ≡ true = grind (arith, nat_tests) in
    rw (e, f, g) refl
  where
    k : known_at (begin + 4500) (reading_of low begin) ≡ nothing
    k = known_start_high low begin (begin + 3700) (begin + 4500) (rises seats begin low s) (omega arith) (omega arith) (λ u a b. quiet_start seats begin low s.calm u (omega arith) b)

    full : 0 < length (frame_bits s.frame)
    full = let n : 0 < length s.frame = all_in (λ (f : List ℕ). 0 < length f) (frames_of seats) s.calm.frames s.frame s.among in omega (arith, n, length-frame_bits s.frame)

    there : nat_lt 0 (length (frame_bits s.frame)) ≡ true
    there = let n = full in grind (arith, nat_tests)

    pulls : line_of (sender_stretches begin (frame_bits s.frame)) (begin + 4500) ≡ true
    pulls =
        sym (in_slot begin (begin + 4500) 0 (begin + 4500) [] (frame_bits s.frame) (omega arith) (omega arith) (omega arith))
        ∙ soon_low (nat_lt 0 (length (frame_bits s.frame))) (slice_index_or (frame_bits s.frame) 0 false) 0 there (omega arith)

pub starts : (seats : List Seat) (begin : ℕ) (low : Line) → Sent seats begin low → start_of low begin ≡ Ok (begin + 4500)
starts seats begin low s =
    start_risen low begin (begin + 3700) (rises seats begin low s) (omega arith)
    ∙ ap (start_fall begin) (first_in_some (is_fall low) (begin + 3700 + 1) (begin + standard.start_total.most - (begin + 3700)) (begin + 4500) (omega arith) (omega arith) (slot_falls seats begin low s) (λ u a b. quiet_start seats begin low s.calm u (omega arith) b))
    ∙ ap (λ (b : Bool). let r : Result ℕ ℕ = if b then Err (begin + 4500) else Ok (begin + 4500) in r) (let e : nat_lt (begin + 4500) (begin + standard.start_total.least) ≡ false = grind (arith, nat_tests) in e)

-- ---- the whole line

line_is : (seats : List Seat) (begin : ℕ) (low : Line) → Sent seats begin low → (t : ℕ) → low t ≡ line_of (sender_stretches begin (bits_of (reading_of low begin))) t
line_is seats begin low s t = elim (cases_lt t (begin + 4500)) [
  | inl start ↦ elim (cases_lt t begin) [
    | inl before ↦ high_before seats begin [] low s.calm.line t before ∙ sym (before_start (bits_of (reading_of low begin)) begin t before)
    | inr within ↦ in_start within start ∙ sym (start_at (bits_of (reading_of low begin)) begin t within start)
  ]
  | inr slots ↦
      slots_line seats begin low s.calm 160 [] [] (begin + 4500) (record { reached = reached_start low begin (begin + 4500) (starts seats begin low s); time = omega arith; count = refl; fall = slot_falls seats begin low s }) refl (omega arith) t slots
      ∙ ap (λ (r : Result ℕ ℕ). line_of (slot_stretches (begin + 4500) (bits_of (read_start low begin r))) t) (sym (starts seats begin low s))
      ∙ sym (after_start (bits_of (reading_of low begin)) begin t slots)
]
  where
    in_start : begin ≤ t → t < begin + 4500 → low t ≡ nat_lt (t - begin) 3700
    in_start l h = elim (cases_lt t (begin + 3700)) [
      | inl soon ↦ start_low seats begin low s t l soon ∙ (let e : true ≡ nat_lt (t - begin) 3700 = grind (arith, nat_tests) in e)
      | inr late ↦ high_till seats begin low s t late h ∙ (let e : false ≡ nat_lt (t - begin) 3700 = grind (arith, nat_tests) in e)
    ]

slots_wave : (bits : List Bool) (from n : ℕ) → from ≤ n → IsWaveFrom from (slot_stretches n bits)
slots_wave [] from n l = tt
slots_wave (true ∷ bits) from n l = (l, omega arith, slots_wave bits (n + 600 + 1) (n + 2400) (omega arith))
slots_wave (false ∷ bits) from n l = (l, omega arith, slots_wave bits (n + 1500 + 1) (n + 2400) (omega arith))

is_wave : (begin : ℕ) (bits : List Bool) → IsWave (sender_stretches begin bits)
is_wave begin bits = (omega arith, omega arith, slots_wave bits (begin + 3700 + 1) (begin + 4500) (omega arith))

-- a line has one wave
same_wave : (seats : List Seat) (begin : ℕ) (o : Outcome) (ss : List Stretch) → IsWave o.wave → IsWave ss → IsRound seats begin [] o → ((t : ℕ) → line_of o.wave t ≡ line_of ss t) → o.wave ≡ ss
same_wave seats begin o ss wave other r same =
    (one_outcome seats begin [] o (record o { wave = ss; rest = rest_of (reading_of (line_of ss) begin).until ss }) wave other r again).wave
  where
    h : line_of o.wave ≡ line_of ss
    h = fun_ext same

    again : IsRound seats begin [] (record o { wave = ss; rest = rest_of (reading_of (line_of ss) begin).until ss })
    again = record {
      line = subst (λ (l : Line). IsRoundLine seats begin [] l) h r.line;
      starts = r.starts;
      ends = r.ends ∙ ap (λ (l : Line). (reading_of l begin).at) h;
      ending = r.ending ∙ ap (λ (l : Line). (reading_of l begin).ending) h;
      bits = r.bits ∙ ap (λ (l : Line). bits_of (reading_of l begin)) h;
      survivors = r.survivors ∙ ap (λ (l : Line). survivors_from (reading_of l begin) 0 seats) h;
      losers = r.losers ∙ ap (λ (l : Line). losers_from (reading_of l begin) 0 seats) h;
      rest = refl;
    }

-- somebody pulls at once
pub sent_first : (seats : List Seat) (begin : ℕ) (low : Line) → Calm seats begin low → list_any (λ s. is_some s.sends) seats ≡ true → Sent seats begin low
sent_first seats begin low c h =
    let f = least_sender seats h in
    let l : Least (frames_of seats) = least_of (frames_of seats) f.0 f.1 in
    let begun : is_begun seats begin [] ≡ true = rw h refl in
    let b = begun_by low begin (start_of low begin) refl in
    record { calm = c; frame = l.frame; among = l.one; least = is_least (frames_of seats) l; first = low_at_begin seats begin [] low tt (contended seats begin [] low c.line) b.reports begun }

pub rounds_are_nominal : RoundsAreNominal
rounds_are_nominal seats begin o frames wave r h =
    same_wave seats begin o (sender_stretches begin o.reading.bits.items) wave (is_wave begin o.reading.bits.items) r
    (λ t. line_is seats begin (line_of o.wave) (sent_first seats begin (line_of o.wave) (record { line = r.line; frames = frames }) h) t
    ∙ ap (λ (bits : List Bool). line_of (sender_stretches begin bits) t) (sym r.bits))

-- its reading ends after its last slot has fallen, and has a slot
pub ends_later : (seats : List Seat) (begin : ℕ) (o : Outcome) → AreFrames seats → IsRound seats begin [] o → list_any (λ s. is_some s.sends) seats ≡ true
    → (begin + 2100 + 2400 * length o.reading.bits.items < o.reading.at) × (0 < length o.reading.bits.items) × IsOwnEnding o.reading.ending
ends_later seats begin o frames r h =
    let there = d.0 in
    let bits : o.reading.bits.items ≡ reported_slots (read_slots low 160 [] (begin + 4500)) = r.bits ∙ ap (λ (q : Result ℕ ℕ). bits_of (read_start low begin q)) (starts seats begin low s) in
    let at : o.reading.at ≡ (read_slots low 160 [] (begin + 4500)).at = r.ends ∙ ap (λ (q : Result ℕ ℕ). (read_start low begin q).at) (starts seats begin low s) in
    let ending : o.reading.ending ≡ (read_slots low 160 [] (begin + 4500)).ending = r.ending ∙ ap (λ (q : Result ℕ ℕ). (read_start low begin q).ending) (starts seats begin low s) in
    let count : length o.reading.bits.items ≡ length (reported_slots (read_slots low 160 [] (begin + 4500))) = ap length bits in
    let some = d.1 in
    (omega (arith, there, count, at), omega (arith, some, count), subst (λ (x : Ending). IsOwnEnding x) (sym ending) d.2)
  where
    low : Line
    low = line_of o.wave

    s : Sent seats begin low
    s = sent_first seats begin low (record { line = r.line; frames = frames }) h

    d : IsEndOf (begin + 4500) (reported_slots (read_slots low 160 [] (begin + 4500))) (read_slots low 160 [] (begin + 4500))
    d = slots_end seats begin low s.calm 160 [] [] (begin + 4500) (record { reached = reached_start low begin (begin + 4500) (starts seats begin low s); time = omega arith; count = refl; fall = slot_falls seats begin low s }) refl (omega arith)

pub last_starts : (seats : List Seat) (begin : ℕ) (o : Outcome) → AreFrames seats → IsRound seats begin [] o → list_any (λ s. is_some s.sends) seats ≡ true
    → LastStarts seats o.reading.bits.items × (o.reading.ending ≢ BadStart)
last_starts seats begin o frames r h =
    let bits : o.reading.bits.items ≡ reported_slots (read_slots low 160 [] (begin + 4500)) = r.bits ∙ ap (λ (q : Result ℕ ℕ). bits_of (read_start low begin q)) (starts seats begin low s) in
    let ending : o.reading.ending ≡ (read_slots low 160 [] (begin + 4500)).ending = r.ending ∙ ap (λ (q : Result ℕ ℕ). (read_start low begin q).ending) (starts seats begin low s) in
    (subst (λ (xs : List Bool). LastStarts seats xs) (sym bits) d.0, subst (λ (x : Ending). x ≢ BadStart) (sym ending) d.1)
  where
    low : Line
    low = line_of o.wave

    s : Sent seats begin low
    s = sent_first seats begin low (record { line = r.line; frames = frames }) h

    d : LastStarts seats (reported_slots (read_slots low 160 [] (begin + 4500))) × ((read_slots low 160 [] (begin + 4500)).ending ≢ BadStart)
    d = slots_last seats begin low s.calm 160 [] [] (begin + 4500) (record { reached = reached_start low begin (begin + 4500) (starts seats begin low s); time = omega arith; count = refl; fall = slot_falls seats begin low s }) refl (omega arith)
