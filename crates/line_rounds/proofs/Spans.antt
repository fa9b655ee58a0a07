-- What the slots of a reading have in common: how far apart they fall, and what is known of them when.
use Rattle.std.proofs.Common.{◌≡◌, ℕ, zero, suc, ◌+◌, ◌-◌, ◌*◌, ◌%◌, ◌==◌, ◌<◌, ◌≤◌, Bool, true, false, nat_lt, if◌then◌else◌, List, [], ◌∷◌, ◌++◌, length, slice_index_or, inl, inr, Option, Some, None, Result, Ok, Err, refl, arith, ap, ◌∙◌, sym}
use Rattle.std.specs.List.{filter_map, cons_option}
use Rattle.std.specs.Option.{option_to_list}
use Rattle.std.proofs.lemmas.Bool.{cases_lt}
use Rattle.std.proofs.lemmas.Bool.Decides.{nat_tests}
use Rattle.line_wave.specs.Line.{Line, is_fall}
use Rattle.line_frames.specs.declared.Ending.{Ending}
use Rattle.line_frames.specs.declared.Ending.TheVariants.{Complete, Short, Long}
use Rattle.line_reading.specs.Reading.After.{Next, Ends}
use Rattle.line_reading.specs.Windows.{standard, sample_at}
use Rattle.line_reading.specs.Reading.{next_fall, Slot, known_slot, known_slots, reading_of, read_start, read_slots, read_on, read_then, after_slot, after_fall, after_last, last_ending, last_heard, sample, bit_sampled_at, start_of, After}
use Rattle.line_rounds.specs.Slots.{ReadingSpans, BitsMore, ReportedAll, AreSpaced, IsReported, Spans, MoreBits}
use Rattle.line_reading.proofs.Search.{found_first, found_none}
use Rattle.line_rounds.proofs.Walk.{next_falls}
use Rattle.line_rounds.proofs.Law.{start_falls}

-- ---- how far a reading's slots are apart, and when they are told

spaced_weaker : (ss : List Slot) (a b : ℕ) → b ≤ a → AreSpaced a ss → AreSpaced b ss
spaced_weaker [] a b h s = tt
spaced_weaker (x ∷ ss) a b h s = (omega (arith, s.0), s.1)

reported_by_time : (until e : ℕ) (o : Option Bool) → e + sample_at ≤ until → IsReported until e o
reported_by_time until e None h = tt
reported_by_time until e (Some b) h = h

-- ---- how a slot ends a reading

EndsReported : Line → ℕ → After → Type 0
EndsReported low e (Next f) = Unit {0}
EndsReported low e (Ends ending at) =
    (e ≤ last_heard ending at) × (last_heard ending at ≤ e + (standard.bit_total.most + 1)) × IsReported (last_heard ending at) e (bit_sampled_at low e)
    × (ending ≡ Short → (is_fall low at ≡ true) × (last_heard ending at ≡ at))

-- a slot that a fall ends is sampled before the fall, or not at all
reported_fall : (low : Line) (e f : ℕ) → is_fall low f ≡ true → e < f → (o : Option ℕ) → next_fall low e sample_at ≡ o → IsReported f e (sample low e o)
reported_fall low e f h l (Some g) q = tt
reported_fall low e f h l None q =
    elim (cases_lt (e + sample_at) f) [
      | inl lt ↦ omega arith
      | inr ge ↦ (let x : is_fall low f ≡ false = found_none (is_fall low) (e + 1) sample_at q f (omega arith) (omega arith) in let y : true ≡ false = sym h ∙ x in cc)
    ]

ends_early : (low : Line) (e f : ℕ) → is_fall low f ≡ true → e < f → f ≤ e + (standard.bit_total.most + 1) → EndsReported low e (Ends Short f)
unfolding EndsReported
ends_early low e f h l m = (omega arith, m, reported_fall low e f h l (next_fall low e sample_at) refl, λ s. (h, refl))

ends_open : (low : Line) (e : ℕ) → EndsReported low e (after_fall e (next_fall low e standard.bit_total.most))
unfolding EndsReported
ends_open low e = by_fall (next_fall low e standard.bit_total.most) refl
  where
    by_time : (f : ℕ) (b : Bool) → next_fall low e standard.bit_total.most ≡ Some f → EndsReported low e (if b then Ends Short f else Next f)
    by_time f false q = tt
    by_time f true q = let d = found_first (is_fall low) (e + 1) standard.bit_total.most f q in ends_early low e f d.passes (omega (arith, d.after)) (omega (arith, d.within))

    by_fall : (o : Option ℕ) → next_fall low e standard.bit_total.most ≡ o → EndsReported low e (after_fall e o)
    by_fall None q = (omega arith, omega arith, reported_by_time (e + (standard.bit_total.most + 1) - 1) e (bit_sampled_at low e) (omega arith), λ s. cc)
    by_fall (Some f) q = by_time f (nat_lt f (e + standard.bit_total.least)) q

ends_last : (low : Line) (e : ℕ) (ending : Ending) → ((at : ℕ) → last_heard ending at ≡ at) → (ending ≡ Short → ⊥) → EndsReported low e (after_last e ending (next_fall low e sample_at))
unfolding EndsReported
ends_last low e ending p n = by_fall (next_fall low e sample_at) refl
  where
    by_fall : (o : Option ℕ) → next_fall low e sample_at ≡ o → EndsReported low e (after_last e ending o)
    by_fall None q =
        let h : last_heard ending (e + sample_at) ≡ e + sample_at = p (e + sample_at) in
        (omega arith, omega arith, reported_by_time (last_heard ending (e + sample_at)) e (bit_sampled_at low e) (omega arith), λ s. absurd (n s))
    by_fall (Some f) q = let d = found_first (is_fall low) (e + 1) sample_at f q in ends_early low e f d.passes (omega (arith, d.after)) (omega (arith, d.within))

slot_reported : (low : Line) (e : ℕ) (bits : List Bool) → EndsReported low e (after_slot low e (last_ending bits))
slot_reported low e bits =
    elim (length bits % 10 == 9) as (λ a. EndsReported low e (after_slot low e (if a then (if slice_index_or bits (length bits - 1) false then Some Complete else if length bits == 159 then Some Long else None) else None))) [
      | true ↦ elim (slice_index_or bits (length bits - 1) false) as (λ b. EndsReported low e (after_slot low e (if b then Some Complete else if length bits == 159 then Some Long else None))) [
        | true ↦ ends_last low e Complete (λ at. refl) (λ s. cc)
        | false ↦ elim (length bits == 159) as (λ c. EndsReported low e (after_slot low e (if c then Some Long else None))) [ true ↦ ends_last low e Long (λ at. refl) (λ s. cc) | false ↦ ends_open low e ]
      ]
      | false ↦ ends_open low e
    ]

-- ---- the whole reading

spans_on : (low : Line) (e left : ℕ) (bits bits2 : List Bool) → is_fall low e ≡ true → (a : After) → after_slot low e (last_ending bits) ≡ a → EndsReported low e a
    → ((f : ℕ) → is_fall low f ≡ true → Spans low f (read_slots low left bits2 f))
    → Spans low e (read_then (record { fall = e; bit = bit_sampled_at low e }) (read_on (read_slots low left bits2) a))
unfolding EndsReported
spans_on low e left bits bits2 h (Ends ending at) q d ih =
    record { begun = d.0; spaced = (omega arith, tt); reported = (d.0, d.2, tt); falls = (h, tt); short = d.3 }
spans_on low e left bits bits2 h (Next f) q d ih =
    let n = next_falls low e bits f q in
    let r = ih f n.fall in
    record {
      begun = omega (arith, r.begun, n.far);
      spaced = (omega arith, spaced_weaker (read_slots low left bits2 f).slots f (e + (sample_at + 1)) (omega (arith, n.far)) r.spaced);
      reported = (omega (arith, r.begun, n.far), reported_by_time (read_slots low left bits2 f).until e (bit_sampled_at low e) (omega (arith, r.begun, n.far)), r.reported);
      falls = (h, r.falls);
      short = r.short;
    }

pub spans : (low : Line) (left : ℕ) (bits : List Bool) (e : ℕ) → is_fall low e ≡ true → Spans low e (read_slots low left bits e)
unfolding read_slots
spans low zero bits e h = record { begun = omega arith; spaced = tt; reported = tt; falls = tt; short = λ s. cc }
spans low (suc left) bits e h =
    spans_on low e left bits (bits ++ option_to_list (bit_sampled_at low e)) h (after_slot low e (last_ending bits)) refl (slot_reported low e bits)
    (λ f g. spans low left (bits ++ option_to_list (bit_sampled_at low e)) f g)

spans_start : (low : Line) (begin : ℕ) (s : Result ℕ ℕ) → start_of low begin ≡ s → Spans low 0 (read_start low begin s)
spans_start low begin (Err at) h = record { begun = omega arith; spaced = tt; reported = tt; falls = tt; short = λ s. cc }
spans_start low begin (Ok f) h =
    let r = spans low 160 [] f (start_falls low begin f h).fall in
    record { begun = omega arith; spaced = spaced_weaker (read_slots low 160 [] f).slots f 0 (omega arith) r.spaced; reported = r.reported; falls = r.falls; short = r.short }

pub reading_spans : ReadingSpans
reading_spans low begin = spans_start low begin (start_of low begin) refl

-- ---- how long a reading is

bound_on : (low : Line) (e left : ℕ) (bits bits2 : List Bool) (a : After) → after_slot low e (last_ending bits) ≡ a → EndsReported low e a
    → ((f : ℕ) → (read_slots low left bits2 f).until ≤ f + (standard.bit_total.most + 1) * left) → (read_on (read_slots low left bits2) a).until ≤ e + (standard.bit_total.most + 1) * suc left
unfolding EndsReported
bound_on low e left bits bits2 (Ends ending at) q d ih = omega (arith, d.1)
bound_on low e left bits bits2 (Next f) q d ih = omega (arith, (next_falls low e bits f q).near, ih f)

bound : (low : Line) (left : ℕ) (bits : List Bool) (e : ℕ) → (read_slots low left bits e).until ≤ e + (standard.bit_total.most + 1) * left
unfolding read_slots
bound low zero bits e = omega arith
bound low (suc left) bits e =
    bound_on low e left bits (bits ++ option_to_list (bit_sampled_at low e)) (after_slot low e (last_ending bits)) refl (slot_reported low e bits)
    (λ f. bound low left (bits ++ option_to_list (bit_sampled_at low e)) f)

bound_start : (low : Line) (begin : ℕ) (s : Result ℕ ℕ) → start_of low begin ≡ s → (read_start low begin s).until ≤ begin + 444860
bound_start low begin (Err at) h = omega arith
bound_start low begin (Ok f) h = omega (arith, bound low 160 [] f, (start_falls low begin f h).near)

-- a reading is over 444,860 after its begin
pub reading_bound : (low : Line) (begin : ℕ) → (reading_of low begin).until ≤ begin + 444860
reading_bound low begin = bound_start low begin (start_of low begin) refl

-- ---- what is known at two instants

bits_none : (u : ℕ) (ss : List Slot) (from : ℕ) → AreSpaced from ss → u ≤ from → known_slots u ss ≡ []
bits_none u [] from s h = refl
bits_none u (x ∷ ss) from s h = let e : nat_lt x.fall u ≡ false = grind (arith, nat_tests, s.0) in rw e refl

pub bits_more : BitsMore
bits_more u t [] from s h = ([], refl)
bits_more u t (x ∷ ss) from s h = by_fall (nat_lt x.fall u) refl (bits_more u t ss (x.fall + (sample_at + 1)) s.1 h)
  where
    cons_both : (o : Option Bool) (ms bs ys : List Bool) → ms ≡ bs ++ ys → cons_option o ms ≡ cons_option o bs ++ ys
    cons_both None ms bs ys e = e
    cons_both (Some b) ms bs ys e = ap (λ zs. b ∷ zs) e

    by_sample : nat_lt x.fall u ≡ true → (b : Bool) → nat_lt (x.fall + sample_at) u ≡ b → MoreBits u t ss → MoreBits u t (x ∷ ss)
    by_sample f true g r =
        let f2 : nat_lt x.fall t ≡ true = grind (arith, nat_tests) in
        let g2 : nat_lt (x.fall + sample_at) t ≡ true = grind (arith, nat_tests) in
        (r.0, rw (f, f2, g, g2) (cons_both x.bit (filter_map (λ (y : Slot). y.bit) (known_slots t ss)) (filter_map (λ (y : Slot). y.bit) (known_slots u ss)) r.0 r.1))
    by_sample f false g r =
        let n : known_slots u ss ≡ [] = bits_none u ss (x.fall + (sample_at + 1)) s.1 (let q : u ≤ x.fall + sample_at = grind (arith, nat_tests) in omega arith) in
        (filter_map (λ (y : Slot). y.bit) (known_slots t (x ∷ ss)), sym (rw (f, g, n) refl))

    by_fall : (b : Bool) → nat_lt x.fall u ≡ b → MoreBits u t ss → MoreBits u t (x ∷ ss)
    by_fall true f r = by_sample f (nat_lt (x.fall + sample_at) u) refl r
    by_fall false f r = (filter_map (λ (y : Slot). y.bit) (known_slots t (x ∷ ss)), sym (rw f refl))

-- after the ending nothing more is reported
pub reported_all : ReportedAll
reported_all u t until [] d l h = refl
reported_all u t until (x ∷ ss) d l h =
    let f : nat_lt x.fall u ≡ true = grind (arith, nat_tests, d.0) in
    let g : nat_lt x.fall t ≡ true = grind (arith, nat_tests, d.0) in
    rw (f, g) (both (known_slots u ss) (known_slots t ss) (slot_same x.fall x.bit d.1) (reported_all u t until ss d.2 l h))
  where
    slot_same : (n : ℕ) (o : Option Bool) → IsReported until n o
        → known_slot u (record { fall = n; bit = o }) ≡ known_slot t (record { fall = n; bit = o })
    slot_same n None k = ap (λ (o : Option Bool). let y : Slot = record { fall = n; bit = o } in y) (either (nat_lt (n + sample_at) u) ∙ sym (either (nat_lt (n + sample_at) t)))
      where
        none : Option Bool
        none = None

        either : (c : Bool) → (if c then none else none) ≡ none
        either true = refl
        either false = refl
    slot_same n (Some b) k =
        let f : nat_lt (n + sample_at) u ≡ true = grind (arith, nat_tests) in
        let g : nat_lt (n + sample_at) t ≡ true = grind (arith, nat_tests) in
        rw (f, g) refl

    both : (ms bs : List Slot) → known_slot u x ≡ known_slot t x → ms ≡ bs → known_slot u x ∷ ms ≡ known_slot t x ∷ bs
    both ms bs p q = ap (λ y. y ∷ ms) p ∙ ap (λ ys. known_slot t x ∷ ys) q
