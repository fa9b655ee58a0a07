-- What is read before an instant depends on the line before it alone.
use Rattle.std.proofs.Common.{◌≡◌, ℕ, zero, suc, ◌+◌, ◌-◌, ◌<◌, ◌≤◌, Bool, true, false, not, min, ◌==◌, ◌%◌, length, slice_index_or, nat_lt, if◌then◌else◌, List, [], ◌∷◌, ◌++◌, ◌⊎◌, inl, inr, Option, Some, None, IsSome, Result, Ok, Err, refl, arith, ap, ◌∙◌, sym}
use Rattle.std.proofs.lemmas.Bool.{cases_lt}
use Rattle.std.proofs.lemmas.Bool.Decides.{nat_tests}
use Rattle.std.specs.Option.{option_to_list}
use Rattle.line_wave.specs.Line.{Line, is_fall, is_rise}
use Rattle.line_frames.specs.declared.Ending.{Ending}
use Rattle.line_frames.specs.declared.Ending.TheVariants.{Complete, Short, BadStart, Long, Open}
use Rattle.line_reading.specs.Reading.After.{Next, Ends}
use Rattle.line_reading.proofs.Search.{first_in_agree}
use Rattle.line_reading.specs.Reading.{first_in, next_fall, next_rise, Read, Slot, slots_by, read_on, read_then, after_by, after_fall_by, after_last, last_ending, sample, bit_sampled_at, last_heard, Known, known_at, known_slot, read_start_by, reading_by, start_by, start_rise_by, start_fall_by, After}
use Rattle.line_reading.specs.declared.times.Windows.{Windows}
use Rattle.line_reading.specs.Windows.{AreWindows, sample_at}
use Rattle.line_reading.specs.Causality.{Agree}
use Rattle.line_reading.specs.Known.{nothing, with_slots, AreSampled, IsPlain, LastEndingsArePlain, SampledSlotsAreKnown, FallenSlotsAreKnown}

falls_agree : (t : ℕ) (p q : Line) → Agree t p q → Agree t (is_fall p) (is_fall q)
falls_agree t p q a u h = rw (a u h, a (u - 1) (omega arith)) refl

-- ---- a search

-- nothing is found before t
NotBefore : ℕ → Option ℕ → Type 0
NotBefore t None = Unit {0}
NotBefore t (Some x) = t ≤ x

late_search : (p : ℕ → Bool) (from count t : ℕ) → t ≤ from → NotBefore t (first_in p from count)
unfolding first_in NotBefore
late_search p from zero t h = tt
late_search p from (suc count) t h =
    elim (p from) as (λ b. NotBefore t (if b then Some from else first_in p (from + 1) count)) [
      | true ↦ h
      | false ↦ late_search p (from + 1) count t (omega arith)
    ]

-- either both find the same, or neither finds anything before t
search_cases : (p q : ℕ → Bool) (from count t : ℕ) → ((u : ℕ) → u < t → p u ≡ q u)
    → (first_in p from count ≡ first_in q from count) ⊎ (NotBefore t (first_in p from count) × NotBefore t (first_in q from count))
unfolding first_in
search_cases p q from zero t a = inl refl
search_cases p q from (suc count) t a =
    elim (cases_lt from t) [
      | inl lt ↦ step (q from) (a from lt) refl (search_cases p q (from + 1) count t a)
      | inr ge ↦ inr (late_search p from (suc count) t ge, late_search q from (suc count) t ge)
    ]
  where
    step : (b : Bool) → p from ≡ q from → q from ≡ b
        → (first_in p (from + 1) count ≡ first_in q (from + 1) count) ⊎ (NotBefore t (first_in p (from + 1) count) × NotBefore t (first_in q (from + 1) count))
        → (first_in p from (suc count) ≡ first_in q from (suc count)) ⊎ (NotBefore t (first_in p from (suc count)) × NotBefore t (first_in q from (suc count)))
    step true e f r = inl (rw (e, f) refl)
    step false e f r = rw (e, f) r

-- ---- what a slot leads to

IsLate : ℕ → After → Type 0
IsLate t (Next f) = t ≤ f
IsLate t (Ends ending at) = t ≤ last_heard ending at

pub last_plain : LastEndingsArePlain
last_plain bits =
    elim (length bits % 10 == 9) as (λ a. IsPlain (if a then (if slice_index_or bits (length bits - 1) false then Some Complete else if length bits == 159 then Some Long else None) else None)) [
      | true ↦ elim (slice_index_or bits (length bits - 1) false) as (λ b. IsPlain (if b then Some Complete else if length bits == 159 then Some Long else None)) [
        | true ↦ λ at. refl
        | false ↦ elim (length bits == 159) as (λ c. IsPlain (if c then Some Long else None)) [ true ↦ λ at. refl | false ↦ tt ]
      ]
      | false ↦ tt
    ]

late_last : (t e : ℕ) (ending : Ending) (o : Option ℕ) → ((at : ℕ) → last_heard ending at ≡ at) → t ≤ e + sample_at → NotBefore t o → IsLate t (after_last e ending o)
unfolding IsLate NotBefore
late_last t e ending None p h k = rw p h
late_last t e ending (Some f) p h k = k

-- the bit, where it is sampled before t
same_sample : (t : ℕ) (p q : Line) (e : ℕ) → Agree t p q → e + sample_at < t → bit_sampled_at p e ≡ bit_sampled_at q e
same_sample t p q e a h =
    rw (first_in_agree (is_fall p) (is_fall q) (e + 1) sample_at (λ u l m. falls_agree t p q a u (omega arith)))
    (by_found (next_fall q e sample_at))
  where
    by_found : (o : Option ℕ) → sample p e o ≡ sample q e o
    by_found None = ap (λ b. Some (not b)) (a (e + sample_at) h)
    by_found (Some f) = refl

-- ---- a reading as far as it is known before t

-- a reading ends no earlier than its slots fall
on_over : (e : ℕ) (rest : ℕ → Read) (a : After) → IsLate e a → ((f : ℕ) → f ≤ (rest f).until) → e ≤ (read_on rest a).until
unfolding IsLate
on_over e rest (Next f) h ih = omega (arith, ih f)
on_over e rest (Ends ending at) h ih = h

unknown_end : (t at until : ℕ) (ending : Ending) → t ≤ until → known_at t (record { slots = []; ending = ending; at = at; until = until }) ≡ nothing
unfolding nothing
unknown_end t at until ending h = let f : nat_lt until t ≡ false = grind (arith, nat_tests) in rw f refl

unknown_slot : (t : ℕ) (s : Slot) (r : Read) → t ≤ s.fall → t ≤ r.until → known_at t (read_then s r) ≡ nothing
unfolding nothing
unknown_slot t s r h k =
    let f : nat_lt s.fall t ≡ false = grind (arith, nat_tests) in
    let g : nat_lt r.until t ≡ false = grind (arith, nat_tests) in
    rw (f, g) refl

-- the next slot falls after the sample
IsFar : ℕ → After → Type 0
IsFar e (Next f) = e + sample_at < f
IsFar e (Ends ending at) = Unit {0}

pub known_then : FallenSlotsAreKnown
known_then t s r h = let f : nat_lt s.fall t ≡ true = grind (arith, nat_tests) in rw f refl

same_slot : (t : ℕ) (p q : Line) (e : ℕ) → Agree t p q → known_slot t (record { fall = e; bit = bit_sampled_at p e }) ≡ known_slot t (record { fall = e; bit = bit_sampled_at q e })
same_slot t p q e a = go (nat_lt (e + sample_at) t) refl
  where
    go : (b : Bool) → nat_lt (e + sample_at) t ≡ b → known_slot t (record { fall = e; bit = bit_sampled_at p e }) ≡ known_slot t (record { fall = e; bit = bit_sampled_at q e })
    go true h = let k : e + sample_at < t = grind (arith, nat_tests) in ap (λ (x : Option Bool). known_slot t (record { fall = e; bit = x })) (same_sample t p q e a k)
    go false h = rw h refl

-- ---- the start bit

rises_agree : (t : ℕ) (p q : Line) → Agree t p q → Agree t (is_rise p) (is_rise q)
rises_agree t p q a u h = rw (a u h, a (u - 1) (omega arith)) refl

-- ---- what a receiver in a slot knows

quiet_search : (p : ℕ → Bool) (from count t : ℕ) → ((u : ℕ) → from ≤ u → u < t → p u ≡ false) → NotBefore t (first_in p from count)
unfolding first_in NotBefore
quiet_search p from zero t q = tt
quiet_search p from (suc count) t q = step (p from) refl (quiet_search p (from + 1) count t (λ u l m. q u (omega arith) m))
  where
    step : (b : Bool) → p from ≡ b → NotBefore t (first_in p (from + 1) count) → NotBefore t (if b then Some from else first_in p (from + 1) count)
    step false e r = r
    step true e r = elim (cases_lt from t) [ inl lt ↦ (let g : true ≡ false = sym e ∙ q from (omega arith) lt in cc) | inr ge ↦ ge ]

pub known_front : SampledSlotsAreKnown
known_front t [] r h = refl
known_front t (x ∷ xs) r h =
    let e : nat_lt x.fall t ≡ true = grind (arith, nat_tests, h.0) in
    let f : nat_lt (x.fall + sample_at) t ≡ true = grind (arith, nat_tests, h.0) in
    known_then t x (with_slots xs r) (omega (arith, h.0))
    ∙ ap (λ (k : Known). let n : Known = record { slots = known_slot t x ∷ k.slots; ended = k.ended } in n) (known_front t xs r h.1)
    ∙ ap (λ (b : Option Bool). let n : Known = record { slots = record { fall = x.fall; bit = b } ∷ (xs ++ (known_at t r).slots); ended = (known_at t r).ended } in n)
    (ap (λ c. if c then x.bit else None) f)

module _ (win : Windows) (ok : AreWindows win) where
  late_fall : (t e : ℕ) (o : Option ℕ) → t ≤ e + win.bit_total.most → NotBefore t o → IsLate t (after_fall_by win e o)
  unfolding IsLate NotBefore
  late_fall t e None h k = omega arith
  late_fall t e (Some f) h k = elim (nat_lt f (e + win.bit_total.least)) as (λ b. IsLate t (if b then Ends Short f else Next f)) [ true ↦ k | false ↦ k ]

  either_after : (t : ℕ) (p q : Line) (e : ℕ) (last : Option Ending) → IsPlain last → Agree t p q
      → (after_by win p e last ≡ after_by win q e last) ⊎ (IsLate t (after_by win p e last) × IsLate t (after_by win q e last))
  either_after t p q e None w a =
      elim (cases_lt (e + win.bit_total.most) t) [
        | inl within ↦ inl (ap (after_fall_by win e) (first_in_agree (is_fall p) (is_fall q) (e + 1) win.bit_total.most (λ u l m. falls_agree t p q a u (omega arith))))
        | inr past ↦ elim (search_cases (is_fall p) (is_fall q) (e + 1) win.bit_total.most t (falls_agree t p q a)) [
          | inl same ↦ inl (ap (after_fall_by win e) same)
          | inr late ↦ inr (late_fall t e (next_fall p e win.bit_total.most) past late.0, late_fall t e (next_fall q e win.bit_total.most) past late.1)
        ]
      ]
  either_after t p q e (Some ending) w a =
      elim (cases_lt (e + sample_at) t) [
        | inl within ↦ inl (ap (after_last e ending) (first_in_agree (is_fall p) (is_fall q) (e + 1) sample_at (λ u l m. falls_agree t p q a u (omega arith))))
        | inr past ↦ elim (search_cases (is_fall p) (is_fall q) (e + 1) sample_at t (falls_agree t p q a)) [
          | inl same ↦ inl (ap (after_last e ending) same)
          | inr late ↦ inr (late_last t e ending (next_fall p e sample_at) w past late.0, late_last t e ending (next_fall q e sample_at) w past late.1)
        ]
      ]

  slot_later : (low : Line) (e : ℕ) (last : Option Ending) → IsPlain last → IsLate e (after_by win low e last)
  slot_later low e None w = late_fall e e (next_fall low e win.bit_total.most) (omega arith) (late_search (is_fall low) (e + 1) win.bit_total.most e (omega arith))
  slot_later low e (Some ending) w = late_last e e ending (next_fall low e sample_at) w (omega arith) (late_search (is_fall low) (e + 1) sample_at e (omega arith))

  pub not_over : (low : Line) (left : ℕ) (bits : List Bool) (e : ℕ) → e ≤ (slots_by win low left bits e).until
  unfolding slots_by
  not_over low zero bits e = omega arith
  not_over low (suc left) bits e =
      on_over e (slots_by win low left (bits ++ option_to_list (bit_sampled_at low e))) (after_by win low e (last_ending bits)) (slot_later low e (last_ending bits) (last_plain bits))
      (λ f. not_over low left (bits ++ option_to_list (bit_sampled_at low e)) f)

  pub late_read : (t : ℕ) (low : Line) (left : ℕ) (bits : List Bool) (e : ℕ) → t ≤ e → known_at t (slots_by win low left bits e) ≡ nothing
  unfolding slots_by
  late_read t low zero bits e h = unknown_end t e e Open h
  late_read t low (suc left) bits e h =
      unknown_slot t (record { fall = e; bit = bit_sampled_at low e }) (read_on (slots_by win low left (bits ++ option_to_list (bit_sampled_at low e))) (after_by win low e (last_ending bits)))
      h (omega (arith, not_over low (suc left) bits e))

  late_on : (t : ℕ) (low : Line) (left : ℕ) (bits : List Bool) (a : After) → IsLate t a → known_at t (read_on (slots_by win low left bits) a) ≡ nothing
  unfolding IsLate
  late_on t low left bits (Next f) h = late_read t low left bits f h
  late_on t low left bits (Ends ending at) h = unknown_end t at (last_heard ending at) ending h

  far_slot : (low : Line) (e : ℕ) (last : Option Ending) → IsFar e (after_by win low e last)
  unfolding IsFar
  far_slot low e None = far (next_fall low e win.bit_total.most)
    where
      soon : (f : ℕ) (b : Bool) → nat_lt f (e + win.bit_total.least) ≡ b → IsFar e (if b then Ends Short f else Next f)
      soon f true h = tt
      soon f false h = grind (arith, nat_tests)

      far : (o : Option ℕ) → IsFar e (after_fall_by win e o)
      far None = tt
      far (Some f) = soon f (nat_lt f (e + win.bit_total.least)) refl
  far_slot low e (Some ending) = far (next_fall low e sample_at)
    where
      far : (o : Option ℕ) → IsFar e (after_last e ending o)
      far None = tt
      far (Some f) = tt

  -- what follows from the same place is known alike
  same_on : (t : ℕ) (p q : Line) (left : ℕ) (b c : List Bool) (e : ℕ) (a : After) → IsFar e a
      → (e + sample_at < t → b ≡ c) → ((f : ℕ) → known_at t (slots_by win p left c f) ≡ known_at t (slots_by win q left c f))
      → known_at t (read_on (slots_by win p left b) a) ≡ known_at t (read_on (slots_by win q left c) a)
  unfolding IsFar
  same_on t p q left b c e (Next f) n h ih =
      elim (cases_lt f t) [
        | inl lt ↦ ap (λ x. known_at t (slots_by win p left x f)) (h (omega arith)) ∙ ih f
        | inr ge ↦ late_read t p left b f ge ∙ sym (late_read t q left c f ge)
      ]
  same_on t p q left b c e (Ends ending at) n h ih = refl

  -- what follows a slot, on lines that are one before t
  same_rest : (t : ℕ) (p q : Line) (left : ℕ) (b c : List Bool) (e : ℕ) (last : Option Ending)
      → (after_by win p e last ≡ after_by win q e last) ⊎ (IsLate t (after_by win p e last) × IsLate t (after_by win q e last))
      → (e + sample_at < t → b ≡ c) → ((f : ℕ) → known_at t (slots_by win p left c f) ≡ known_at t (slots_by win q left c f))
      → known_at t (read_on (slots_by win p left b) (after_by win p e last)) ≡ known_at t (read_on (slots_by win q left c) (after_by win q e last))
  same_rest t p q left b c e last (inl same) h ih =
      ap (λ a. known_at t (read_on (slots_by win p left b) a)) same ∙ same_on t p q left b c e (after_by win q e last) (far_slot q e last) h ih
  same_rest t p q left b c e last (inr late) h ih =
      late_on t p left b (after_by win p e last) late.0 ∙ sym (late_on t q left c (after_by win q e last) late.1)

  -- The law: lines that are one before t are read alike before t.
  pub read_alike : (t : ℕ) (p q : Line) → Agree t p q → (left : ℕ) (bits : List Bool) (e : ℕ)
      → known_at t (slots_by win p left bits e) ≡ known_at t (slots_by win q left bits e)
  unfolding slots_by
  read_alike t p q a zero bits e = refl
  read_alike t p q a (suc left) bits e =
      elim (cases_lt e t) [
        | inl lt ↦ known_then t (record { fall = e; bit = bit_sampled_at p e }) (rest p) lt
            ∙ ap (λ (x : Slot). let k : Known = record { slots = x ∷ (known_at t (rest p)).slots; ended = (known_at t (rest p)).ended } in k) (same_slot t p q e a)
            ∙ ap (λ (x : Known). let k : Known = record { slots = known_slot t (record { fall = e; bit = bit_sampled_at q e }) ∷ x.slots; ended = x.ended } in k) (both (λ f. read_alike t p q a left (bits ++ option_to_list (bit_sampled_at q e)) f))
            ∙ sym (known_then t (record { fall = e; bit = bit_sampled_at q e }) (rest q) lt)
        | inr ge ↦ late_read t p (suc left) bits e ge ∙ sym (late_read t q (suc left) bits e ge)
      ]
    where
      rest : Line → Read
      rest low = read_on (slots_by win low left (bits ++ option_to_list (bit_sampled_at low e))) (after_by win low e (last_ending bits))

      both : ((f : ℕ) → known_at t (slots_by win p left (bits ++ option_to_list (bit_sampled_at q e)) f) ≡ known_at t (slots_by win q left (bits ++ option_to_list (bit_sampled_at q e)) f))
          → known_at t (rest p) ≡ known_at t (rest q)
      both ih = same_rest t p q left (bits ++ option_to_list (bit_sampled_at p e)) (bits ++ option_to_list (bit_sampled_at q e)) e (last_ending bits)
          (either_after t p q e (last_ending bits) (last_plain bits) a) (λ h. ap (λ b. bits ++ option_to_list b) (same_sample t p q e a h)) ih

  IsLateStart : ℕ → ℕ → Result ℕ ℕ → Type 0
  IsLateStart t e (Ok f) = t ≤ f
  IsLateStart t e (Err at) = t ≤ min at (e + win.start_total.most)

  late_start_fall : (t e : ℕ) (o : Option ℕ) → t ≤ e + win.start_total.most → NotBefore t o → IsLateStart t e (start_fall_by win e o)
  unfolding IsLateStart NotBefore
  late_start_fall t e None h k = omega arith
  late_start_fall t e (Some f) h k =
      elim (nat_lt f (e + win.start_total.least)) as (λ b. IsLateStart t e (if b then Err f else Ok f)) [ true ↦ omega arith | false ↦ k ]

  late_start_rise : (t e : ℕ) (low : Line) (o : Option ℕ) → t ≤ e + win.start_low.most → NotBefore t o → IsLateStart t e (start_rise_by win low e o)
  unfolding IsLateStart NotBefore
  late_start_rise t e low None h k = omega arith
  late_start_rise t e low (Some r) h k =
      elim (nat_lt r (e + win.start_low.least)) as (λ b. IsLateStart t e (if b then Err r else start_fall_by win e (next_fall low r (e + win.start_total.most - r)))) [
        | true ↦ omega arith
        | false ↦ late_start_fall t e (next_fall low r (e + win.start_total.most - r)) (omega arith) (late_search (is_fall low) (r + 1) (e + win.start_total.most - r) t (omega arith))
      ]

  either_fall : (t : ℕ) (p q : Line) (e r : ℕ) → Agree t p q
      → (start_fall_by win e (next_fall p r (e + win.start_total.most - r)) ≡ start_fall_by win e (next_fall q r (e + win.start_total.most - r)))
      ⊎ (IsLateStart t e (start_fall_by win e (next_fall p r (e + win.start_total.most - r))) × IsLateStart t e (start_fall_by win e (next_fall q r (e + win.start_total.most - r))))
  either_fall t p q e r a =
      elim (cases_lt (e + win.start_total.most) t) [
        | inl within ↦ inl (ap (start_fall_by win e) (first_in_agree (is_fall p) (is_fall q) (r + 1) (e + win.start_total.most - r) (λ u l m. falls_agree t p q a u (omega arith))))
        | inr past ↦ elim (search_cases (is_fall p) (is_fall q) (r + 1) (e + win.start_total.most - r) t (falls_agree t p q a)) [
          | inl same ↦ inl (ap (start_fall_by win e) same)
          | inr late ↦ inr (late_start_fall t e (next_fall p r (e + win.start_total.most - r)) past late.0, late_start_fall t e (next_fall q r (e + win.start_total.most - r)) past late.1)
        ]
      ]

  either_rise : (t : ℕ) (p q : Line) (e : ℕ) (o : Option ℕ) → Agree t p q
      → (start_rise_by win p e o ≡ start_rise_by win q e o) ⊎ (IsLateStart t e (start_rise_by win p e o) × IsLateStart t e (start_rise_by win q e o))
  either_rise t p q e None a = inl refl
  either_rise t p q e (Some r) a =
      elim (nat_lt r (e + win.start_low.least)) as (λ b. ((if b then Err r else start_fall_by win e (next_fall p r (e + win.start_total.most - r))) ≡ (if b then Err r else start_fall_by win e (next_fall q r (e + win.start_total.most - r))))
      ⊎ (IsLateStart t e (if b then Err r else start_fall_by win e (next_fall p r (e + win.start_total.most - r))) × IsLateStart t e (if b then Err r else start_fall_by win e (next_fall q r (e + win.start_total.most - r))))) [
        | true ↦ inl refl
        | false ↦ either_fall t p q e r a
      ]

  either_start : (t : ℕ) (p q : Line) (e : ℕ) → Agree t p q
      → (start_by win p e ≡ start_by win q e) ⊎ (IsLateStart t e (start_by win p e) × IsLateStart t e (start_by win q e))
  either_start t p q e a =
      elim (cases_lt (e + win.start_low.most) t) [
        | inl within ↦ same (first_in_agree (is_rise p) (is_rise q) (e + 1) win.start_low.most (λ u l m. rises_agree t p q a u (omega arith)))
        | inr past ↦ elim (search_cases (is_rise p) (is_rise q) (e + 1) win.start_low.most t (rises_agree t p q a)) [
          | inl s ↦ same s
          | inr late ↦ inr (late_start_rise t e p (next_rise p e win.start_low.most) past late.0, late_start_rise t e q (next_rise q e win.start_low.most) past late.1)
        ]
      ]
    where
      same : next_rise p e win.start_low.most ≡ next_rise q e win.start_low.most → (start_by win p e ≡ start_by win q e) ⊎ (IsLateStart t e (start_by win p e) × IsLateStart t e (start_by win q e))
      same s = rw s (either_rise t p q e (next_rise q e win.start_low.most) a)

  late_start : (t : ℕ) (low : Line) (e : ℕ) (s : Result ℕ ℕ) → IsLateStart t e s → known_at t (read_start_by win low e s) ≡ nothing
  unfolding IsLateStart
  late_start t low e (Ok f) h = late_read t low 160 [] f h
  late_start t low e (Err at) h = unknown_end t at (min at (e + win.start_total.most)) BadStart h

  alike_from : (t : ℕ) (p q : Line) (e : ℕ) (s : Result ℕ ℕ) → Agree t p q → known_at t (read_start_by win p e s) ≡ known_at t (read_start_by win q e s)
  alike_from t p q e (Ok f) a = read_alike t p q a 160 [] f
  alike_from t p q e (Err at) a = refl

  -- The law: what a reading reports before t depends on the line before t alone.
  pub reading_alike : (t : ℕ) (p q : Line) (e : ℕ) → Agree t p q → known_at t (reading_by win p e) ≡ known_at t (reading_by win q e)
  reading_alike t p q e a =
      elim (either_start t p q e a) [
        | inl same ↦ ap (λ s. known_at t (read_start_by win p e s)) same ∙ alike_from t p q e (start_by win q e) a
        | inr late ↦ late_start t p e (start_by win p e) late.0 ∙ sym (late_start t q e (start_by win q e) late.1)
      ]

  -- while no fall comes and the slot may still end otherwise, what it leads to is not known
  waiting : (low : Line) (e t : ℕ) (last : Option Ending) → IsPlain last → ((u : ℕ) → e < u → u < t → is_fall low u ≡ false)
      → t ≤ e + win.bit_total.most → (IsSome last → t ≤ e + sample_at) → IsLate t (after_by win low e last)
  waiting low e t None w q h k = late_fall t e (next_fall low e win.bit_total.most) h (quiet_search (is_fall low) (e + 1) win.bit_total.most t (λ u l m. q u (omega arith) m))
  waiting low e t (Some ending) w q h k = late_last t e ending (next_fall low e sample_at) w (k refl) (quiet_search (is_fall low) (e + 1) sample_at t (λ u l m. q u (omega arith) m))

  -- The law that joins a receiver to a round: in a slot at t, what the line told before t are the
  -- receiver's slots, and its own slot with the bit if that is sampled.
  pub known_in_slot : (low : Line) (begin t e left : ℕ) (xs : List Slot) (bits : List Bool)
      → with_slots xs (slots_by win low (suc left) bits e) ≡ reading_by win low begin → AreSampled t xs → e < t
      → ((u : ℕ) → e < u → u < t → is_fall low u ≡ false) → t ≤ e + win.bit_total.most → (IsSome (last_ending bits) → t ≤ e + sample_at)
      → known_at t (reading_by win low begin) ≡ record { slots = xs ++ known_slot t (record { fall = e; bit = bit_sampled_at low e }) ∷ []; ended = None }
  unfolding slots_by nothing
  known_in_slot low begin t e left xs bits g sampled_before l q h k =
      let slot : Slot = record { fall = e; bit = bit_sampled_at low e } in
      let rest = read_on (slots_by win low left (bits ++ option_to_list (bit_sampled_at low e))) (after_by win low e (last_ending bits)) in
      ap (known_at t) (sym g) ∙ known_front t xs (read_then slot rest) sampled_before
      ∙ ap (λ (n : Known). let m : Known = record { slots = xs ++ n.slots; ended = n.ended } in m)
      (known_then t slot rest l
      ∙ ap (λ (n : Known). let m : Known = record { slots = known_slot t slot ∷ n.slots; ended = n.ended } in m)
      (late_on t low left (bits ++ option_to_list (bit_sampled_at low e)) (after_by win low e (last_ending bits)) (waiting low e t (last_ending bits) (last_plain bits) q h k)))

  -- ---- what is known in the start bit

  -- while it has not risen and may still rise in time
  pub known_start_low : (low : Line) (e t : ℕ) → t ≤ e + (win.start_low.most + 1) → ((u : ℕ) → e < u → u < t → is_rise low u ≡ false) → known_at t (reading_by win low e) ≡ nothing
  unfolding IsLateStart NotBefore
  known_start_low low e t h q =
      late_start t low e (start_by win low e) (by_rise (next_rise low e win.start_low.most) (quiet_search (is_rise low) (e + 1) win.start_low.most t (λ u l m. q u (omega arith) m)))
    where
      by_rise : (o : Option ℕ) → NotBefore t o → IsLateStart t e (start_rise_by win low e o)
      by_rise None n = omega arith
      by_rise (Some r) n =
          elim (nat_lt r (e + win.start_low.least)) as (λ b. IsLateStart t e (if b then Err r else start_fall_by win e (next_fall low r (e + win.start_total.most - r)))) [
            | true ↦ omega arith
            | false ↦ late_start_fall t e (next_fall low r (e + win.start_total.most - r)) (omega arith) (late_search (is_fall low) (r + 1) (e + win.start_total.most - r) t (omega arith))
          ]

  -- the start bit's rise was in time
  pub start_risen : (low : Line) (e r : ℕ) → next_rise low e win.start_low.most ≡ Some r → e + win.start_low.least ≤ r → start_by win low e ≡ start_fall_by win e (next_fall low r (e + win.start_total.most - r))
  start_risen low e r h l =
      let f : nat_lt r (e + win.start_low.least) ≡ false = grind (arith, nat_tests) in
      ap (start_rise_by win low e) h ∙ ap (λ b. if b then Err r else start_fall_by win e (next_fall low r (e + win.start_total.most - r))) f

  -- while no fall has come after it and one may still come in time
  pub known_start_high : (low : Line) (e r t : ℕ) → next_rise low e win.start_low.most ≡ Some r → e + win.start_low.least ≤ r → t ≤ e + win.start_total.most
      → ((u : ℕ) → r < u → u < t → is_fall low u ≡ false) → known_at t (reading_by win low e) ≡ nothing
  known_start_high low e r t h l k q =
      ap (λ s. known_at t (read_start_by win low e s)) (start_risen low e r h l)
      ∙ late_start t low e (start_fall_by win e (next_fall low r (e + win.start_total.most - r)))
      (late_start_fall t e (next_fall low r (e + win.start_total.most - r)) k (quiet_search (is_fall low) (r + 1) (e + win.start_total.most - r) t (λ u a b. q u (omega arith) b)))
