-- How slots can end a reading, and with which bits.
use Rattle.std.proofs.Common.{◌≡◌, ℕ, zero, suc, ◌+◌, ◌-◌, ◌%◌, ◌==◌, ◌<◌, ◌≤◌, nat_lt, ◌&&◌, ◌||◌, ◌⊎◌, inl, inr, Bool, true, false, true≢false, not, if◌then◌else◌, length, length-append, append_assoc, append-nil, slice_index_or, List, [], ◌∷◌, ◌++◌, Option, Some, None, refl, sym, ap, subst, ◌∙◌, arith}
use Rattle.std.specs.List.{cons_option, filter_map}
use Rattle.std.specs.Option.{option_to_list}
use Rattle.std.proofs.lemmas.Bool.{cases_lt}
use Rattle.std.proofs.lemmas.Bool.Decides.{nat_tests}
use Rattle.line_wave.specs.Line.{Line, is_fall}
use Rattle.line_frames.specs.declared.Ending.{Ending}
use Rattle.line_frames.specs.declared.Ending.TheVariants.{Complete, Short, Silent, BadStart, Long, Open}
use Rattle.line_reading.specs.Reading.After.{Next, Ends}
use Rattle.line_reading.specs.Windows.{sample_at, standard}
use Rattle.line_reading.specs.Reading.{After, Slot, after_fall, after_last, after_slot, bit_sampled_at, bits_of, first_in, known_slots, last_ending, next_fall, read_on, read_slots, sample}
use Rattle.line_rounds.proofs.Walk.{next_falls}
use Rattle.expect_text.specs.Bits.{FitsEnding, goes_on, is_eom, is_none}

-- ---- how slots that were read with these bits can end a reading

abbrev pub IsWay : List Bool → Ending → Type 0
IsWay bits Complete = (0 < length bits) × (length bits % 10 ≡ 0) × (length bits ≤ 160)
IsWay bits BadStart = ⊥
IsWay bits Open = ⊥
IsWay bits Short = FitsEnding Short bits
IsWay bits Silent = FitsEnding Silent bits
IsWay bits Long = FitsEnding Long bits

pub ways_are_few : (bits : List Bool) (ending : Ending) → IsWay bits ending → length bits ≤ 160
ways_are_few bits Complete way = way.2
ways_are_few bits Short way = omega (arith, way.1)
ways_are_few bits Silent way = omega (arith, way.1)
ways_are_few bits BadStart way = absurd way
ways_are_few bits Long way = way.1
ways_are_few bits Open way = absurd way

-- ---- bits

joined : (bits : List Bool) (o : Option Bool) (ys : List Bool) → bits ++ cons_option o ys ≡ (bits ++ option_to_list o) ++ ys
joined bits None ys = ap (λ (zs : List Bool). zs ++ ys) (sym (append-nil bits))
joined bits (Some b) ys = sym (append_assoc bits (b ∷ []) ys)

-- the last of these bits, of which the first has this place, is no EOM of 1
abbrev IsQuiet : ℕ → List Bool → Type 0
IsQuiet place bits = (place + length bits) % 10 ≡ 9 → slice_index_or bits (length bits - 1) false ≡ false

goes_more : (place : ℕ) (bits : List Bool) (b : Bool) → goes_on place bits ≡ true → IsQuiet place bits → goes_on place (bits ++ (b ∷ [])) ≡ true
goes_more place [] b h quiet = by (not (b && is_eom place))
  where
    by : (c : Bool) → ((c || true) && true) ≡ true
    by true = refl
    by false = refl
goes_more place (x ∷ []) b h quiet = by x (is_eom place) refl (λ e. quiet (omega (arith, e))) (goes_more (place + 1) [] b refl (λ e. refl))
  where
    nine : is_eom place ≡ true → place % 10 ≡ 8
    nine e = grind (arith, nat_tests, e)

    by : (y eom : Bool) → is_eom place ≡ eom → (place % 10 ≡ 8 → y ≡ false) → goes_on (place + 1) (b ∷ []) ≡ true → ((not (y && eom) || false) && goes_on (place + 1) (b ∷ [])) ≡ true
    by true true e q later = absurd (true≢false (q (nine e)))
    by true false e q later = later
    by false eom e q later = later
goes_more place (x ∷ y ∷ ys) b h quiet = by (not (x && is_eom place)) (goes_on (place + 1) (y ∷ ys)) h (λ k. goes_more (place + 1) (y ∷ ys) b k later)
  where
    count : length (x ∷ y ∷ ys) - 1 ≡ suc (length (y ∷ ys) - 1)
    count = omega arith

    later : (place + 1 + length (y ∷ ys)) % 10 ≡ 9 → slice_index_or (y ∷ ys) (length (y ∷ ys) - 1) false ≡ false
    later e = sym (ap (λ (i : ℕ). slice_index_or (x ∷ y ∷ ys) i false) count) ∙ quiet (omega (arith, e))

    by : (c more : Bool) → ((c || false) && more) ≡ true → (more ≡ true → goes_on (place + 1) ((y ∷ ys) ++ (b ∷ [])) ≡ true) → ((c || false) && goes_on (place + 1) ((y ∷ ys) ++ (b ∷ []))) ≡ true
    by true more k next = next k
    by false more k next = absurd (true≢false (sym k))

-- with a bit or without one
goes_with : (bits : List Bool) (o : Option Bool) → goes_on 0 bits ≡ true → IsQuiet 0 bits → goes_on 0 (bits ++ cons_option o []) ≡ true
goes_with bits None h quiet = ap (goes_on 0) (append-nil bits) ∙ h
goes_with bits (Some b) h quiet = goes_more 0 bits b h quiet

one_more : (bits : List Bool) (o : Option Bool) → length (bits ++ cons_option o []) ≤ length bits + 1
one_more bits None = omega (arith, length-append bits [])
one_more bits (Some b) = omega (arith, length-append bits (b ∷ []))

with_one : (bits : List Bool) (o : Option Bool) (b : Bool) → o ≡ Some b → length (bits ++ cons_option o []) ≡ length bits + 1
with_one bits o b e = ap (λ (x : Option Bool). length (bits ++ cons_option x [])) e ∙ length-append bits (b ∷ [])

-- ---- samples

-- a bit is sampled where no fall comes before its sample
no_first : (test : ℕ → Bool) (from count : ℕ) → ((u : ℕ) → from ≤ u → u < from + count → test u ≡ false) → first_in test from count ≡ None
unfolding first_in
no_first test from zero h = refl
no_first test from (suc count) h =
    ap (λ (b : Bool). if b then Some from else first_in test (from + 1) count) (h from (omega arith) (omega arith)) ∙ no_first test (from + 1) count (λ u l m. h u (omega (arith, l)) (omega (arith, m)))

-- where none comes in a longer time
none_sooner : (test : ℕ → Bool) (from less count : ℕ) → less ≤ count → first_in test from count ≡ None → first_in test from less ≡ None
unfolding first_in
none_sooner test from zero count l h = refl
none_sooner test from (suc less) zero l h = absurd (omega (arith, l))
none_sooner test from (suc less) (suc count) l h = by (test from) h (none_sooner test (from + 1) less count (omega (arith, l)))
  where
    by : (b : Bool) → (if b then Some from else first_in test (from + 1) count) ≡ None → (first_in test (from + 1) count ≡ None → first_in test (from + 1) less ≡ None)
        → (if b then Some from else first_in test (from + 1) less) ≡ None
    by true k later = cc
    by false k later = later k

sampled : (low : Line) (e : ℕ) → ((u : ℕ) → e < u → u ≤ e + sample_at → is_fall low u ≡ false) → bit_sampled_at low e ≡ Some (not (low (e + sample_at)))
sampled low e quiet = ap (sample low e) (no_first (is_fall low) (e + 1) sample_at (λ u l m. quiet u (omega (arith, l)) (omega (arith, m))))

-- ---- the last slot

-- the last slot is the tenth of a block
ninth : (nine eom end : Bool) (x : Ending) → (if nine then (if eom then Some Complete else if end then Some Long else None) else None) ≡ Some x → nine ≡ true
ninth true eom end x h = refl
ninth false eom end x h = cc

-- where no slot is to be the last, an EOM just before is 0; so it is of the last slot of what is too long
no_eom : (nine eom end : Bool) → (if nine then (if eom then Some Complete else if end then Some Long else None) else None) ≡ None → nine ≡ true → eom ≡ false
no_eom true true end h k = cc
no_eom true false end h k = refl
no_eom false eom end h k = absurd (true≢false (sym k))

long_way : (nine eom end : Bool) → (if nine then (if eom then Some Complete else if end then Some Long else None) else None) ≡ Some Long → (eom ≡ false) × (end ≡ true)
long_way true true end h = cc
long_way true false true h = (refl, refl)
long_way true false false h = cc
long_way false eom end h = cc

quiet_before : (bits : List Bool) → last_ending bits ≡ None → IsQuiet 0 bits
quiet_before bits l e = no_eom (length bits % 10 == 9) (slice_index_or bits (length bits - 1) false) (length bits == 159) l nine
  where
    nine : (length bits % 10 == 9) ≡ true
    nine = grind (arith, nat_tests, e)

-- slot 160 is the last
full : (bits : List Bool) → length bits ≡ 159 → last_ending bits ≡ None → ⊥
full bits e l = by (slice_index_or bits (length bits - 1) false) (sym (first ∙ second) ∙ l)
  where
    nine : (length bits % 10 == 9) ≡ true
    nine = grind (arith, nat_tests, e)

    end : (length bits == 159) ≡ true
    end = grind (arith, nat_tests, e)

    first : last_ending bits ≡ (if slice_index_or bits (length bits - 1) false then Some Complete else if length bits == 159 then Some Long else None)
    first = ap (λ (b : Bool). if b then (if slice_index_or bits (length bits - 1) false then Some Complete else if length bits == 159 then Some Long else None) else None) nine

    second : (if slice_index_or bits (length bits - 1) false then Some Complete else if length bits == 159 then Some Long else None)
        ≡ (if slice_index_or bits (length bits - 1) false then Some Complete else if true then Some Long else None)
    second = ap (λ (b : Bool). if slice_index_or bits (length bits - 1) false then Some Complete else if b then Some Long else None) end

    by : (eom : Bool) → (if eom then Some Complete else if true then Some Long else None) ≡ None → ⊥
    by true h = cc
    by false h = cc

not_full : (bits : List Bool) → length bits < 160 → last_ending bits ≡ None → length bits < 159
not_full bits room l = by (cases_lt (length bits) 159)
  where
    by : (length bits < 159) ⊎ (159 ≤ length bits) → length bits < 159
    by (inl less) = less
    by (inr more) = absurd (full bits (omega (arith, more, room)) l)

last_way : (bits : List Bool) (b : Bool) (x : Ending) → last_ending bits ≡ Some x → goes_on 0 bits ≡ true → length bits < 160 → length (bits ++ (b ∷ [])) ≡ length bits + 1 → IsWay (bits ++ (b ∷ [])) x
last_way bits b x l h room count = by x l
  where
    nine : (length bits % 10 == 9) ≡ true
    nine = ninth (length bits % 10 == 9) (slice_index_or bits (length bits - 1) false) (length bits == 159) x l

    nines : length bits % 10 ≡ 9
    nines = grind (arith, nat_tests, nine)

    other : (y : Ending) → last_ending bits ≡ Some y → (y ≡ Complete) ⊎ (y ≡ Long)
    other y e = which (length bits % 10 == 9) (slice_index_or bits (length bits - 1) false) (length bits == 159) e
      where
        which : (n eom end : Bool) → (if n then (if eom then Some Complete else if end then Some Long else None) else None) ≡ Some y → (y ≡ Complete) ⊎ (y ≡ Long)
        which true true end k = let same : y ≡ Complete = cc in inl same
        which true false true k = let same : y ≡ Long = cc in inr same
        which true false false k = cc
        which false eom end k = cc

    long : last_ending bits ≡ Some Long → FitsEnding Long (bits ++ (b ∷ []))
    long e =
        let w = long_way (length bits % 10 == 9) (slice_index_or bits (length bits - 1) false) (length bits == 159) e in
        let whole = all_there w.1 in
        (omega (arith, count, whole), omega (arith, count, whole), goes_more 0 bits b h (quiet w.0))
      where
        all_there : (length bits == 159) ≡ true → length bits ≡ 159
        all_there k = grind (arith, nat_tests, k)

        quiet : slice_index_or bits (length bits - 1) false ≡ false → IsQuiet 0 bits
        quiet k e = k

    by : (y : Ending) → last_ending bits ≡ Some y → IsWay (bits ++ (b ∷ [])) y
    by y e = which (other y e)
      where
        which : (y ≡ Complete) ⊎ (y ≡ Long) → IsWay (bits ++ (b ∷ [])) y
        which (inl same) = subst (IsWay (bits ++ (b ∷ []))) (sym same) (omega (arith, count), omega (arith, count, nines), omega (arith, count, room))
        which (inr same) = subst (IsWay (bits ++ (b ∷ []))) (sym same) (long (e ∙ ap (λ (z : Ending). Some z) same))

-- ---- what a slot leads to

few_more : (bits : List Bool) (o : Option Bool) → last_ending bits ≡ None → length bits < 160 → length (bits ++ cons_option o []) ≤ 159
few_more bits o l room = omega (arith, one_more bits o, not_full bits room l)

-- what comes after an unsampled bit
as_before : (bits : List Bool) (o : Option Bool) → o ≡ None → bits ++ cons_option o [] ≡ bits
as_before bits o e = ap (λ (x : Option Bool). bits ++ cons_option x []) e ∙ append-nil bits

ended : (low : Line) (e : ℕ) (bits : List Bool) (ending : Ending) (at : ℕ) → length bits < 160 → goes_on 0 bits ≡ true → after_slot low e (last_ending bits) ≡ Ends ending at
    → IsWay (bits ++ cons_option (bit_sampled_at low e) []) ending
ended low e bits ending at room goes h = subst P h (all_after (last_ending bits) refl)
  where
    P : After → Type 0
    P (Next f) = Unit {0}
    P (Ends z c) = IsWay (bits ++ cons_option (bit_sampled_at low e) []) z

    by_time : (f : ℕ) (b : Bool) → last_ending bits ≡ None → P (if b then Ends Short f else Next f)
    by_time f true l = (omega arith, few_more bits (bit_sampled_at low e) l room, goes_with bits (bit_sampled_at low e) goes (quiet_before bits l))
    by_time f false l = tt

    by_fall : (o : Option ℕ) → next_fall low e standard.bit_total.most ≡ o → last_ending bits ≡ None → P (after_fall e o)
    by_fall None q l =
        let none = none_sooner (is_fall low) (e + 1) sample_at standard.bit_total.most (omega arith) q in
        let count = with_one bits (bit_sampled_at low e) (not (low (e + sample_at))) (ap (sample low e) none) in
        (omega (arith, count), few_more bits (bit_sampled_at low e) l room, goes_with bits (bit_sampled_at low e) goes (quiet_before bits l))
    by_fall (Some f) q l = by_time f (nat_lt f (e + standard.bit_total.least)) l

    by_end : (x : Ending) → last_ending bits ≡ Some x → (o : Option ℕ) → next_fall low e sample_at ≡ o → P (after_last e x o)
    by_end x l None q =
        let is : bit_sampled_at low e ≡ Some (not (low (e + sample_at))) = ap (sample low e) q in
        subst (λ (b : Option Bool). IsWay (bits ++ cons_option b []) x) (sym is) (last_way bits (not (low (e + sample_at))) x l goes room (length-append bits (not (low (e + sample_at)) ∷ [])))
    by_end x l (Some f) q = subst (IsWay_Short) (sym (as_before bits (bit_sampled_at low e) (ap (sample low e) q))) (omega arith, omega (arith, room), goes)
      where
        IsWay_Short : List Bool → Type 0
        IsWay_Short xs = FitsEnding Short xs

    all_after : (o : Option Ending) → last_ending bits ≡ o → P (after_slot low e o)
    all_after None l = by_fall (next_fall low e standard.bit_total.most) refl l
    all_after (Some x) l = by_end x l (next_fall low e sample_at) refl

-- the next slot's bits
sampled_next : (low : Line) (e : ℕ) (bits : List Bool) (f : ℕ) → after_slot low e (last_ending bits) ≡ Next f
    → (last_ending bits ≡ None) × (e + sample_at < f) × (bits ++ option_to_list (bit_sampled_at low e) ≡ bits ++ (not (low (e + sample_at)) ∷ []))
sampled_next low e bits f h =
    let n = next_falls low e bits f h in
    let q : bit_sampled_at low e ≡ Some (not (low (e + sample_at))) = sampled low e (λ u x y. n.quiet u x (omega (arith, n.far, y))) in
    (n.last, omega (arith, n.far), ap (λ (o : Option Bool). bits ++ option_to_list o) q)

-- these bits are of slots of which none was the last
record AreOn (left : ℕ) (bits : List Bool) : Type 0 where
  all : length bits + left ≡ 160
  some : 0 < left
  goes : goes_on 0 bits ≡ true

on_next : (low : Line) (e left : ℕ) (bits : List Bool) (f : ℕ) → AreOn (suc left) bits → after_slot low e (last_ending bits) ≡ Next f → AreOn left (bits ++ option_to_list (bit_sampled_at low e))
on_next low e left bits f on h =
    let s = sampled_next low e bits f h in
    let count : length (bits ++ option_to_list (bit_sampled_at low e)) ≡ length bits + 1 = ap length s.2 ∙ length-append bits (not (low (e + sample_at)) ∷ []) in
    let room = not_full bits (omega (arith, on.all)) s.0 in
    record {
      all = omega (arith, count, on.all);
      some = omega (arith, room, on.all);
      goes = ap (goes_on 0) s.2 ∙ goes_more 0 bits (not (low (e + sample_at))) on.goes (quiet_before bits s.0);
    }

slots_over : (low : Line) (left : ℕ) (bits : List Bool) (e : ℕ) → AreOn left bits → IsWay (bits ++ bits_of (read_slots low left bits e)) (read_slots low left bits e).ending
unfolding read_slots
slots_over low zero bits e on = absurd (omega (arith, on.some))
slots_over low (suc left) bits e on =
    by_after (after_slot low e (last_ending bits)) refl (λ f n. slots_over low left (bits ++ option_to_list (bit_sampled_at low e)) f n)
  where
    by_after : (a : After) → after_slot low e (last_ending bits) ≡ a
        → ((f : ℕ) → AreOn left (bits ++ option_to_list (bit_sampled_at low e))
        → IsWay ((bits ++ option_to_list (bit_sampled_at low e)) ++ bits_of (read_slots low left (bits ++ option_to_list (bit_sampled_at low e)) f)) (read_slots low left (bits ++ option_to_list (bit_sampled_at low e)) f).ending)
        → IsWay (bits ++ cons_option (bit_sampled_at low e) (bits_of (read_on (read_slots low left (bits ++ option_to_list (bit_sampled_at low e))) a))) (read_on (read_slots low left (bits ++ option_to_list (bit_sampled_at low e))) a).ending
    by_after (Next f) h later =
        subst (λ (x : List Bool). IsWay x (read_slots low left (bits ++ option_to_list (bit_sampled_at low e)) f).ending)
        (sym (joined bits (bit_sampled_at low e) (bits_of (read_slots low left (bits ++ option_to_list (bit_sampled_at low e)) f))))
        (later f (on_next low e left bits f on h))
    by_after (Ends ending at) h later = ended low e bits ending at (omega (arith, on.all)) on.goes h

first_on : AreOn 160 []
first_on = record { all = refl; some = omega arith; goes = refl }

pub slots_heard : (low : Line) (fall : ℕ) → IsWay (bits_of (read_slots low 160 [] fall)) (read_slots low 160 [] fall).ending
slots_heard low fall = slots_over low 160 [] fall first_on

-- ---- a reading that is cut before it is over

abbrev pub bits_by : ℕ → List Slot → List Bool
bits_by t slots = filter_map (λ (s : Slot). s.bit) (known_slots t slots)

not_over : (left : ℕ) (bits : List Bool) → AreOn left bits → FitsEnding Open (bits ++ [])
not_over left bits on = let same = append-nil bits in (omega arith, omega (arith, ap length same, on.all, on.some), ap (goes_on 0) same ∙ on.goes)

-- no slot is known that falls later
none_known : (low : Line) (left : ℕ) (bits : List Bool) (e t : ℕ) → t ≤ e → bits_by t (read_slots low left bits e).slots ≡ []
unfolding read_slots
none_known low zero bits e t l = refl
none_known low (suc left) bits e t l = rw later refl
  where
    later : nat_lt e t ≡ false
    later = grind (arith, nat_tests, l)

cut_ended : (low : Line) (e : ℕ) (bits : List Bool) (ending : Ending) (at : ℕ) → length bits < 160 → goes_on 0 bits ≡ true → after_slot low e (last_ending bits) ≡ Ends ending at → e + sample_at < at
    → FitsEnding Open (bits ++ cons_option (bit_sampled_at low e) [])
cut_ended low e bits ending at room goes h late = subst P h (all_after (last_ending bits) refl) late
  where
    P : After → Type 0
    P (Next f) = Unit {0}
    P (Ends z c) = e + sample_at < c → FitsEnding Open (bits ++ cons_option (bit_sampled_at low e) [])

    on : last_ending bits ≡ None → FitsEnding Open (bits ++ cons_option (bit_sampled_at low e) [])
    on l = (omega arith, few_more bits (bit_sampled_at low e) l room, goes_with bits (bit_sampled_at low e) goes (quiet_before bits l))

    by_time : (f : ℕ) (b : Bool) → last_ending bits ≡ None → P (if b then Ends Short f else Next f)
    by_time f true l = λ m. on l
    by_time f false l = tt

    by_fall : (o : Option ℕ) → last_ending bits ≡ None → P (after_fall e o)
    by_fall None l = λ m. on l
    by_fall (Some f) l = by_time f (nat_lt f (e + standard.bit_total.least)) l

    by_end : (x : Ending) (o : Option ℕ) → next_fall low e sample_at ≡ o → P (after_last e x o)
    by_end x None q = λ m. absurd (omega (arith, m))
    by_end x (Some f) q = λ m. subst (FitsEnding Open) (sym (as_before bits (bit_sampled_at low e) (ap (sample low e) q))) (omega arith, omega (arith, room), goes)

    all_after : (o : Option Ending) → last_ending bits ≡ o → P (after_slot low e o)
    all_after None l = by_fall (next_fall low e standard.bit_total.most) l
    all_after (Some x) l = by_end x (next_fall low e sample_at) refl

slots_cut : (low : Line) (left : ℕ) (bits : List Bool) (e t : ℕ) → AreOn left bits → t ≤ (read_slots low left bits e).at → FitsEnding Open (bits ++ bits_by t (read_slots low left bits e).slots)
unfolding read_slots
slots_cut low zero bits e t on l = absurd (omega (arith, on.some))
slots_cut low (suc left) bits e t on l =
    by (after_slot low e (last_ending bits)) (nat_lt e t) (nat_lt (e + sample_at) t) refl refl l (λ f n m. slots_cut low left (bits ++ option_to_list (bit_sampled_at low e)) f t n m)
  where
    rest : After → List Slot
    rest a = (read_on (read_slots low left (bits ++ option_to_list (bit_sampled_at low e))) a).slots

    known : Bool → Slot
    known b = record { fall = e; bit = if b then bit_sampled_at low e else None }

    less : (a b : ℕ) → nat_lt a b ≡ true → a < b
    less a b h = grind (arith, nat_tests, h)

    more : (a b : ℕ) → nat_lt a b ≡ false → b ≤ a
    more a b h = grind (arith, nat_tests, h)

    by : (a : After) (in_time heard : Bool) → after_slot low e (last_ending bits) ≡ a → nat_lt (e + sample_at) t ≡ heard
        → t ≤ (read_on (read_slots low left (bits ++ option_to_list (bit_sampled_at low e))) a).at
        → ((f : ℕ) → AreOn left (bits ++ option_to_list (bit_sampled_at low e)) → t ≤ (read_slots low left (bits ++ option_to_list (bit_sampled_at low e)) f).at
        → FitsEnding Open ((bits ++ option_to_list (bit_sampled_at low e)) ++ bits_by t (read_slots low left (bits ++ option_to_list (bit_sampled_at low e)) f).slots))
        → FitsEnding Open (bits ++ filter_map (λ (s : Slot). s.bit)
        (if in_time then (record { fall = e; bit = if heard then bit_sampled_at low e else None } ∷ known_slots t (read_on (read_slots low left (bits ++ option_to_list (bit_sampled_at low e))) a).slots) else []))
    by a false heard h k m later = not_over (suc left) bits on
    by (Next f) true true h k m later =
        subst (FitsEnding Open) (sym (joined bits (bit_sampled_at low e) (bits_by t (read_slots low left (bits ++ option_to_list (bit_sampled_at low e)) f).slots))) (later f (on_next low e left bits f on h) m)
    by (Next f) true false h k m later =
        let s = sampled_next low e bits f h in
        let none = none_known low left (bits ++ option_to_list (bit_sampled_at low e)) f t (omega (arith, s.1, more (e + sample_at) t k)) in
        subst (λ (xs : List Bool). FitsEnding Open (bits ++ xs)) (sym none) (not_over (suc left) bits on)
    by (Ends ending at) true true h k m later = cut_ended low e bits ending at (omega (arith, on.all)) on.goes h (omega (arith, m, less (e + sample_at) t k))
    by (Ends ending at) true false h k m later = not_over (suc left) bits on

pub slots_known : (low : Line) (fall t : ℕ) → t ≤ (read_slots low 160 [] fall).at → FitsEnding Open (bits_by t (read_slots low 160 [] fall).slots)
slots_known low fall t l = slots_cut low 160 [] fall t first_on l
