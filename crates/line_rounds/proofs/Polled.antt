-- Who polls an address that another device holds is not told that it is free.
use Rattle.std.proofs.Common.{◌≡◌, ℕ, zero, suc, ◌+◌, ◌-◌, ◌*◌, ◌/◌, ◌%◌, ◌==◌, ◌<◌, ◌≤◌, Bool, true, false, not, ◌&&◌, ◌||◌, nat_lt, nat_le, if◌then◌else◌, List, [], ◌∷◌, ◌++◌, length, length-append, append_assoc, append-nil, slice_index_or, slice_index, slice_get, ◌⊎◌, inl, inr, Option, Some, None, is_none, Result, Ok, Err, refl, arith, ap, ◌∙◌, sym, subst}
use Rattle.std.specs.List.{list_any, filter_map, cons_option, find, range_with_len}
use Rattle.std.specs.Option.{option_to_list}
use mathlib.Core.Bool.{beq}
use Rattle.std.proofs.Math.ListN.{get_or-append}
use Rattle.std.proofs.Math.Seq.{get_or-append_seam}
use Rattle.std.proofs.lemmas.Bool.{cases_lt}
use Rattle.std.proofs.lemmas.Bool.Decides.{nat_tests}
use Rattle.line_wave.specs.declared.Stretch.{Stretch}
use Rattle.line_wave.specs.Line.{Line, line_of}
use Rattle.line_frames.specs.Bits.{block_bits, frame_bits}
use Rattle.line_frames.specs.declared.Ending.{Ending}
use Rattle.line_frames.specs.declared.Ending.TheVariants.{Complete, Short, Silent, BadStart, Long, Open}
use Rattle.line_frames.proofs.Slots.{length-frame_bits}
use Rattle.line_reading.specs.Reading.After.{Next, Ends}
use Rattle.line_reading.specs.Windows.{sample_at}
use Rattle.line_reading.specs.Reading.{next_fall, Read, Slot, Known, known_at, known_slots, reading_of, bits_of, read_start, read_slots, read_on, after_slot, after_last, last_ending, sample, bit_sampled_at, start_of, After}
use Rattle.line_rounds.specs.declared.Seat.{Seat}
use Rattle.line_frames.specs.declared.Fate.TheVariants.{Delivered, Unacked, Lost, Broken}
use Rattle.line_reading.specs.Sending.{bit_read, destination, known_bits, is_whole, is_out_by, out_slot, out_by}
use Rattle.line_rounds.specs.Round.{holds_address, is_held, acknowledges, all_known, is_taken_up, fate_at_end, fate_by, fate_of, IsRoundLine}
use Rattle.line_rounds.specs.Machine as Machine
use Rattle.line_rounds.specs.Polls.{FreeIsRead, HoldersAreHeard}
use Rattle.line_rounds.specs.Slots.{ReportedBits, IsReported, NextFall}
use Rattle.line_rounds.specs.Reached.{Reached}
use Rattle.line_rounds.proofs.Differ.{or_right}
use Rattle.line_rounds.proofs.Early.{none_found, destination_more}
use Rattle.line_rounds.proofs.Walk.{next_falls, quiet_sample, reach_next}
use Rattle.line_rounds.proofs.Law.{reached_start}
use Rattle.line_rounds.proofs.Spans.{reading_spans}
use Rattle.line_rounds.proofs.Whole.{complete_last}
use Rattle.line_rounds.proofs.Acks.{zero_here}
use Rattle.line_rounds.proofs.Hold.{acks_known}
use Rattle.line_rounds.proofs.ReportedFates.{fates_reported}

-- ---- lists

same_list : (xs ys : List Bool) → length xs ≡ length ys → ((k : ℕ) → k < length xs → slice_index_or xs k false ≡ slice_index_or ys k false) → xs ≡ ys
same_list [] [] e h = refl
same_list [] (y ∷ ys) e h = absurd (omega (arith, e))
same_list (x ∷ xs) [] e h = absurd (omega (arith, e))
same_list (x ∷ xs) (y ∷ ys) e h = ap (λ z. z ∷ xs) (h 0 (omega arith)) ∙ ap (λ zs. y ∷ zs) (same_list xs ys (omega (arith, e)) (λ k l. h (suc k) (omega arith)))

any_at : {X : Type 0} (p : X → Bool) (xs : List X) (k : ℕ) (x : X) → slice_get xs k ≡ Some x → p x ≡ true → list_any p xs ≡ true
any_at p [] k x g h = cc
any_at p (y ∷ ys) zero x g h = let e : y ≡ x = cc in rw (ap p e ∙ h) refl
any_at p (y ∷ ys) (suc k) x g h = or_right (p y) (list_any p ys) (any_at p ys k x g h)

-- ---- a destination

nibble_of : Bool → Bool → Bool → Bool → ℕ
nibble_of a b c d = 2 * (2 * (2 * (2 * 0 + (if a then 1 else 0)) + (if b then 1 else 0)) + (if c then 1 else 0)) + (if d then 1 else 0)

destination_by : (xs : List Bool) → 8 ≤ length xs
    → destination xs ≡ nibble_of (slice_index_or xs 4 false) (slice_index_or xs 5 false) (slice_index_or xs 6 false) (slice_index_or xs 7 false)
unfolding nibble_of
destination_by [] h = absurd (omega (arith, h))
destination_by (a ∷ []) h = absurd (omega (arith, h))
destination_by (a ∷ b ∷ []) h = absurd (omega (arith, h))
destination_by (a ∷ b ∷ c ∷ []) h = absurd (omega (arith, h))
destination_by (a ∷ b ∷ c ∷ d ∷ []) h = absurd (omega (arith, h))
destination_by (a ∷ b ∷ c ∷ d ∷ e ∷ []) h = absurd (omega (arith, h))
destination_by (a ∷ b ∷ c ∷ d ∷ e ∷ f ∷ []) h = absurd (omega (arith, h))
destination_by (a ∷ b ∷ c ∷ d ∷ e ∷ f ∷ g ∷ []) h = absurd (omega (arith, h))
destination_by (a ∷ b ∷ c ∷ d ∷ e ∷ f ∷ g ∷ i ∷ xs) h = refl

-- who agrees on slots 5 to 8 goes to the same address
same_destination : (xs ys : List Bool) → 8 ≤ length xs → 8 ≤ length ys → ((k : ℕ) → k < 8 → slice_index_or xs k false ≡ slice_index_or ys k false) → destination xs ≡ destination ys
same_destination xs ys l m h =
    destination_by xs l
    ∙ ap (λ a. nibble_of a (slice_index_or xs 5 false) (slice_index_or xs 6 false) (slice_index_or xs 7 false)) (h 4 (omega arith))
    ∙ ap (λ a. nibble_of (slice_index_or ys 4 false) a (slice_index_or xs 6 false) (slice_index_or xs 7 false)) (h 5 (omega arith))
    ∙ ap (λ a. nibble_of (slice_index_or ys 4 false) (slice_index_or ys 5 false) a (slice_index_or xs 7 false)) (h 6 (omega arith))
    ∙ ap (λ a. nibble_of (slice_index_or ys 4 false) (slice_index_or ys 5 false) (slice_index_or ys 6 false) a) (h 7 (omega arith))
    ∙ sym (destination_by ys m)

weigh : (n : ℕ) → n < 2 → (if n == 1 then 1 else 0) ≡ n
weigh n h = step (n == 1) refl
  where
    step : (c : Bool) → (n == 1) ≡ c → (if c then 1 else 0) ≡ n
    step true e = grind (arith, nat_tests)
    step false e = grind (arith, nat_tests)

sum_bits : (b w x y z : ℕ) → w ≡ b / 8 % 2 → x ≡ b / 4 % 2 → y ≡ b / 2 % 2 → z ≡ b / 1 % 2 → 2 * (2 * (2 * (2 * 0 + w) + x) + y) + z ≡ b % 16
sum_bits b w x y z p q r s = omega arith

destination_byte : (b : ℕ) (last : Bool) (rest : List Bool) → destination (block_bits b last ++ rest) ≡ b % 16
destination_byte b last rest =
    sum_bits b _ _ _ _ (weigh (b / 8 % 2) (omega arith)) (weigh (b / 4 % 2) (omega arith)) (weigh (b / 2 % 2) (omega arith)) (weigh (b / 1 % 2) (omega arith))

destination_frame : (b : ℕ) (bs : List ℕ) → destination (frame_bits (b ∷ bs)) ≡ b % 16
destination_frame b [] = destination_byte b true []
destination_frame b (c ∷ bs) = destination_byte b false (frame_bits (c ∷ bs))

-- ---- all bits are reported in the end

pub reported_bits : ReportedBits
reported_bits t until [] d l = refl
reported_bits t until (x ∷ ss) d l =
    let f : nat_lt x.fall t ≡ true = grind (arith, nat_tests, d.0) in
    rw f (one x.bit d.1 (reported_bits t until ss d.2 l))
  where
    one : (o : Option Bool) → IsReported until x.fall o → filter_map (λ (s : Slot). s.bit) (known_slots t ss) ≡ filter_map (λ (s : Slot). s.bit) ss
        → cons_option (if nat_lt (x.fall + sample_at) t then o else None) (filter_map (λ (s : Slot). s.bit) (known_slots t ss)) ≡ cons_option o (filter_map (λ (s : Slot). s.bit) ss)
    one None h ih = either (nat_lt (x.fall + sample_at) t)
      where
        either : (c : Bool) → cons_option (if c then None else None) (filter_map (λ (s : Slot). s.bit) (known_slots t ss)) ≡ filter_map (λ (s : Slot). s.bit) ss
        either true = ih
        either false = ih
    one (Some b) h ih =
        let g : nat_lt (x.fall + sample_at) t ≡ true = grind (arith, nat_tests) in
        rw g (ap (λ bs. b ∷ bs) ih)

pub all_bits : (low : Line) (begin : ℕ) → known_bits (all_known (reading_of low begin)) ≡ bits_of (reading_of low begin)
all_bits low begin =
    reported_bits ((reading_of low begin).until + 1) (reading_of low begin).until (reading_of low begin).slots (reading_spans low begin).reported (omega arith)

whole_end : (r : Read) → r.ending ≡ Complete → is_whole (all_known r).ended ≡ true
whole_end r h =
    let over : nat_lt r.until (r.until + 1) ≡ true = grind (arith, nat_tests) in
    ap (λ b. is_whole (if b then Some (record { ending = r.ending; at = r.at; until = r.until }) else None)) over
    ∙ ap (λ (x : Ending). is_whole (Some (record { ending = x; at = r.at; until = r.until }))) h

-- ---- the tenth slot

-- the reading has these ten bits, and ends with them
pub record TenthSlot (low : Line) (begin : ℕ) (all : List Bool) : Type 0 where
  pub left : ℕ
  pub xs : List Slot
  pub nine : List Bool
  pub fall : ℕ
  pub bit : Bool
  pub reached : Reached low begin (suc left) xs nine fall
  pub count : length nine ≡ 9
  pub slots : length xs ≡ 9
  pub read : bit_sampled_at low fall ≡ Some bit
  pub whole : all ≡ nine ++ bit ∷ []

-- A reading reports nine bits at most, and is not complete; or the ninth is a 1, and it is complete with the tenth; or
-- the ninth is a 0.
abbrev Tenth : Line → ℕ → List Bool → Ending → Type 0
Tenth low begin all ending =
    ((length all ≤ 9) × (ending ≡ Complete → ⊥)) ⊎ (((ending ≡ Complete) × TenthSlot low begin all) ⊎ ((9 ≤ length all) × (slice_index_or all 8 false ≡ false)))

joined : (bits : List Bool) (o : Option Bool) (ys : List Bool) → bits ++ cons_option o ys ≡ (bits ++ option_to_list o) ++ ys
joined bits None ys = ap (λ zs. zs ++ ys) (sym (append-nil bits))
joined bits (Some b) ys = sym (append_assoc bits (b ∷ []) ys)

one_more : (bits : List Bool) (o : Option Bool) → length (bits ++ cons_option o []) ≤ length bits + 1
one_more bits None = omega (arith, length-append bits [])
one_more bits (Some b) = omega (arith, length-append bits (b ∷ []))

-- before the tenth slot none is last
none_last : (bits : List Bool) → length bits < 9 → last_ending bits ≡ None
none_last bits h =
    let x : (length bits % 10 == 9) ≡ false = grind (arith, nat_tests) in
    ap (λ a. if a then (if slice_index_or bits (length bits - 1) false then Some Complete else if length bits == 159 then Some Long else None) else None) x

-- the tenth is, where the ninth was a 1
tenth_last : (bits : List Bool) → length bits ≡ 9 → slice_index_or bits 8 false ≡ true → last_ending bits ≡ Some Complete
tenth_last bits n h =
    ap (λ m. if m % 10 == 9 then (if slice_index_or bits (m - 1) false then Some Complete else if m == 159 then Some Long else None) else None) n
    ∙ ap (λ b. if b then Some Complete else None) h

tenth : (low : Line) (begin left : ℕ) (xs : List Slot) (bits : List Bool) (e : ℕ) → Reached low begin left xs bits e → length xs ≡ length bits → length bits ≤ 9
    → Tenth low begin (bits ++ bits_of (read_slots low left bits e)) (read_slots low left bits e).ending
unfolding read_slots
tenth low begin zero xs bits e r c n = inl (omega (arith, length-append bits [], n), λ h. cc)
tenth low begin (suc left) xs bits e r c n =
    elim (cases_lt (length bits) 9) [
      | inl few ↦ by_after few (after_slot low e (last_ending bits)) refl
          (λ f a m. tenth low begin left (xs ++ record { fall = e; bit = bit_sampled_at low e } ∷ []) (bits ++ option_to_list (bit_sampled_at low e)) f
          (reach_next low begin left xs bits e f r a m.far) (slots_more m) (bits_more few m))
      | inr full ↦ by_bit (slice_index_or bits 8 false) refl full
    ]
  where
    bits2 : List Bool
    bits2 = bits ++ option_to_list (bit_sampled_at low e)

    sample_of : {f : ℕ} → NextFall low e bits f → bit_sampled_at low e ≡ Some (not (low (e + sample_at)))
    sample_of m = quiet_sample low e (λ u a b. m.quiet u a (omega (arith, m.far)))

    bits_count : {f : ℕ} → NextFall low e bits f → length (bits ++ option_to_list (bit_sampled_at low e)) ≡ length bits + 1
    bits_count m = rw (sample_of m) (length-append bits (not (low (e + sample_at)) ∷ []))

    slots_more : {f : ℕ} → NextFall low e bits f → length (xs ++ record { fall = e; bit = bit_sampled_at low e } ∷ []) ≡ length (bits ++ option_to_list (bit_sampled_at low e))
    slots_more m = omega (arith, length-append xs (record { fall = e; bit = bit_sampled_at low e } ∷ []), bits_count m, c)

    bits_more : length bits < 9 → {f : ℕ} → NextFall low e bits f → length (bits ++ option_to_list (bit_sampled_at low e)) ≤ 9
    bits_more few m = omega (arith, bits_count m, few)

    by_after : length bits < 9 → (a : After) → after_slot low e (last_ending bits) ≡ a
        → ((f : ℕ) → after_slot low e (last_ending bits) ≡ Next f → NextFall low e bits f → Tenth low begin (bits2 ++ bits_of (read_slots low left bits2 f)) (read_slots low left bits2 f).ending)
        → Tenth low begin (bits ++ cons_option (bit_sampled_at low e) (bits_of (read_on (read_slots low left bits2) a))) (read_on (read_slots low left bits2) a).ending
    by_after few (Next f) a ih =
        subst (λ (q : List Bool). Tenth low begin q (read_slots low left bits2 f).ending) (sym (joined bits (bit_sampled_at low e) (bits_of (read_slots low left bits2 f)))) (ih f a (next_falls low e bits f a))
    by_after few (Ends ending at) a ih =
        inl (
          omega (arith, one_more bits (bit_sampled_at low e), few),
          λ h. (let l : last_ending bits ≡ Some Complete = complete_last low e (last_ending bits) at (a ∙ ap (λ x. Ends x at) h) in
              let k : last_ending bits ≡ None = none_last bits few in cc),
        )

    ninth : length bits ≡ 9 → (ys : List Bool) → slice_index_or (bits ++ ys) 8 false ≡ slice_index_or bits 8 false
    ninth nine ys = get_or-append bits ys false 8 (omega arith)

    by_fall : length bits ≡ 9 → (o : Option ℕ) → next_fall low e sample_at ≡ o
        → Tenth low begin (bits ++ cons_option (sample low e o) (bits_of (read_on (read_slots low left bits2) (after_last e Complete o)))) (read_on (read_slots low left bits2) (after_last e Complete o)).ending
    by_fall nine None q = inr (inl (
      refl,
      record {
        left = left;
        xs = xs;
        nine = bits;
        fall = e;
        bit = not (low (e + sample_at));
        reached = r;
        count = nine;
        slots = c ∙ nine;
        read = ap (sample low e) q;
        whole = refl;
      },
    ))
    by_fall nine (Some f) q = inl (omega (arith, length-append bits [], nine), λ h. cc)

    by_bit : (b : Bool) → slice_index_or bits 8 false ≡ b → 9 ≤ length bits
        → Tenth low begin (bits ++ cons_option (bit_sampled_at low e) (bits_of (read_on (read_slots low left bits2) (after_slot low e (last_ending bits))))) (read_on (read_slots low left bits2) (after_slot low e (last_ending bits))).ending
    by_bit true h full =
        let nine : length bits ≡ 9 = omega arith in
        subst (λ (last : Option Ending). Tenth low begin (bits ++ cons_option (bit_sampled_at low e) (bits_of (read_on (read_slots low left bits2) (after_slot low e last)))) (read_on (read_slots low left bits2) (after_slot low e last)).ending)
        (sym (tenth_last bits nine h)) (by_fall nine (next_fall low e sample_at) refl)
    by_bit false h full =
        let nine : length bits ≡ 9 = omega arith in
        let rest : List Bool = cons_option (bit_sampled_at low e) (bits_of (read_on (read_slots low left bits2) (after_slot low e (last_ending bits)))) in
        inr (inr (omega (arith, length-append bits rest), ninth nine rest ∙ h))

tenth_of : (low : Line) (begin : ℕ) → Tenth low begin (bits_of (reading_of low begin)) (reading_of low begin).ending
tenth_of low begin = from (start_of low begin) refl
  where
    from : (s : Result ℕ ℕ) → start_of low begin ≡ s → Tenth low begin (bits_of (read_start low begin s)) (read_start low begin s).ending
    from (Err at) h = inl (omega arith, λ k. cc)
    from (Ok f) h = tenth low begin 160 [] [] f (reached_start low begin f h) refl (omega arith)

-- ---- a poll that was found free

record Found (p : ℕ → Bool) (a m x : ℕ) : Type 0 where
  least : a ≤ x
  below : x < a + m
  passes : p x ≡ true
  before : (n : ℕ) → a ≤ n → n < x → p n ≡ false

found_some : (p : ℕ → Bool) (a m x : ℕ) → find p (range_with_len a m) ≡ Some x → Found p a m x
found_some p a zero x h = cc
found_some p a (suc m) x h = step (p a) refl h (λ g. found_some p (a + 1) m x g)
  where
    step : (b : Bool) → p a ≡ b → (if b then Some a else find p (range_with_len (a + 1) m)) ≡ Some x
        → (find p (range_with_len (a + 1) m) ≡ Some x → Found p (a + 1) m x) → Found p a (suc m) x
    step true e g r =
        let s : a ≡ x = cc in
        record { least = omega arith; below = omega arith; passes = subst (λ n. p n ≡ true) s e; before = λ n l k. absurd (omega arith) }
    step false e g r =
        let q = r g in
        record {
          least = omega (arith, q.least);
          below = omega (arith, q.below);
          passes = q.passes;
          before = λ n l k. elim (cases_lt a n) [ inl lt ↦ q.before n (omega arith) k | inr ge ↦ (let s : n ≡ a = omega arith in rw s e) ];
        }

-- a slot that does not tell to stop was read as it was sent
read_as : (k : Known) (sent : List Bool) (n : ℕ) → 1 ≤ n → n ≤ 9 → is_out_by (known_bits k) (is_whole k.ended) sent n ≡ false → bit_read (known_bits k) n ≡ slice_index_or sent (n - 1) false
read_as k sent n l m h =
    let e : (n % 10 == 0) ≡ false = grind (arith, nat_tests) in
    same (bit_read (known_bits k) n) (slice_index_or sent (n - 1) false)
    (sym (ap (λ c. if c then not (is_whole k.ended && (n == length (known_bits k))) && not (beq (bit_read (known_bits k) n) (destination (known_bits k) == 15)) else not (beq (bit_read (known_bits k) n) (slice_index_or sent (n - 1) false))) e) ∙ h)
  where
    same : (a b : Bool) → not (beq a b) ≡ false → a ≡ b
    same true true g = refl
    same false false g = refl
    same true false g = cc
    same false true g = cc

-- the reading of a poll that was found free
pub record Free (low : Line) (begin header : ℕ) : Type 0 where
  pub slot : TenthSlot low begin (bits_of (reading_of low begin))
  pub complete : (reading_of low begin).ending ≡ Complete
  pub same : (k : ℕ) → k < 9 → slice_index_or (bits_of (reading_of low begin)) k false ≡ slice_index_or (frame_bits (header ∷ [])) k false
  pub untaken : is_taken_up (bits_of (reading_of low begin)) ≡ false

pub free : (low : Line) (begin header : ℕ) → fate_of (reading_of low begin) (header ∷ []) ≡ Unacked → Free low begin header
free low begin header h = by_out (out_slot k (frame_bits (header ∷ []))) refl h
  where
    bits : List Bool
    bits = bits_of (reading_of low begin)

    k : Known
    k = all_known (reading_of low begin)

    agrees : (n : ℕ) → n < 9 → is_out_by (known_bits (all_known (reading_of low begin))) (is_whole (all_known (reading_of low begin)).ended) (frame_bits (header ∷ [])) (n + 1) ≡ false
        → slice_index_or (bits_of (reading_of low begin)) n false ≡ slice_index_or (frame_bits (header ∷ [])) n false
    agrees n l g =
        let i : n + 1 - 1 ≡ n = omega arith in
        ap (λ j. slice_index_or (bits_of (reading_of low begin)) j false) (sym i)
        ∙ sym (ap (λ (xs : List Bool). bit_read xs (n + 1)) (all_bits low begin))
        ∙ read_as (all_known (reading_of low begin)) (frame_bits (header ∷ [])) (n + 1) (omega arith) (omega arith) g
        ∙ ap (λ j. slice_index_or (frame_bits (header ∷ [])) j false) i

    count : length (known_bits (all_known (reading_of low begin))) ≡ length (bits_of (reading_of low begin))
    count = ap (λ (xs : List Bool). length xs) (all_bits low begin)

    -- out at an acknowledge slot, it was out before
    not_out : (slot : ℕ) → slot % 10 ≡ 0 → Found (is_out_by (known_bits (all_known (reading_of low begin))) (is_whole (all_known (reading_of low begin)).ended) (frame_bits (header ∷ []))) 1 (length (known_bits (all_known (reading_of low begin)))) slot → ⊥
    not_out slot ten f = by_tenth (tenth_of low begin)
      where
        ninth : slice_index_or (bits_of (reading_of low begin)) 8 false ≡ true
        ninth = agrees 8 (omega arith) (f.before 9 (omega arith) (omega (arith, ten, f.least)))

        by_tenth : Tenth low begin (bits_of (reading_of low begin)) (reading_of low begin).ending → ⊥
        by_tenth (inl few) = omega (arith, few.0, ten, f.least, f.below, count)
        by_tenth (inr (inl last)) =
            let long : length (bits_of (reading_of low begin)) ≡ 10 =
            ap (λ (xs : List Bool). length xs) last.1.whole ∙ (let a = length-append last.1.nine (last.1.bit ∷ []) in omega (arith, a, last.1.count)) in
            let at : slot ≡ 10 = omega (arith, ten, f.least, f.below, count, long) in
            let end : is_whole (all_known (reading_of low begin)).ended ≡ true = whole_end (reading_of low begin) last.0 in
            let here : (10 == length (known_bits (all_known (reading_of low begin)))) ≡ true = (let m : length (known_bits (all_known (reading_of low begin))) ≡ 10 = count ∙ long in grind (arith, nat_tests)) in
            let out : is_out_by (known_bits (all_known (reading_of low begin))) (is_whole (all_known (reading_of low begin)).ended) (frame_bits (header ∷ [])) 10 ≡ true = subst (λ n. is_out_by (known_bits (all_known (reading_of low begin))) (is_whole (all_known (reading_of low begin)).ended) (frame_bits (header ∷ [])) n ≡ true) at f.passes in
            let no : is_out_by (known_bits (all_known (reading_of low begin))) (is_whole (all_known (reading_of low begin)).ended) (frame_bits (header ∷ [])) 10 ≡ false =
            ap (λ a. not (a && (10 == length (known_bits (all_known (reading_of low begin))))) && not (beq (bit_read (known_bits (all_known (reading_of low begin))) 10) (destination (known_bits (all_known (reading_of low begin))) == 15))) end
            ∙ ap (λ b. not (true && b) && not (beq (bit_read (known_bits (all_known (reading_of low begin))) 10) (destination (known_bits (all_known (reading_of low begin))) == 15))) here in
            let x : true ≡ false = sym out ∙ no in cc
        by_tenth (inr (inr more)) = let x : true ≡ false = sym ninth ∙ more.1 in cc

    none_out : out_slot (all_known (reading_of low begin)) (frame_bits (header ∷ [])) ≡ None → (n : ℕ) → n < 9 → n < length (bits_of (reading_of low begin))
        → slice_index_or (bits_of (reading_of low begin)) n false ≡ slice_index_or (frame_bits (header ∷ [])) n false
    none_out q n l m =
        agrees n l (none_found (is_out_by (known_bits (all_known (reading_of low begin))) (is_whole (all_known (reading_of low begin)).ended) (frame_bits (header ∷ []))) 1 (length (known_bits (all_known (reading_of low begin)))) q (n + 1) (omega arith) (omega (arith, count, m)))

    whole : out_slot (all_known (reading_of low begin)) (frame_bits (header ∷ [])) ≡ None → (reading_of low begin).ending ≡ Complete → is_taken_up (bits_of (reading_of low begin)) ≡ false → Free low begin header
    whole q complete untaken = by_tenth (tenth_of low begin)
      where
        by_tenth : Tenth low begin (bits_of (reading_of low begin)) (reading_of low begin).ending → Free low begin header
        by_tenth (inl few) = absurd (few.1 complete)
        by_tenth (inr (inl last)) =
            let long : length (bits_of (reading_of low begin)) ≡ 10 =
            ap (λ (xs : List Bool). length xs) last.1.whole ∙ (let a = length-append last.1.nine (last.1.bit ∷ []) in omega (arith, a, last.1.count)) in
            record { slot = last.1; complete = complete; same = λ n l. none_out q n l (omega (arith, long, l)); untaken = untaken }
        by_tenth (inr (inr more)) = let x : true ≡ false = sym (none_out q 8 (omega arith) (omega (arith, more.0))) ∙ more.1 in cc

    by_ending : (x : Ending) → (reading_of low begin).ending ≡ x → fate_at_end x (bits_of (reading_of low begin)) ≡ Unacked → out_slot (all_known (reading_of low begin)) (frame_bits (header ∷ [])) ≡ None → Free low begin header
    by_ending Complete e g q = by_taken (is_taken_up (bits_of (reading_of low begin))) refl g
      where
        by_taken : (b : Bool) → is_taken_up (bits_of (reading_of low begin)) ≡ b → (if b then Delivered else Unacked) ≡ Unacked → Free low begin header
        by_taken true t u = cc
        by_taken false t u = whole q e t
    by_ending Short e g q = cc
    by_ending Silent e g q = cc
    by_ending BadStart e g q = cc
    by_ending Long e g q = cc
    by_ending Open e g q = cc

    by_slot : (slot : ℕ) (a b : Bool) → (slot % 10 == 0) ≡ a → (if a then Unacked else if b then Lost else Broken) ≡ Unacked → slot % 10 ≡ 0
    by_slot slot true b e g = grind (arith, nat_tests)
    by_slot slot false true e g = cc
    by_slot slot false false e g = cc

    by_out : (o : Option ℕ) → out_slot (all_known (reading_of low begin)) (frame_bits (header ∷ [])) ≡ o → fate_by (reading_of low begin).ending (bits_of (reading_of low begin)) o ≡ Unacked → Free low begin header
    by_out None q g = by_ending (reading_of low begin).ending refl g q
    by_out (Some slot) q g =
        absurd (not_out slot (by_slot slot (slot % 10 == 0) (nat_le slot 4) refl g)
        (found_some (is_out_by (known_bits (all_known (reading_of low begin))) (is_whole (all_known (reading_of low begin)).ended) (frame_bits (header ∷ []))) 1 (length (known_bits (all_known (reading_of low begin)))) slot q))

-- ---- what was read

long_of : (low : Line) (begin header : ℕ) (f : Free low begin header) → length (bits_of (reading_of low begin)) ≡ 10
long_of low begin header f = ap (λ (xs : List Bool). length xs) f.slot.whole ∙ (let a = length-append f.slot.nine (f.slot.bit ∷ []) in omega (arith, a, f.slot.count))

tenth_at : (low : Line) (begin header : ℕ) (f : Free low begin header) → slice_index_or (bits_of (reading_of low begin)) 9 false ≡ f.slot.bit
tenth_at low begin header f =
    ap (λ (xs : List Bool). slice_index_or xs 9 false) f.slot.whole
    ∙ ap (λ n. slice_index_or (f.slot.nine ++ f.slot.bit ∷ []) n false) (sym f.slot.count)
    ∙ get_or-append_seam f.slot.nine f.slot.bit [] false

sent_to : (low : Line) (begin header : ℕ) → Free low begin header → destination (bits_of (reading_of low begin)) ≡ header % 16
sent_to low begin header f =
    same_destination (bits_of (reading_of low begin)) (frame_bits (header ∷ [])) (omega (arith, long_of low begin header f)) (omega (arith, length-frame_bits (header ∷ []))) (λ k l. f.same k (omega arith))
    ∙ destination_frame header []

-- nobody pulled in the acknowledge slot
high_tenth : (low : Line) (begin header : ℕ) (f : Free low begin header) → header % 16 < 15 → f.slot.bit ≡ true
high_tenth low begin header f below =
    by_bit f.slot.bit refl
  where
    direct : (destination (bits_of (reading_of low begin)) == 15) ≡ false
    direct = let x : destination (bits_of (reading_of low begin)) ≡ header % 16 = sent_to low begin header f in grind (arith, nat_tests)

    last : bit_read (bits_of (reading_of low begin)) (length (bits_of (reading_of low begin))) ≡ f.slot.bit
    last = ap (λ n. bit_read (bits_of (reading_of low begin)) n) (long_of low begin header f) ∙ tenth_at low begin header f

    by_bit : (b : Bool) → f.slot.bit ≡ b → b ≡ true
    by_bit true e = refl
    by_bit false e =
        let taken : is_taken_up (bits_of (reading_of low begin)) ≡ true =
        ap (λ x. beq x (destination (bits_of (reading_of low begin)) == 15)) (last ∙ e) ∙ ap (λ x. beq false x) direct in
        let x : true ≡ false = sym taken ∙ f.untaken in cc

pub free_is_read : FreeIsRead
free_is_read low begin header below h =
    let f = free low begin header h in (
      f.complete,
      same_list (bits_of (reading_of low begin)) (frame_bits (header ∷ [])) (long_of low begin header f)
          (λ k l. elim (cases_lt k 9) [
            | inl lt ↦ f.same k lt
            | inr ge ↦ (let e : k ≡ 9 = omega (arith, l, ge, long_of low begin header f) in
                rw e (tenth_at low begin header f ∙ high_tenth low begin header f below))
          ]),
    )

-- ---- who holds the address

held_below : (held : Option ℕ) (address : ℕ) → holds_address held address ≡ true → address < 15
held_below None address g = cc
held_below (Some a) address g = step (a == address) (nat_lt a 15) refl refl g
  where
    step : (p q : Bool) → (a == address) ≡ p → nat_lt a 15 ≡ q → (p && q) ≡ true → address < 15
    step true true u v w = grind (arith, nat_tests)
    step true false u v w = cc
    step false q u v w = cc

is_held_below : (units : List (Option ℕ)) (address : ℕ) → is_held units address ≡ true → address < 15
is_held_below [] address g = cc
is_held_below (held ∷ units) address g = one (holds_address held address) (is_held units address) (held_below held address) (is_held_below units address) g
  where
    one : (b c : Bool) → (b ≡ true → address < 15) → (c ≡ true → address < 15) → (b || c) ≡ true → address < 15
    one true c u v w = u refl
    one false c u v w = v w

-- who is still sending in the tenth slot has sent these nine bits
sends_same : (nine : List Bool) (f : List ℕ) → length nine ≡ 9 → Machine.sends_after nine (Some f) ≡ true → (k : ℕ) → k < 9 → slice_index_or nine k false ≡ slice_index_or (frame_bits f) k false
sends_same nine f count h k l =
    let none : out_by nine false (frame_bits f) ≡ None = no_one (out_by nine false (frame_bits f)) h in
    let e : ((k + 1) % 10 == 0) ≡ false = grind (arith, nat_tests) in
    let i : k + 1 - 1 ≡ k = omega arith in
    let here = none_found (is_out_by nine false (frame_bits f)) 1 (length nine) none (k + 1) (omega arith) (omega (arith, count)) in
    ap (λ j. slice_index_or nine j false) (sym i)
    ∙ same (bit_read nine (k + 1)) (slice_index_or (frame_bits f) (k + 1 - 1) false)
    (sym (ap (λ c. if c then not (false && (k + 1 == length nine)) && not (beq (bit_read nine (k + 1)) (destination nine == 15)) else not (beq (bit_read nine (k + 1)) (slice_index_or (frame_bits f) (k + 1 - 1) false))) e) ∙ here)
    ∙ ap (λ j. slice_index_or (frame_bits f) j false) i
  where
    no_one : (o : Option ℕ) → is_none o ≡ true → o ≡ None
    no_one None g = refl
    no_one (Some x) g = cc

    same : (a b : Bool) → not (beq a b) ≡ false → a ≡ b
    same true true g = refl
    same false false g = refl
    same true false g = cc
    same false true g = cc

-- a frame with these bits goes to this address
goes_to : (nine : List Bool) (f : List ℕ) → length nine ≡ 9 → slice_index_or nine 8 false ≡ true → ((k : ℕ) → k < 9 → slice_index_or nine k false ≡ slice_index_or (frame_bits f) k false)
    → slice_index f 0 % 16 ≡ destination nine
goes_to nine [] count last same = let x : true ≡ false = sym last ∙ same 8 (omega arith) in cc
goes_to nine (b ∷ bs) count last same =
    sym (destination_frame b bs)
    ∙ sym (same_destination nine (frame_bits (b ∷ bs)) (omega (arith, count)) (omega (arith, length-frame_bits (b ∷ bs))) (λ k l. same k (omega arith)))

heard : (seats : List Seat) (begin : ℕ) (pulses : List Stretch) (low : Line) → IsRoundLine seats begin pulses low
    → (header j : ℕ) (holder : Seat) → fate_of (reading_of low begin) (header ∷ []) ≡ Unacked → slice_get seats j ≡ Some holder → holder.plugged ≡ true → is_held holder.holds (header % 16) ≡ true
    → (frame : List ℕ) × ((holder.sends ≡ Some frame) × (slice_index frame 0 % 16 ≡ header % 16))
heard seats begin pulses low line header j holder h at plugged holds = by_sends holder.sends refl
  where
    f : Free low begin header
    f = free low begin header h

    -- the nine bits before the acknowledge slot go to the address
    nine_to : destination f.slot.nine ≡ header % 16
    nine_to =
        sym (destination_more f.slot.nine (f.slot.bit ∷ []) (omega (arith, f.slot.count))) ∙ ap destination (sym f.slot.whole) ∙ sent_to low begin header f

    nine_at : (k : ℕ) → k < 9 → slice_index_or (f.slot.nine) k false ≡ slice_index_or (frame_bits (header ∷ [])) k false
    nine_at k l =
        sym (ap (λ (xs : List Bool). slice_index_or xs k false) f.slot.whole ∙ get_or-append f.slot.nine (f.slot.bit ∷ []) false k (omega (arith, f.slot.count, l))) ∙ f.same k l

    silent : Machine.acks_after f.slot.nine holder ≡ true → ⊥
    silent a =
        let here : acknowledges (known_at (f.slot.fall + 1) (reading_of low begin)) 10 holder ≡ true =
        acks_known low begin f.slot.left f.slot.xs f.slot.nine f.slot.fall 10 (f.slot.fall + 1) holder f.slot.reached (omega (arith, f.slot.count)) refl (omega arith) (omega arith) ∙ a in
        let zero_bit : f.slot.bit ≡ false =
        zero_here seats begin pulses low line f.slot.left f.slot.xs f.slot.nine f.slot.fall 10 f.slot.bit f.slot.reached (omega (arith, f.slot.slots)) f.slot.read refl
        (any_at (acknowledges (known_at (f.slot.fall + 1) (reading_of low begin)) 10) seats j holder at here) in
        let x : true ≡ false = sym (high_tenth low begin header f (is_held_below holder.holds (header % 16) holds)) ∙ zero_bit in cc

    acks : (sends : Bool) → Machine.sends_after f.slot.nine holder.sends ≡ sends → sends ≡ false → Machine.acks_after f.slot.nine holder ≡ true
    acks sends e g =
        ap (λ p. p && (is_held holder.holds (destination f.slot.nine) && not (Machine.sends_after f.slot.nine holder.sends))) plugged
        ∙ ap (λ d. is_held holder.holds d && not (Machine.sends_after f.slot.nine holder.sends)) nine_to
        ∙ ap (λ p. p && not (Machine.sends_after f.slot.nine holder.sends)) holds
        ∙ ap not (e ∙ g)

    sending : (b : Bool) → Machine.sends_after f.slot.nine holder.sends ≡ b → b ≡ true
    sending true e = refl
    sending false e = absurd (silent (acks false e refl))

    by_sends : (o : Option (List ℕ)) → holder.sends ≡ o → (frame : List ℕ) × ((holder.sends ≡ Some frame) × (slice_index frame 0 % 16 ≡ header % 16))
    by_sends None e =
        let on : Machine.sends_after f.slot.nine holder.sends ≡ true = sending (Machine.sends_after f.slot.nine holder.sends) refl in
        let x : false ≡ true = sym (ap (λ (o : Option (List ℕ)). Machine.sends_after f.slot.nine o) e) ∙ on in cc
    by_sends (Some frame) e =
        let on : Machine.sends_after f.slot.nine (Some frame) ≡ true =
        ap (λ (o : Option (List ℕ)). Machine.sends_after f.slot.nine o) (sym e) ∙ sending (Machine.sends_after f.slot.nine holder.sends) refl in
        (frame, (e, goes_to f.slot.nine frame f.slot.count (nine_at 8 (omega arith)) (sends_same f.slot.nine frame f.slot.count on) ∙ nine_to))

pub holders_are_heard : HoldersAreHeard
holders_are_heard seats begin pulses o round i j header poller holder at_i sends unacked at_j plugged holds =
    heard seats begin pulses (line_of o.wave) round.line header j holder
    (sym (fates_reported.fates seats begin pulses o round i poller (header ∷ []) at_i sends) ∙ unacked) at_j plugged holds
