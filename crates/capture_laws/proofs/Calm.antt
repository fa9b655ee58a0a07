-- A reading that runs ends soon after its last fall.
use Rattle.std.proofs.Common.{◌≡◌, ℕ, zero, suc, ◌+◌, ◌-◌, ◌<◌, ◌≤◌, Bool, true, false, nat_lt, if◌then◌else◌, List, [], ◌++◌, inl, inr, Option, Some, None, Result, Ok, Err, refl, arith}
use Rattle.std.specs.Option.{option_to_list}
use Rattle.std.proofs.lemmas.Bool.{cases_lt}
use Rattle.line_wave.specs.Line.{Line, is_fall, is_rise}
use Rattle.line_frames.specs.declared.Ending.{Ending}
use Rattle.line_frames.specs.declared.Ending.TheVariants.{Short}
use Rattle.line_reading.specs.Windows.{sample_at, standard}
use Rattle.line_reading.specs.Reading.After.{Next, Ends}
use Rattle.line_reading.specs.Reading.{After, after_fall, after_last, after_slot, bit_sampled_at, last_ending, next_fall, next_rise, read_on, read_slots, read_start, reading_of, start_fall, start_of, start_rise}
use Rattle.line_reading.proofs.Search.{found_first}
use Rattle.line_rounds.proofs.Walk.{next_falls}

-- from x on the line does not fall for so long as a reading may wait
abbrev pub IsCalmFrom : Line → ℕ → Type 0
IsCalmFrom low x = (u : ℕ) → x < u → u ≤ x + 4701 → is_fall low u ≡ false

-- so a fall near it is not after it
fall_by : (low : Line) (x f : ℕ) → IsCalmFrom low x → is_fall low f ≡ true → f ≤ x + 4701 → f ≤ x
fall_by low x f calm falls near = elim (cases_lt x f) [ inl lt ↦ (let none = calm f lt near in cc) | inr ge ↦ ge ]

-- a slot that ends the reading does so soon
ends_soon : (low : Line) (e : ℕ) (last : Option Ending) (ending : Ending) (at : ℕ) → after_slot low e last ≡ Ends ending at → at ≤ e + 2751
ends_soon low e None ending at h = by_fall (next_fall low e standard.bit_total.most) refl h
  where
    by_time : (g : ℕ) (b : Bool) → g ≤ e + 2750 → (if b then Ends Short g else Next g) ≡ Ends ending at → at ≤ e + 2751
    by_time g true near k = let same : g ≡ at = cc in omega (arith, near, same)
    by_time g false near k = cc

    by_fall : (o : Option ℕ) → next_fall low e standard.bit_total.most ≡ o → after_fall e o ≡ Ends ending at → at ≤ e + 2751
    by_fall None q k = let same : e + (standard.bit_total.most + 1) ≡ at = cc in omega (arith, same)
    by_fall (Some g) q k =
        let d = found_first (is_fall low) (e + 1) standard.bit_total.most g q in
        by_time g (nat_lt g (e + standard.bit_total.least)) (omega (arith, d.within)) k
ends_soon low e (Some last) ending at h = by_fall (next_fall low e sample_at) refl h
  where
    by_fall : (o : Option ℕ) → next_fall low e sample_at ≡ o → after_last e last o ≡ Ends ending at → at ≤ e + 2751
    by_fall None q k = let same : e + sample_at ≡ at = cc in omega (arith, same)
    by_fall (Some g) q k =
        let same : g ≡ at = cc in
        let d = found_first (is_fall low) (e + 1) sample_at g q in
        omega (arith, d.within, same)

slots_over : (low : Line) (x left : ℕ) (bits : List Bool) (e : ℕ) → IsCalmFrom low x → e ≤ x → (read_slots low left bits e).at ≤ x + 4701
unfolding read_slots
slots_over low x zero bits e calm by = omega (arith, by)
slots_over low x (suc left) bits e calm by =
    on (after_slot low e (last_ending bits)) refl (λ f early. slots_over low x left (bits ++ option_to_list (bit_sampled_at low e)) f calm early)
  where
    more : List Bool
    more = bits ++ option_to_list (bit_sampled_at low e)

    on : (a : After) → after_slot low e (last_ending bits) ≡ a → ((f : ℕ) → f ≤ x → (read_slots low left more f).at ≤ x + 4701) → (read_on (read_slots low left more) a).at ≤ x + 4701
    on (Ends ending at) h rest = omega (arith, by, ends_soon low e (last_ending bits) ending at h)
    on (Next f) h rest = let n = next_falls low e bits f h in rest f (fall_by low x f calm n.fall (omega (arith, n.near, by)))

-- a start bit leads to a fall that is not late, or ends
abbrev StartsBy : Line → ℕ → Result ℕ ℕ → Type 0
StartsBy low e (Ok f) = (is_fall low f ≡ true) × (f ≤ e + 4700)
StartsBy low e (Err at) = at ≤ e + 4701

starts_by : (low : Line) (e : ℕ) → StartsBy low e (start_of low e)
starts_by low e = by_rise (next_rise low e standard.start_low.most) refl
  where
    by_time : (g : ℕ) (b : Bool) → is_fall low g ≡ true → g ≤ e + 4700 → StartsBy low e (if b then Err g else Ok g)
    by_time g true falls near = omega (arith, near)
    by_time g false falls near = (falls, near)

    by_fall : (r : ℕ) → r ≤ e + 3900 → (o : Option ℕ) → next_fall low r (e + standard.start_total.most - r) ≡ o → StartsBy low e (start_fall e o)
    by_fall r near None q = omega arith
    by_fall r near (Some g) q =
        let d = found_first (is_fall low) (r + 1) (e + standard.start_total.most - r) g q in
        by_time g (nat_lt g (e + standard.start_total.least)) d.passes (omega (arith, d.within, near))

    by_low : (r : ℕ) (b : Bool) → r ≤ e + 3900 → StartsBy low e (if b then Err r else start_fall e (next_fall low r (e + standard.start_total.most - r)))
    by_low r true near = omega (arith, near)
    by_low r false near = by_fall r near (next_fall low r (e + standard.start_total.most - r)) refl

    by_rise : (o : Option ℕ) → next_rise low e standard.start_low.most ≡ o → StartsBy low e (start_rise low e o)
    by_rise None q = omega arith
    by_rise (Some r) q =
        let d = found_first (is_rise low) (e + 1) standard.start_low.most r q in
        by_low r (nat_lt r (e + standard.start_low.least)) (omega (arith, d.within))

-- where the line does not fall from x on, a reading that began by then ends by 4,701 later
pub over_soon : (low : Line) (begin x : ℕ) → begin ≤ x → IsCalmFrom low x → (reading_of low begin).at ≤ x + 4701
over_soon low begin x by calm = on (start_of low begin) (starts_by low begin)
  where
    on : (s : Result ℕ ℕ) → StartsBy low begin s → (read_start low begin s).at ≤ x + 4701
    on (Ok f) h = slots_over low x 160 [] f calm (fall_by low x f calm h.0 (omega (arith, h.1, by)))
    on (Err at) h = omega (arith, h, by)
