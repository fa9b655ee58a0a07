-- Readings by windows that hold others, and the bits of any reading.
use Rattle.std.proofs.Common.{◌≡◌, ℕ, zero, suc, ◌+◌, ◌-◌, Bool, true, false, not, nat_lt, if◌then◌else◌, List, [], ◌++◌, Option, Some, None, Result, Ok, Err, refl, arith, ap, ◌∙◌, sym}
use Rattle.std.proofs.lemmas.Bool.Decides.{nat_tests}
use Rattle.std.specs.Option.{option_to_list}
use Rattle.line_wave.specs.Line.{Line, is_fall, is_rise}
use Rattle.line_frames.specs.declared.Ending.{Ending}
use Rattle.line_frames.specs.declared.Ending.TheVariants.{Short, Silent}
use Rattle.line_reading.specs.Reading.After.{Next, Ends}
use Rattle.line_reading.specs.declared.times.Windows.{Windows}
use Rattle.line_reading.specs.Windows.{standard, wider, sample_at}
use Rattle.line_reading.specs.Reading.{next_fall, next_rise, Read, read_slots, slots_by, read_on, read_then, after_by, after_fall_by, last_ending, sample, bit_sampled_at, read_start_by, reading_by, start_by, start_rise_by, start_fall_by, After}
use Rattle.line_reading.specs.Sending.{has_all}
use Rattle.line_reading.specs.Wider.{Hold, WholeAreAlike, MarginsAreAlike, AreLevels, BitsAreLevels, ReadsByStandard}
use Rattle.line_reading.proofs.Search.{first_in_longer}

-- ---- the bits are the line's levels

level_here : (low : Line) (e : ℕ) (o : Option ℕ) (bit : Bool) → sample low e o ≡ Some bit → bit ≡ not (low (e + sample_at))
level_here low e None bit h = cc
level_here low e (Some f) bit h = cc

levels_on : (low : Line) (rest : ℕ → Read) (a : After) → ((f : ℕ) → AreLevels low (rest f).slots) → AreLevels low (read_on rest a).slots
levels_on low rest (Next f) h = h f
levels_on low rest (Ends ending at) h = tt

levels_slots : (win : Windows) (low : Line) (left : ℕ) (bits : List Bool) (e : ℕ) → AreLevels low (slots_by win low left bits e).slots
unfolding slots_by
levels_slots win low zero bits e = tt
levels_slots win low (suc left) bits e = (
  λ bit h. level_here low e (next_fall low e sample_at) bit h,
  levels_on low (slots_by win low left (bits ++ option_to_list (bit_sampled_at low e))) (after_by win low e (last_ending bits))
      (λ f. levels_slots win low left (bits ++ option_to_list (bit_sampled_at low e)) f),
)

pub bits_are_levels : BitsAreLevels
bits_are_levels win low begin = by_start (start_by win low begin)
  where
    by_start : (s : Result ℕ ℕ) → AreLevels low (read_start_by win low begin s).slots
    by_start (Ok f) = levels_slots win low 160 [] f
    by_start (Err at) = tt

-- ---- by windows that hold others

next_wider : (wide win : Windows) (low : Line) (e f : ℕ) → Hold wide win → after_fall_by win e (next_fall low e win.bit_total.most) ≡ Next f → after_fall_by wide e (next_fall low e wide.bit_total.most) ≡ Next f
next_wider wide win low e f hold h = by_fall (next_fall low e win.bit_total.most) refl h
  where
    by_time : (g : ℕ) (b : Bool) → nat_lt g (e + win.bit_total.least) ≡ b → next_fall low e win.bit_total.most ≡ Some g → (let a : After = if b then Ends Short g else Next g in a) ≡ Next f
        → after_fall_by wide e (next_fall low e wide.bit_total.most) ≡ Next f
    by_time g true k q a = cc
    by_time g false k q a =
        let l = hold.bit_least in
        let late : nat_lt g (e + wide.bit_total.least) ≡ false = grind (arith, nat_tests) in
        ap (after_fall_by wide e) (first_in_longer (is_fall low) (e + 1) win.bit_total.most wide.bit_total.most g hold.bit_most q)
        ∙ ap (λ c. let y : After = if c then Ends Short g else Next g in y) late ∙ a

    by_fall : (o : Option ℕ) → next_fall low e win.bit_total.most ≡ o → after_fall_by win e o ≡ Next f → after_fall_by wide e (next_fall low e wide.bit_total.most) ≡ Next f
    by_fall None q a = cc
    by_fall (Some g) q a = by_time g (nat_lt g (e + win.bit_total.least)) refl q a

-- a slot that is no last one ends no reading with all its blocks
none_whole : (win : Windows) (e : ℕ) (o : Option ℕ) (ending : Ending) (at : ℕ) → after_fall_by win e o ≡ Ends ending at → has_all ending ≡ false
none_whole win e None ending at h = let x : Silent ≡ ending = cc in sym (ap has_all x)
none_whole win e (Some g) ending at h = by_time (nat_lt g (e + win.bit_total.least)) h
  where
    by_time : (b : Bool) → (let a : After = if b then Ends Short g else Next g in a) ≡ Ends ending at → has_all ending ≡ false
    by_time true k = let x : Short ≡ ending = cc in sym (ap has_all x)
    by_time false k = cc

-- what follows a slot, where what follows the next one is alike
on_last : (rest other : ℕ → Read) → ((f : ℕ) → has_all (other f).ending ≡ true → rest f ≡ other f) → (a : After) → has_all (read_on other a).ending ≡ true → read_on rest a ≡ read_on other a
on_last rest other h (Next f) k = h f k
on_last rest other h (Ends ending at) k = refl

on_none : (wide win : Windows) (low : Line) (e : ℕ) → Hold wide win → (rest other : ℕ → Read) → ((f : ℕ) → has_all (other f).ending ≡ true → rest f ≡ other f)
    → (a : After) → after_by win low e None ≡ a → has_all (read_on other a).ending ≡ true → read_on rest (after_by wide low e None) ≡ read_on other a
on_none wide win low e hold rest other h (Next f) q k = ap (read_on rest) (next_wider wide win low e f hold q) ∙ h f k
on_none wide win low e hold rest other h (Ends ending at) q k =
    let x : true ≡ false = sym k ∙ none_whole win e (next_fall low e win.bit_total.most) ending at q in cc

on_wider : (wide win : Windows) (low : Line) (e : ℕ) → Hold wide win → (rest other : ℕ → Read) → ((f : ℕ) → has_all (other f).ending ≡ true → rest f ≡ other f)
    → (last : Option Ending) → has_all (read_on other (after_by win low e last)).ending ≡ true → read_on rest (after_by wide low e last) ≡ read_on other (after_by win low e last)
on_wider wide win low e hold rest other h None k = on_none wide win low e hold rest other h (after_by win low e None) refl k
on_wider wide win low e hold rest other h (Some ending) k = on_last rest other h (after_by win low e (Some ending)) k

slots_wider : (wide win : Windows) (low : Line) → Hold wide win → (left : ℕ) (bits : List Bool) (e : ℕ) → has_all (slots_by win low left bits e).ending ≡ true → slots_by wide low left bits e ≡ slots_by win low left bits e
unfolding slots_by
slots_wider wide win low hold zero bits e h = refl
slots_wider wide win low hold (suc left) bits e h =
    ap (read_then (record { fall = e; bit = bit_sampled_at low e }))
    (on_wider wide win low e hold (slots_by wide low left (bits ++ option_to_list (bit_sampled_at low e))) (slots_by win low left (bits ++ option_to_list (bit_sampled_at low e)))
    (λ f k. slots_wider wide win low hold left (bits ++ option_to_list (bit_sampled_at low e)) f k) (last_ending bits) h)

-- ---- the start bit

start_wider : (wide win : Windows) (low : Line) (e f : ℕ) → Hold wide win → start_by win low e ≡ Ok f → start_by wide low e ≡ Ok f
start_wider wide win low e f hold h = by_rise (next_rise low e win.start_low.most) refl h
  where
    by_time : (r g : ℕ) (b : Bool) → nat_lt g (e + win.start_total.least) ≡ b → next_fall low r (e + win.start_total.most - r) ≡ Some g → (let s : Result ℕ ℕ = if b then Err g else Ok g in s) ≡ Ok f
        → start_fall_by wide e (next_fall low r (e + wide.start_total.most - r)) ≡ Ok f
    by_time r g true k q a = cc
    by_time r g false k q a =
        let l = hold.total_least in
        let m = hold.total_most in
        let late : nat_lt g (e + wide.start_total.least) ≡ false = grind (arith, nat_tests) in
        ap (start_fall_by wide e) (first_in_longer (is_fall low) (r + 1) (e + win.start_total.most - r) (e + wide.start_total.most - r) g (omega arith) q)
        ∙ ap (λ c. let s : Result ℕ ℕ = if c then Err g else Ok g in s) late ∙ a

    by_fall : (r : ℕ) (o : Option ℕ) → next_fall low r (e + win.start_total.most - r) ≡ o → start_fall_by win e o ≡ Ok f → start_fall_by wide e (next_fall low r (e + wide.start_total.most - r)) ≡ Ok f
    by_fall r None q a = cc
    by_fall r (Some g) q a = by_time r g (nat_lt g (e + win.start_total.least)) refl q a

    by_low : (r : ℕ) (b : Bool) → nat_lt r (e + win.start_low.least) ≡ b → next_rise low e win.start_low.most ≡ Some r
        → (let s : Result ℕ ℕ = if b then Err r else start_fall_by win e (next_fall low r (e + win.start_total.most - r)) in s) ≡ Ok f → start_by wide low e ≡ Ok f
    by_low r true k q a = cc
    by_low r false k q a =
        let l = hold.low_least in
        let late : nat_lt r (e + wide.start_low.least) ≡ false = grind (arith, nat_tests) in
        ap (start_rise_by wide low e) (first_in_longer (is_rise low) (e + 1) win.start_low.most wide.start_low.most r hold.low_most q)
        ∙ ap (λ c. let s : Result ℕ ℕ = if c then Err r else start_fall_by wide e (next_fall low r (e + wide.start_total.most - r)) in s) late
        ∙ by_fall r (next_fall low r (e + win.start_total.most - r)) refl a

    by_rise : (o : Option ℕ) → next_rise low e win.start_low.most ≡ o → start_rise_by win low e o ≡ Ok f → start_by wide low e ≡ Ok f
    by_rise None q a = cc
    by_rise (Some r) q a = by_low r (nat_lt r (e + win.start_low.least)) refl q a

pub whole_are_alike : WholeAreAlike
whole_are_alike wide win low begin hold h = by_start (start_by win low begin) refl h
  where
    by_start : (s : Result ℕ ℕ) → start_by win low begin ≡ s → has_all (read_start_by win low begin s).ending ≡ true → reading_by wide low begin ≡ read_start_by win low begin s
    by_start (Ok f) q k = ap (read_start_by wide low begin) (start_wider wide win low begin f hold q) ∙ slots_wider wide win low hold 160 [] f k
    by_start (Err at) q k = cc

holds : (margin : ℕ) → Hold (wider margin) standard
holds margin = record { low_least = omega arith; low_most = omega arith; total_least = omega arith; total_most = omega arith; bit_least = omega arith; bit_most = omega arith }

pub reads_by_standard : ReadsByStandard
unfolding read_slots
reads_by_standard low begin = refl

pub margins_are_alike : MarginsAreAlike
unfolding read_slots
margins_are_alike margin low begin few h = whole_are_alike (wider margin) standard low begin (holds margin) h
