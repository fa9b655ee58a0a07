-- A round's line as its receiver is told it.
use Rattle.std.proofs.Common.{◌≡◌, ℕ, zero, suc, ◌+◌, ◌-◌, ◌<◌, ◌≤◌, Bool, true, false, not, ◌&&◌, ◌||◌, nat_lt, nat_le, if◌then◌else◌, List, [], ◌++◌, inl, inr, Option, Some, None, Result, Ok, Err, refl, arith, ap, ◌∙◌, sym, subst}
use Rattle.std.specs.Option.{option_to_list}
use Rattle.std.proofs.lemmas.Bool.{cases_lt}
use Rattle.std.proofs.lemmas.Bool.Decides.{nat_tests}
use Rattle.line_wave.specs.Line.{Line, was_low, is_fall, is_rise}
use Rattle.line_wave.specs.declared.Stretch.{Stretch}
use Rattle.line_frames.specs.declared.Ending.{Ending}
use Rattle.line_frames.specs.declared.Ending.TheVariants.{Short}
use Rattle.line_reading.specs.Reading.After.{Next, Ends}
use Rattle.line_reading.specs.Reading.{Read, next_fall, next_rise, reading_of, read_start, read_slots, read_on, read_then, start_rise, start_fall, after_slot, after_fall, after_last, last_ending, sample, bit_sampled_at, After}
use Rattle.line_reading.proofs.Ends.{begin_by}
use Rattle.line_reading.proofs.Search.{first_in_agree, found_first}
pub use Rattle.line_rounds.proofs.Still.{high_before}
use Rattle.line_rounds.proofs.Afterwards.{no_fall_after}
use Rattle.line_rounds.specs.Round.{IsRoundLine}
use Rattle.line_rounds.specs.declared.Seat.{Seat}
use Rattle.line_wire.specs.Listening.{IsReadOnce}
use Rattle.line_wire.specs.Told.{is_high_for, told_of, IsLone}

pub and_no : (b : Bool) → (b && false) ≡ false
and_no true = refl
and_no false = refl

pub or_no : (b : Bool) → (b || false) ≡ b
or_no true = refl
or_no false = refl

or_yes : (b : Bool) → (b || true) ≡ true
or_yes true = refl
or_yes false = refl

-- ---- whether the line has been high since

-- a low microsecond among them
not_high : (low : Line) (from n k : ℕ) → k < n → low (from + k) ≡ true → is_high_for low from n ≡ false
unfolding is_high_for
not_high low from zero k l h = absurd (omega arith)
not_high low from (suc n) k l h = elim (cases_lt k n) [
  | inl lt ↦ ap (λ b. not (low (from + n)) && b) (not_high low from n k lt h) ∙ and_no (not (low (from + n)))
  | inr ge ↦ ap (λ b. not b && is_high_for low from n) (ap low (let x : from + n ≡ from + k = omega (arith, ge, l) in x) ∙ h)
]

pub all_high : (low : Line) (from n : ℕ) → is_high_for low from n ≡ true → (k : ℕ) → k < n → low (from + k) ≡ false
all_high low from n h k l = by_low (low (from + k)) refl
  where
    by_low : (b : Bool) → low (from + k) ≡ b → low (from + k) ≡ false
    by_low true e = let x : true ≡ false = sym h ∙ not_high low from n k l e in cc
    by_low false e = e

-- with one more
pub high_more : (low : Line) (begin u : ℕ) → begin ≤ u → is_high_for low begin (u + 1 - begin) ≡ (not (low u) && is_high_for low begin (u - begin))
unfolding is_high_for
high_more low begin u l =
    ap (is_high_for low begin) (let x : u + 1 - begin ≡ suc (u - begin) = omega (arith, l) in x)
    ∙ ap (λ n. not (low n) && is_high_for low begin (u - begin)) (let x : begin + (u - begin) ≡ u = omega (arith, l) in x)

-- once it was low it is told as it is
pub told_since : (low : Line) (begin u : ℕ) → begin ≤ u → is_high_for low begin (u - begin) ≡ false → told_of low begin u ≡ low u
told_since low begin u l h =
    ap (λ b. low u || (nat_le begin u && (nat_lt u (begin + 3901) && b))) (high_more low begin u l ∙ ap (λ b. not (low u) && b) h ∙ and_no (not (low u)))
    ∙ ap (λ b. low u || (nat_le begin u && b)) (and_no (nat_lt u (begin + 3901)))
    ∙ ap (λ b. low u || b) (and_no (nat_le begin u))
    ∙ or_no (low u)

-- and as low until then
pub told_low : (low : Line) (begin u : ℕ) → begin ≤ u → u < begin + 3901 → is_high_for low begin (u - begin) ≡ true → told_of low begin u ≡ true
told_low low begin u l m h =
    ap (λ b. low u || (b && (nat_lt u (begin + 3901) && is_high_for low begin (u + 1 - begin)))) (let x : nat_le begin u ≡ true = grind (arith, nat_tests) in x)
    ∙ ap (λ b. low u || (true && (b && is_high_for low begin (u + 1 - begin)))) (let x : nat_lt u (begin + 3901) ≡ true = grind (arith, nat_tests) in x)
    ∙ ap (λ b. low u || b) (high_more low begin u l ∙ ap (λ b. not (low u) && b) h)
    ∙ either (low u)
  where
    either : (b : Bool) → (b || (not b && true)) ≡ true
    either true = refl
    either false = refl

told_before : (low : Line) (begin u : ℕ) → u < begin → told_of low begin u ≡ low u
told_before low begin u l =
    ap (λ b. low u || (b && (nat_lt u (begin + 3901) && is_high_for low begin (u + 1 - begin)))) (let x : nat_le begin u ≡ false = grind (arith, nat_tests) in x) ∙ or_no (low u)

pub told_late : (low : Line) (begin u : ℕ) → begin + 3901 ≤ u → told_of low begin u ≡ low u
told_late low begin u l =
    ap (λ b. low u || (nat_le begin u && (b && is_high_for low begin (u + 1 - begin)))) (let x : nat_lt u (begin + 3901) ≡ false = grind (arith, nat_tests) in x)
    ∙ ap (λ b. low u || b) (and_no (nat_le begin u)) ∙ or_no (low u)

-- from a low microsecond on
told_from : (low : Line) (begin x u : ℕ) → begin ≤ x → low x ≡ true → x ≤ u → told_of low begin u ≡ low u
told_from low begin x u l h m = elim (cases_lt x u) [
  | inl lt ↦ told_since low begin u (omega arith) (not_high low begin (u - begin) (x - begin) (omega (arith, l, lt)) (ap low (let y : begin + (x - begin) ≡ x = omega (arith, l) in y) ∙ h))
  | inr ge ↦ (let e : u ≡ x = omega (arith, ge, m) in
      ap (λ b. b || (nat_le begin u && (nat_lt u (begin + 3901) && is_high_for low begin (u + 1 - begin)))) (ap low e ∙ h) ∙ sym (ap low e ∙ h))
]

-- a line that is low as the round begins is told as it is
pub told_as_it_is : (low : ℕ → Bool) (begin : ℕ) → low begin ≡ true → (u : ℕ) → told_of low begin u ≡ low u
told_as_it_is low begin h u = elim (cases_lt u begin) [
  | inl lt ↦ told_before low begin u lt
  | inr ge ↦ told_from low begin begin u (omega arith) h ge
]

-- ---- one after another

pub was_is : (low : Line) (u : ℕ) → 0 < u → was_low low u ≡ low (u - 1)
was_is low u l = let x : nat_lt 0 u ≡ true = grind (arith, nat_tests) in ap (λ b. b && low (u - 1)) x

rise_same : (low : Line) (begin u : ℕ) → begin < u → u < begin + 3901 → is_rise (told_of low begin) u ≡ is_rise low u
rise_same low begin u l m = by_high (is_high_for low begin (u - begin)) refl
  where
    before : told_of low begin (u - 1) ≡ (low (u - 1) || (nat_le begin (u - 1) && (nat_lt (u - 1) (begin + 3901) && is_high_for low begin (u - begin))))
    before = ap (λ n. low (u - 1) || (nat_le begin (u - 1) && (nat_lt (u - 1) (begin + 3901) && is_high_for low begin n))) (let x : u - 1 + 1 - begin ≡ u - begin = omega (arith, l) in x)

    by_high : (b : Bool) → is_high_for low begin (u - begin) ≡ b → is_rise (told_of low begin) u ≡ is_rise low u
    by_high true h =
        ap (λ b. not b && was_low (told_of low begin) u) (told_low low begin u (omega (arith, l)) m h)
        ∙ sym (ap (λ b. not (low u) && b) (was_is low u (omega (arith, l)) ∙ ap low (let x : u - 1 ≡ begin + (u - 1 - begin) = omega (arith, l) in x) ∙ all_high low begin (u - begin) h (u - 1 - begin) (omega (arith, l))) ∙ and_no (not (low u)))
    by_high false h =
        ap (λ b. not b && was_low (told_of low begin) u) (told_since low begin u (omega (arith, l)) h)
        ∙ ap (λ b. not (low u) && b) (was_is (told_of low begin) u (omega (arith, l)) ∙ before
        ∙ ap (λ b. low (u - 1) || (nat_le begin (u - 1) && (nat_lt (u - 1) (begin + 3901) && b))) h
        ∙ ap (λ b. low (u - 1) || (nat_le begin (u - 1) && b)) (and_no (nat_lt (u - 1) (begin + 3901)))
        ∙ ap (λ b. low (u - 1) || b) (and_no (nat_le begin (u - 1))) ∙ or_no (low (u - 1)) ∙ sym (was_is low u (omega (arith, l))))

-- ---- lines that are one from an instant on

abbrev Same : Line → Line → ℕ → Type 0
Same p q from = (u : ℕ) → from ≤ u → p u ≡ q u

fall_same : (p q : Line) (from u : ℕ) → Same p q from → from < u → is_fall p u ≡ is_fall q u
fall_same p q from u s l =
    ap (λ b. b && not (was_low p u)) (s u (omega arith)) ∙ ap (λ b. q u && not b) (was_is p u (omega arith) ∙ s (u - 1) (omega arith) ∙ sym (was_is q u (omega arith)))

next_same : (p q : Line) (from e within : ℕ) → Same p q from → from ≤ e → next_fall p e within ≡ next_fall q e within
next_same p q from e within s l = first_in_agree (is_fall p) (is_fall q) (e + 1) within (λ u a b. fall_same p q from u s (omega (arith, a, l)))

sampled_same : (p q : Line) (from e : ℕ) → Same p q from → from ≤ e → bit_sampled_at p e ≡ bit_sampled_at q e
sampled_same p q from e s l = ap (sample p e) (next_same p q from e 1050 s l) ∙ by_fall (next_fall q e 1050)
  where
    by_fall : (o : Option ℕ) → sample p e o ≡ sample q e o
    by_fall None = ap (λ b. Some (not b)) (s (e + 1050) (omega arith))
    by_fall (Some f) = refl

after_same : (p q : Line) (from e : ℕ) (last : Option Ending) → Same p q from → from ≤ e → after_slot p e last ≡ after_slot q e last
after_same p q from e None s l = ap (after_fall e) (next_same p q from e 2750 s l)
after_same p q from e (Some ending) s l = ap (after_last e ending) (next_same p q from e 1050 s l)

IsPast : ℕ → After → Type 0
IsPast e (Next f) = e ≤ f
IsPast e (Ends ending at) = Unit {0}

after_past : (q : Line) (e : ℕ) (last : Option Ending) → IsPast e (after_slot q e last)
unfolding IsPast
after_past q e None = by_fall (next_fall q e 2750) refl
  where
    by_soon : (f : ℕ) → e ≤ f → (b : Bool) → IsPast e (if b then Ends Short f else Next f)
    by_soon f l true = tt
    by_soon f l false = l

    by_fall : (o : Option ℕ) → next_fall q e 2750 ≡ o → IsPast e (after_fall e o)
    by_fall None h = tt
    by_fall (Some f) h = by_soon f (let d = found_first (is_fall q) (e + 1) 2750 f h in omega (arith, d.after)) (nat_lt f (e + 2050))
after_past q e (Some ending) = by_fall (next_fall q e 1050)
  where
    by_fall : (o : Option ℕ) → IsPast e (after_last e ending o)
    by_fall None = tt
    by_fall (Some f) = tt

on_same : (P Q : ℕ → Read) (e : ℕ) (a : After) → IsPast e a → ((f : ℕ) → e ≤ f → P f ≡ Q f) → read_on P a ≡ read_on Q a
unfolding IsPast
on_same P Q e (Next f) h k = k f h
on_same P Q e (Ends ending at) h k = refl

slots_same : (p q : Line) (from left : ℕ) (bits : List Bool) (e : ℕ) → Same p q from → from ≤ e → read_slots p left bits e ≡ read_slots q left bits e
unfolding read_slots
slots_same p q from zero bits e s l = refl
slots_same p q from (suc left) bits e s l =
    ap (λ (o : Option Bool). read_then (record { fall = e; bit = o }) (read_on (read_slots p left (bits ++ option_to_list o)) (after_slot p e (last_ending bits)))) (sampled_same p q from e s l)
    ∙ ap (λ a. read_then (record { fall = e; bit = bit_sampled_at q e }) (read_on (read_slots p left (bits ++ option_to_list (bit_sampled_at q e))) a)) (after_same p q from e (last_ending bits) s l)
    ∙ ap (λ (r : Read). read_then (record { fall = e; bit = bit_sampled_at q e }) r)
    (on_same (read_slots p left (bits ++ option_to_list (bit_sampled_at q e))) (read_slots q left (bits ++ option_to_list (bit_sampled_at q e))) e (after_slot q e (last_ending bits)) (after_past q e (last_ending bits))
    (λ f h. slots_same p q from left (bits ++ option_to_list (bit_sampled_at q e)) f s (omega (arith, h, l))))

start_same : (p q : Line) (begin : ℕ) (r : Result ℕ ℕ) (from : ℕ) → Same p q from → ((f : ℕ) → r ≡ Ok f → from ≤ f) → read_start p begin r ≡ read_start q begin r
start_same p q begin (Ok f) from s l = slots_same p q from 160 [] f s (l f refl)
start_same p q begin (Err at) from s l = refl

-- ---- the reading

-- What is told is read as the line is.
pub told_is_read : (low : ℕ → Bool) (begin : ℕ) → reading_of (told_of low begin) begin ≡ reading_of low begin
told_is_read low begin =
    ap (λ o. read_start (told_of low begin) begin (start_rise (told_of low begin) begin o)) (first_in_agree (is_rise (told_of low begin)) (is_rise low) (begin + 1) 3900 (λ u a b. rise_same low begin u (omega arith) (omega arith)))
    ∙ by_rise (next_rise low begin 3900) refl
  where
    by_rise : (o : Option ℕ) → next_rise low begin 3900 ≡ o → read_start (told_of low begin) begin (start_rise (told_of low begin) begin o) ≡ read_start low begin (start_rise low begin o)
    by_rise None h = refl
    by_rise (Some rise) h = by_soon (nat_lt rise (begin + 3500))
      where
        after : begin + 1 ≤ rise
        after = (found_first (is_rise low) (begin + 1) 3900 rise h).after

        was : low (rise - 1) ≡ true
        was = by_not (low rise) (was_low low rise) (found_first (is_rise low) (begin + 1) 3900 rise h).passes (was_is low rise (omega (arith, after)))
          where
            by_not : (a b : Bool) → (not a && b) ≡ true → b ≡ low (rise - 1) → low (rise - 1) ≡ true
            by_not true b e f = cc
            by_not false b e f = sym f ∙ e

        same : Same (told_of low begin) low rise
        same u l = told_from low begin (rise - 1) u (omega (arith, after)) was (omega (arith, l))

        falls : (f : ℕ) → (o : Option ℕ) → next_fall low rise (begin + 4700 - rise) ≡ o → start_fall begin o ≡ Ok f → rise ≤ f
        falls f None g e = cc
        falls f (Some x) g e = by_test (nat_lt x (begin + 4300)) e
          where
            by_test : (b : Bool) → (let r : Result ℕ ℕ = if b then Err x else Ok x in r) ≡ Ok f → rise ≤ f
            by_test true k = cc
            by_test false k = let y : x ≡ f = cc in let d = found_first (is_fall low) (rise + 1) (begin + 4700 - rise) x g in omega (arith, y, d.after)

        by_soon : (b : Bool) → read_start (told_of low begin) begin (if b then Err rise else start_fall begin (next_fall (told_of low begin) rise (begin + 4700 - rise)))
            ≡ read_start low begin (if b then Err rise else start_fall begin (next_fall low rise (begin + 4700 - rise)))
        by_soon true = refl
        by_soon false =
            ap (λ o. read_start (told_of low begin) begin (start_fall begin o)) (next_same (told_of low begin) low rise rise (begin + 4700 - rise) same (omega arith))
            ∙ start_same (told_of low begin) low begin (start_fall begin (next_fall low rise (begin + 4700 - rise))) rise same (λ f e. falls f (next_fall low rise (begin + 4700 - rise)) refl e)

-- ---- one reading

fall_off : (p : Line) (u : ℕ) → 0 < u → p (u - 1) ≡ true → is_fall p u ≡ false
fall_off p u l h = ap (λ b. p u && not b) (was_is p u l ∙ h) ∙ and_no (p u)

-- A round's line is such.
pub round_is_lone : (seats : List Seat) (begin : ℕ) (pulses : List Stretch) (low : ℕ → Bool) → IsRoundLine seats begin pulses low → IsLone low begin
round_is_lone seats begin pulses low line = record {
  before = high_before seats begin pulses low line;
  quiet = no_fall_after seats begin pulses low line;
}

lone_is_once : (low : Line) (begin : ℕ) → IsLone low begin → IsReadOnce (told_of low begin) begin
unfolding is_high_for
lone_is_once low begin lone = record {
  before = λ u l. told_before low begin u l ∙ lone.before u l;
  first = told_low low begin begin (omega arith) (omega arith) (ap (is_high_for low begin) (let x : begin - begin ≡ zero = omega arith in x));
  quiet = λ u l. quiet u (subst (λ (r : Read). r.until < u) (told_is_read low begin) l);
}
  where
    quiet : (u : ℕ) → (reading_of low begin).until < u → is_fall (told_of low begin) u ≡ false
    quiet u l = elim (cases_lt u (begin + 3902)) [
      | inl lt ↦ by_high (omega (arith, lt)) (is_high_for low begin (u - 1 - begin)) refl
      | inr ge ↦ as_it_is (told_late low begin u (omega (arith, ge))) (told_late low begin (u - 1) (omega (arith, ge)))
    ]
      where
        after : begin < u
        after = let b = begin_by low begin in omega (arith, b, l)

        as_it_is : told_of low begin u ≡ low u → told_of low begin (u - 1) ≡ low (u - 1) → is_fall (told_of low begin) u ≡ false
        as_it_is e f =
            ap (λ b. b && not (was_low (told_of low begin) u)) e ∙ ap (λ b. low u && not b) (was_is (told_of low begin) u (omega (arith, after)) ∙ f ∙ sym (was_is low u (omega (arith, after)))) ∙ lone.quiet u l

        by_high : u ≤ begin + 3901 → (b : Bool) → is_high_for low begin (u - 1 - begin) ≡ b → is_fall (told_of low begin) u ≡ false
        by_high m true h = fall_off (told_of low begin) u (omega (arith, after)) (told_low low begin (u - 1) (omega (arith, after)) (omega (arith, m, after)) h)
        by_high m false h = as_it_is
            (told_since low begin u (omega (arith, after)) (ap (λ n. is_high_for low begin n) (let x : u - begin ≡ u - 1 + 1 - begin = omega (arith, after) in x) ∙ high_more low begin (u - 1) (omega (arith, after)) ∙ ap (λ b. not (low (u - 1)) && b) h ∙ and_no (not (low (u - 1)))))
            (told_since low begin (u - 1) (omega (arith, after)) h)

-- So it has that reading alone.
pub told_is_once : (seats : List Seat) (begin : ℕ) (pulses : List Stretch) (low : ℕ → Bool) → IsRoundLine seats begin pulses low → IsReadOnce (told_of low begin) begin
told_is_once seats begin pulses low line = lone_is_once low begin (round_is_lone seats begin pulses low line)
