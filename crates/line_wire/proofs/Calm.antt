-- What the receiver is told stays as it is as long as the line does.
use Rattle.std.proofs.Common.{◌≡◌, ℕ, zero, suc, ◌+◌, ◌-◌, ◌<◌, ◌≤◌, Bool, true, false, not, ◌&&◌, ◌||◌, nat_lt, nat_le, if◌then◌else◌, [], ◌⊎◌, inl, inr, Some, refl, arith, ap, ◌∙◌, sym}
use Rattle.std.proofs.lemmas.Bool.{cases_lt}
use Rattle.std.proofs.lemmas.Bool.Decides.{nat_tests}
use Rattle.line_wave.specs.Line.{Line, was_low}
use Rattle.line_reading.specs.declared.receiver.ReceiverState.TheVariants.{StartLow}
use Rattle.line_frames.specs.declared.Ending.TheVariants.{BadStart}
use Rattle.line_reading.specs.declared.receiver.Told.TheVariants.{Nothing, Ended}
use Rattle.line_reading.specs.Hears.{Hears, Heard, heard_by, wake_of, hear_in, hears, hears_with, reported_so, starts}
use Rattle.line_reading.specs.declared.receiver.Receiver.{Receiver}
use Rattle.line_reading.specs.Follows.{StoodBefore}
use Rattle.line_wire.specs.Listening.{IsReadOnce}
use Rattle.line_wire.specs.Told.{is_high_for, told_of}
use Rattle.line_wire.proofs.First.{begins_so}
use Rattle.line_wire.proofs.Told.{and_no, or_no, was_is, all_high, told_since, told_low, told_late}
use Rattle.line_wire.proofs.Lows.{before_heard}
use Rattle.line_wire.specs.Wire.{ToldSo}

-- a receiver that is told low since the begin waits for the start bit's rise
pub start_stays : (told : Line) (begin k : ℕ) → IsReadOnce told begin → begin + 1 + k ≤ begin + 3901 → ((u : ℕ) → begin ≤ u → u < begin + 1 + k → told u ≡ true)
    → hears told (begin + 1 + k) ≡ record { place = StartLow; begin = begin; fall = 0; bits = [] }
unfolding hears hears_with
start_stays told begin zero once l h = ap (hears told) (let x : begin + 1 + zero ≡ suc begin = omega arith in x) ∙ begins_so told begin once
start_stays told begin (suc k) once l h =
    ap (hears told) (let x : begin + 1 + suc k ≡ suc (begin + 1 + k) = omega arith in x)
    ∙ ap (λ (x : Hears). (hear_in (begin + 1 + k) (was_low told (begin + 1 + k)) (told (begin + 1 + k)) x).state) (start_stays told begin k once (omega (arith, l)) (λ u a b. h u a (omega (arith, b))))
    ∙ ap (λ b. (hear_in (begin + 1 + k) b (told (begin + 1 + k)) starts_low).state) (was_is told (begin + 1 + k) (omega arith) ∙ h (begin + 1 + k - 1) (omega arith) (omega arith))
    ∙ ap (λ b. (hear_in (begin + 1 + k) true b starts_low).state) (h (begin + 1 + k) (omega arith) (omega arith))
    ∙ ap (λ b. (go b).state) (let x : nat_lt (begin + 3900) (begin + 1 + k) ≡ false = grind (arith, nat_tests) in x)
  where
    starts_low : Hears
    starts_low = record { place = StartLow; begin = begin; fall = 0; bits = [] }

    go : Bool → Heard
    go b = if b then reported_so (starts (begin + 1 + k) false) (Ended BadStart) else reported_so starts_low Nothing

-- ---- the line

pub high_if : (low : Line) (from n : ℕ) → ((k : ℕ) → k < n → low (from + k) ≡ false) → is_high_for low from n ≡ true
unfolding is_high_for
high_if low from zero h = refl
high_if low from (suc n) h = ap (λ b. not b && is_high_for low from n) (h n (omega arith)) ∙ high_if low from n (λ k l. h k (omega arith))

high_longer : (low : Line) (from n m : ℕ) → is_high_for low from n ≡ false → is_high_for low from (n + m) ≡ false
unfolding is_high_for
high_longer low from n zero h = ap (is_high_for low from) (let x : n + zero ≡ n = omega arith in x) ∙ h
high_longer low from n (suc m) h =
    ap (is_high_for low from) (let x : n + suc m ≡ suc (n + m) = omega arith in x) ∙ ap (λ b. not (low (from + (n + m))) && b) (high_longer low from n m h) ∙ and_no (not (low (from + (n + m))))

-- As long as the line stays as it was, so does what the receiver is told, up to the receiver's wake.
pub told_stays : (low : ℕ → Bool) (begin : ℕ) (r : Receiver) (t w : ℕ) → IsReadOnce (told_of low begin) begin → StoodBefore r (told_of low begin) t → begin < t → ((n : ℕ) → wake_of (heard_by r) ≡ Some n → w ≤ n)
    → ToldSo low (told_of low begin) r.was_low t w
told_stays low begin r t w once stood from wakes u a b calm = by_high (is_high_for low begin (t - begin)) refl
  where
    was : told_of low begin (t - 1) ≡ r.was_low
    was = sym (stood.level ∙ was_is (told_of low begin) t (omega (arith, from)))

    before : told_of low begin (t - 1) ≡ (low (t - 1) || (nat_le begin (t - 1) && (nat_lt (t - 1) (begin + 3901) && is_high_for low begin (t - begin))))
    before = ap (λ n. low (t - 1) || (nat_le begin (t - 1) && (nat_lt (t - 1) (begin + 3901) && is_high_for low begin n))) (let x : t - 1 + 1 - begin ≡ t - begin = omega (arith, from) in x)

    low_was : low u ≡ low (t - 1)
    low_was = calm u a (omega arith) ∙ was_is low t (omega (arith, from))

    -- it was low once
    since : is_high_for low begin (t - begin) ≡ false → told_of low begin u ≡ r.was_low
    since h =
        told_since low begin u (omega (arith, from, a)) (ap (is_high_for low begin) (let x : u - begin ≡ t - begin + (u - t) = omega (arith, from, a) in x) ∙ high_longer low begin (t - begin) (u - t) h)
        ∙ low_was
        ∙ sym (before
        ∙ ap (λ c. low (t - 1) || (nat_le begin (t - 1) && (nat_lt (t - 1) (begin + 3901) && c))) h
        ∙ ap (λ c. low (t - 1) || (nat_le begin (t - 1) && c)) (and_no (nat_lt (t - 1) (begin + 3901)))
        ∙ ap (λ c. low (t - 1) || c) (and_no (nat_le begin (t - 1))) ∙ or_no (low (t - 1)))
        ∙ was

    -- it was high since the begin
    high_to : is_high_for low begin (t - begin) ≡ true → (v : ℕ) → begin ≤ v → v ≤ u → low v ≡ false
    high_to h v c d = elim (cases_lt v t) [
      | inl lt ↦ ap low (let x : v ≡ begin + (v - begin) = omega (arith, c) in x) ∙ all_high low begin (t - begin) h (v - begin) (omega (arith, c, lt))
      | inr ge ↦ calm v ge (omega (arith, d)) ∙ was_is low t (omega (arith, from))
          ∙ ap low (let x : t - 1 ≡ begin + (t - 1 - begin) = omega (arith, from) in x) ∙ all_high low begin (t - begin) h (t - 1 - begin) (omega (arith, from))
    ]

    high_for : is_high_for low begin (t - begin) ≡ true → (v : ℕ) → begin ≤ v → v ≤ u → is_high_for low begin (v - begin) ≡ true
    high_for h v c d = high_if low begin (v - begin) (λ k l. high_to h (begin + k) (omega arith) (omega (arith, l, c, d)))

    told_yes : is_high_for low begin (t - begin) ≡ true → (v : ℕ) → begin ≤ v → v ≤ u → v < begin + 3901 → told_of low begin v ≡ true
    told_yes h v c d e = told_low low begin v c e (high_for h v c d)

    waits : is_high_for low begin (t - begin) ≡ true → t ≤ begin + 3901 → w ≤ begin + 3901
    waits h l = wakes (begin + 3901) (ap wake_of (stood.keeps ∙ before_heard (told_of low begin) t
        ∙ ap (hears (told_of low begin)) (let x : t ≡ begin + 1 + (t - begin - 1) = omega (arith, from) in x)
        ∙ start_stays (told_of low begin) begin (t - begin - 1) once (omega (arith, from, l)) (λ v c d. told_yes h v c (omega (arith, d, a, from)) (omega (arith, d, l, from)))))

    by_time : is_high_for low begin (t - begin) ≡ true → (u < begin + 3901) ⊎ (begin + 3901 ≤ u) → (t ≤ begin + 3901) ⊎ (begin + 3901 < t) → told_of low begin u ≡ r.was_low
    by_time h (inl lt) x = told_yes h u (omega (arith, from, a)) (omega arith) lt ∙ sym (told_yes h (t - 1) (omega (arith, from)) (omega (arith, a)) (omega (arith, lt, a, from))) ∙ was
    by_time h (inr ge) (inl l) = absurd (let x = waits h l in omega (arith, x, ge, b))
    by_time h (inr ge) (inr l) = told_late low begin u ge ∙ low_was ∙ sym (told_late low begin (t - 1) (omega (arith, l))) ∙ was

    late_or : (t ≤ begin + 3901) ⊎ (begin + 3901 < t)
    late_or = elim (cases_lt (begin + 3901) t) [ inl lt ↦ inr lt | inr ge ↦ inl ge ]

    by_high : (c : Bool) → is_high_for low begin (t - begin) ≡ c → told_of low begin u ≡ r.was_low
    by_high true h = by_time h (cases_lt u (begin + 3901)) late_or
    by_high false h = since h

-- Where the line changes, or the receiver wakes, the receiver is told what the line does.
pub told_now : (low : ℕ → Bool) (begin : ℕ) (r : Receiver) (t : ℕ) → IsReadOnce (told_of low begin) begin → StoodBefore r (told_of low begin) t → begin < t
    → (low t ≡ not (was_low low t)) ⊎ (wake_of (heard_by r) ≡ Some t) → told_of low begin t ≡ low t
told_now low begin r t once stood from why = by_high (is_high_for low begin (t - begin)) refl
  where
    high_to : is_high_for low begin (t - begin) ≡ true → (v : ℕ) → begin ≤ v → v < t → low v ≡ false
    high_to h v c d = ap low (let x : v ≡ begin + (v - begin) = omega (arith, c) in x) ∙ all_high low begin (t - begin) h (v - begin) (omega (arith, c, d))

    told_yes : is_high_for low begin (t - begin) ≡ true → (v : ℕ) → begin ≤ v → v < t → v < begin + 3901 → told_of low begin v ≡ true
    told_yes h v c d e = told_low low begin v c e (high_if low begin (v - begin) (λ k l. high_to h (begin + k) (omega arith) (omega (arith, l, c, d))))

    waits : is_high_for low begin (t - begin) ≡ true → t ≤ begin + 3901 → wake_of (heard_by r) ≡ Some (begin + 3901)
    waits h l = ap wake_of (stood.keeps ∙ before_heard (told_of low begin) t
        ∙ ap (hears (told_of low begin)) (let x : t ≡ begin + 1 + (t - begin - 1) = omega (arith, from) in x)
        ∙ start_stays (told_of low begin) begin (t - begin - 1) once (omega (arith, from, l)) (λ v c d. told_yes h v c (omega (arith, d, from)) (omega (arith, d, l, from))))

    by_why : is_high_for low begin (t - begin) ≡ true → (low t ≡ not (was_low low t)) ⊎ (wake_of (heard_by r) ≡ Some t) → (begin + 3901 < t + 1) ⊎ (t + 1 ≤ begin + 3901) → told_of low begin t ≡ low t
    by_why h w (inl l) = told_late low begin t (omega (arith, l))
    by_why h (inl e) (inr l) =
        let f : low t ≡ true = e ∙ ap not (was_is low t (omega (arith, from)) ∙ high_to h (t - 1) (omega (arith, from)) (omega (arith, from))) in
        ap (λ b. b || (nat_le begin t && (nat_lt t (begin + 3901) && is_high_for low begin (t + 1 - begin)))) f ∙ sym f
    by_why h (inr e) (inr l) = absurd (let x : Some (begin + 3901) ≡ Some t = sym (waits h (omega (arith, l))) ∙ e in let y : begin + 3901 ≡ t = cc in omega (arith, y, l))

    by_high : (c : Bool) → is_high_for low begin (t - begin) ≡ c → told_of low begin t ≡ low t
    by_high true h = by_why h why (cases_lt (begin + 3901) (t + 1))
    by_high false h = told_since low begin t (omega (arith, from)) h

-- What the receiver was told just before is what the line did, or it waits for the start bit's rise.
pub told_before_now : (low : Line) (begin t : ℕ) → IsReadOnce (told_of low begin) begin → begin < t
    → (was_low (told_of low begin) t ≡ was_low low t) ⊎ (hears (told_of low begin) t ≡ record { place = StartLow; begin = begin; fall = 0; bits = [] })
told_before_now low begin t once from = by_high (is_high_for low begin (t - begin)) refl
  where
    before : told_of low begin (t - 1) ≡ (low (t - 1) || (nat_le begin (t - 1) && (nat_lt (t - 1) (begin + 3901) && is_high_for low begin (t - begin))))
    before = ap (λ n. low (t - 1) || (nat_le begin (t - 1) && (nat_lt (t - 1) (begin + 3901) && is_high_for low begin n))) (let x : t - 1 + 1 - begin ≡ t - begin = omega (arith, from) in x)

    alike : told_of low begin (t - 1) ≡ low (t - 1) → was_low (told_of low begin) t ≡ was_low low t
    alike e = was_is (told_of low begin) t (omega (arith, from)) ∙ e ∙ sym (was_is low t (omega (arith, from)))

    told_yes : is_high_for low begin (t - begin) ≡ true → (v : ℕ) → begin ≤ v → v < t → v < begin + 3901 → told_of low begin v ≡ true
    told_yes h v c d e =
        told_low low begin v c e (high_if low begin (v - begin) (λ k l. all_high low begin (t - begin) h k (omega (arith, l, c, d))))

    by_time : is_high_for low begin (t - begin) ≡ true → (begin + 3901 < t) ⊎ (t ≤ begin + 3901)
        → (was_low (told_of low begin) t ≡ was_low low t) ⊎ (hears (told_of low begin) t ≡ record { place = StartLow; begin = begin; fall = 0; bits = [] })
    by_time h (inl l) = inl (alike (told_late low begin (t - 1) (omega (arith, l))))
    by_time h (inr l) = inr (ap (hears (told_of low begin)) (let x : t ≡ begin + 1 + (t - begin - 1) = omega (arith, from) in x)
        ∙ start_stays (told_of low begin) begin (t - begin - 1) once (omega (arith, from, l)) (λ v c d. told_yes h v c (omega (arith, d, from)) (omega (arith, d, l, from))))

    by_high : (c : Bool) → is_high_for low begin (t - begin) ≡ c → (was_low (told_of low begin) t ≡ was_low low t) ⊎ (hears (told_of low begin) t ≡ record { place = StartLow; begin = begin; fall = 0; bits = [] })
    by_high true h = by_time h (cases_lt (begin + 3901) t)
    by_high false h = inl (alike (before ∙ ap (λ c. low (t - 1) || (nat_le begin (t - 1) && (nat_lt (t - 1) (begin + 3901) && c))) h
        ∙ ap (λ c. low (t - 1) || (nat_le begin (t - 1) && c)) (and_no (nat_lt (t - 1) (begin + 3901)))
        ∙ ap (λ c. low (t - 1) || c) (and_no (nat_le begin (t - 1))) ∙ or_no (low (t - 1))))
