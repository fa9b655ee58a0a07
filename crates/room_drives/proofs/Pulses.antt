-- The pulses that begin in a round are what pulses pull by the rule of a round.
use Rattle.std.proofs.Common.{◌≡◌, ℕ, zero, suc, ◌+◌, ◌-◌, ◌<◌, ◌≤◌, Bool, true, false, ◌&&◌, ◌||◌, nat_lt, nat_le, if◌then◌else◌, List, [], ◌∷◌, fold, filter, ◌⊎◌, inl, inr, Option, Some, None, refl, arith, ap, ◌∙◌, sym}
use Rattle.std.specs.List.{list_any}
use Rattle.std.proofs.lemmas.Bool.{cases_lt, or_cases, and_parts}
use Rattle.std.proofs.lemmas.Bool.Decides.{nat_tests}
use Rattle.line_wave.specs.declared.Stretch.{Stretch}
use Rattle.line_wave.specs.Line.{Line, covers, line_of, was_low, IsWave, IsWaveFrom}
use Rattle.line_reading.specs.Reading.{End, known_at, reading_of}
use Rattle.line_rounds.specs.declared.Seat.{Seat}
use Rattle.line_rounds.specs.declared.Outcome.{Outcome}
use Rattle.line_rounds.specs.Bounds.{begun_within}
use Rattle.line_rounds.specs.Round.{is_within, pulse_pulls, frames_of, is_acknowledged, is_broken, IsRound}
use Rattle.line_rounds.specs.Elements.{In}
use Rattle.line_reading.specs.Sending.{sender_pulls}
use Rattle.line_rounds.proofs.Bounds.{rounds_are_short}
use Rattle.line_rounds.proofs.Lasting.{rest_past, rest_rises}
use Rattle.line_rounds.proofs.Lows.{wave_wide}
use Rattle.room_drives.specs.Drives.{pulse_line}
use Rattle.room_drives.proofs.Acks.{both_ways}
use Rattle.room_drives.proofs.Lists.{all_in, any_in}

-- a stretch is low in itself
pub covers_own : (s : Stretch) (t : ℕ) → s.from ≤ t → t < s.to → covers s t ≡ true
covers_own s t h k = grind (arith, nat_tests)

any_agree_in : {X : Type 0} (p q : X → Bool) (xs : List X) → ((x : X) → In x xs → p x ≡ q x) → list_any p xs ≡ list_any q xs
any_agree_in p q [] h = refl
any_agree_in p q (x ∷ xs) h = rw (h x (inl refl), any_agree_in p q xs (λ y i. h y (inr i))) refl

any_filter : {X : Type 0} (p test : X → Bool) (xs : List X) → list_any p (filter test xs) ≡ list_any (λ x. test x && p x) xs
any_filter p test [] = refl
any_filter p test (x ∷ xs) = by (test x) (any_filter p test xs)
  where
    by : (b : Bool) → list_any p (filter test xs) ≡ list_any (λ y. test y && p y) xs → list_any p (if b then x ∷ filter test xs else filter test xs) ≡ ((b && p x) || list_any (λ y. test y && p y) xs)
    by true e = ap (λ c. p x || c) e
    by false e = e

-- ---- the last low stretch

-- where all stretches begin by then, the line is low before the rest alone
low_before : (until u r from : ℕ) (ss : List Stretch) → IsWaveFrom from ss → ((s : Stretch) → In s ss → s.from ≤ until) → line_of ss u ≡ true
    → u < fold (λ rest s. if nat_le s.from until then s.to else rest) r ss
low_before until u r from [] w all l = cc
low_before until u r from (s ∷ ss) w all l =
    let here = all s (inl refl) in
    let begun : nat_le s.from until ≡ true = grind (arith, nat_tests) in
    elim (or_cases (covers s u) (line_of ss u) l) [
      | inl c ↦ (let past : nat_lt u s.to ≡ true = (and_parts (nat_le s.from u) (nat_lt u s.to) c).1 in
          let rises = rest_rises until s.to (s.to + 1) ss w.2 (omega arith) in
          let less : u < s.to = grind (arith, nat_tests) in
          rw begun (omega (arith, rises, less)))
      | inr m ↦ rw begun (low_before until u s.to (s.to + 1) ss w.2 (λ x i. all x (inr i)) m)
    ]

-- from the last begin up to the rest it is low
low_to_rest : (until u r : ℕ) (ss : List Stretch) → until ≤ u → u < fold (λ rest s. if nat_le s.from until then s.to else rest) r ss → (u < r) ⊎ (line_of ss u ≡ true)
low_to_rest until u r [] h l = inl l
low_to_rest until u r (s ∷ ss) h l = by (nat_le s.from until) refl l (λ n k. low_to_rest until u n ss h k)
  where
    or_right : (a b : Bool) → b ≡ true → (a || b) ≡ true
    or_right true b e = refl
    or_right false b e = e

    or_left : (a b : Bool) → a ≡ true → (a || b) ≡ true
    or_left true b e = refl
    or_left false b e = cc

    by : (b : Bool) → nat_le s.from until ≡ b → u < fold (λ rest s. if nat_le s.from until then s.to else rest) (if b then s.to else r) ss
        → ((n : ℕ) → u < fold (λ rest s. if nat_le s.from until then s.to else rest) n ss → (u < n) ⊎ (line_of ss u ≡ true)) → (u < r) ⊎ (line_of (s ∷ ss) u ≡ true)
    by true e k ih = elim (ih s.to k) [
      | inl early ↦ inr (or_left (covers s u) (line_of ss u) (let a : nat_le s.from u ≡ true = grind (arith, nat_tests) in let b : nat_lt u s.to ≡ true = grind (arith, nat_tests) in rw (a, b) refl))
      | inr low ↦ inr (or_right (covers s u) (line_of ss u) low)
    ]
    by false e k ih = elim (ih r k) [ inl early ↦ inl early | inr low ↦ inr (or_right (covers s u) (line_of ss u) low) ]

-- ---- one pulse

three : (a b c : Bool) → a ≡ true → b ≡ true → c ≡ true → (a && (b && c)) ≡ true
three true true true x y z = refl
three true true false x y z = cc
three true false c x y z = cc
three false b c x y z = cc

two_one : (a b c : Bool) → a ≡ true → b ≡ true → c ≡ true → ((a && b) && c) ≡ true
two_one true true true x y z = refl
two_one true true false x y z = cc
two_one true false c x y z = cc
two_one false b c x y z = cc

or_first : (a b : Bool) → a ≡ true → (a || b) ≡ true
or_first true b e = refl
or_first false b e = cc

or_second : (a b : Bool) → b ≡ true → (a || b) ≡ true
or_second true b e = refl
or_second false b e = e

pub pulses_line : (seats : List Seat) (begin : ℕ) (pulses : List Stretch) (o : Outcome) → IsWave pulses → IsWave o.wave → IsRound seats begin pulses o
    → (t : ℕ) → pulse_line begin pulses (line_of o.wave) t ≡ line_of (begun_within begin o.rest pulses) t
pulses_line seats begin pulses o order wave round t =
    any_agree_in (pulse_pulls begin (known_at t (reading_of low begin)).ended (was_low low t) t) (λ p. (nat_le begin p.from && nat_le p.from o.rest) && covers p t) pulses one
    ∙ sym (any_filter (λ p. covers p t) (λ (p : Stretch). nat_le begin p.from && nat_le p.from o.rest) pulses)
  where
    low : Line
    low = line_of o.wave

    until : ℕ
    until = (reading_of (line_of o.wave) begin).until

    -- a pulse that the rule takes at u makes the line low there
    pulls : (p : Stretch) → In p pulses → (u : ℕ) → pulse_pulls begin (known_at u (reading_of low begin)).ended (was_low low u) u p ≡ true → low u ≡ true
    pulls p i u h =
        round.line u ∙ or_first (list_any (pulse_pulls begin (known_at u (reading_of low begin)).ended (was_low low u) u) pulses)
        ((list_any (sender_pulls begin (known_at u (reading_of low begin)) u) (frames_of seats) && (is_within (known_at u (reading_of low begin)).ended u || was_low low u))
        || (is_acknowledged seats (known_at u (reading_of low begin)) u || is_broken seats (known_at u (reading_of low begin)) u (known_at u (reading_of low begin)).ended))
        (any_in (pulse_pulls begin (known_at u (reading_of low begin)).ended (was_low low u) u) pulses p i h)

    within_by : (u from : ℕ) → from ≤ until → is_within (known_at u (reading_of low begin)).ended from ≡ true
    within_by u from h = by (nat_lt until u)
      where
        by : (b : Bool) → is_within (if b then (let some : Option End = Some (record { ending = (reading_of low begin).ending; at = (reading_of low begin).at; until = until }) in some) else None) from ≡ true
        by true = grind (arith, nat_tests)
        by false = refl

    by_within : (from : ℕ) → from ≤ t → is_within (known_at t (reading_of low begin)).ended from ≡ true → from ≤ until
    by_within from h w = by (nat_lt until t) refl w
      where
        by : (b : Bool) → nat_lt until t ≡ b → is_within (if b then (let some : Option End = Some (record { ending = (reading_of low begin).ending; at = (reading_of low begin).at; until = until }) in some) else None) from ≡ true → from ≤ until
        by true e k = grind (arith, nat_tests)
        by false e k = (let l : t ≤ until = grind (arith, nat_tests) in omega arith)

    wide : (p : Stretch) → In p pulses → p.from < p.to
    wide p i = (wave_wide 0 pulses p order i).1

    -- one that begins by the reading's end begins before the rest
    early_rest : (p : Stretch) → In p pulses → begin ≤ p.from → p.from ≤ until → p.from ≤ o.rest
    early_rest p i later h =
        let c : covers p p.from ≡ true = covers_own p p.from (omega arith) (wide p i) in
        let l : low p.from ≡ true = pulls p i p.from (three (covers p p.from) (nat_le begin p.from) (is_within (known_at p.from (reading_of low begin)).ended p.from || was_low low p.from) c (let x : nat_le begin p.from ≡ true = grind (arith, nat_tests) in x)
        (or_first (is_within (known_at p.from (reading_of low begin)).ended p.from) (was_low low p.from) (within_by p.from p.from h))) in
        let past = rest_past until p.from 0 0 o.wave wave h l in
        omega (arith, past, round.rest)

    -- one that begins later, by the rest, meets the line low
    low_from : (p : Stretch) → In p pulses → begin ≤ p.from → until < p.from → p.from ≤ o.rest → (n : ℕ) → p.from + n ≤ p.to → low (p.from + n - 1) ≡ true
    low_from p i later after soon zero h =
        let same : p.from + 0 - 1 ≡ p.from - 1 = omega arith in
        elim (low_to_rest until (p.from - 1) 0 o.wave (omega arith) (omega (arith, round.rest, after, soon))) [ inl none ↦ absurd (omega (arith, none)) | inr is ↦ ap low same ∙ is ]
    low_from p i later after soon (suc n) h =
        let before = low_from p i later after soon n (omega arith) in
        let u = p.from + n in
        let c : covers p (p.from + n) ≡ true = covers_own p (p.from + n) (omega arith) (omega arith) in
        let was : was_low low (p.from + n) ≡ true = (let some : nat_lt 0 (p.from + n) ≡ true = grind (arith, nat_tests) in rw some before) in
        let same : p.from + suc n - 1 ≡ p.from + n = omega arith in
        ap low same ∙ pulls p i (p.from + n) (three (covers p (p.from + n)) (nat_le begin p.from) (is_within (known_at (p.from + n) (reading_of low begin)).ended p.from || was_low low (p.from + n)) c
        (let x : nat_le begin p.from ≡ true = grind (arith, nat_tests) in x) (or_second (is_within (known_at (p.from + n) (reading_of low begin)).ended p.from) (was_low low (p.from + n)) was))

    one : (p : Stretch) → In p pulses → pulse_pulls begin (known_at t (reading_of low begin)).ended (was_low low t) t p ≡ ((nat_le begin p.from && nat_le p.from o.rest) && covers p t)
    one p i = both_ways _ _ there back
      where
        there : pulse_pulls begin (known_at t (reading_of low begin)).ended (was_low low t) t p ≡ true → ((nat_le begin p.from && nat_le p.from o.rest) && covers p t) ≡ true
        there h =
            let c : covers p t ≡ true = (and_parts (covers p t) _ h).0 in
            let more = (and_parts (covers p t) _ h).1 in
            let b : nat_le begin p.from ≡ true = (and_parts (nat_le begin p.from) _ more).0 in
            let begun : nat_le p.from t ≡ true = (and_parts (nat_le p.from t) (nat_lt t p.to) c).0 in
            let later : begin ≤ p.from = grind (arith, nat_tests) in
            let past : p.from ≤ t = grind (arith, nat_tests) in
            let rest : p.from ≤ o.rest = elim (cases_lt until p.from) [
              | inr by_then ↦ early_rest p i later by_then
              | inl after ↦ elim (or_cases (is_within (known_at t (reading_of low begin)).ended p.from) (was_low low t) (and_parts (nat_le begin p.from) _ more).1) [
                | inl w ↦ early_rest p i later (by_within p.from past w)
                | inr was ↦ (let l : low (t - 1) ≡ true = (and_parts (nat_lt 0 t) (low (t - 1)) was).1 in
                    let all = rounds_are_short.begins seats begin pulses o wave round in
                    let less = low_before until (t - 1) 0 0 o.wave wave (λ s j. all_in (λ (s : Stretch). s.from ≤ until) o.wave all s j) l in
                    omega (arith, less, round.rest, past))
              ]
            ] in
            two_one (nat_le begin p.from) (nat_le p.from o.rest) (covers p t) b (let x : nat_le p.from o.rest ≡ true = grind (arith, nat_tests) in x) c

        back : ((nat_le begin p.from && nat_le p.from o.rest) && covers p t) ≡ true → pulse_pulls begin (known_at t (reading_of low begin)).ended (was_low low t) t p ≡ true
        back h =
            let first = (and_parts (nat_le begin p.from && nat_le p.from o.rest) (covers p t) h).0 in
            let c : covers p t ≡ true = (and_parts (nat_le begin p.from && nat_le p.from o.rest) (covers p t) h).1 in
            let b : nat_le begin p.from ≡ true = (and_parts (nat_le begin p.from) (nat_le p.from o.rest) first).0 in
            let r : nat_le p.from o.rest ≡ true = (and_parts (nat_le begin p.from) (nat_le p.from o.rest) first).1 in
            let begun : nat_le p.from t ≡ true = (and_parts (nat_le p.from t) (nat_lt t p.to) c).0 in
            let ends : nat_lt t p.to ≡ true = (and_parts (nat_le p.from t) (nat_lt t p.to) c).1 in
            let later : begin ≤ p.from = grind (arith, nat_tests) in
            let soon : p.from ≤ o.rest = grind (arith, nat_tests) in
            let past : p.from ≤ t = grind (arith, nat_tests) in
            let within : t < p.to = grind (arith, nat_tests) in
            three (covers p t) (nat_le begin p.from) (is_within (known_at t (reading_of low begin)).ended p.from || was_low low t) c b (elim (cases_lt until p.from) [
              | inr by_then ↦ or_first (is_within (known_at t (reading_of low begin)).ended p.from) (was_low low t) (within_by t p.from by_then)
              | inl after ↦ or_second (is_within (known_at t (reading_of low begin)).ended p.from) (was_low low t)
                  (let l = low_from p i later after soon (t - p.from) (omega arith) in
                  let same : p.from + (t - p.from) - 1 ≡ t - 1 = omega arith in
                  let some : nat_lt 0 t ≡ true = grind (arith, nat_tests) in
                  rw some (ap low (sym same) ∙ l))
            ])
