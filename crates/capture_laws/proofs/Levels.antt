-- The level that changes report, span by span.
use Rattle.std.proofs.Common.{◌≡◌, ℕ, zero, suc, ◌+◌, ◌-◌, ◌<◌, ◌≤◌, ◌&&◌, ◌||◌, not, Bool, true, false, nat_lt, nat_le, if◌then◌else◌, List, [], ◌∷◌, ◌++◌, inl, inr, refl, sym, ap, ap₂, ◌∙◌, arith, append_assoc}
use Rattle.std.specs.List.{flat_map, range_with_len}
use Rattle.std.proofs.lemmas.Bool.{cases_lt}
use Rattle.std.proofs.lemmas.Bool.Decides.{nat_tests}
use Rattle.line_wave.specs.Line.{Line, line_of, was_low}
use Rattle.capture_vcd.specs.Wire.{Change, is_by, level_of}
use Rattle.capture_vcd.specs.declared.scale.Scale.{Scale as ScaleOf}
use Rattle.capture_vcd.specs.declared.scale.Unit.TheVariants.{Microsecond}
use Rattle.capture_vcd.specs.declared.scale.Count.TheVariants.{One}
use Rattle.capture_wires.specs.Wires.{turns}
use Rattle.capture_laws.specs.WireDumps.{Span, AreSpans, level_at, wire_at}

abbrev pub micro : ScaleOf
micro = record { count = One; unit = Microsecond }

-- a change of a line, where it turns
abbrev pub change_by : Bool → Bool → ℕ → List Change
change_by true low t = record { tick = t; low = low } ∷ []
change_by false low t = []

abbrev pub own_change : Line → ℕ → List Change
own_change low t = change_by (turns low t) (low t) t

abbrev pub own_changes : Line → ℕ → ℕ → List Change
own_changes low from count = flat_map (own_change low) (range_with_len from count)

-- ---- changes that are still to come

abbrev pub AreAfter : ℕ → List Change → Type 0
AreAfter u [] = Unit {0}
AreAfter u (c ∷ cs) = (u < c.tick) × AreAfter u cs

by_micro : (t u : ℕ) → is_by micro t u ≡ nat_le t u
by_micro t u = grind (arith, nat_tests)

pub not_yet : (u : ℕ) (b : Bool) (cs : List Change) → AreAfter u cs → level_of micro b cs u ≡ b
not_yet u b [] h = refl
not_yet u b (c ∷ cs) h =
    let l : u < c.tick = h.0 in
    let late : is_by micro c.tick u ≡ false = grind (arith, nat_tests) in
    ap (λ x. level_of micro (if x then c.low else b) cs u) late ∙ not_yet u b cs h.1

after_append : (u : ℕ) (xs ys : List Change) → AreAfter u xs → AreAfter u ys → AreAfter u (xs ++ ys)
after_append u [] ys h k = k
after_append u (x ∷ xs) ys h k = (h.0, after_append u xs ys h.1 k)

after_own : (u t : ℕ) (turn low : Bool) → u < t → AreAfter u (change_by turn low t)
after_own u t true low l = (l, tt)
after_own u t false low l = tt

after_changes : (low : Line) (u from count : ℕ) → u < from → AreAfter u (own_changes low from count)
after_changes low u from zero l = tt
after_changes low u from (suc count) l =
    after_append u (own_change low from) (own_changes low (from + 1) count) (after_own u from (turns low from) (low from) l) (after_changes low u (from + 1) count (omega arith))

-- ---- one change

turned : (l w : Bool) → ((l && not w) || (not l && w)) ≡ false → w ≡ l
turned true true h = refl
turned true false h = cc
turned false true h = cc
turned false false h = refl

-- from its instant on the level is that of the line
now_level : (low : Line) (t u : ℕ) (cs : List Change) → t ≤ u → level_of micro (was_low low t) (own_change low t ++ cs) u ≡ level_of micro (low t) cs u
now_level low t u cs l = by (turns low t) refl
  where
    late : is_by micro t u ≡ true
    late = grind (arith, nat_tests)

    by : (b : Bool) → turns low t ≡ b → level_of micro (was_low low t) (change_by b (low t) t ++ cs) u ≡ level_of micro (low t) cs u
    by true e = ap (λ x. level_of micro (if x then low t else was_low low t) cs u) late
    by false e = ap (λ b. level_of micro b cs u) (turned (low t) (was_low low t) e)

-- just after t the line was as it is at t
was_next : (low : Line) (t : ℕ) → was_low low (t + 1) ≡ low t
was_next low t =
    let some : nat_lt 0 (t + 1) ≡ true = grind (arith, nat_tests) in
    let same : t + 1 - 1 ≡ t = omega arith in
    ap (λ b. b && low (t + 1 - 1)) some ∙ ap low same

-- ---- the changes of some microseconds

step_level : (low : Line) (t count u : ℕ) (cs : List Change) → t ≤ u
    → level_of micro (was_low low t) (own_changes low t (suc count) ++ cs) u ≡ level_of micro (was_low low (t + 1)) (own_changes low (t + 1) count ++ cs) u
step_level low t count u cs l =
    ap (λ xs. level_of micro (was_low low t) xs u) (append_assoc (own_change low t) (own_changes low (t + 1) count) cs)
    ∙ now_level low t u (own_changes low (t + 1) count ++ cs) l
    ∙ ap (λ b. level_of micro b (own_changes low (t + 1) count ++ cs) u) (sym (was_next low t))

-- in one of them
in_level : (low : Line) (from count u : ℕ) (cs : List Change) → from ≤ u → u < from + count → AreAfter u cs
    → level_of micro (was_low low from) (own_changes low from count ++ cs) u ≡ low u
in_level low from zero u cs l m h = absurd (omega arith)
in_level low from (suc count) u cs l m h = step_level low from count u cs l ∙ elim (cases_lt from u) [
  | inl lt ↦ in_level low (from + 1) count u cs (omega (arith, lt)) (omega (arith, m)) h
  | inr ge ↦ (
      let here : u ≡ from = omega (arith, l, ge) in
      not_yet u (was_low low (from + 1)) (own_changes low (from + 1) count ++ cs)
      (after_append u (own_changes low (from + 1) count) cs (after_changes low u (from + 1) count (omega (arith, here))) h)
      ∙ was_next low from ∙ ap low (sym here)
      )
]

-- past them
past_level : (low : Line) (from count u : ℕ) (cs : List Change) → from + count ≤ u
    → level_of micro (was_low low from) (own_changes low from count ++ cs) u ≡ level_of micro (was_low low (from + count)) cs u
past_level low from zero u cs l = ap (λ n. level_of micro (was_low low n) cs u) (let e : from ≡ from + 0 = omega arith in e)
past_level low from (suc count) u cs l =
    step_level low from count u cs (omega arith) ∙ past_level low (from + 1) count u cs (omega (arith, l))
    ∙ ap (λ n. level_of micro (was_low low n) cs u) (let e : from + 1 + count ≡ from + suc count = omega arith in e)

-- ---- the changes of spans

abbrev pub span_changes : ℕ → List Span → List Change
span_changes number [] = []
span_changes number (s ∷ ss) = own_changes (line_of (wire_at number s.wires)) s.from s.count ++ span_changes number ss

after_spans : (number u from end : ℕ) (ss : List Span) → AreSpans from end ss → u < from → AreAfter u (span_changes number ss)
after_spans number u from end [] h l = tt
after_spans number u from end (s ∷ ss) h l =
    let a : from ≤ s.from = h.0 in
    after_append u (own_changes (line_of (wire_at number s.wires)) s.from s.count) (span_changes number ss)
    (after_changes (line_of (wire_at number s.wires)) u s.from s.count (omega (arith, a, l))) (after_spans number u (s.from + s.count) end ss h.2 (omega (arith, a, l)))

-- before they begin they are high
high_before : (number u from end : ℕ) (ss : List Span) → AreSpans from end ss → u < from → level_at number ss u ≡ false
high_before number u from end [] h l = refl
high_before number u from end (s ∷ ss) h l =
    let a : from ≤ s.from = h.0 in
    ap₂ (λ x y. x || y) (h.1.before number u (omega (arith, a, l))) (high_before number u (s.from + s.count) end ss h.2 (omega (arith, a, l)))

was_high : (low : Line) (t : ℕ) → ((u : ℕ) → u + 1 ≡ t → low u ≡ false) → was_low low t ≡ false
was_high low zero h = refl
was_high low (suc t) h =
    let same : suc t - 1 ≡ t = omega arith in
    both (nat_lt 0 (suc t)) (low (suc t - 1)) (ap low same ∙ h t (omega arith))
  where
    both : (a b : Bool) → b ≡ false → (a && b) ≡ false
    both true b e = e
    both false b e = refl

or_none : (a : Bool) → a ≡ (a || false)
or_none true = refl
or_none false = refl

pub spans_level : (number u from end : ℕ) (ss : List Span) → AreSpans from end ss → level_of micro false (span_changes number ss) u ≡ level_at number ss u
spans_level number u from end [] h = refl
spans_level number u from end (s ∷ ss) h = elim (cases_lt u (s.from + s.count)) [
  | inl lt ↦ elim (cases_lt u s.from) [
    | inl early ↦ (
        not_yet u false (span_changes number (s ∷ ss)) (after_spans number u s.from end (s ∷ ss) (omega arith, h.1, h.2) early)
        ∙ sym (high_before number u s.from end (s ∷ ss) (omega arith, h.1, h.2) early)
        )
    | inr late ↦ (
        ap (λ b. level_of micro b (span_changes number (s ∷ ss)) u) (sym begins)
        ∙ in_level low s.from s.count u (span_changes number ss) late lt (after_spans number u (s.from + s.count) end ss h.2 lt)
        ∙ or_none (low u) ∙ ap (λ b. low u || b) (sym (high_before number u (s.from + s.count) end ss h.2 lt))
        )
  ]
  | inr ge ↦ (
      ap (λ b. level_of micro b (span_changes number (s ∷ ss)) u) (sym begins)
      ∙ past_level low s.from s.count u (span_changes number ss) ge
      ∙ ap (λ b. level_of micro b (span_changes number ss) u) ends
      ∙ spans_level number u (s.from + s.count) end ss h.2
      ∙ ap (λ b. b || level_at number ss u) (sym (h.1.after number u (omega (arith, ge))))
      )
]
  where
    low : Line
    low = line_of (wire_at number s.wires)

    begins : was_low low s.from ≡ false
    begins = was_high low s.from (λ v e. h.1.before number v (omega (arith, e)))

    ends : was_low low (s.from + s.count) ≡ false
    ends = was_high low (s.from + s.count) (λ v e. h.1.after number v (omega (arith, e)))
