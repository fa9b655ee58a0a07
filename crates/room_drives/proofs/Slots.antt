-- The slots of a reading fall where the low stretches after the start bit's begin, up to the reading's end.
use Rattle.std.proofs.Common.{◌≡◌, ℕ, zero, suc, ◌+◌, ◌-◌, ◌==◌, ◌<◌, ◌≤◌, Bool, true, false, ◌||◌, nat_lt, if◌then◌else◌, List, [], ◌∷◌, ◌++◌, slice_get, option_map, inl, inr, Option, Some, None, Result, Ok, Err, refl, arith, ap, ◌∙◌, sym, subst}
use Rattle.std.specs.List.{list_any}
use Rattle.std.specs.Option.{option_to_list}
use Rattle.std.proofs.lemmas.Bool.{cases_lt}
use Rattle.std.proofs.lemmas.Bool.Decides.{nat_tests}
use Rattle.line_wave.specs.declared.Stretch.{Stretch}
use Rattle.line_wave.specs.Line.{Line, is_fall, is_rise, line_of, IsWaveFrom}
use Rattle.line_frames.specs.declared.Ending.{Ending}
use Rattle.line_frames.specs.declared.Ending.TheVariants.{Short}
use Rattle.line_reading.specs.Windows.{standard, sample_at}
use Rattle.line_reading.specs.Reading.After.{Next, Ends}
use Rattle.line_reading.specs.Reading.{Slot, reading_of, read_start, read_slots, read_on, start_of, start_rise, start_fall, next_rise, next_fall, after_slot, after_fall, after_last, last_ending, bit_sampled_at, After}
use Rattle.line_reading.proofs.Causes.{not_over}
use Rattle.line_reading.proofs.Ends.{slots_until}
use Rattle.line_reading.proofs.Search.{found_first, found_none}
use Rattle.line_rounds.proofs.Walk.{next_falls}
use Rattle.room_drives.specs.Stretches.{fall_by}
use Rattle.line_reading.specs.Searches.{Found}
use Rattle.line_wave.proofs.Waves.{falls_of_wave, no_begin, rises_of_wave}

-- ---- the falls after one

-- the line falls where each of these stretches begins, and nowhere between
abbrev pub Gaps : Line → ℕ → List Stretch → Type 0
Gaps low e [] = (u : ℕ) → e < u → is_fall low u ≡ false
Gaps low e (x ∷ rest) = (e < x.from) × (is_fall low x.from ≡ true) × ((u : ℕ) → e < u → u < x.from → is_fall low u ≡ false) × Gaps low x.from rest

same_gaps : (p q : Line) (e : ℕ) (rest : List Stretch) → ((u : ℕ) → e < u → is_fall p u ≡ is_fall q u) → Gaps p e rest → Gaps q e rest
same_gaps p q e [] same g = λ u l. sym (same u l) ∙ g u l
same_gaps p q e (x ∷ rest) same g = (g.0, sym (same x.from g.0) ∙ g.1, λ u l h. sym (same u l) ∙ g.2 u l h, same_gaps p q x.from rest (λ u l. same u (omega (arith, g.0))) g.3)

-- a stretch before makes no fall there
fall_after : (s : Stretch) (rest : List Stretch) (from u : ℕ) → IsWaveFrom from (s ∷ rest) → s.from < u → is_fall (line_of (s ∷ rest)) u ≡ is_fall (line_of rest) u
fall_after s rest from u w l =
    let other : (s.from == u) ≡ false = grind (arith, nat_tests) in
    falls_of_wave (s ∷ rest) from u w ∙ ap (λ b. b || list_any (λ (x : Stretch). x.from == u) rest) other ∙ sym (falls_of_wave rest (s.to + 1) u w.2)

pub gaps : (s : Stretch) (rest : List Stretch) (from : ℕ) → IsWaveFrom from (s ∷ rest) → Gaps (line_of (s ∷ rest)) s.from rest
gaps s [] from w = λ u l. fall_after s [] from u w l
gaps s (x ∷ rest) from w = (
  later,
  fall_after s (x ∷ rest) from x.from w later ∙ falls_of_wave (x ∷ rest) (s.to + 1) x.from w.2 ∙ here,
  λ u l h. fall_after s (x ∷ rest) from u w l ∙ falls_of_wave (x ∷ rest) (s.to + 1) u w.2 ∙ none u h,
  same_gaps (line_of (x ∷ rest)) (line_of (s ∷ x ∷ rest)) x.from rest (λ u l. sym (fall_after s (x ∷ rest) from u w (omega (arith, later)))) (gaps x rest (s.to + 1) w.2),
)
  where
    later : s.from < x.from
    later = omega (arith, w.1, w.2.0)

    here : list_any (λ (y : Stretch). y.from == x.from) (x ∷ rest) ≡ true
    here = let same : (x.from == x.from) ≡ true = grind (arith, nat_tests) in rw same refl

    none : (u : ℕ) → u < x.from → list_any (λ (y : Stretch). y.from == u) (x ∷ rest) ≡ false
    none u h =
        let other : (x.from == u) ≡ false = grind (arith, nat_tests) in
        rw (other, no_begin rest (x.to + 1) u w.2.2 (omega (arith, w.2.1))) refl

-- ---- what is before the end

abbrev pub before : ℕ → Option Stretch → Option ℕ
before at o = fall_by at o

abbrev pub falls_at : List Slot → ℕ → Option ℕ
falls_at ss k = option_map (λ (s : Slot). s.fall) (slice_get ss k)

-- the slots fall where these stretches begin, before the end
abbrev pub Matches : List Slot → ℕ → List Stretch → Type 0
Matches ss at fs = (k : ℕ) → falls_at ss k ≡ before at (slice_get fs k)

none_before : (low : Line) (e at : ℕ) (rest : List Stretch) → Gaps low e rest → ((u : ℕ) → e < u → u < at → is_fall low u ≡ false) → (k : ℕ) → before at (slice_get rest k) ≡ None
none_before low e at [] g quiet k = refl
none_before low e at (x ∷ rest) g quiet zero = elim (cases_lt x.from at) [
  | inl lt ↦ (let a = quiet x.from g.0 lt in let b = g.1 in cc)
  | inr ge ↦ (let no : nat_lt x.from at ≡ false = grind (arith, nat_tests) in rw no refl)
]
none_before low e at (x ∷ rest) g quiet (suc k) = none_before low x.from at rest g.3 (λ u l h. quiet u (omega (arith, g.0)) h) k

-- ---- along the slots

-- a slot that ends the reading: no fall comes before the end
ends_quiet : (low : Line) (e : ℕ) (last : Option Ending) (ending : Ending) (at : ℕ) → after_slot low e last ≡ Ends ending at → (e < at) × ((u : ℕ) → e < u → u < at → is_fall low u ≡ false)
ends_quiet low e None ending at h = by_fall (next_fall low e standard.bit_total.most) refl h
  where
    by_time : (g : ℕ) (b : Bool) → next_fall low e standard.bit_total.most ≡ Some g → (if b then Ends Short g else Next g) ≡ Ends ending at → (e < at) × ((u : ℕ) → e < u → u < at → is_fall low u ≡ false)
    by_time g false q k = cc
    by_time g true q k =
        let same : g ≡ at = cc in
        let d = found_first (is_fall low) (e + 1) standard.bit_total.most g q in
        (omega (arith, d.after, same), λ u l m. d.first u (omega arith) (omega arith))

    by_fall : (o : Option ℕ) → next_fall low e standard.bit_total.most ≡ o → after_fall e o ≡ Ends ending at → (e < at) × ((u : ℕ) → e < u → u < at → is_fall low u ≡ false)
    by_fall None q k = let same : e + (standard.bit_total.most + 1) ≡ at = cc in (omega (arith, same), λ u l m. found_none (is_fall low) (e + 1) standard.bit_total.most q u (omega arith) (omega arith))
    by_fall (Some g) q k = by_time g (nat_lt g (e + standard.bit_total.least)) q k
ends_quiet low e (Some last) ending at h = by_fall (next_fall low e sample_at) refl h
  where
    by_fall : (o : Option ℕ) → next_fall low e sample_at ≡ o → after_last e last o ≡ Ends ending at → (e < at) × ((u : ℕ) → e < u → u < at → is_fall low u ≡ false)
    by_fall None q k = let same : e + sample_at ≡ at = cc in (omega (arith, same), λ u l m. found_none (is_fall low) (e + 1) sample_at q u (omega arith) (omega arith))
    by_fall (Some g) q k =
        let same : g ≡ at = cc in
        let d = found_first (is_fall low) (e + 1) sample_at g q in
        (omega (arith, d.after, same), λ u l m. d.first u (omega arith) (omega arith))

-- the next slot is the next stretch
next_here : (low : Line) (e f : ℕ) (bits : List Bool) (rest : List Stretch) → Gaps low e rest → after_slot low e (last_ending bits) ≡ Next f
    → (x : Stretch) × (others : List Stretch) × (rest ≡ x ∷ others) × (x.from ≡ f)
next_here low e f bits [] g h = let n = next_falls low e bits f h in let a = g f (omega (arith, n.far)) in let b = n.fall in cc
next_here low e f bits (x ∷ rest) g h =
    let n = next_falls low e bits f h in
    let same : x.from ≡ f = elim (cases_lt x.from f) [
      | inl lt ↦ (let a = n.quiet x.from g.0 lt in let b = g.1 in cc)
      | inr ge ↦ elim (cases_lt f x.from) [
        | inl lt ↦ (let a = g.2 f (omega (arith, n.far)) lt in let b = n.fall in cc)
        | inr le ↦ omega arith
      ]
    ] in
    (x, rest, refl, same)

walk : (low : Line) (left : ℕ) (bits : List Bool) (s : Stretch) (rest : List Stretch) → Gaps low s.from rest
    → Matches (read_slots low left bits s.from).slots (read_slots low left bits s.from).at (s ∷ rest)
unfolding read_slots
walk low zero bits s rest g zero = let no : nat_lt s.from s.from ≡ false = grind (arith, nat_tests) in rw no refl
walk low zero bits s rest g (suc k) = sym (none_before low s.from s.from rest g (λ u l h. absurd (omega arith)) k)
walk low (suc left) bits s rest g k = by_after (after_slot low s.from (last_ending bits)) refl k (λ x others h j. walk low left (bits ++ option_to_list (bit_sampled_at low s.from)) x others h j)
  where
    more : List Bool
    more = bits ++ option_to_list (bit_sampled_at low s.from)

    slot : Slot
    slot = record { fall = s.from; bit = bit_sampled_at low s.from }

    by_after : (a : After) → after_slot low s.from (last_ending bits) ≡ a → (k : ℕ)
        → ((x : Stretch) (others : List Stretch) → Gaps low x.from others → (j : ℕ) → falls_at (read_slots low left more x.from).slots j ≡ before (read_slots low left more x.from).at (slice_get (x ∷ others) j))
        → falls_at (slot ∷ (read_on (read_slots low left more) a).slots) k ≡ before (read_on (read_slots low left more) a).at (slice_get (s ∷ rest) k)
    by_after (Ends ending at) h zero ih =
        let q = ends_quiet low s.from (last_ending bits) ending at h in
        let yes : nat_lt s.from at ≡ true = grind (arith, nat_tests, q.0) in rw yes refl
    by_after (Ends ending at) h (suc k) ih = sym (none_before low s.from at rest g (ends_quiet low s.from (last_ending bits) ending at h).1 k)
    by_after (Next f) h zero ih =
        let n = next_falls low s.from bits f h in
        let yes : nat_lt s.from (read_slots low left more f).at ≡ true = grind (arith, nat_tests, n.far, not_over low left more f, slots_until low left more f) in rw yes refl
    by_after (Next f) h (suc k) ih =
        let x = next_here low s.from f bits rest g h in
        subst (λ n. falls_at (read_slots low left more n).slots k ≡ before (read_slots low left more n).at (slice_get rest k)) x.3
        (subst (λ (fs : List Stretch). falls_at (read_slots low left more x.0.from).slots k ≡ before (read_slots low left more x.0.from).at (slice_get fs k)) (sym x.2)
        (ih x.0 x.1 (subst (λ (fs : List Stretch). Gaps low s.from fs) x.2 g).3 k))

-- ---- from the start bit on

-- the line rises where its first stretch ends
rise_there : (s : Stretch) (rest : List Stretch) (from : ℕ) → IsWaveFrom from (s ∷ rest) → is_rise (line_of (s ∷ rest)) s.to ≡ true
rise_there s rest from w =
    let same : (s.to == s.to) ≡ true = grind (arith, nat_tests) in
    rises_of_wave (s ∷ rest) from s.to w ∙ ap (λ b. b || list_any (λ (x : Stretch). x.to == s.to) rest) same

-- the first rise comes by there
rise_by : (s : Stretch) (rest : List Stretch) (from r : ℕ) → IsWaveFrom from (s ∷ rest) → Found (is_rise (line_of (s ∷ rest))) (s.from + 1) standard.start_low.most r → r ≤ s.to
rise_by s rest from r w d = elim (cases_lt s.to r) [
  | inl lt ↦ (let a = d.first s.to (omega (arith, w.1)) lt in let b = rise_there s rest from w in cc)
  | inr ge ↦ ge
]

start_slots : (s : Stretch) (rest : List Stretch) (from : ℕ) → IsWaveFrom from (s ∷ rest) → (st : Result ℕ ℕ) → start_of (line_of (s ∷ rest)) s.from ≡ st
    → (k : ℕ) → falls_at (read_start (line_of (s ∷ rest)) s.from st).slots k ≡ before (read_start (line_of (s ∷ rest)) s.from st).at (slice_get rest k)
start_slots s rest from w st h = by_rise (next_rise low s.from standard.start_low.most) refl h
  where
    low : Line
    low = line_of (s ∷ rest)

    g : Gaps low s.from rest
    g = gaps s rest from w

    Gives : Result ℕ ℕ → Type 0
    Gives st = (k : ℕ) → falls_at (read_start low s.from st).slots k ≡ before (read_start low s.from st).at (slice_get rest k)

    -- nothing falls before this
    bad : (at : ℕ) → ((u : ℕ) → s.from < u → u < at → is_fall low u ≡ false) → Gives (Err at)
    bad at quiet k = sym (none_before low s.from at rest g quiet k)

    -- up to the first rise nothing falls
    quiet_to : (rest : List Stretch) → Gaps low s.from rest → IsWaveFrom (s.to + 1) rest → (u : ℕ) → s.from < u → u < s.to + 1 → is_fall low u ≡ false
    quiet_to [] g w u l h = g u l
    quiet_to (x ∷ rest) g w u l h = g.2 u l (omega (arith, w.0))

    quiet_rise : (r : ℕ) → r ≤ s.to → (u : ℕ) → s.from < u → u < r + 1 → is_fall low u ≡ false
    quiet_rise r by u l h = quiet_to rest g w.2 u l (omega arith)

    -- and then up to the next fall
    quiet_fall : (r n f : ℕ) → r ≤ s.to → s.from < r → Found (is_fall low) (r + 1) n f → (u : ℕ) → s.from < u → u < f → is_fall low u ≡ false
    quiet_fall r n f by past d u l h = elim (cases_lt u (r + 1)) [ inl lt ↦ quiet_rise r by u l lt | inr ge ↦ d.first u ge h ]

    good : (fs : List Stretch) → rest ≡ fs → (f : ℕ) → is_fall low f ≡ true → s.from < f → ((u : ℕ) → s.from < u → u < f → is_fall low u ≡ false) → Gives (Ok f)
    good [] e f falls past quiet k = let a = subst (λ (fs : List Stretch). Gaps low s.from fs) e g f past in cc
    good (x ∷ others) e f falls past quiet k =
        let own = subst (λ (fs : List Stretch). Gaps low s.from fs) e g in
        let same : x.from ≡ f = elim (cases_lt x.from f) [
          | inl lt ↦ (let a = quiet x.from own.0 lt in let b = own.1 in cc)
          | inr ge ↦ elim (cases_lt f x.from) [ inl lt ↦ (let a = own.2 f past lt in cc) | inr le ↦ omega arith ]
        ] in
        subst (λ n. falls_at (read_slots low 160 [] n).slots k ≡ before (read_slots low 160 [] n).at (slice_get rest k)) same
        (subst (λ (fs : List Stretch). falls_at (read_slots low 160 [] x.from).slots k ≡ before (read_slots low 160 [] x.from).at (slice_get fs k)) (sym e) (walk low 160 [] x others own.3 k))

    by_time : (r f : ℕ) (b : Bool) → r ≤ s.to → s.from < r → next_fall low r (s.from + standard.start_total.most - r) ≡ Some f → (if b then Err f else Ok f) ≡ st → Gives st
    by_time r f true by past q k =
        let d = found_first (is_fall low) (r + 1) (s.from + standard.start_total.most - r) f q in
        subst Gives k (bad f (quiet_fall r (s.from + standard.start_total.most - r) f by past d))
    by_time r f false by past q k =
        let d = found_first (is_fall low) (r + 1) (s.from + standard.start_total.most - r) f q in
        subst Gives k (good rest refl f d.passes (omega (arith, d.after)) (quiet_fall r (s.from + standard.start_total.most - r) f by past d))

    by_fall : (r : ℕ) (o : Option ℕ) → r ≤ s.to → s.from < r → next_fall low r (s.from + standard.start_total.most - r) ≡ o → start_fall s.from o ≡ st → Gives st
    by_fall r None by past q k =
        subst Gives k (bad (s.from + (standard.start_total.most + 1)) (λ u l h. elim (cases_lt u (r + 1)) [
          | inl lt ↦ quiet_rise r by u l lt
          | inr ge ↦ found_none (is_fall low) (r + 1) (s.from + standard.start_total.most - r) q u ge (omega arith)
        ]))
    by_fall r (Some f) by past q k = by_time r f (nat_lt f (s.from + standard.start_total.least)) by past q k

    by_early : (r : ℕ) (b : Bool) → r ≤ s.to → s.from < r → (if b then Err r else start_fall s.from (next_fall low r (s.from + standard.start_total.most - r))) ≡ st → Gives st
    by_early r true by past k = subst Gives k (bad r (λ u l h. quiet_rise r by u l (omega arith)))
    by_early r false by past k = by_fall r (next_fall low r (s.from + standard.start_total.most - r)) by past refl k

    by_rise : (o : Option ℕ) → next_rise low s.from standard.start_low.most ≡ o → start_rise low s.from o ≡ st → Gives st
    by_rise None q k =
        let late : s.from + standard.start_low.most < s.to = elim (cases_lt (s.from + standard.start_low.most) s.to) [
          | inl lt ↦ lt
          | inr ge ↦ (let a = found_none (is_rise low) (s.from + 1) standard.start_low.most q s.to (omega (arith, w.1)) (omega arith) in let b = rise_there s rest from w in cc)
        ] in
        subst Gives k (bad (s.from + (standard.start_low.most + 1)) (λ u l h. quiet_rise s.to (omega arith) u l (omega (arith, late))))
    by_rise (Some r) q k =
        let d = found_first (is_rise low) (s.from + 1) standard.start_low.most r q in
        by_early r (nat_lt r (s.from + standard.start_low.least)) (rise_by s rest from r w d) (omega (arith, d.after)) k

-- the k-th slot of the reading, from 0, falls where the k-th stretch after the first one begins, before the reading's end
pub slots_fall : (s : Stretch) (rest : List Stretch) (from : ℕ) → IsWaveFrom from (s ∷ rest) → (k : ℕ)
    → falls_at (reading_of (line_of (s ∷ rest)) s.from).slots k ≡ before (reading_of (line_of (s ∷ rest)) s.from).at (slice_get rest k)
slots_fall s rest from w k = start_slots s rest from w (start_of (line_of (s ∷ rest)) s.from) refl k
