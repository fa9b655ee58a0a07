-- Of any line: how often it falls while it is read.
use Rattle.std.proofs.Common.{◌≡◌, ℕ, zero, suc, ◌+◌, ◌-◌, ◌<◌, ◌≤◌, Bool, true, false, not, ◌&&◌, nat_lt, if◌then◌else◌, List, [], ◌∷◌, ◌++◌, length, min, inl, inr, Option, Some, None, Result, Ok, Err, refl, arith, ap, ◌∙◌, sym, subst}
use Rattle.std.specs.List.{All}
use Rattle.std.specs.Option.{option_to_list}
use Rattle.std.proofs.lemmas.Bool.{cases_lt}
use Rattle.std.proofs.lemmas.List.Elements.{All-head, All-tail}
use Rattle.line_wave.specs.Line.{Line, was_low, is_fall, is_rise}
use Rattle.line_frames.specs.declared.Ending.{Ending}
use Rattle.line_frames.specs.declared.Ending.TheVariants.{Short}
use Rattle.line_reading.specs.Reading.After.{Next, Ends}
use Rattle.line_reading.specs.Windows.{standard, sample_at}
use Rattle.line_reading.specs.Reading.{next_fall, next_rise, Read, read_slots, read_on, after_slot, after_fall, after_last, last_ending, last_heard, bit_sampled_at, read_start, reading_of, start_of, start_rise, start_fall, After}
use Rattle.line_reading.proofs.Search.{found_first, found_none}
use Rattle.line_reading.proofs.Causes.{last_plain}
use Rattle.line_rounds.specs.Falls.{AreRisingFrom, FallsAreRead}
use Rattle.line_rounds.proofs.Walk.{next_falls}
use Rattle.line_reading.specs.Known.{IsPlain}
use Rattle.line_wave.proofs.Waves.{was_now}
use Rattle.line_rounds.specs.Slots.{NextFall}

-- falls one after another, from `from` to `until`
abbrev AreFallsTo : Line → ℕ → ℕ → List ℕ → Type 0
AreFallsTo low from until [] = Unit {0}
AreFallsTo low from until (u ∷ us) = (from ≤ u) × (u ≤ until) × (is_fall low u ≡ true) × AreFallsTo low (u + 1) until us

to_falls : (low : Line) (from until : ℕ) (us : List ℕ) → AreRisingFrom from us → All (λ u. (u ≤ until) × (is_fall low u ≡ true)) us → AreFallsTo low from until us
to_falls low from until [] r h = tt
to_falls low from until (u ∷ us) r h =
    let x = All-head (λ v. (v ≤ until) × (is_fall low v ≡ true)) u us h in
    (r.0, x.0, x.1, to_falls low (u + 1) until us r.1 (All-tail (λ v. (v ≤ until) × (is_fall low v ≡ true)) u us h))

-- where the line does not fall from `from` up to `to`, the first of them comes no sooner
falls_later : (low : Line) (from to until : ℕ) (us : List ℕ) → ((u : ℕ) → from ≤ u → u < to → is_fall low u ≡ false) → AreFallsTo low from until us → AreFallsTo low to until us
falls_later low from to until [] q h = tt
falls_later low from to until (u ∷ us) q h =
    elim (cases_lt u to) [
      | inl lt ↦ (let x : true ≡ false = sym h.2 ∙ q u h.0 lt in cc)
      | inr ge ↦ (ge, h.1, h.2, h.3)
    ]

-- at most one, where the line does not fall before the last microsecond
one_at_most : (low : Line) (from until : ℕ) (us : List ℕ) → ((u : ℕ) → from ≤ u → u < until → is_fall low u ≡ false) → AreFallsTo low from until us → length us ≤ 1
one_at_most low from until [] q h = omega arith
one_at_most low from until (u ∷ []) q h = omega arith
one_at_most low from until (u ∷ v ∷ vs) q h =
    let x : true ≡ false = sym h.2 ∙ q u h.0 (omega (arith, h.3.0, h.3.1)) in cc

-- ---- in the slots

-- the last microsecond of a reading that ends so
abbrev until_of : After → ℕ
until_of (Next f) = f
until_of (Ends ending at) = last_heard ending at

-- before the instant at which a slot ends a reading, the line does not fall
quiet_end : (low : Line) (e : ℕ) (last : Option Ending) (ending : Ending) (at : ℕ) → IsPlain last → after_slot low e last ≡ Ends ending at
    → (u : ℕ) → e + 1 ≤ u → u < last_heard ending at → is_fall low u ≡ false
quiet_end low e None ending at w h = by_fall (next_fall low e standard.bit_total.most) refl h
  where
    by_time : (g : ℕ) (b : Bool) → next_fall low e standard.bit_total.most ≡ Some g → (let a : After = if b then Ends Short g else Next g in a) ≡ Ends ending at → (u : ℕ) → e + 1 ≤ u → u < last_heard ending at → is_fall low u ≡ false
    by_time g true k a u l m =
        let same : last_heard ending at ≡ g = ap until_of (sym a) in
        (found_first (is_fall low) (e + 1) standard.bit_total.most g k).first u l (omega (arith, m, same))
    by_time g false k a u l m = cc

    by_fall : (o : Option ℕ) → next_fall low e standard.bit_total.most ≡ o → after_fall e o ≡ Ends ending at → (u : ℕ) → e + 1 ≤ u → u < last_heard ending at → is_fall low u ≡ false
    by_fall None k a u l m =
        let same : last_heard ending at ≡ e + (standard.bit_total.most + 1) - 1 = ap until_of (sym a) in
        found_none (is_fall low) (e + 1) standard.bit_total.most k u l (omega (arith, m, same))
    by_fall (Some g) k a u l m = by_time g (nat_lt g (e + standard.bit_total.least)) k a u l m
quiet_end low e (Some x) ending at w h = by_fall (next_fall low e sample_at) refl h
  where
    by_fall : (o : Option ℕ) → next_fall low e sample_at ≡ o → after_last e x o ≡ Ends ending at → (u : ℕ) → e + 1 ≤ u → u < last_heard ending at → is_fall low u ≡ false
    by_fall None k a u l m =
        let same : last_heard ending at ≡ last_heard x (e + sample_at) = ap until_of (sym a) in
        let plain : last_heard x (e + sample_at) ≡ e + sample_at = w (e + sample_at) in
        found_none (is_fall low) (e + 1) sample_at k u l (omega (arith, m, same, plain))
    by_fall (Some g) k a u l m =
        let same : last_heard ending at ≡ g = ap until_of (sym a) in
        (found_first (is_fall low) (e + 1) sample_at g k).first u l (omega (arith, m, same))

count_on : (low : Line) (e left : ℕ) (bits : List Bool) (rest : ℕ → Read) → ((f : ℕ) (us : List ℕ) → AreFallsTo low (f + 1) (rest f).until us → length us ≤ left)
    → (a : After) → after_slot low e (last_ending bits) ≡ a → (us : List ℕ) → AreFallsTo low (e + 1) (read_on rest a).until us → length us ≤ suc left
count_on low e left bits rest ih (Ends ending at) h us f =
    let x = one_at_most low (e + 1) (last_heard ending at) us (quiet_end low e (last_ending bits) ending at (last_plain bits) h) f in omega (arith, x)
count_on low e left bits rest ih (Next g) h us f = by_list us (falls_later low (e + 1) g (rest g).until us (λ u l m. n.quiet u (omega arith) m) f)
  where
    n : NextFall low e bits g
    n = next_falls low e bits g h

    by_list : (us : List ℕ) → AreFallsTo low g (rest g).until us → length us ≤ suc left
    by_list [] k = omega arith
    by_list (u ∷ us) k = let x = ih g us (falls_later low (u + 1) (g + 1) (rest g).until us (λ v l m. absurd (omega (arith, l, m, k.0))) k.3) in omega (arith, x)

count_slots : (low : Line) (left : ℕ) (bits : List Bool) (e : ℕ) (us : List ℕ) → AreFallsTo low (e + 1) (read_slots low left bits e).until us → length us ≤ left
unfolding read_slots
count_slots low zero bits e [] h = omega arith
count_slots low zero bits e (u ∷ us) h = absurd (omega (arith, h.0, h.1))
count_slots low (suc left) bits e us h =
    count_on low e left bits (read_slots low left (bits ++ option_to_list (bit_sampled_at low e))) (λ f vs k. count_slots low left (bits ++ option_to_list (bit_sampled_at low e)) f vs k)
    (after_slot low e (last_ending bits)) refl us h

-- ---- in the start bit

-- a line that is low stays low where it does not rise
stays_low : (low : Line) (u m : ℕ) → low u ≡ true → ((v : ℕ) → u < v → v < u + m + 1 → is_rise low v ≡ false) → low (u + m) ≡ true
stays_low low u zero h q = ap low (let x : u + zero ≡ u = omega arith in x) ∙ h
stays_low low u (suc m) h q =
    let before : low (u + m) ≡ true = stays_low low u m h (λ v l k. q v l (omega arith)) in
    let none : is_rise low (u + m + 1) ≡ false = q (u + m + 1) (omega arith) (omega arith) in
    let was : was_low low (u + m + 1) ≡ true = was_now low (u + m) ∙ before in
    ap low (let x : u + suc m ≡ u + m + 1 = omega arith in x) ∙ by_low (low (u + m + 1)) (was_low low (u + m + 1)) was none
  where
    by_low : (b w : Bool) → w ≡ true → (not b && w) ≡ false → b ≡ true
    by_low true w k n = refl
    by_low false true k n = cc
    by_low false false k n = cc

-- between two falls it rises
no_second : (low : Line) (u v : ℕ) → u < v → is_fall low u ≡ true → ((w : ℕ) → u < w → w < v → is_rise low w ≡ false) → is_fall low v ≡ false
no_second low u v l f q =
    let here : low u ≡ true = first (low u) (not (was_low low u)) f in
    let before : low (u + (v - 1 - u)) ≡ true = stays_low low u (v - 1 - u) here (λ w a b. q w a (omega (arith, b, l))) in
    let was : was_low low v ≡ true = ap (was_low low) (let x : v ≡ u + (v - 1 - u) + 1 = omega (arith, l) in x) ∙ was_now low (u + (v - 1 - u)) ∙ before in
    ap (λ b. low v && not b) was ∙ none (low v)
  where
    first : (a b : Bool) → (a && b) ≡ true → a ≡ true
    first true b k = refl
    first false b k = cc

    none : (b : Bool) → (b && false) ≡ false
    none true = refl
    none false = refl

-- after the first fall of them the line does not fall up to there, where it does not rise before
quiet_after : (low : Line) (begin u r : ℕ) → begin ≤ u → is_fall low u ≡ true → ((w : ℕ) → begin + 1 ≤ w → w < r → is_rise low w ≡ false) → (v : ℕ) → u + 1 ≤ v → v < r + 1 → is_fall low v ≡ false
quiet_after low begin u r a f q v l m = no_second low u v (omega arith) f (λ w x y. q w (omega arith) (omega arith))

-- up to a rise one at most, and the others from the next fall on
count_rise : (low : Line) (begin r g until much : ℕ) (us : List ℕ) → ((w : ℕ) → begin + 1 ≤ w → w < r → is_rise low w ≡ false) → ((v : ℕ) → r + 1 ≤ v → v < g → is_fall low v ≡ false)
    → ((vs : List ℕ) → AreFallsTo low g until vs → length vs ≤ much) → AreFallsTo low begin until us → length us ≤ much + 1
count_rise low begin r g until much [] q k c h = omega arith
count_rise low begin r g until much (u ∷ us) q k c h =
    let later : AreFallsTo low g until us = falls_later low (u + 1) g until us (λ v l m. elim (cases_lt v (r + 1)) [
      | inl lt ↦ quiet_after low begin u r h.0 h.2 q v l lt
      | inr ge ↦ k v ge m
    ]) h.3 in
    let x = c us later in omega (arith, x)

few_at_end : (low : Line) (g until : ℕ) (vs : List ℕ) → until ≤ g → AreFallsTo low g until vs → length vs ≤ 1
few_at_end low g until vs l h = one_at_most low g until vs (λ u a b. absurd (omega (arith, a, b, l))) h

count_start : (low : Line) (begin : ℕ) (s : Result ℕ ℕ) → start_of low begin ≡ s → (us : List ℕ) → AreFallsTo low begin (read_start low begin s).until us → length us ≤ 162
count_start low begin s e us h = by_rise (next_rise low begin standard.start_low.most) refl e
  where
    on_slots : (f : ℕ) (vs : List ℕ) → AreFallsTo low f (read_slots low 160 [] f).until vs → length vs ≤ 161
    on_slots f [] k = omega arith
    on_slots f (v ∷ vs) k = let x = count_slots low 160 [] f vs (falls_later low (v + 1) (f + 1) (read_slots low 160 [] f).until vs (λ w l m. absurd (omega (arith, l, m, k.0))) k.3) in omega (arith, x)

    ok_at : (r g : ℕ) → next_rise low begin standard.start_low.most ≡ Some r → next_fall low r (begin + standard.start_total.most - r) ≡ Some g → Ok g ≡ s → length us ≤ 162
    ok_at r g x y z =
        count_rise low begin r g (read_slots low 160 [] g).until 161 us (found_first (is_rise low) (begin + 1) standard.start_low.most r x).first (found_first (is_fall low) (r + 1) (begin + standard.start_total.most - r) g y).first (on_slots g)
        (subst (λ (t : Result ℕ ℕ). AreFallsTo low begin (read_start low begin t).until us) (sym z) h)

    err_at : (r g at : ℕ) → ((w : ℕ) → begin + 1 ≤ w → w < r → is_rise low w ≡ false) → ((v : ℕ) → r + 1 ≤ v → v < g → is_fall low v ≡ false) → min at (begin + standard.start_total.most) ≤ g → Err at ≡ s → length us ≤ 162
    err_at r g at q k l z =
        let x = count_rise low begin r g (min at (begin + standard.start_total.most)) 1 us q k (λ vs a. few_at_end low g (min at (begin + standard.start_total.most)) vs l a)
        (subst (λ (t : Result ℕ ℕ). AreFallsTo low begin (read_start low begin t).until us) (sym z) h) in omega (arith, x)

    by_time : (r g : ℕ) (b : Bool) → next_rise low begin standard.start_low.most ≡ Some r → next_fall low r (begin + standard.start_total.most - r) ≡ Some g → (let t : Result ℕ ℕ = if b then Err g else Ok g in t) ≡ s → length us ≤ 162
    by_time r g true x y z = err_at r g g (found_first (is_rise low) (begin + 1) standard.start_low.most r x).first (found_first (is_fall low) (r + 1) (begin + standard.start_total.most - r) g y).first (omega arith) z
    by_time r g false x y z = ok_at r g x y z

    by_fall : (r : ℕ) → next_rise low begin standard.start_low.most ≡ Some r → (o : Option ℕ) → next_fall low r (begin + standard.start_total.most - r) ≡ o → start_fall begin o ≡ s → length us ≤ 162
    by_fall r x None y z =
        err_at r (begin + (standard.start_total.most + 1)) (begin + (standard.start_total.most + 1)) (found_first (is_rise low) (begin + 1) standard.start_low.most r x).first
        (λ v l m. let w = (found_first (is_rise low) (begin + 1) standard.start_low.most r x).within in found_none (is_fall low) (r + 1) (begin + standard.start_total.most - r) y v l (omega (arith, w, m, l))) (omega arith) z
    by_fall r x (Some g) y z = by_time r g (nat_lt g (begin + standard.start_total.least)) x y z

    by_low : (r : ℕ) (b : Bool) → next_rise low begin standard.start_low.most ≡ Some r → (let t : Result ℕ ℕ = if b then Err r else start_fall begin (next_fall low r (begin + standard.start_total.most - r)) in t) ≡ s → length us ≤ 162
    by_low r true x z = err_at r (r + 1) r (found_first (is_rise low) (begin + 1) standard.start_low.most r x).first (λ v l m. absurd (omega arith)) (omega arith) z
    by_low r false x z = by_fall r x (next_fall low r (begin + standard.start_total.most - r)) refl z

    by_rise : (o : Option ℕ) → next_rise low begin standard.start_low.most ≡ o → start_rise low begin o ≡ s → length us ≤ 162
    by_rise None x z =
        err_at (begin + (standard.start_low.most + 1)) (begin + 3902) (begin + (standard.start_low.most + 1)) (λ w l m. found_none (is_rise low) (begin + 1) standard.start_low.most x w l (omega arith)) (λ v l m. absurd (omega arith)) (omega arith) z
    by_rise (Some r) x z = by_low r (nat_lt r (begin + standard.start_low.least)) x z

pub falls_are_read : FallsAreRead
falls_are_read low begin us r all = count_start low begin (start_of low begin) refl us (to_falls low begin (reading_of low begin).until us r all)
