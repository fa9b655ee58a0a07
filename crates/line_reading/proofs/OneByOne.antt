-- Readings end one by one.
use Rattle.std.proofs.Common.{◌≡◌, ℕ, zero, suc, ◌+◌, ◌-◌, ◌<◌, ◌≤◌, Bool, true, false, nat_le, if◌then◌else◌, List, [], ◌∷◌, ◌++◌, inl, inr, Option, Some, None, refl, arith, ap, ◌∙◌, sym}
use Rattle.std.specs.List.{filter, filter_map}
use Rattle.std.specs.Option.{option_to_list}
use Rattle.std.proofs.lemmas.Bool.{cases_lt}
use Rattle.std.proofs.lemmas.Bool.Decides.{nat_tests}
use Rattle.line_wave.specs.Line.{Line, is_fall}
use Rattle.line_frames.specs.declared.Ending.TheVariants.{Open}
use Rattle.line_reading.specs.Reading.{first_in, Told, known_at, reading_of, reported_of}
use Rattle.line_reading.specs.Readings.{Listed, reading_from, listed_on, readings_from, readings_of}
use Rattle.line_reading.specs.Ended.{has_ended, EndOneByOne}
use Rattle.line_reading.proofs.Search.{first_in_longer, found_first, found_none}
use Rattle.line_reading.proofs.Ends.{at_by, begin_by, ends_after}
use Rattle.line_reading.proofs.Lists.{none_left, one_from, has_from}

record ReportsAlike (old new : List Listed) : Type 0 where
  reported : Option Listed
  same : new ≡ old ++ option_to_list reported

alike_by : (a b c d : List Listed) → a ≡ b → c ≡ d → ReportsAlike b d → ReportsAlike a c
alike_by a b c d e f t = record { reported = t.reported; same = f ∙ t.same ∙ ap (λ (xs : List Listed). xs ++ option_to_list t.reported) (sym e) }

alike_more : (x : Listed) (old new : List Listed) → ReportsAlike old new → ReportsAlike (x ∷ old) (x ∷ new)
alike_more x old new t = record { reported = t.reported; same = ap (λ (xs : List Listed). x ∷ xs) t.same }

-- which of the later readings are told: each that had ended by t, and none that begins after it
record Keeps (low : Line) (t u : ℕ) (keep : Listed → Bool) : Type 0 where
  ended : (e : ℕ) → (reading_of low e).at ≤ t → keep (reading_from low u e) ≡ true
  new : (v : ℕ) → t < v → v ≤ u → is_fall low v ≡ true → keep (reading_from low u v) ≡ false

-- where no reading begins by t, none is told
none_reported : (low : Line) (t u : ℕ) (keep : Listed → Bool) → Keeps low t u keep → (n from : ℕ) → ((v : ℕ) → from ≤ v → v ≤ t → is_fall low v ≡ false) → filter keep (readings_from low u n from) ≡ []
unfolding readings_from
none_reported low t u keep k zero from q = refl
none_reported low t u keep k (suc n) from q = by_first (λ f h. none_reported low t u keep k n f h) (first_in (is_fall low) from (u + 1 - from)) refl
  where
    by_first : ((f : ℕ) → ((v : ℕ) → f ≤ v → v ≤ t → is_fall low v ≡ false) → filter keep (readings_from low u n f) ≡ []) → (o : Option ℕ) → first_in (is_fall low) from (u + 1 - from) ≡ o
        → filter keep (listed_on low u o (readings_from low u n)) ≡ []
    by_first ih None h = refl
    by_first ih (Some e) h =
        let d = found_first (is_fall low) from (u + 1 - from) e h in
        let late : t < e = elim (cases_lt t e) [
          | inl lt ↦ lt
          | inr ge ↦ (let x : true ≡ false = sym d.passes ∙ q e d.after ge in cc)
        ] in
        let not_kept : keep (reading_from low u e) ≡ false = k.new e late (omega (arith, d.within, d.after)) d.passes in
        ap (λ b. if b then reading_from low u e ∷ filter keep (readings_from low u n ((reading_of low e).until + 1)) else filter keep (readings_from low u n ((reading_of low e).until + 1))) not_kept
        ∙ ih ((reading_of low e).until + 1) (λ v a b. absurd (omega (arith, a, b, late, begin_by low e)))

pub same_reported : (low : Line) (t u e : ℕ) → t ≤ u → (reading_of low e).at ≤ t → reading_from low u e ≡ reading_from low t e
same_reported low t u e l m =
    let now : nat_le (reading_of low e).at t ≡ true = grind (arith, nat_tests) in
    let later : nat_le (reading_of low e).at u ≡ true = grind (arith, nat_tests) in
    ap (λ (y : Told). let x : Listed = record { begin = e; reported = y } in x)
    (ap (λ b. if b then reported_of (reading_of low e) else record { bits = filter_map (λ s. s.bit) (known_at (u + 1) (reading_of low e)).slots; ending = Open; at = u }) later
    ∙ sym (ap (λ b. if b then reported_of (reading_of low e) else record { bits = filter_map (λ s. s.bit) (known_at (t + 1) (reading_of low e)).slots; ending = Open; at = t }) now))

-- a reading that began by t
begun : (low : Line) (t u : ℕ) (keep : Listed → Bool) → Keeps low t u keep → t ≤ u → (n e : ℕ)
    → ReportsAlike (filter (has_ended low t) (readings_from low t n ((reading_of low e).until + 1))) (filter keep (readings_from low u n ((reading_of low e).until + 1)))
    → ReportsAlike (filter (has_ended low t) (reading_from low t e ∷ readings_from low t n ((reading_of low e).until + 1))) (filter keep (reading_from low u e ∷ readings_from low u n ((reading_of low e).until + 1)))
begun low t u keep k l n e ih = elim (cases_lt t (reading_of low e).at) [ inl lt ↦ yet lt | inr ge ↦ over ge ]
  where
    old : List Listed
    old = filter (has_ended low t) (readings_from low t n ((reading_of low e).until + 1))

    new : List Listed
    new = filter keep (readings_from low u n ((reading_of low e).until + 1))

    over : (reading_of low e).at ≤ t → ReportsAlike (filter (has_ended low t) (reading_from low t e ∷ readings_from low t n ((reading_of low e).until + 1))) (filter keep (reading_from low u e ∷ readings_from low u n ((reading_of low e).until + 1)))
    over m =
        let now : nat_le (reading_of low e).at t ≡ true = grind (arith, nat_tests) in
        alike_by _ (reading_from low t e ∷ old) _ (reading_from low t e ∷ new)
        (ap (λ b. if b then reading_from low t e ∷ old else old) now)
        (ap (λ b. if b then reading_from low u e ∷ new else new) (k.ended e m) ∙ ap (λ (x : Listed). x ∷ new) (same_reported low t u e l m))
        (alike_more (reading_from low t e) old new ih)

    yet : t < (reading_of low e).at → ReportsAlike (filter (has_ended low t) (reading_from low t e ∷ readings_from low t n ((reading_of low e).until + 1))) (filter keep (reading_from low u e ∷ readings_from low u n ((reading_of low e).until + 1)))
    yet m =
        let now : nat_le (reading_of low e).at t ≡ false = grind (arith, nat_tests) in
        let past : t < (reading_of low e).until + 1 = omega (arith, at_by low e, m) in
        let none : old ≡ [] = ap (filter (has_ended low t)) (none_left low t n ((reading_of low e).until + 1) past) in
        let nothing : new ≡ [] = none_reported low t u keep k n ((reading_of low e).until + 1) (λ v a b. absurd (omega (arith, a, b, past))) in
        alike_by _ [] _ (if keep (reading_from low u e) then reading_from low u e ∷ [] else [])
        (ap (λ b. if b then reading_from low t e ∷ old else old) now ∙ none)
        (ap (λ (xs : List Listed). if keep (reading_from low u e) then reading_from low u e ∷ xs else xs) nothing)
        (by_keep (keep (reading_from low u e)))
      where
        by_keep : (b : Bool) → ReportsAlike [] (if b then reading_from low u e ∷ [] else [])
        by_keep true = record { reported = Some (reading_from low u e); same = refl }
        by_keep false = record { reported = None; same = refl }

grows : (low : Line) (t u : ℕ) (keep : Listed → Bool) → Keeps low t u keep → t ≤ u → (n from : ℕ) → ReportsAlike (filter (has_ended low t) (readings_from low t n from)) (filter keep (readings_from low u n from))
unfolding readings_from
grows low t u keep k l zero from = record { reported = None; same = refl }
grows low t u keep k l (suc n) from = by_first (λ f. grows low t u keep k l n f) (first_in (is_fall low) from (t + 1 - from)) refl
  where
    by_first : ((f : ℕ) → ReportsAlike (filter (has_ended low t) (readings_from low t n f)) (filter keep (readings_from low u n f))) → (o : Option ℕ) → first_in (is_fall low) from (t + 1 - from) ≡ o
        → ReportsAlike (filter (has_ended low t) (listed_on low t (first_in (is_fall low) from (t + 1 - from)) (readings_from low t n))) (filter keep (listed_on low u (first_in (is_fall low) from (u + 1 - from)) (readings_from low u n)))
    by_first ih None h =
        alike_by _ [] _ [] (ap (λ o. filter (has_ended low t) (listed_on low t o (readings_from low t n))) h)
        (none_reported low t u keep k (suc n) from (λ v a b. found_none (is_fall low) from (t + 1 - from) h v a (omega (arith, a, b))))
        (record { reported = None; same = refl })
    by_first ih (Some e) h =
        let later : first_in (is_fall low) from (u + 1 - from) ≡ Some e = first_in_longer (is_fall low) from (t + 1 - from) (u + 1 - from) e (omega (arith, l)) h in
        alike_by _ (filter (has_ended low t) (reading_from low t e ∷ readings_from low t n ((reading_of low e).until + 1))) _ (filter keep (reading_from low u e ∷ readings_from low u n ((reading_of low e).until + 1)))
        (ap (λ o. filter (has_ended low t) (listed_on low t o (readings_from low t n))) h)
        (ap (λ o. filter keep (listed_on low u o (readings_from low u n))) later)
        (begun low t u keep k l n e (ih ((reading_of low e).until + 1)))

-- ---- more steps than needed tell no more

enough : (low : Line) (t n m from : ℕ) → t + 1 ≤ n + from → t + 1 ≤ m + from → readings_from low t n from ≡ readings_from low t m from
enough low t n m from l k = one_from low t m from (readings_from low t n from) k (has_from low t n from l)

pub keep_all : (xs : List Listed) → filter (λ x. true) xs ≡ xs
keep_all [] = refl
keep_all (x ∷ xs) = ap (λ ys. x ∷ ys) (keep_all xs)

by_edge : (low : Line) (t u : ℕ) → t ≤ u → ((v : ℕ) → t < v → v < u → is_fall low v ≡ false) → Keeps low t u (has_ended low u)
by_edge low t u l q = record {
  ended = λ e m. grind (arith, nat_tests);
  new = λ v a b f. elim (cases_lt v u) [
    | inl lt ↦ (let x : true ≡ false = sym f ∙ q v a lt in cc)
    | inr ge ↦ (let x = ends_after low v in grind (arith, nat_tests))
  ];
}

by_finish : (low : Line) (t u : ℕ) → ((v : ℕ) → t < v → v ≤ u → is_fall low v ≡ false) → Keeps low t u (λ x. true)
by_finish low t u q = record {
  ended = λ e m. refl;
  new = λ v a b f. (let x : true ≡ false = sym f ∙ q v a b in cc);
}

pub ends_one_by_one : EndOneByOne
ends_one_by_one = record {
  edge = λ low t u l q. (
      let g = grows low t u (has_ended low u) (by_edge low t u l q) l (u + 1) 0 in
      let s : readings_from low t (u + 1) 0 ≡ readings_of low t = enough low t (u + 1) (t + 1) 0 (omega (arith, l)) (omega arith) in
      (g.reported, g.same ∙ ap (λ (xs : List Listed). filter (has_ended low t) xs ++ option_to_list g.reported) s));
  finish = λ low t u l q. (
      let g = grows low t u (λ x. true) (by_finish low t u q) l (u + 1) 0 in
      let s : readings_from low t (u + 1) 0 ≡ readings_of low t = enough low t (u + 1) (t + 1) 0 (omega (arith, l)) (omega arith) in
      (g.reported, sym (keep_all (readings_of low u)) ∙ g.same ∙ ap (λ (xs : List Listed). filter (has_ended low t) xs ++ option_to_list g.reported) s));
}
