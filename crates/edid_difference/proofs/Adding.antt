-- Records, one after another.
use Rattle.std.proofs.Common.{◌≡◌, refl, sym, ap, subst, ◌∙◌, arith, ℕ, ◌+◌, ◌≤◌, ◌==◌, ◌||◌, Bool, true, false, cond, List, [], ◌∷◌, ◌++◌, drop, length, get_or, slice_get, map, flat_map, Some, None}
use Rattle.std.proofs.lemmas.Bool.{ne_eqb}
use Rattle.std.proofs.lemmas.Grind.{flat_map-append}
use Rattle.std.specs.Fmt.{decimal}
use Rattle.edid_text_lines.specs.declared.line.Keyword.{Keyword}
use Rattle.text_core.specs.Adds.{Adds, Tally}
use Rattle.text_core.proofs.Adding.{nothing, then}
use Rattle.edid_difference.specs.Alignment.{Entry, aligned, both_of, has_kind, is_first_lone, lone_first, lone_second}
use Rattle.edid_difference.specs.Values.{Change, change, name_at, number_changes}
use Rattle.edid_difference.specs.declared.part.Part.{Part}

-- a list by its first and the others
pub by_first : {X : Type 0} (xs rest : List X) (x : X) → slice_get xs 0 ≡ Some x → drop 1 xs ≡ rest → xs ≡ x ∷ rest
by_first [] rest x h e = cc
by_first (y ∷ xs) rest x h e = let same : y ≡ x = cc in ap (λ z. z ∷ xs) same ∙ ap (λ zs. x ∷ zs) e

pub no_first : {X : Type 0} (xs : List X) → slice_get xs 0 ≡ None → xs ≡ []
no_first [] h = refl
no_first (x ∷ xs) h = cc

-- whether a kind comes, by the first
pub kind_first : (kind : ℕ) (xs rest : List Part) (x : Part) → slice_get xs 0 ≡ Some x → drop 1 xs ≡ rest → (x.kind == kind) ≡ true → has_kind kind xs ≡ true
kind_first kind xs rest x h e k = ap (has_kind kind) (by_first xs rest x h e) ∙ ap (λ v. v || has_kind kind rest) k

pub kind_later : (kind : ℕ) (xs rest : List Part) (x : Part) → slice_get xs 0 ≡ Some x → drop 1 xs ≡ rest → (x.kind == kind) ≡ false → has_kind kind xs ≡ has_kind kind rest
kind_later kind xs rest x h e k = ap (has_kind kind) (by_first xs rest x h e) ∙ ap (λ v. v || has_kind kind rest) k

pub kind_never : (kind : ℕ) (xs : List Part) → slice_get xs 0 ≡ None → has_kind kind xs ≡ false
kind_never kind xs h = ap (has_kind kind) (no_first xs h)

no_seconds : (xs : List Part) → aligned xs [] ≡ map lone_first xs
no_seconds [] = refl
no_seconds (x ∷ xs) = refl

-- What is told of the first parts of two lists, and then of the others.
module _ (T : Entry → List ℕ) where
  pub second_more : (ys rest : List Part) (y : Part) (a b c : Tally) → slice_get ys 0 ≡ Some y → drop 1 ys ≡ rest → Adds a b (T (lone_second y))
      → Adds b c (flat_map T (map lone_second rest)) → Adds a c (flat_map T (map lone_second ys))
  second_more ys rest y a b c h e one more =
      subst (λ (zs : List Part). Adds a c (flat_map T (map lone_second zs))) (sym (by_first ys rest y h e)) (then a b c (T (lone_second y)) (flat_map T (map lone_second rest)) one more)

  pub seconds_done : (ys : List Part) (a : Tally) → slice_get ys 0 ≡ None → Adds a a (flat_map T (map lone_second ys))
  seconds_done ys a h = subst (λ (zs : List Part). Adds a a (flat_map T (map lone_second zs))) (sym (no_first ys h)) (nothing a)

  pub both_first : (xs ys xs' ys' : List Part) (x y : Part) (a b c : Tally) → slice_get xs 0 ≡ Some x → drop 1 xs ≡ xs' → slice_get ys 0 ≡ Some y → drop 1 ys ≡ ys'
      → (x.kind == y.kind) ≡ true → Adds a b (T (both_of x y)) → Adds b c (flat_map T (aligned xs' ys')) → Adds a c (flat_map T (aligned xs ys))
  both_first xs ys xs' ys' x y a b c h e i f same one more =
      let other : List Entry = cond (is_first_lone x xs' y ys') (lone_first x ∷ aligned xs' (y ∷ ys')) (lone_second y ∷ aligned (x ∷ xs') ys') in
      let step : aligned (x ∷ xs') (y ∷ ys') ≡ both_of x y ∷ aligned xs' ys' = ap (λ v. cond v (both_of x y ∷ aligned xs' ys') other) same in
      let whole : aligned xs ys ≡ both_of x y ∷ aligned xs' ys' = ap (λ zs. aligned zs ys) (by_first xs xs' x h e) ∙ ap (aligned (x ∷ xs')) (by_first ys ys' y i f) ∙ step in
      subst (λ (es : List Entry). Adds a c (flat_map T es)) (sym whole) (then a b c (T (both_of x y)) (flat_map T (aligned xs' ys')) one more)

  pub first_alone : (xs ys xs' ys' : List Part) (x y : Part) (a b c : Tally) → slice_get xs 0 ≡ Some x → drop 1 xs ≡ xs' → slice_get ys 0 ≡ Some y → drop 1 ys ≡ ys'
      → (x.kind == y.kind) ≡ false → is_first_lone x xs' y ys' ≡ true → Adds a b (T (lone_first x)) → Adds b c (flat_map T (aligned xs' ys)) → Adds a c (flat_map T (aligned xs ys))
  first_alone xs ys xs' ys' x y a b c h e i f same lone one more =
      let other : List Entry = lone_second y ∷ aligned (x ∷ xs') ys' in
      let step : aligned (x ∷ xs') (y ∷ ys') ≡ lone_first x ∷ aligned xs' (y ∷ ys') =
      ap (λ v. cond v (both_of x y ∷ aligned xs' ys') (cond (is_first_lone x xs' y ys') (lone_first x ∷ aligned xs' (y ∷ ys')) other)) same
      ∙ ap (λ v. cond v (lone_first x ∷ aligned xs' (y ∷ ys')) other) lone in
      let whole : aligned xs ys ≡ lone_first x ∷ aligned xs' ys =
      ap (λ zs. aligned zs ys) (by_first xs xs' x h e) ∙ ap (aligned (x ∷ xs')) (by_first ys ys' y i f) ∙ step
      ∙ ap (λ zs. lone_first x ∷ aligned xs' zs) (sym (by_first ys ys' y i f)) in
      subst (λ (es : List Entry). Adds a c (flat_map T es)) (sym whole) (then a b c (T (lone_first x)) (flat_map T (aligned xs' ys)) one more)

  pub second_alone : (xs ys xs' ys' : List Part) (x y : Part) (a b c : Tally) → slice_get xs 0 ≡ Some x → drop 1 xs ≡ xs' → slice_get ys 0 ≡ Some y → drop 1 ys ≡ ys'
      → (x.kind == y.kind) ≡ false → is_first_lone x xs' y ys' ≡ false → Adds a b (T (lone_second y)) → Adds b c (flat_map T (aligned xs ys')) → Adds a c (flat_map T (aligned xs ys))
  second_alone xs ys xs' ys' x y a b c h e i f same lone one more =
      let other : List Entry = lone_second y ∷ aligned (x ∷ xs') ys' in
      let step : aligned (x ∷ xs') (y ∷ ys') ≡ other =
      ap (λ v. cond v (both_of x y ∷ aligned xs' ys') (cond (is_first_lone x xs' y ys') (lone_first x ∷ aligned xs' (y ∷ ys')) other)) same
      ∙ ap (λ v. cond v (lone_first x ∷ aligned xs' (y ∷ ys')) other) lone in
      let whole : aligned xs ys ≡ lone_second y ∷ aligned xs ys' =
      ap (λ zs. aligned zs ys) (by_first xs xs' x h e) ∙ ap (aligned (x ∷ xs')) (by_first ys ys' y i f) ∙ step
      ∙ ap (λ zs. lone_second y ∷ aligned zs ys') (sym (by_first xs xs' x h e)) in
      subst (λ (es : List Entry). Adds a c (flat_map T es)) (sym whole) (then a b c (T (lone_second y)) (flat_map T (aligned xs ys')) one more)

  -- the second list has no more
  pub first_last : (xs ys xs' : List Part) (x : Part) (a b c : Tally) → slice_get xs 0 ≡ Some x → drop 1 xs ≡ xs' → slice_get ys 0 ≡ None
      → Adds a b (T (lone_first x)) → Adds b c (flat_map T (aligned xs' ys)) → Adds a c (flat_map T (aligned xs ys))
  first_last xs ys xs' x a b c h e i one more =
      let none = no_first ys i in
      let rest : aligned xs' ys ≡ map lone_first xs' = ap (aligned xs') none ∙ no_seconds xs' in
      let whole : aligned xs ys ≡ lone_first x ∷ aligned xs' ys =
      ap (λ zs. aligned zs ys) (by_first xs xs' x h e) ∙ ap (aligned (x ∷ xs')) none ∙ ap (λ es. lone_first x ∷ es) (sym rest) in
      subst (λ (es : List Entry). Adds a c (flat_map T es)) (sym whole) (then a b c (T (lone_first x)) (flat_map T (aligned xs' ys)) one more)

  -- the first list has no more
  pub seconds_last : (xs ys : List Part) (a b : Tally) → slice_get xs 0 ≡ None → Adds a b (flat_map T (map lone_second ys)) → Adds a b (flat_map T (aligned xs ys))
  seconds_last xs ys a b h adds = subst (λ (zs : List Part). Adds a b (flat_map T (aligned zs ys))) (sym (no_first xs h)) adds

-- the values of a line one by one, where they are
pub told_apart : {X : Type 0} (T : X → List ℕ) (test : Bool) (numbers rest whole : List X) (a b c : Tally) → test ≡ true → Adds a b (flat_map T numbers) → Adds b c (flat_map T rest)
    → Adds a c (flat_map T (cond test (numbers ++ rest) whole))
told_apart T test numbers rest whole a b c e one more =
    let parts : flat_map T (cond test (numbers ++ rest) whole) ≡ flat_map T numbers ++ flat_map T rest =
    ap (λ v. flat_map T (cond v (numbers ++ rest) whole)) e ∙ flat_map-append T numbers rest in
    subst (λ (t : List ℕ). Adds a c t) (sym parts) (then a b c (flat_map T numbers) (flat_map T rest) one more)

-- numbers that differ
pub number_differs : (T : Change → List ℕ) (word : Keyword) (i : ℕ) (xs ys : List ℕ) (a b c : Tally) → 1 ≤ length xs → 1 ≤ length ys → (get_or xs 0 0 ≡ get_or ys 0 0 → ⊥)
    → Adds a b (T (change (name_at word i) (decimal (get_or xs 0 0)) (decimal (get_or ys 0 0)))) → Adds b c (flat_map T (number_changes word (i + 1) (drop 1 xs) (drop 1 ys)))
    → Adds a c (flat_map T (number_changes word i xs ys))
number_differs T word i [] ys a b c h k differs one more = absurd (omega (arith, h))
number_differs T word i (x ∷ xs) [] a b c h k differs one more = absurd (omega (arith, k))
number_differs T word i (x ∷ xs) (y ∷ ys) a b c h k differs one more =
    let rest : List Change = number_changes word (i + 1) xs ys in
    let told : Change = change (name_at word i) (decimal x) (decimal y) in
    let step : number_changes word i (x ∷ xs) (y ∷ ys) ≡ told ∷ rest = ap (λ v. cond v rest (told ∷ rest)) (ne_eqb x y differs) in
    subst (λ (cs : List Change). Adds a c (flat_map T cs)) (sym step) (then a b c (T told) (flat_map T rest) one more)
