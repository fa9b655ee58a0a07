-- What is among the elements of a list, and lists without an element twice.
use Rattle.std.proofs.Common.{◌≡◌, ℕ, zero, suc, Bool, true, false, ◌&&◌, cond, nat_lt, ◌⊎◌, inl, inr, Some, List, [], ◌∷◌, ◌++◌, map, refl, ap, sym, ◌∙◌, subst, arith}
use Rattle.std.proofs.lemmas.Bool.{ltb-true, and_parts}
use Rattle.std.specs.List.{filter, list_all, slice_get}
use Rattle.rules_check.specs.Laws.{IsAmong, NoneTwice}

-- ---- two lists, one after the other

pub among_left : {X : Type 0} (x : X) (xs ys : List X) → IsAmong x xs → IsAmong x (xs ++ ys)
among_left x [] ys h = absurd h
among_left x (y ∷ xs) ys (inl e) = inl e
among_left x (y ∷ xs) ys (inr k) = inr (among_left x xs ys k)

pub among_right : {X : Type 0} (x : X) (xs ys : List X) → IsAmong x ys → IsAmong x (xs ++ ys)
among_right x [] ys h = h
among_right x (y ∷ xs) ys h = inr (among_right x xs ys h)

pub among_cases : {X : Type 0} (x : X) (xs ys : List X) → IsAmong x (xs ++ ys) → IsAmong x xs ⊎ IsAmong x ys
among_cases x [] ys h = inr h
among_cases x (y ∷ xs) ys (inl e) = inl (inl e)
among_cases x (y ∷ xs) ys (inr k) = elim (among_cases x xs ys k) [ inl a ↦ inl (inr a) | inr b ↦ inr b ]

pub none_twice_append : {X : Type 0} (xs ys : List X) → NoneTwice xs → NoneTwice ys → ((x : X) → IsAmong x xs → IsAmong x ys → ⊥) → NoneTwice (xs ++ ys)
none_twice_append [] ys left right apart = right
none_twice_append (x ∷ xs) ys left right apart = (
  (λ h. elim (among_cases x xs ys h) [ inl k ↦ left.0 k | inr k ↦ apart x (inl refl) k ]),
  none_twice_append xs ys left.1 right (λ y k l. apart y (inr k) l),
)

-- ---- those that pass a test, named

kept_from : {A X : Type 0} (g : A → X) (v : Bool) (a : A) (as' : List A) (y : X) → IsAmong y (map g (cond v (a ∷ as') as')) → ((v ≡ true) × (y ≡ g a)) ⊎ IsAmong y (map g as')
kept_from g true a as' y (inl e) = inl (refl, e)
kept_from g true a as' y (inr k) = inr k
kept_from g false a as' y h = inr h

kept_first : {A X : Type 0} (g : A → X) (v : Bool) (a : A) (as' : List A) → v ≡ true → IsAmong (g a) (map g (cond v (a ∷ as') as'))
kept_first g true a as' e = inl refl
kept_first g false a as' e = let no : ⊥ = cc in absurd no

kept_later : {A X : Type 0} (g : A → X) (v : Bool) (a : A) (as' : List A) (y : X) → IsAmong y (map g as') → IsAmong y (map g (cond v (a ∷ as') as'))
kept_later g true a as' y h = inr h
kept_later g false a as' y h = h

kept_once : {A X : Type 0} (g : A → X) (v : Bool) (a : A) (as' : List A) → (IsAmong (g a) (map g as') → ⊥) → NoneTwice (map g as') → NoneTwice (map g (cond v (a ∷ as') as'))
kept_once g true a as' none rest = (none, rest)
kept_once g false a as' none rest = rest

pub passes_from : {A X : Type 0} (g : A → X) (p : A → Bool) → ((a b : A) → g a ≡ g b → a ≡ b) → (a : A) (as' : List A) → IsAmong (g a) (map g (filter p as')) → p a ≡ true
passes_from g p inj a [] h = absurd h
passes_from g p inj a (b ∷ as') h =
    elim (kept_from g (p b) b (filter p as') (g a) h) [ inl k ↦ ap p (inj a b k.1) ∙ k.0 | inr k ↦ passes_from g p inj a as' k ]

pub among_passing : {A X : Type 0} (g : A → X) (p : A → Bool) (a : A) (as' : List A) → IsAmong a as' → p a ≡ true → IsAmong (g a) (map g (filter p as'))
among_passing g p a [] h passes = absurd h
among_passing {A} {X} g p a (b ∷ as') (inl e) passes =
    let P : A → Type 0 = λ x. IsAmong (g x) (map g (filter p (b ∷ as'))) in
    subst P (sym e) (kept_first g (p b) b (filter p as') (ap p (sym e) ∙ passes))
among_passing g p a (b ∷ as') (inr k) passes = kept_later g (p b) b (filter p as') (g a) (among_passing g p a as' k passes)

among_kept : {A X : Type 0} (g : A → X) (p : A → Bool) → ((a b : A) → g a ≡ g b → a ≡ b) → (a : A) (as' : List A) → IsAmong (g a) (map g (filter p as')) → IsAmong a as'
among_kept g p inj a [] h = absurd h
among_kept g p inj a (b ∷ as') h =
    elim (kept_from g (p b) b (filter p as') (g a) h) [ inl k ↦ inl (inj a b k.1) | inr k ↦ inr (among_kept g p inj a as' k) ]

pub none_twice_passing : {A X : Type 0} (g : A → X) (p : A → Bool) → ((a b : A) → g a ≡ g b → a ≡ b) → (as' : List A) → NoneTwice as' → NoneTwice (map g (filter p as'))
none_twice_passing g p inj [] h = h
none_twice_passing g p inj (a ∷ as') h =
    kept_once g (p a) a (filter p as') (λ k. h.0 (among_kept g p inj a as' k)) (none_twice_passing g p inj as' h.1)

pub named : {A X : Type 0} (g : A → X) (y : X) (as' : List A) → IsAmong y (map g as') → (a : A) × (y ≡ g a)
named g y [] h = absurd h
named g y (a ∷ as') (inl e) = (a, e)
named g y (a ∷ as') (inr k) = named g y as' k

-- ---- tables

pub among_at : {X : Type 0} (x : X) (xs : List X) (place : ℕ) → slice_get xs place ≡ Some x → IsAmong x xs
among_at x [] place h = let no : ⊥ = cc in absurd no
among_at x (y ∷ xs) zero h = let e : x ≡ y = cc in inl e
among_at x (y ∷ xs) (suc place) h = inr (among_at x xs place h)

-- the number of each is below those of all after it
abbrev pub rises : {X : Type 0} → (X → ℕ) → List X → Bool
rises number [] = true
rises number (x ∷ xs) = list_all (λ y. nat_lt (number x) (number y)) xs && rises number xs

below_none : {X : Type 0} (number : X → ℕ) (x : X) (xs : List X) → list_all (λ y. nat_lt (number x) (number y)) xs ≡ true → IsAmong x xs → ⊥
below_none number x [] h k = k
below_none number x (y ∷ xs) h (inl e) =
    let below = ltb-true (number x) (number y) (and_parts (nat_lt (number x) (number y)) (list_all (λ z. nat_lt (number x) (number z)) xs) h).0 in
    let same = ap number e in
    omega (arith, below, same)
below_none number x (y ∷ xs) h (inr k) =
    below_none number x xs (and_parts (nat_lt (number x) (number y)) (list_all (λ z. nat_lt (number x) (number z)) xs) h).1 k

pub none_twice_rises : {X : Type 0} (number : X → ℕ) (xs : List X) → rises number xs ≡ true → NoneTwice xs
none_twice_rises number [] h = tt
none_twice_rises number (x ∷ xs) h =
    let parts = and_parts (list_all (λ y. nat_lt (number x) (number y)) xs) (rises number xs) h in
    ((λ k. below_none number x xs parts.0 k), none_twice_rises number xs parts.1)
