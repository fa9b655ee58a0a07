-- Lists of which some elements go, and what is none of them.
use Rattle.std.proofs.Common.{◌≡◌, ◌∙◌, refl, sym, ap, ap₂, Bool, true, false, ◌||◌, ◌&&◌, not, cond, List, [], ◌∷◌, ◌++◌, map, flat_map, Option, Some, None}
use Rattle.std.specs.List.{filter, find, list_any}

-- what holds of both
pub choose : {X : Type 0} (P : X → Type 0) (c : Bool) (x y : X) → (c ≡ true → P x) → (c ≡ false → P y) → P (cond c x y)
choose P true x y f g = f refl
choose P false x y f g = g refl

-- ---- none passes

pub none_or : (a b : Bool) → a ≡ false → b ≡ false → (a || b) ≡ false
none_or true b e f = let no : ⊥ = cc in absurd no
none_or false b e f = f

other_none : (a b c : Bool) → (a || b) ≡ false → (b ≡ false → c ≡ false) → (a || c) ≡ false
other_none true b c e g = e
other_none false b c e g = g e

pub none_joined : {X : Type 0} (p : X → Bool) (xs ys : List X) → list_any p xs ≡ false → list_any p ys ≡ false → list_any p (xs ++ ys) ≡ false
none_joined p [] ys e f = f
none_joined p (x ∷ xs) ys e f = other_none (p x) (list_any p xs) (list_any p (xs ++ ys)) e (λ k. none_joined p xs ys k f)

-- each list that is joined has none
pub none_flat : {X Y : Type 0} (p : Y → Bool) (f : X → List Y) (g : X → X) → ((x : X) → list_any p (f (g x)) ≡ false) → (xs : List X) → list_any p (flat_map f (map g xs)) ≡ false
none_flat p f g h [] = refl
none_flat p f g h (x ∷ xs) = none_joined p (f (g x)) (flat_map f (map g xs)) (h x) (none_flat p f g h xs)

pub none_left : {X Y : Type 0} (p : Y → Bool) (f : X → List Y) (q : X → Bool) (g : X → X) → ((x : X) → list_any p (f (g x)) ≡ false) → (xs : List X)
    → list_any p (flat_map f (map g (filter q xs))) ≡ false
none_left p f q g h xs = none_flat p f g h (filter q xs)

-- the same of single elements
pub none_mapped : {X : Type 0} (p : X → Bool) (g : X → X) → ((x : X) → p (g x) ≡ false) → (xs : List X) → list_any p (map g xs) ≡ false
none_mapped p g h [] = refl
none_mapped p g h (x ∷ xs) = none_or (p (g x)) (list_any p (map g xs)) (h x) (none_mapped p g h xs)

pub none_of : {X : Type 0} (p : X → Bool) (q : X → Bool) (g : X → X) → ((x : X) → p (g x) ≡ false) → (xs : List X) → list_any p (map g (filter q xs)) ≡ false
none_of p q g h xs = none_mapped p g h (filter q xs)

not_kept : (a b : Bool) → a ≡ b → not b ≡ true → a ≡ false
not_kept a true e k = let no : ⊥ = cc in absurd no
not_kept a false e k = e

-- those that are kept pass no test that what goes passes
pub none_kept : {X : Type 0} (p q : X → Bool) → ((x : X) → p x ≡ q x) → (xs : List X) → list_any p (filter (λ x. not (q x)) xs) ≡ false
none_kept p q h [] = refl
none_kept {X} p q h (x ∷ xs) =
    choose (λ (l : List X). list_any p l ≡ false) (not (q x)) (x ∷ filter (λ y. not (q y)) xs) (filter (λ y. not (q y)) xs)
    (λ e. none_or (p x) (list_any p (filter (λ y. not (q y)) xs)) (not_kept (p x) (q x) (h x) e) (none_kept p q h xs)) (λ e. none_kept p q h xs)

pub found_kept : {X : Type 0} (t k : X → Bool) (xs : List X) (x : X) → find t (filter k xs) ≡ Some x → k x ≡ true
found_kept t k [] x = λ e. (let no : ⊥ = cc in absurd no)
found_kept {X} t k (y ∷ ys) x =
    choose (λ (l : List X). find t l ≡ Some x → k x ≡ true) (k y) (y ∷ filter k ys) (filter k ys)
    (λ kept. choose (λ (o : Option X). o ≡ Some x → k x ≡ true) (t y) (Some y) (find t (filter k ys))
    (λ passes e. let same : y ≡ x = cc in ap k (sym same) ∙ kept) (λ fails e. found_kept t k ys x e))
    (λ gone e. found_kept t k ys x e)

-- ---- a test that is of others alike

pub any_mapped : {X Y : Type 0} (p : Y → Bool) (g : X → Y) (xs : List X) → list_any p (map g xs) ≡ list_any (λ x. p (g x)) xs
any_mapped p g [] = refl
any_mapped p g (x ∷ xs) = ap (λ (b : Bool). p (g x) || b) (any_mapped p g xs)

pub any_alike : {X : Type 0} (p q : X → Bool) → ((x : X) → p x ≡ q x) → (xs : List X) → list_any p xs ≡ list_any q xs
any_alike p q h [] = refl
any_alike p q h (x ∷ xs) = ap₂ (λ (a b : Bool). a || b) (h x) (any_alike p q h xs)

-- a test of what is left, by what stands for it, which nothing that goes passes
pub any_left : {X Y : Type 0} (p : X → Bool) (u : Y → Bool) (q : X → Bool) (g : X → Y) → ((x : X) → u (g x) ≡ p x) → ((x : X) → q x ≡ false → p x ≡ false) → (xs : List X)
    → list_any u (map g (filter q xs)) ≡ list_any p xs
any_left p u q g h void [] = refl
any_left {X} {Y} p u q g h void (x ∷ xs) =
    choose (λ (l : List X). list_any u (map g l) ≡ (p x || list_any p xs)) (q x) (x ∷ filter q xs) (filter q xs)
    (λ e. ap₂ (λ (a b : Bool). a || b) (h x) (any_left p u q g h void xs))
    (λ e. any_left p u q g h void xs ∙ sym (ap (λ (a : Bool). a || list_any p xs) (void x e)))
