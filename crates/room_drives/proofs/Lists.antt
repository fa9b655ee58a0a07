-- Elements of lists.
use Rattle.std.proofs.Common.{◌≡◌, Bool, true, false, suc, ◌||◌, List, [], ◌∷◌, inl, inr, refl, arith, ap, ◌∙◌, sym, subst}
use Rattle.std.specs.List.{list_any, All}
use Rattle.line_rounds.specs.Elements.{In}

-- a list with an element that passes has one that passes
pub any_in : {X : Type 0} (p : X → Bool) (xs : List X) (x : X) → In x xs → p x ≡ true → list_any p xs ≡ true
any_in p [] x h e = absurd h
any_in p (y ∷ ys) x (inl s) e = let f : p y ≡ true = ap p (sym s) ∙ e in rw f refl
any_in p (y ∷ ys) x (inr h) e = or_right (p y) (list_any p ys) (any_in p ys x h e)
  where
    or_right : (a b : Bool) → b ≡ true → (a || b) ≡ true
    or_right true b g = refl
    or_right false b g = g

-- what holds of each holds of an element
pub all_in : {X : Type 0} (P : X → Type 0) (xs : List X) → All P xs → (x : X) → In x xs → P x
all_in P [] h x i = absurd i
all_in P (y ∷ ys) h x (inl e) = subst P (sym e) (h 0 x (omega arith))
all_in P (y ∷ ys) h x (inr i) = all_in P ys (λ k d l. h (suc k) d (omega arith)) x i
