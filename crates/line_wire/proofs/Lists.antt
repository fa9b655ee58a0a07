-- Elements of lists.
use Rattle.std.proofs.Common.{◌≡◌, suc, List, [], ◌∷◌, inl, inr, arith, sym, subst}
use Rattle.std.specs.List.{All}
use Rattle.line_rounds.specs.Elements.{In}

-- what holds of each holds of an element
pub all_in : {X : Type 0} (P : X → Type 0) (xs : List X) → All P xs → (x : X) → In x xs → P x
all_in P [] h x i = absurd i
all_in P (y ∷ ys) h x (inl e) = subst P (sym e) (h 0 x (omega arith))
all_in P (y ∷ ys) h x (inr i) = all_in P ys (λ k d l. h (suc k) d (omega arith)) x i
