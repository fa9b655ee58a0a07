-- Elements of lists.
use Rattle.std.proofs.Common.{◌≡◌, ℕ, ◌≤◌, Bool, true, false, suc, ◌||◌, if◌then◌else◌, List, [], ◌∷◌, inl, inr, refl, arith, ap, ◌∙◌, sym, subst}
use Rattle.std.specs.List.{list_any, filter, All}
use Rattle.line_rounds.specs.Elements.{In}
use Rattle.line_reading.specs.Reading.{Slot}
use Rattle.line_rounds.specs.Reached.{AreOver}
use Rattle.line_reading.specs.Known.{AreSampled}

-- of a list with one that passes an element passes
pub in_any : {X : Type 0} (p : X → Bool) (xs : List X) → list_any p xs ≡ true → (x : X) × In x xs × (p x ≡ true)
in_any p [] h = cc
in_any {X} p (y ∷ ys) h = step (p y) refl h (λ g. in_any p ys g)
  where
    step : (b : Bool) → p y ≡ b → (b || list_any p ys) ≡ true → (list_any p ys ≡ true → (x : X) × In x ys × (p x ≡ true)) → (x : X) × In x (y ∷ ys) × (p x ≡ true)
    step true e g r = (y, inl refl, e)
    step false e g r = let q = r g in (q.0, inr q.1, q.2)

-- what passes a filter stands in the list, and passes
pub in_filter : {X : Type 0} (test : X → Bool) (xs : List X) (x : X) → In x (filter test xs) → In x xs × (test x ≡ true)
in_filter test [] x h = absurd h
in_filter {X} test (y ∷ ys) x h = step (test y) refl h (λ g. in_filter test ys x g)
  where
    step : (b : Bool) → test y ≡ b → In x (if b then y ∷ filter test ys else filter test ys) → (In x (filter test ys) → In x ys × (test x ≡ true)) → In x (y ∷ ys) × (test x ≡ true)
    step true e (inl s) r = (inl s, ap test s ∙ e)
    step true e (inr g) r = let q = r g in (inr q.0, q.1)
    step false e h r = let q = r h in (inr q.0, q.1)

-- what holds of each holds of an element
pub all_in : {X : Type 0} (P : X → Type 0) (xs : List X) → All P xs → (x : X) → In x xs → P x
all_in P [] h x i = absurd i
all_in P (y ∷ ys) h x (inl e) = subst P (sym e) (h 0 x (omega arith))
all_in P (y ∷ ys) h x (inr i) = all_in P ys (λ k d l. h (suc k) d (omega arith)) x i

-- slots that are over are sampled
pub over_sampled : (e t : ℕ) (ss : List Slot) → e ≤ t → AreOver e ss → AreSampled t ss
over_sampled e t [] h o = tt
over_sampled e t (s ∷ ss) h o = (omega (arith, o.0), over_sampled e t ss h o.1)
