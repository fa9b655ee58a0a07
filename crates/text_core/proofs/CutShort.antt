use Rattle.std.proofs.Common.{◌≡◌, ℕ, ◌+◌, ◌<◌, ◌≤◌, suc, List, ◌++◌, length, take, drop, get_or, Option, refl, sym, ap, ◌∙◌, arith, drop-cons}
use Rattle.std.specs.List.{flat_map}
use Rattle.std.specs.Io.KnownBytes.{Appends}
use Rattle.std.proofs.lemmas.Grind.{flat_map-append}
use Rattle.std.proofs.lemmas.List.{take-append-le, take-append-drop}
use Rattle.std.proofs.lemmas.List.Folds.{length-flat_map-take}
use Rattle.std.proofs.KnownBytes.{Appends-trans}
use Rattle.std.proofs.Math.Seq.{take-append-add}

-- the parts before one, that one, and the parts after it
parted : {X : Type 0} (f : X → List ℕ) (ps : List X) (i : ℕ) (d : X) → i < length ps
    → flat_map f ps ≡ flat_map f (take i ps) ++ (f (get_or ps i d) ++ flat_map f (drop (suc i) ps))
parted f ps i d h =
    ap (flat_map f) (sym (take-append-drop i ps)) ∙ flat_map-append f (take i ps) (drop i ps)
    ∙ ap (λ l. flat_map f (take i ps) ++ flat_map f l) (drop-cons ps i d h)

-- a cut within a part
pub cut_in : {X : Type 0} (f : X → List ℕ) (ps : List X) (i k : ℕ) (d : X) → i < length ps → k < length (f (get_or ps i d))
    → take (length (flat_map f (take i ps)) + k) (flat_map f ps) ≡ flat_map f (take i ps) ++ take k (f (get_or ps i d))
cut_in f ps i k d h short =
    let low : k ≤ length (f (get_or ps i d)) = omega arith in
    ap (take (length (flat_map f (take i ps)) + k)) (parted f ps i d h)
    ∙ take-append-add (flat_map f (take i ps)) (f (get_or ps i d) ++ flat_map f (drop (suc i) ps)) k
    ∙ ap (λ l. flat_map f (take i ps) ++ l) (rw take-append-le refl)

-- the parts before are written, and then the front of one
pub cut_short : {X : Type 0} (f : X → List ℕ) (ps : List X) (i k n : ℕ) (d : X) (a b c : Option (List ℕ)) → i < length ps
    → n ≡ length (flat_map f (take i ps)) → k < length (f (get_or ps i d)) → Appends a b (flat_map f (take i ps)) → Appends b c (take k (f (get_or ps i d)))
    → (n + k < length (flat_map f ps)) × Appends a c (take (n + k) (flat_map f ps))
cut_short f ps i k n d a b c h e short first second = (
  omega (arith, length-flat_map-take f ps i d h),
  rw (e, cut_in f ps i k d h short) (Appends-trans a b c _ _ first second),
)
