-- Of lawful pieces each frame is in order.
use Rattle.std.proofs.Common.{◌≡◌, ℕ, Bool, true, false, ◌&&◌, if◌then◌else◌, [], ◌∷◌, refl, ◌∙◌, ap}
use Rattle.std.specs.List.{list_all}
use Rattle.audit_widths.specs.Spreads.{sum_of}
use Rattle.capture_signs.specs.Pieces.{LawfulFramesAreInOrder, count_where, is_frame, is_in_order, is_lawful, is_mid, is_ordered}
use Rattle.capture_signs.specs.Sums.{one_if}

front : (a b : Bool) → (a && b) ≡ true → a ≡ true
front true b e = refl
front false b e = e

back : (a b : Bool) → (a && b) ≡ true → b ≡ true
back true b e = e
back false b e = absurd cc

-- of one that is no frame none is in order
same_if : (f o m : Bool) → (if f then (f && o) else m) ≡ true → one_if (f && o) ≡ one_if f
same_if true o m e = ap one_if e
same_if false o m e = refl

pub lawful_same : LawfulFramesAreInOrder
lawful_same [] h = refl
lawful_same (p ∷ ps) h =
    ap (λ (n : ℕ). sum_of n (count_where is_in_order ps)) (same_if (is_frame p) (is_ordered p) (is_mid p.ending) (front (is_lawful p) (list_all is_lawful ps) h))
    ∙ ap (λ (n : ℕ). sum_of (one_if (is_frame p)) n) (lawful_same ps (back (is_lawful p) (list_all is_lawful ps) h))
