-- The parts of two EDIDs side by side (own): those of one kind in their order.
use Rattle.std.specs.Prelude.{ℕ, ◌==◌, nat_lt, Bool, not, ◌&&◌, ◌||◌, if◌then◌else◌, List, [], ◌∷◌, map, Option, Some, None}
use Rattle.std.specs.List.{list_any}
use Rattle.edid_difference.specs.declared.part.Part.{Part}

-- a part of the first EDID alone, a part of the second alone, or one of each
abbrev pub Entry : Type 0
Entry = Option Part × Option Part

abbrev pub lone_first : Part → Entry
lone_first x = (Some x, None)

abbrev pub lone_second : Part → Entry
lone_second y = (None, Some y)

abbrev pub both_of : Part → Part → Entry
both_of x y = (Some x, Some y)

abbrev pub has_kind : ℕ → List Part → Bool
has_kind kind parts = list_any (λ p. p.kind == kind) parts

-- Of two parts of different kinds the one is alone whose kind does not come later in the other EDID; where both come, or neither, the
-- one of the lesser kind. By whether the kind of the first one comes in the second EDID, and the other way round.
abbrev pub is_lone : Bool → Bool → Bool → Bool
is_lone first second less = (second && not first) || ((not (first && not second)) && less)

abbrev pub is_first_lone : Part → List Part → Part → List Part → Bool
is_first_lone x xs y ys = is_lone (has_kind x.kind ys) (has_kind y.kind xs) (nat_lt x.kind y.kind)

-- a part of the first EDID, and those after it, with `rest` for how these stand beside parts of the second
abbrev pub aligned_from : Part → List Part → (List Part → List Entry) → List Part → List Entry
aligned_from x xs rest [] = map lone_first (x ∷ xs)
aligned_from x xs rest (y ∷ ys) =
    if x.kind == y.kind then both_of x y ∷ rest ys
    else if is_first_lone x xs y ys then lone_first x ∷ rest (y ∷ ys)
    else lone_second y ∷ aligned_from x xs rest ys

-- THE alignment
abbrev pub aligned : List Part → List Part → List Entry
aligned [] ys = map lone_second ys
aligned (x ∷ xs) ys = aligned_from x xs (aligned xs) ys
