-- The first of a list of what may be there (own).
use Rattle.std.specs.Prelude.{List, [], ◌∷◌, Option, Some, None}

abbrev pub or_else : {X : Type 0} → Option X → Option X → Option X
or_else None later = later
or_else (Some x) later = Some x

abbrev pub first_some : {X : Type 0} → List (Option X) → Option X
first_some [] = None
first_some (x ∷ xs) = or_else x (first_some xs)

abbrev pub value_or : {X : Type 0} → X → Option X → X
value_or other None = other
value_or other (Some x) = x
