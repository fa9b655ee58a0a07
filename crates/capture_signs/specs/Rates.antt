-- How far samples of a captured line are apart (own): all of its edges stand at multiples of that from each other.
use Rattle.std.specs.Prelude.{ℕ, ◌-◌, ◌%◌, ◌==◌, Bool, true, ◌&&◌, List, [], ◌∷◌, Option, option_map}
use Rattle.line_wave.specs.declared.Edge.{Edge}
use Rattle.line_reading.specs.Reading.{first_in}

-- the time to the next edge
abbrev pub begins_multiple : ℕ → List Edge → Bool
begins_multiple g [] = true
begins_multiple g (e ∷ []) = true
begins_multiple g (e ∷ f ∷ es) = (f.at - e.at) % g == 0

abbrev pub are_multiples : ℕ → List Edge → Bool
are_multiples g [] = true
are_multiples g (e ∷ es) = begins_multiple g (e ∷ es) && are_multiples g es

-- A 1 is low for 800 at most, and a 0 for 1,300 at least (CEC 5.2.2). Samples of the line that are 250 apart at most tell them by the level at
-- 1,050; those that are further apart do not.
abbrev pub finest_coarse : ℕ
finest_coarse = 251

abbrev pub coarsest : ℕ
coarsest = 1000

-- the greatest of these
abbrev pub coarse_rate : List Edge → Option ℕ
coarse_rate edges = option_map (λ k. coarsest - k) (first_in (λ k. are_multiples (coarsest - k) edges) 0 750)
