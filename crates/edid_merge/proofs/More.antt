-- One timing, and those after it.
use Rattle.std.proofs.Common.{◌≡◌, ◌∙◌, refl, sym, ap, ℕ, ◌-◌, ◌<◌, ◌≤◌, Bool, true, false, nat_lt, cond, arith, tests, List, [], ◌∷◌, ◌++◌, length, get_or, drop, flat_map, append_assoc}
use Rattle.edid_base.specs.Timing.{timing_bytes}
use Rattle.edid_base.specs.declared.timing.Timing.{Timing}
use Rattle.edid_merge.specs.Merge.{fitting}

all_more : {X : Type 0} (f : X → List ℕ) (xs : List X) (x none : X) → 1 ≤ length xs → x ≡ get_or xs 0 none → flat_map f xs ≡ f x ++ flat_map f (drop 1 xs)
all_more f [] x none h e = absurd (omega arith)
all_more f (y ∷ ys) x none h e = ap (λ k. f k ++ flat_map f ys) (sym e)

-- what was added, and then the rest
added : (old mid new first rest all : List ℕ) → all ≡ first ++ rest → mid ≡ old ++ first → new ≡ mid ++ rest → new ≡ old ++ all
added old mid new first rest all a b c = c ∙ ap (λ (k : List ℕ). k ++ rest) b ∙ append_assoc old first rest ∙ ap (λ (k : List ℕ). old ++ k) (sym a)

pub timings_more : (ts : List Timing) (t none : Timing) (old mid new : List ℕ) → 1 ≤ length ts → t ≡ get_or ts 0 none → mid ≡ old ++ timing_bytes t
    → new ≡ mid ++ flat_map timing_bytes (drop 1 ts) → new ≡ old ++ flat_map timing_bytes ts
timings_more ts t none old mid new h e first rest =
    added old mid new (timing_bytes t) (flat_map timing_bytes (drop 1 ts)) (flat_map timing_bytes ts) (all_more timing_bytes ts t none h e) first rest

fitting_by : (room : ℕ) (ts : List Timing) (t none : Timing) → 1 ≤ length ts → t ≡ get_or ts 0 none → 18 ≤ room → fitting room ts ≡ timing_bytes t ++ fitting (room - 18) (drop 1 ts)
fitting_by room [] t none h e r = absurd (omega arith)
fitting_by room (x ∷ xs) t none h e r = by (nat_lt room 18) refl
  where
    by : (v : Bool) → nat_lt room 18 ≡ v → cond v [] (timing_bytes x ++ fitting (room - 18) xs) ≡ timing_bytes t ++ fitting (room - 18) xs
    by true f = let less : room < 18 = grind (arith, tests, f) in absurd (omega (arith, less, r))
    by false f = ap (λ (k : Timing). timing_bytes k ++ fitting (room - 18) xs) (sym e)

pub fitting_more : (room : ℕ) (ts : List Timing) (t none : Timing) (old mid new : List ℕ) → 1 ≤ length ts → t ≡ get_or ts 0 none → 18 ≤ room → mid ≡ old ++ timing_bytes t
    → new ≡ mid ++ fitting (room - 18) (drop 1 ts) → new ≡ old ++ fitting room ts
fitting_more room ts t none old mid new h e r first rest =
    added old mid new (timing_bytes t) (fitting (room - 18) (drop 1 ts)) (fitting room ts) (fitting_by room ts t none h e r) first rest
