-- Steps of a line that passes.
use Rattle.std.proofs.Common.{◌≡◌, ℕ, ◌+◌, ◌-◌, ◌≤◌, Bool, true, false, nat_lt, if◌then◌else◌, List, [], ◌∷◌, ◌++◌, map, Option, Some, sym, ap, subst, ◌∙◌, append_assoc, arith}
use Rattle.std.specs.Option.{option_to_list}
use Rattle.line_wave.specs.declared.Edge.{Edge}
use Rattle.capture_core.specs.Edges.{AreInTurn}
use Rattle.capture_smooth.specs.Smooth.{smooth_edges}
use Rattle.capture_smooth.proofs.Pairs.{smoothing}
use Rattle.capture_invert.specs.Inverted.{turned}
use Rattle.capture_invert.proofs.Turned.{inverting}
use Rattle.capture_through.specs.Through.{AreFrom, CapturesStay, smoothed}
use Rattle.capture_through.specs.declared.smoother.Smoother.{Smoother}

-- ---- two steps

-- what is taken one after another
pub two : (s t u : Smoother) (a b x y xs : List Edge) → smoothed s (a ++ (b ++ xs)) ≡ x ++ smoothed t (b ++ xs) → smoothed t (b ++ xs) ≡ y ++ smoothed u xs
    → smoothed s ((a ++ b) ++ xs) ≡ (x ++ y) ++ smoothed u xs
two s t u a b x y xs one other =
    ap (smoothed s) (append_assoc a b xs) ∙ one ∙ ap (λ es. x ++ es) other ∙ sym (append_assoc x y (smoothed u xs))

-- ---- none before an instant

pub from_zero : (es : List Edge) → AreFrom 0 es
from_zero [] = tt
from_zero (e ∷ es) = (omega arith, from_zero es)

pub from_map : (from : ℕ) (es : List Edge) → AreFrom from es → AreFrom from (map turned es)
from_map from [] h = tt
from_map from (e ∷ es) h = (h.0, from_map from es h.1)

pub from_sooner : (from to : ℕ) (es : List Edge) → from ≤ to → AreFrom to es → AreFrom from es
from_sooner from to [] l h = tt
from_sooner from to (e ∷ es) l h = let k = h.0 in (omega (arith, l, k), from_sooner from to es l h.1)

from_by : (n from : ℕ) (e f : Edge) (es : List Edge) (c : Bool) → AreFrom from (e ∷ f ∷ es) → AreFrom from (smooth_edges n es) → AreFrom from (smooth_edges n (f ∷ es))
    → AreFrom from (if c then smooth_edges n es else e ∷ smooth_edges n (f ∷ es))
from_by n from e f es true h pair one = pair
from_by n from e f es false h pair one = (h.0, one)

pub from_smooth : (n from : ℕ) (es : List Edge) → AreFrom from es → AreFrom from (smooth_edges n es)
from_smooth n from [] h = tt
from_smooth n from (e ∷ []) h = h
from_smooth n from (e ∷ f ∷ es) h = from_by n from e f es (nat_lt (f.at - e.at) n) h (from_smooth n from es h.1.1) (from_smooth n from (f ∷ es) h.1)

-- with the one that is held
pub known_held : (n from known : ℕ) (o : Option Edge) (e : Edge) → o ≡ Some e → known ≤ e.at → known ≤ from → (es : List Edge) → AreFrom from es → AreFrom known (smooth_edges n (option_to_list o ++ es))
known_held n from known o e is at l es h = subst (λ x. AreFrom known (smooth_edges n (option_to_list x ++ es))) (sym is) (from_smooth n known (e ∷ es) (at, from_sooner known from es l h))

-- edges in turn from an instant on do not come before it
pub turn_from : (b : Bool) (from : ℕ) (es : List Edge) → AreInTurn b from es → AreFrom from es
turn_from b from [] h = tt
turn_from b from (e ∷ es) h = let k = h.1 in (k, from_sooner from (e.at + 1) es (omega (arith, k)) (turn_from e.low (e.at + 1) es h.2))

-- ---- captures

pub stay : CapturesStay
stay false n es end h = smoothing.capture n es end h
stay true n es end h = smoothing.capture n _ end (inverting.capture es end h)
