-- The front of a capture.
use Rattle.std.proofs.Common.{◌≡◌, ℕ, zero, suc, ◌+◌, ◌<◌, ◌≤◌, Bool, true, false, not, List, [], ◌∷◌, length, take, slice_index_or, refl, sym, ap, subst, ◌∙◌, arith, rules}
use Rattle.capture_core.specs.Edges.{AreInTurn, EndBy, IsCapture}
use Rattle.line_wave.specs.declared.Edge.{Edge}
use Rattle.line_wave.specs.Bounds.{latest_instant}

-- the first edges come in turn
turn_front : (n : ℕ) (low : Bool) (from : ℕ) (es : List Edge) → AreInTurn low from es → AreInTurn low from (take n es)
turn_front zero low from es turn = tt
turn_front (suc n) low from [] turn = tt
turn_front (suc n) low from (e ∷ es) turn = (turn.0, turn.1, turn_front n e.low (e.at + 1) es turn.2)

-- an edge comes no sooner than the turn begins
no_sooner : (n : ℕ) (low : Bool) (from : ℕ) (es : List Edge) (d : Edge) → AreInTurn low from es → n < length es → from ≤ (slice_index_or es n d).at
no_sooner n low from [] d turn some = absurd (omega arith)
no_sooner zero low from (e ∷ es) d turn some = turn.1
no_sooner (suc n) low from (e ∷ es) d turn some = omega (arith, turn.1, no_sooner n e.low (e.at + 1) es d turn.2 (omega arith))

-- those before it come no later
no_later : (n : ℕ) (low : Bool) (from : ℕ) (es : List Edge) (d : Edge) → AreInTurn low from es → n < length es → EndBy (slice_index_or es n d).at (take n es)
no_later zero low from es d turn some = tt
no_later (suc n) low from [] d turn some = absurd (omega arith)
no_later (suc n) low from (e ∷ es) d turn some =
    (omega (arith, no_sooner n e.low (e.at + 1) es d turn.2 (omega arith)), no_later n e.low (e.at + 1) es d turn.2 (omega arith))

by_end : (n : ℕ) (end : ℕ) (es : List Edge) (d : Edge) → EndBy end es → n < length es → (slice_index_or es n d).at ≤ end
by_end n end [] d ends some = absurd (omega arith)
by_end zero end (e ∷ es) d ends some = ends.0
by_end (suc n) end (e ∷ es) d ends some = by_end n end es d ends.1 (omega arith)

pub front_is_capture : (n end : ℕ) (es : List Edge) (d : Edge) → IsCapture es end → n < length es → IsCapture (take n es) (slice_index_or es n d).at
front_is_capture n end es d is some =
    record { turn = turn_front n false 0 es is.turn; ends = no_later n false 0 es d is.turn some; early = omega (arith, is.early, by_end n end es d is.ends some) }
