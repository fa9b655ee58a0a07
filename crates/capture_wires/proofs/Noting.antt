-- Between two changes and notes nothing is written, and with no notes the text is that of the wires.
use Rattle.std.proofs.Common.{◌≡◌, ℕ, zero, suc, ◌+◌, ◌-◌, ◌<◌, ◌≤◌, Bool, true, false, ◌||◌, if◌then◌else◌, List, [], ◌∷◌, ◌++◌, refl, arith, ap, ap₂, ◌∙◌, append-nil}
use Rattle.std.specs.Fmt.{decimal}
use Rattle.std.specs.List.{flat_map, list_any, range_with_len}
pub use Rattle.text_core.proofs.Adding.{then}
use Rattle.line_wave.specs.declared.Stretch.{Stretch}
use Rattle.line_wave.specs.Line.{line_of}
use Rattle.capture_wires.specs.Noted.{Noted, is_noted, noted_instant, noted_text, notes_at}
use Rattle.capture_wires.specs.Wires.{changes_from, instant_text, turns, wires_text}
use Rattle.capture_wires.proofs.Quiet.{parted}

-- ---- an instant at which no wire turns and nothing is noted

pub no_instant : (wires : List (List Stretch)) (notes : List Noted) (u : ℕ) → list_any (λ wire. turns (line_of wire) u) wires ≡ false → is_noted u notes ≡ false → noted_instant wires notes u ≡ []
no_instant wires notes u quiet none =
    ap₂ (λ a b. if a || b then ((35 ∷ (decimal u ++ 10 ∷ [])) ++ changes_from u 0 wires) ++ notes_at u notes else []) quiet none

-- so many of them
silence : (f : ℕ → List ℕ) (from count : ℕ) → ((u : ℕ) → from ≤ u → u < from + count → f u ≡ []) → flat_map f (range_with_len from count) ≡ []
silence f from zero quiet = refl
silence f from (suc count) quiet =
    ap₂ (λ a b. a ++ b) (quiet from (omega arith) (omega arith)) (silence f (from + 1) count (λ u l h. quiet u (omega arith) (omega arith)))

-- up to an instant, that instant, and then nothing up to the next
pub up_to : (f : ℕ → List ℕ) (from t next : ℕ) → from ≤ t → t < next → ((u : ℕ) → t < u → u < next → f u ≡ [])
    → flat_map f (range_with_len from (next - from)) ≡ flat_map f (range_with_len from (t - from)) ++ f t
up_to f from t next after before quiet =
    parted f from (t - from) (next - t) (next - from) t (omega arith) (omega arith)
    ∙ ap (λ l. flat_map f (range_with_len from (t - from)) ++ l) (first (next - t) refl)
  where
    first : (n : ℕ) → next - t ≡ n → flat_map f (range_with_len t n) ≡ f t
    first zero e = absurd (omega arith)
    first (suc n) e = ap (λ l. f t ++ l) (silence f (t + 1) n (λ u l h. quiet u (omega arith) (omega arith))) ∙ append-nil (f t)

-- ---- no notes at all

no_note : (wires : List (List Stretch)) (t : ℕ) → noted_instant wires [] t ≡ instant_text wires t
no_note wires t = by_turns (list_any (λ wire. turns (line_of wire) t) wires)
  where
    by_turns : (b : Bool) → (if b || false then ((35 ∷ (decimal t ++ 10 ∷ [])) ++ changes_from t 0 wires) ++ [] else []) ≡ (if b then (35 ∷ (decimal t ++ 10 ∷ [])) ++ changes_from t 0 wires else [])
    by_turns true = append-nil ((35 ∷ (decimal t ++ 10 ∷ [])) ++ changes_from t 0 wires)
    by_turns false = refl

pub no_notes : (wires : List (List Stretch)) (from count : ℕ) → noted_text wires [] from count ≡ wires_text wires from count
no_notes wires from zero = refl
no_notes wires from (suc count) = ap₂ (λ a b. a ++ b) (no_note wires from) (no_notes wires (from + 1) count)
