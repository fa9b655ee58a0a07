-- Runs along the low stretches.
use Rattle.std.proofs.Common.{◌≡◌, ℕ, Bool, true, false, List, [], ◌∷◌, Option, Some, None, refl, sym, ◌∙◌, ap}
use Rattle.line_wave.specs.declared.Edge.{Edge}
use Rattle.audit_widths.specs.declared.low.Low.{Low}
use Rattle.audit_widths.specs.Lows.{first_low, low_at}
use Rattle.audit_widths.specs.Spreads.{width_to}
use Rattle.piece_audit.specs.Wide.{after_first, lows_from}
use Rattle.capture_signs.specs.declared.runs.RunKind.{RunKind}
use Rattle.capture_signs.specs.declared.runs.RunTally.{RunTally}
use Rattle.capture_signs.specs.Runs.{ends_run, run_amount, run_count, runs_after}
use Rattle.capture_signs.specs.Steps.{run_with}
use Rattle.capture_signs.proofs.Summing.{from_zero, on}

-- so many runs, with those of the low stretches that are left
abbrev pub runs_on : RunKind → ℕ → RunTally → List Low → ℕ
runs_on kind shortest t lows = on (run_amount kind) t.count (runs_after shortest t.falls lows)

by : (kind : RunKind) (shortest : ℕ) (t : RunTally) (low : Low) (lows : List Low) (b : Bool) → ends_run shortest (width_to low.fall low.next) ≡ b
    → runs_on kind shortest (run_with kind shortest t (Some low)) lows ≡ runs_on kind shortest t (low ∷ lows)
by kind shortest t low lows true e = rw e refl
by kind shortest t low lows false e = rw e refl

run_more : (kind : RunKind) (shortest : ℕ) (t : RunTally) (left : List Edge)
    → runs_on kind shortest (run_with kind shortest t (first_low left)) (lows_from (after_first left)) ≡ runs_on kind shortest t (lows_from left)
run_more kind shortest t [] = refl
run_more kind shortest t (e ∷ []) = by kind shortest t (low_at e.at []) [] (ends_run shortest (width_to e.at None)) refl
run_more kind shortest t (e ∷ r ∷ es) =
    by kind shortest t (low_at e.at (r ∷ es)) (lows_from es) (ends_run shortest (width_to (low_at e.at (r ∷ es)).fall (low_at e.at (r ∷ es)).next)) refl

pub runs_go_on : (kind : RunKind) (shortest all : ℕ) (t u : RunTally) (low : Option Low) (left rest : List Edge) → low ≡ first_low left → rest ≡ after_first left
    → u ≡ run_with kind shortest t low → runs_on kind shortest t (lows_from left) ≡ all → runs_on kind shortest u (lows_from rest) ≡ all
runs_go_on kind shortest all t u low left rest is rest_is more so_far =
    ap (λ (k : RunTally). runs_on kind shortest k (lows_from rest)) (more ∙ ap (λ (o : Option Low). run_with kind shortest t o) is)
    ∙ ap (λ (es : List Edge). runs_on kind shortest (run_with kind shortest t (first_low left)) (lows_from es)) rest_is ∙ run_more kind shortest t left ∙ so_far

abbrev pub no_run : RunTally
no_run = record { count = 0; falls = 0 }

pub runs_counted : (kind : RunKind) (shortest : ℕ) (t : RunTally) (left edges : List Edge) → left ≡ []
    → runs_on kind shortest t (lows_from left) ≡ runs_on kind shortest no_run (lows_from edges) → t.count ≡ run_count kind shortest (lows_from edges)
runs_counted kind shortest t left edges none so_far =
    sym (ap (λ (es : List Edge). runs_on kind shortest t (lows_from es)) none) ∙ so_far ∙ from_zero (run_amount kind) (runs_after shortest 0 (lows_from edges))
