-- Runs of falls between pauses. A frame of CEC is a start bit and blocks of ten bits (CEC 5.2, 6.1), so that each run of falls of an
-- undisturbed line has one more than a multiple of ten, in whatever unit its times are (own).
use Rattle.std.specs.Prelude.{ℕ, ◌%◌, ◌==◌, Bool, true, nat_lt, ◌&&◌, if◌then◌else◌, List, [], ◌∷◌, Option, Some, None}
use Rattle.audit_widths.specs.declared.low.Low.{Low}
use Rattle.audit_widths.specs.Spreads.{sum_of, width_to}
use Rattle.capture_signs.specs.declared.runs.RunKind.{RunKind}
use Rattle.capture_signs.specs.declared.runs.RunKind.TheVariants.{Each, Framed}
use Rattle.capture_signs.specs.Signs.{is_pause}
use Rattle.capture_signs.specs.Sums.{one_if, sum_all}

-- a pause follows, or nothing
abbrev pub ends_run : ℕ → Option ℕ → Bool
ends_run shortest None = true
ends_run shortest (Some period) = is_pause shortest period

-- how many falls each run has, with so many before
abbrev pub runs_after : ℕ → ℕ → List Low → List ℕ
runs_after shortest falls [] = []
runs_after shortest falls (low ∷ lows) =
    if ends_run shortest (width_to low.fall low.next) then sum_of falls 1 ∷ runs_after shortest 0 lows else runs_after shortest (sum_of falls 1) lows

abbrev pub runs_of : ℕ → List Low → List ℕ
runs_of shortest lows = runs_after shortest 0 lows

-- a start bit, and a block or several
abbrev pub is_framed_run : ℕ → Bool
is_framed_run falls = nat_lt 10 falls && (falls % 10 == 1)

abbrev pub run_amount : RunKind → ℕ → ℕ
run_amount Each falls = 1
run_amount Framed falls = one_if (is_framed_run falls)

-- how many runs of this kind there are
abbrev pub run_count : RunKind → ℕ → List Low → ℕ
run_count kind shortest lows = sum_all (run_amount kind) (runs_of shortest lows)
