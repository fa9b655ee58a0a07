-- What one more low stretch, or one more piece, adds to what was counted before.
use Rattle.std.specs.Prelude.{◌≡◌, ℕ, min, max, if◌then◌else◌, List, [], ◌∷◌, ◌++◌, Option, Some, None}
use Rattle.std.specs.Option.{option_to_list}
use Rattle.audit_widths.specs.declared.low.Low.{Low}
use Rattle.audit_widths.specs.Spreads.{sum_of, width_to}
use Rattle.audit_pieces.specs.Pieces.{Whole}
use Rattle.piece_audit.specs.Wide.{wide_left}
use Rattle.piece_audit.specs.declared.wide.WideReader.{WideReader}
use Rattle.capture_signs.specs.declared.pieces.PieceCounts.{PieceCounts}
use Rattle.capture_signs.specs.declared.runs.RunKind.{RunKind}
use Rattle.capture_signs.specs.declared.runs.RunTally.{RunTally}
use Rattle.capture_signs.specs.Pieces.{is_read, is_frame, is_headed, is_in_order, is_rest}
use Rattle.capture_signs.specs.Runs.{ends_run, run_amount}
use Rattle.capture_signs.specs.Signs.{gap_from, short_or_none, time_or_most}
use Rattle.capture_signs.specs.Sums.{one_if}

abbrev pub shorter_period : ℕ → Option Low → ℕ
shorter_period shortest None = shortest
shorter_period shortest (Some low) = min shortest (time_or_most (width_to low.fall low.next))

abbrev pub longer_short : ℕ → Option Low → ℕ
longer_short longest None = longest
longer_short longest (Some low) = max longest (max (short_or_none (width_to low.fall low.rise)) (short_or_none (gap_from low.rise low.next)))

-- a run ends, or has one fall more
abbrev pub run_with : RunKind → ℕ → RunTally → Option Low → RunTally
run_with kind shortest t None = t
run_with kind shortest t (Some low) =
    if ends_run shortest (width_to low.fall low.next) then record { count = sum_of (run_amount kind (sum_of t.falls 1)) t.count; falls = 0 }
    else record { count = t.count; falls = sum_of t.falls 1 }

abbrev pub with_piece : PieceCounts → Whole → PieceCounts
with_piece c p = record {
  frames = sum_of (one_if (is_frame p)) c.frames;
  in_order = sum_of (one_if (is_in_order p)) c.in_order;
  read = sum_of (one_if (is_read p)) c.read;
  headed = sum_of (one_if (is_headed p)) c.headed;
  mid_frames = sum_of (one_if (is_rest p)) c.mid_frames;
}

abbrev pub with_pieces : PieceCounts → List Whole → PieceCounts
with_pieces c [] = c
with_pieces c (p ∷ ps) = with_pieces (with_piece c p) ps

-- a reader takes a low stretch, if there is one, and gives some pieces
abbrev pub Counts : ℕ → PieceCounts → WideReader → Option Low → PieceCounts → WideReader → Type 0
Counts end before old low after new =
    (more : List Whole) × (after ≡ with_pieces before more) × ((lows : List Low) → wide_left old end (option_to_list low ++ lows) ≡ more ++ wide_left new end lows)
