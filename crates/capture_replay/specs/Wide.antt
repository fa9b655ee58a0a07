-- Pieces as a reader gives them (own).
use Rattle.std.specs.Prelude.{◌≡◌, ℕ, List, [], ◌∷◌, ◌++◌, Option}
use Rattle.std.specs.Option.{option_to_list}
use Rattle.text_core.specs.Adds.{Tally}
use Rattle.line_wave.specs.declared.Edge.{Edge}
use Rattle.audit_widths.specs.declared.low.Low.{Low}
use Rattle.audit_pieces.specs.Pieces.{Whole}
use Rattle.piece_audit.specs.Wide.{wide_left}
use Rattle.piece_audit.specs.declared.wide.WideReader.{WideReader}
use Rattle.capture_replay.specs.Replay.{PlaysPieces}
use Rattle.capture_replay.specs.declared.counts.ReplayCounts.{ReplayCounts}

-- the edges behind the first low stretch
abbrev pub after_first : List Edge → List Edge
after_first [] = []
after_first (f ∷ []) = []
after_first (f ∷ r ∷ es) = es

-- a reader takes a low stretch, if there is one, and some pieces are played
abbrev pub Reads : ℕ → ℕ → WideReader → Option Low → WideReader → Tally → Tally → ReplayCounts → ReplayCounts → Type 0
Reads address end old low new a b c d =
    (more : List Whole) × PlaysPieces address more a b c d × ((lows : List Low) → wide_left old end (option_to_list low ++ lows) ≡ more ++ wide_left new end lows)
