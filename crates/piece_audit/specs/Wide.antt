-- The pieces of edges, and what a reader gives that holds one low stretch back.
use Rattle.std.specs.Prelude.{◌≡◌, ℕ, List, [], ◌∷◌, ◌++◌, Option}
use Rattle.std.specs.Option.{option_to_list}
use Rattle.text_core.specs.Adds.{Adds, Tally}
use Rattle.line_wave.specs.declared.Edge.{Edge}
use Rattle.record_core.specs.declared.cell.Form.{Form}
use Rattle.audit_widths.specs.declared.low.Low.{Low}
use Rattle.audit_widths.specs.Lows.{low_at}
use Rattle.audit_pieces.specs.Pieces.{Whole}
use Rattle.audit_pieces.specs.Stretches.{stretches_of}
use Rattle.audit_pieces.specs.Wide.{pieces_left}
use Rattle.piece_audit.specs.Texts.{pieces_text}
use Rattle.piece_audit.specs.declared.wide.WideReader.{WideReader}

-- ---- low stretches

-- of edges that begin with a fall
abbrev pub lows_from : List Edge → List Low
lows_from [] = []
lows_from (f ∷ []) = low_at f.at [] ∷ []
lows_from (f ∷ r ∷ es) = low_at f.at (r ∷ es) ∷ lows_from es

-- the edges behind the first of them
abbrev pub after_first : List Edge → List Edge
after_first [] = []
after_first (f ∷ []) = []
after_first (f ∷ r ∷ es) = es

-- ---- a reader

-- of the low stretches that follow, in a capture up to `end`
abbrev pub wide_left : WideReader → ℕ → List Low → List Whole
wide_left r end lows = pieces_left r.pieces end (stretches_of end (option_to_list r.waiting ++ lows))

-- it takes a low stretch, if there is one, and some pieces are written
abbrev pub Reads : Form → ℕ → ℕ → WideReader → Option Low → WideReader → Tally → Tally → Type 0
Reads form grid end old low new before after =
    (more : List Whole) × Adds before after (pieces_text form grid more) × ((lows : List Low) → wide_left old end (option_to_list low ++ lows) ≡ more ++ wide_left new end lows)
