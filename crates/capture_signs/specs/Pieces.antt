-- Counts over the pieces of a captured line: how many frames it has, and how many of them are in order.
use Rattle.std.specs.Prelude.{◌≡◌, ℕ, Bool, true, false, nat_le, ◌&&◌, if◌then◌else◌, List, length, is_none}
use Rattle.std.specs.List.{list_all}
use Rattle.audit_pieces.specs.declared.piece.PieceEnding.{PieceEnding}
use Rattle.audit_pieces.specs.declared.piece.PieceEnding.TheVariants.{Mid}
use Rattle.audit_pieces.specs.Pieces.{Whole, is_framed}
use Rattle.audit_judged.specs.declared.endings.Said.{Said}
use Rattle.audit_judged.specs.declared.endings.Said.TheVariants.{Nothing, Allowed, Remarked}
use Rattle.audit_judged.specs.Endings.{goes_on_after, said_of}
use Rattle.audit_judged.specs.Widths.{kinds_in_order, remark_for}
use Rattle.capture_signs.specs.declared.pieces.PieceCounts.{PieceCounts}
use Rattle.capture_signs.specs.Sums.{one_if, sum_all}

-- ---- frames

abbrev pub is_frame : Whole → Bool
is_frame p = is_framed p.parts.head.class

-- nothing of how it ends is otherwise than the standard has it
abbrev pub is_allowed : Said → Bool
is_allowed Nothing = true
is_allowed (Allowed cause) = true
is_allowed (Remarked remark) = false

-- no width is out of its window, though by a microsecond (CEC 5.2)
abbrev pub has_its_widths : Whole → Bool
has_its_widths p = list_all (λ kind. is_none (remark_for 1 p kind)) kinds_in_order

-- The standard has nothing otherwise: not in its widths (CEC 5.2), not in how it ends (CEC 6.1, 7.1, 7.4).
abbrev pub is_ordered : Whole → Bool
is_ordered p = is_allowed (said_of p) && (is_none (goes_on_after p) && has_its_widths p)

abbrev pub is_in_order : Whole → Bool
is_in_order p = is_frame p && is_ordered p

-- one of which a whole block was read (CEC 6.1)
abbrev pub is_headed : Whole → Bool
is_headed p = is_frame p && nat_le 10 (length p.parts.slots)

abbrev pub is_mid : PieceEnding → Bool
is_mid Mid = true
is_mid _ = false

-- ---- how many

-- so many of these pieces pass a test
abbrev pub count_where : (Whole → Bool) → List Whole → ℕ
count_where test ps = sum_all (λ p. one_if (test p)) ps

-- a frame in order of which a whole block was read
abbrev pub is_read : Whole → Bool
is_read p = is_in_order p && is_headed p

abbrev pub is_rest : Whole → Bool
is_rest p = is_mid p.ending

abbrev pub counts_of : List Whole → PieceCounts
counts_of ps = record {
  frames = count_where is_frame ps;
  in_order = count_where is_in_order ps;
  read = count_where is_read ps;
  headed = count_where is_headed ps;
  mid_frames = count_where is_rest ps;
}

-- ---- laws

-- A piece of which the standard has nothing otherwise: a frame in order, or the rest of one in which the capture begins.
abbrev pub is_lawful : Whole → Bool
is_lawful p = if is_frame p then is_in_order p else is_mid p.ending

-- Where all pieces are lawful, each frame is in order.
abbrev pub LawfulFramesAreInOrder : Type 0
LawfulFramesAreInOrder = (ps : List Whole) → list_all is_lawful ps ≡ true → count_where is_in_order ps ≡ count_where is_frame ps
