-- Counts along the pieces.
use Rattle.std.proofs.Common.{◌≡◌, ℕ, List, [], ◌∷◌, ◌++◌, Option, refl, sym, ◌∙◌, ap}
use Rattle.std.specs.Option.{option_to_list}
use Rattle.line_wave.specs.declared.Edge.{Edge}
use Rattle.audit_widths.specs.declared.low.Low.{Low}
use Rattle.audit_widths.specs.Lows.{first_low}
use Rattle.audit_pieces.specs.Pieces.{Whole}
use Rattle.piece_audit.specs.Wide.{after_first, lows_from, wide_left}
use Rattle.piece_audit.specs.declared.wide.WideReader.{WideReader}
use Rattle.capture_signs.specs.declared.pieces.PieceCounts.{PieceCounts}
use Rattle.capture_signs.specs.Pieces.{counts_of, is_read, is_frame, is_headed, is_in_order, is_rest}
use Rattle.capture_signs.specs.Steps.{Counts, with_piece, with_pieces}
use Rattle.capture_signs.specs.Sums.{one_if}
use Rattle.capture_signs.proofs.Summing.{from_zero, on}

pub with_both : (c : PieceCounts) (ps qs : List Whole) → with_pieces c (ps ++ qs) ≡ with_pieces (with_pieces c ps) qs
with_both c [] qs = refl
with_both c (p ∷ ps) qs = with_both (with_piece c p) ps qs

abbrev pub no_pieces : PieceCounts
no_pieces = record { frames = 0; in_order = 0; read = 0; headed = 0; mid_frames = 0 }

abbrev fields_on : PieceCounts → List Whole → PieceCounts
fields_on c ps = record {
  frames = on (λ (p : Whole). one_if (is_frame p)) c.frames ps;
  in_order = on (λ (p : Whole). one_if (is_in_order p)) c.in_order ps;
  read = on (λ (p : Whole). one_if (is_read p)) c.read ps;
  headed = on (λ (p : Whole). one_if (is_headed p)) c.headed ps;
  mid_frames = on (λ (p : Whole). one_if (is_rest p)) c.mid_frames ps;
}

by_fields : (c : PieceCounts) (ps : List Whole) → with_pieces c ps ≡ fields_on c ps
by_fields c [] = refl
by_fields c (p ∷ ps) = by_fields (with_piece c p) ps

all_fields : (ps : List Whole) → fields_on no_pieces ps ≡ counts_of ps
all_fields ps =
    rw (
      from_zero (λ (p : Whole). one_if (is_frame p)) ps,
      from_zero (λ (p : Whole). one_if (is_in_order p)) ps,
      from_zero (λ (p : Whole). one_if (is_read p)) ps,
      from_zero (λ (p : Whole). one_if (is_headed p)) ps,
      from_zero (λ (p : Whole). one_if (is_rest p)) ps,
    ) refl

-- the counts so far, and what is left to read
abbrev pub Left : ℕ → PieceCounts → List Whole → WideReader → List Edge → Type 0
Left end c all reader left = with_pieces c (wide_left reader end (lows_from left)) ≡ with_pieces no_pieces all

first_and_rest : (edges : List Edge) → lows_from edges ≡ option_to_list (first_low edges) ++ lows_from (after_first edges)
first_and_rest [] = refl
first_and_rest (f ∷ []) = refl
first_and_rest (f ∷ r ∷ es) = refl

pub one_taken : (end : ℕ) (all : List Whole) (c d : PieceCounts) (old new : WideReader) (low : Option Low) (left rest : List Edge)
    → low ≡ first_low left → rest ≡ after_first left → Left end c all old left → Counts end c old low d new → Left end d all new rest
one_taken end all c d old new low left rest is rest_is so_far (more, counted, goes) =
    let each : lows_from left ≡ option_to_list low ++ lows_from rest =
    first_and_rest left ∙ ap (λ (o : Option Low). option_to_list o ++ lows_from (after_first left)) (sym is) ∙ ap (λ (es : List Edge). option_to_list low ++ lows_from es) (sym rest_is) in
    let read : wide_left old end (lows_from left) ≡ more ++ wide_left new end (lows_from rest) = ap (λ (lows : List Low). wide_left old end lows) each ∙ goes (lows_from rest) in
    ap (λ (k : PieceCounts). with_pieces k (wide_left new end (lows_from rest))) counted ∙ sym (with_both c more (wide_left new end (lows_from rest)))
    ∙ ap (λ (ps : List Whole). with_pieces c ps) (sym read) ∙ so_far

pub all_taken : (end : ℕ) (all ps qs : List Whole) (c d e : PieceCounts) (old mid : WideReader) (left : List Edge)
    → left ≡ [] → Left end c all old left → wide_left old end [] ≡ ps ++ wide_left mid end [] → wide_left mid end [] ≡ qs
    → d ≡ with_pieces c ps → e ≡ with_pieces d qs → e ≡ counts_of all
all_taken end all ps qs c d e old mid left none so_far goes ends first second =
    let read : wide_left old end (lows_from left) ≡ ps ++ qs =
    ap (λ (es : List Edge). wide_left old end (lows_from es)) none ∙ goes ∙ ap (λ (l : List Whole). ps ++ l) ends in
    second ∙ ap (λ (k : PieceCounts). with_pieces k qs) first ∙ sym (with_both c ps qs) ∙ ap (λ (l : List Whole). with_pieces c l) (sym read) ∙ so_far
    ∙ by_fields no_pieces all ∙ all_fields all
