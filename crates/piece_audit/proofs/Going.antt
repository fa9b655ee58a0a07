-- Pieces after pieces.
use Rattle.std.proofs.Common.{◌≡◌, ℕ, ◌+◌, ◌≤◌, List, [], ◌∷◌, ◌++◌, length, Option, Some, None, refl, sym, ◌∙◌, ap, subst, arith, append-nil, append_assoc}
use Rattle.std.proofs.lemmas.Grind.{flat_map-append}
use Rattle.std.specs.Option.{option_to_list}
use Rattle.text_core.specs.Adds.{Adds, Tally}
use Rattle.text_core.proofs.Adding.{then}
use Rattle.line_wave.specs.declared.Edge.{Edge}
use Rattle.record_core.specs.declared.cell.Form.{Form}
use Rattle.audit_widths.specs.declared.low.Low.{Low}
use Rattle.audit_widths.specs.Lows.{first_low}
use Rattle.audit_pieces.specs.Pieces.{Whole}
use Rattle.piece_audit.specs.Texts.{piece_text, pieces_text}
use Rattle.piece_audit.specs.Wide.{Reads, after_first, lows_from, wide_left}
use Rattle.piece_audit.specs.declared.wide.WideReader.{WideReader}

-- the first low stretch, and the rest
pub first_and_rest : (edges : List Edge) → lows_from edges ≡ option_to_list (first_low edges) ++ lows_from (after_first edges)
first_and_rest [] = refl
first_and_rest (f ∷ []) = refl
first_and_rest (f ∷ r ∷ es) = refl

pub none_left : (edges : List Edge) → length edges ≤ 0 → edges ≡ []
none_left [] h = refl
none_left (e ∷ es) h = absurd (omega arith)

pub one_piece : (form : Form) (grid : ℕ) (a b : Tally) (p : Whole) → Adds a b (piece_text form grid p) → Adds a b (pieces_text form grid (p ∷ []))
one_piece form grid a b p adds = subst (λ (text : List ℕ). Adds a b text) (sym (append-nil (piece_text form grid p))) adds

both : (form : Form) (grid : ℕ) (a b c : Tally) (ps qs : List Whole) → Adds a b (pieces_text form grid ps) → Adds b c (pieces_text form grid qs) → Adds a c (pieces_text form grid (ps ++ qs))
both form grid a b c ps qs first second =
    subst (λ (text : List ℕ). Adds a c text) (sym (flat_map-append (piece_text form grid) ps qs)) (then a b c (pieces_text form grid ps) (pieces_text form grid qs) first second)

-- what was written so far, and what is left to read
abbrev pub SoFar : Form → ℕ → ℕ → List Whole → Tally → Tally → WideReader → List Edge → Type 0
SoFar form grid end all a b reader left = (done : List Whole) × Adds a b (pieces_text form grid done) × (all ≡ done ++ wide_left reader end (lows_from left))

pub one_more : (form : Form) (grid end : ℕ) (all : List Whole) (a b c : Tally) (old new : WideReader) (low : Option Low) (left rest : List Edge)
    → low ≡ first_low left → rest ≡ after_first left → SoFar form grid end all a b old left → Reads form grid end old low new b c → SoFar form grid end all a c new rest
one_more form grid end all a b c old new low left rest is rest_is (done, adds, same) (more, added, goes) =
    let each : lows_from left ≡ option_to_list low ++ lows_from rest =
    first_and_rest left ∙ ap (λ (o : Option Low). option_to_list o ++ lows_from (after_first left)) (sym is) ∙ ap (λ (es : List Edge). option_to_list low ++ lows_from es) (sym rest_is) in (
      done ++ more,
      both form grid a b c done more adds added,
      same ∙ ap (λ (lows : List Low). done ++ wide_left old end lows) each ∙ ap (λ (ps : List Whole). done ++ ps) (goes (lows_from rest)) ∙ sym (append_assoc done more (wide_left new end (lows_from rest))),
    )

pub all_read : (form : Form) (grid end : ℕ) (all ps qs : List Whole) (a b c d : Tally) (old mid : WideReader) (left : List Edge)
    → left ≡ [] → SoFar form grid end all a b old left → Adds b c (pieces_text form grid ps) → wide_left old end [] ≡ ps ++ wide_left mid end []
    → Adds c d (pieces_text form grid qs) → wide_left mid end [] ≡ qs → Adds a d (pieces_text form grid all)
all_read form grid end all ps qs a b c d old mid left none (done, adds, same) first goes second ends =
    let whole : all ≡ (done ++ ps) ++ qs =
    same ∙ ap (λ (es : List Edge). done ++ wide_left old end (lows_from es)) none ∙ ap (λ (l : List Whole). done ++ l) (goes ∙ ap (λ (l : List Whole). ps ++ l) ends) ∙ sym (append_assoc done ps qs) in
    subst (λ (l : List Whole). Adds a d (pieces_text form grid l)) (sym whole) (both form grid a c d (done ++ ps) qs (both form grid a b c done ps adds first) second)
