-- Pieces after pieces.
use Rattle.std.proofs.Common.{◌≡◌, ℕ, ◌+◌, ◌≤◌, List, [], ◌∷◌, ◌++◌, length, sum_by, Option, Some, None, refl, sym, ◌∙◌, ap, ap₂, subst, subst₂, arith, append-nil, append_assoc}
use Rattle.std.proofs.lemmas.Grind.{flat_map-append}
use Rattle.std.proofs.lemmas.List.Sums.{sum_by-append}
use Rattle.std.specs.Option.{option_to_list}
use Rattle.text_core.specs.Adds.{Adds, Tally}
use Rattle.text_core.proofs.Adding.{then}
use Rattle.line_wave.specs.declared.Edge.{Edge}
use Rattle.audit_widths.specs.declared.low.Low.{Low}
use Rattle.audit_widths.specs.Lows.{first_low}
use Rattle.audit_pieces.specs.Pieces.{Whole}
use Rattle.piece_audit.specs.Wide.{wide_left}
use Rattle.piece_audit.specs.declared.wide.WideReader.{WideReader}
use Rattle.capture_replay.specs.Counts.{tallied}
use Rattle.capture_replay.specs.Drives.{Drive, drives_of}
use Rattle.capture_replay.specs.Replay.{Plays, PlaysPieces, counts_of, drives_in, end_line, left_line, lows_by, lows_from, pins_text, replay_of, trails_in, unknown_in}
use Rattle.capture_replay.specs.Wide.{Reads, after_first}
use Rattle.capture_replay.specs.declared.counts.ReplayCounts.{ReplayCounts}
use Rattle.capture_replay.proofs.Playing.{plays_both, plays_none}

-- the first low stretch, and the rest
first_and_rest : (edges : List Edge) → lows_from edges ≡ option_to_list (first_low edges) ++ lows_from (after_first edges)
first_and_rest [] = refl
first_and_rest (f ∷ []) = refl
first_and_rest (f ∷ r ∷ es) = refl

pub none_left : (edges : List Edge) → length edges ≤ 0 → edges ≡ []
none_left [] h = refl
none_left (e ∷ es) h = absurd (omega arith)

drives_append : (ps qs : List Whole) → drives_in ps ++ drives_in qs ≡ drives_in (ps ++ qs)
drives_append ps qs = sym (flat_map-append (λ (p : Whole). drives_of p.parts) ps qs)

trails_append : (ps qs : List Whole) → trails_in ps + trails_in qs ≡ trails_in (ps ++ qs)
trails_append ps qs = sym (sum_by-append (λ (p : Whole). p.parts.trail) ps qs)

pub no_pieces : (address : ℕ) (x : Tally) (c : ReplayCounts) → PlaysPieces address [] x x c c
no_pieces address x c = plays_none address x c

both : (address : ℕ) (ps qs : List Whole) (x y z : Tally) (c d e : ReplayCounts) → PlaysPieces address ps x y c d → PlaysPieces address qs y z d e → PlaysPieces address (ps ++ qs) x z c e
both address ps qs x y z c d e first second =
    subst₂ (λ (ds : List Drive) (n : ℕ). Plays address ds n x z c e) (drives_append ps qs) (trails_append ps qs)
    (plays_both address (drives_in ps) (drives_in qs) (trails_in ps) (trails_in qs) x y z c d e first second)

one_trail : (n : ℕ) → n ≡ 0 + n
one_trail n = omega arith

pub one_piece : (address : ℕ) (p : Whole) (x y : Tally) (c d : ReplayCounts) → Plays address (drives_of p.parts) p.parts.trail x y c d → PlaysPieces address (p ∷ []) x y c d
one_piece address p x y c d plays =
    subst₂ (λ (ds : List Drive) (n : ℕ). Plays address ds n x y c d) (sym (append-nil (drives_of p.parts))) (one_trail p.parts.trail) plays

-- what was played so far, and what is left to read
abbrev pub SoFar : ℕ → ℕ → List Whole → Tally → Tally → ReplayCounts → ReplayCounts → WideReader → List Edge → Type 0
SoFar address end all x y c d reader left = (done : List Whole) × PlaysPieces address done x y c d × (all ≡ done ++ wide_left reader end (lows_from left))

pub one_more : (address end : ℕ) (all : List Whole) (x y z : Tally) (c d e : ReplayCounts) (old new : WideReader) (low : Option Low) (left rest : List Edge)
    → low ≡ first_low left → rest ≡ after_first left → SoFar address end all x y c d old left → Reads address end old low new y z d e → SoFar address end all x z c e new rest
one_more address end all x y z c d e old new low left rest is rest_is (done, plays, same) (more, played, goes) =
    let each : lows_from left ≡ option_to_list low ++ lows_from rest =
    first_and_rest left ∙ ap (λ (o : Option Low). option_to_list o ++ lows_from (after_first left)) (sym is) ∙ ap (λ (es : List Edge). option_to_list low ++ lows_from es) (sym rest_is) in (
      done ++ more,
      both address done more x y z c d e plays played,
      same ∙ ap (λ (lows : List Low). done ++ wide_left old end lows) each ∙ ap (λ (ps : List Whole). done ++ ps) (goes (lows_from rest)) ∙ sym (append_assoc done more (wide_left new end (lows_from rest))),
    )

pub all_read : (address end : ℕ) (all ps qs : List Whole) (w x y z : Tally) (a b c d : ReplayCounts) (old mid : WideReader) (left : List Edge)
    → left ≡ [] → SoFar address end all w x a b old left → PlaysPieces address ps x y b c → wide_left old end [] ≡ ps ++ wide_left mid end []
    → PlaysPieces address qs y z c d → wide_left mid end [] ≡ qs → PlaysPieces address all w z a d
all_read address end all ps qs w x y z a b c d old mid left none (done, plays, same) first goes second ends =
    let whole : all ≡ (done ++ ps) ++ qs =
    same ∙ ap (λ (es : List Edge). done ++ wide_left old end (lows_from es)) none ∙ ap (λ (l : List Whole). done ++ l) (goes ∙ ap (λ (l : List Whole). ps ++ l) ends) ∙ sym (append_assoc done ps qs) in
    subst (λ (l : List Whole). PlaysPieces address l w z a d) (sym whole) (both address (done ++ ps) qs w y z a c d (both address done ps w x y a b c plays first) second)

-- ---- the whole replay

none_before : (n : ℕ) → 0 + n ≡ n
none_before n = omega arith

counted : (address : ℕ) (ps : List Whole) (x y : Tally) (c d : ReplayCounts) → c ≡ tallied 0 0 → PlaysPieces address ps x y c d → d ≡ counts_of address ps
counted address ps x y c d none plays =
    plays.1 0 0 none
    ∙ ap₂ (λ (m n : ℕ). tallied m n) (none_before (length (lows_by address (drives_in ps)))) (none_before (unknown_in (drives_in ps) + trails_in ps))

pub counts_are : (address : ℕ) (ps : List Whole) (x y : Tally) (c d : ReplayCounts) → c ≡ tallied 0 0 → PlaysPieces address ps x y c d → d ≡ counts_of address ps
counts_are address ps x y c d none plays = counted address ps x y c d none plays

pub replayed : (address end : ℕ) (ps : List Whole) (w x y z : Tally) (c d : ReplayCounts) → c ≡ tallied 0 0 → PlaysPieces address ps w x c d → Adds x y (left_line d.left_out) → Adds y z (end_line end)
    → Adds w z (replay_of address end ps)
replayed address end ps w x y z c d none plays left last =
    then w x z (pins_text address (drives_in ps)) (left_line (counts_of address ps).left_out ++ end_line end) plays.0
    (then x y z (left_line (counts_of address ps).left_out) (end_line end)
    (subst (λ (e : ReplayCounts). Adds x y (left_line e.left_out)) (counted address ps w x c d none plays) left) last)
