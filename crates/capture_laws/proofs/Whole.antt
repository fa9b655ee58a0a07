-- A dump of several wires reports each of them.
use Rattle.std.proofs.Common.{◌≡◌, ℕ, ◌+◌, ◌≤◌, false, List, [], ◌∷◌, ◌++◌, length, codes, refl, ap, ◌∙◌}
use Rattle.std.specs.List.{flat_map, range_with_len}
use Rattle.line_wave.specs.Bounds.{latest_instant}
use Rattle.capture_vcd.specs.Text.{last}
use Rattle.capture_vcd.specs.Wire.{level_of, words_in}
use Rattle.capture_wires.specs.Wires.{high_at_first}
use Rattle.capture_laws.specs.WireDumps.{AreSpans, DumpsReportTheirWires, Span, level_at, spans_text}
use Rattle.capture_laws.proofs.Levels.{micro, spans_level}
use Rattle.capture_laws.proofs.Words.{shown_words}
use Rattle.capture_laws.proofs.Changes.{body_reported, highs_reported, reported}
use Rattle.capture_laws.proofs.Head.{head_declared, head_wire, high_text}

-- ---- after the definitions

begun_reported : (k : ℕ) (rest : List ℕ) → reported k 0 (words_in (codes "#0\n$dumpvars\n" ++ rest)) ≡ reported k 0 (words_in rest)
begun_reported k rest =
    let t1 = codes "$dumpvars" ++ 10 ∷ rest in
    ap (reported k 0) (shown_words (codes "#0") t1 refl) ∙ ap (reported k 0) (shown_words (codes "$dumpvars") rest refl)

ended_reported : (k : ℕ) (rest : List ℕ) → reported k 0 (words_in (codes "$end\n" ++ rest)) ≡ reported k 0 (words_in rest)
ended_reported k rest = ap (reported k 0) (shown_words (codes "$end") rest refl)

high_level : (k count u : ℕ) (rest : List ℕ) → level_of micro false (reported k 0 (words_in (high_text count rest))) u ≡ level_of micro false (reported k 0 (words_in rest)) u
high_level k count u rest =
    let marked = codes "$end\n" ++ rest in
    ap (λ cs. level_of micro false cs u) (begun_reported k (flat_map high_at_first (range_with_len 0 (count + 2)) ++ marked))
    ∙ highs_reported k 0 (count + 2) 0 u marked
    ∙ ap (λ cs. level_of micro false cs u) (ended_reported k rest)

-- ---- the law

body_level : (k u end : ℕ) (spans : List Span) → AreSpans 0 end spans → end ≤ latest_instant → level_of micro false (reported k 0 (words_in (spans_text spans ++ last end))) u ≡ level_at k spans u
body_level k u end spans h low =
    ap (λ cs. level_of micro false cs u) (body_reported k 0 end spans h low 0) ∙ spans_level k u 0 end spans h

pub dumps_report_their_wires : DumpsReportTheirWires
dumps_report_their_wires names spans end words h low =
    let rest = spans_text spans ++ last end in
    record {
      line = record { scale = micro; id = codes "!"; words = codes "$end" ∷ words_in (high_text (length names) rest) };
      first = head_wire [] names rest refl words;
      id = refl;
      declared = head_declared names rest words;
      levels = λ number u. high_level number (length names) u rest ∙ body_level number u end spans h low;
    }
