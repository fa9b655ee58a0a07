-- An edge file that is read is a capture.
use Rattle.std.proofs.Common.{◌≡◌, ℕ, ◌+◌, ◌≤◌, ◌&&◌, Bool, true, false, not, nat_le, if◌then◌else◌, List, [], ◌∷◌, Option, Some, None, Result, Ok, Err, codes, refl, arith, ap, sym, subst}
use Rattle.std.specs.Str.{bytes_eq}
use Rattle.std.proofs.lemmas.Bool.Decides.{nat_tests}
use Rattle.line_wave.specs.declared.Edge.{Edge as EdgeOf}
use Rattle.text_core.specs.Lines.{lines_of, is_skipped}
use Rattle.text_core.specs.Number.{number_of}
use Rattle.text_core.specs.Words.{words_of}
use Rattle.capture_core.specs.Edges.{AreInTurn, EndBy, IsCapture}
use Rattle.capture_monitor.specs.declared.edge_file.EdgeFault.{EdgeFault}
use Rattle.capture_monitor.specs.declared.edge_file.EdgeFault.TheVariants as fault
use Rattle.capture_monitor.specs.declared.edge_file.EdgeLine.{EdgeLine}
use Rattle.capture_monitor.specs.declared.edge_file.EdgeLine.TheVariants.{Edge, End}
use Rattle.capture_monitor.specs.EdgeFile.{EdgeFile, EdgeLinesGoOn, edge_line_of, edges_read, end_read, file_of, is_in_turn, line_alone, line_by, edge_line_at, marked_by, read_line, turns, with_edge, with_edges, within, word_out_of_turn}
use Rattle.capture_monitor.specs.Reading.{GivesEdges, fault_reported}
use Rattle.capture_monitor.proofs.Files.{edge_before, end_none}

-- ---- the end is within the limit

end_within : (t time : ℕ) (mark : List ℕ) → edge_line_at time mark ≡ Ok (End t) → t ≡ time
end_within t time mark h = by (bytes_eq mark (codes "0")) (bytes_eq mark (codes "1")) (bytes_eq mark (codes "end")) h
  where
    line_if : Bool → Bool → Bool → Result EdgeLine ℕ
    line_if a b c = if a then Ok (Edge (record { at = time; low = true })) else if b then Ok (Edge (record { at = time; low = false })) else if c then Ok (End time) else Err 1

    by : (a b c : Bool) → line_if a b c ≡ Ok (End t) → t ≡ time
    by true b c k = cc
    by false true c k = cc
    by false false true k = cc
    by false false false k = cc

-- what is said with nothing after it
alone_is : (line : Result EdgeLine ℕ) (words : List (List ℕ)) (x : EdgeLine) → line_alone line words ≡ Ok x → line ≡ Ok x
alone_is (Err word) words x h = cc
alone_is (Ok line) [] x h = h
alone_is (Ok line) (word ∷ words) x h = cc

end_marked : (t time : ℕ) (words : List (List ℕ)) → marked_by (Some time) words ≡ Ok (End t) → t ≡ time
end_marked t time [] h = cc
end_marked t time (mark ∷ words) h = end_within t time mark (alone_is (edge_line_at time mark) words (End t) h)

end_time : (t : ℕ) (o : Option ℕ) (words : List (List ℕ)) → marked_by (within o) words ≡ Ok (End t) → t ≤ 2000000000000
end_time t None words h = cc
end_time t (Some time) words h = by (nat_le time 2000000000000) refl h
  where
    by : (c : Bool) → nat_le time 2000000000000 ≡ c → marked_by (if c then Some time else None) words ≡ Ok (End t) → t ≤ 2000000000000
    by true k m =
        let low : time ≤ 2000000000000 = grind (arith, nat_tests) in
        let is = end_marked t time words m in
        omega arith
    by false k m = cc

end_early : (line : List ℕ) (t : ℕ) → edge_line_of line ≡ Ok (End t) → t ≤ 2000000000000
end_early line t h = by (words_of line) h
  where
    by : (words : List (List ℕ)) → line_by words ≡ Ok (End t) → t ≤ 2000000000000
    by [] k = cc
    by (time ∷ words) k = end_time t (number_of time) words k

-- ---- the edges are in turn

record IsRead (is_low : Bool) (from : ℕ) (f : EdgeFile) : Type 0 where
  turn : AreInTurn is_low from f.edges
  ends : EndBy f.end f.edges
  early : f.end ≤ 2000000000000
  reach : from ≤ f.end + 1

turned : (is_low : Bool) (from : ℕ) (e : EdgeOf) → is_in_turn is_low from e ≡ true → (e.low ≡ not is_low) × (from ≤ e.at)
turned is_low from e h = (level is_low e.low (nat_le from e.at) h, late (turns is_low e) (nat_le from e.at) refl h)
  where
    level : (a b c : Bool) → ((if b then not a else a) && c) ≡ true → b ≡ not a
    level true true c h = cc
    level true false c h = refl
    level false true c h = refl
    level false false c h = cc

    late : (a b : Bool) → nat_le from e.at ≡ b → (a && b) ≡ true → from ≤ e.at
    late true true k h = grind (arith, nat_tests)
    late true false k h = cc
    late false b k h = cc

edge_is_read : (is_low : Bool) (from : ℕ) (e : EdgeOf) (left f : EdgeFile) → is_in_turn is_low from e ≡ true → IsRead e.low (e.at + 1) left → f ≡ record { edges = e ∷ left.edges; end = left.end } → IsRead is_low from f
edge_is_read is_low from e left f turn is same =
    let t = turned is_low from e turn in
    let after = t.1 in
    let reach = is.reach in
    subst (λ (x : EdgeFile). IsRead is_low from x) (sym same) (record {
      turn = (t.0, t.1, is.turn);
      ends = (omega arith, is.ends);
      early = is.early;
      reach = omega arith;
    })

line_is_read : (number : ℕ) (is_low : Bool) (from : ℕ) (line : List ℕ) (o : Result EdgeLine ℕ) (more : EdgeOf → Result EdgeFile EdgeFault) (lines : List (List ℕ)) (f : EdgeFile)
    → edge_line_of line ≡ o → ((e : EdgeOf) (g : EdgeFile) → more e ≡ Ok g → IsRead e.low (e.at + 1) g)
    → read_line number is_low from o more (λ t. end_read lines (number + 1) t) ≡ Ok f → IsRead is_low from f
line_is_read number is_low from line (Err word) more lines f is ih h = cc
line_is_read number is_low from line (Ok (Edge e)) more lines f is ih h = by (is_in_turn is_low from e) refl h
  where
    by : (c : Bool) → is_in_turn is_low from e ≡ c → (if c then with_edge e (more e) else Err (fault.Order number (word_out_of_turn is_low e))) ≡ Ok f → IsRead is_low from f
    by true t k = let b = edge_before e (more e) f k in edge_is_read is_low from e b.left f t (ih e b.left b.is) b.same
    by false t k = cc
line_is_read number is_low from line (Ok (End t)) more lines f is ih h = by (nat_le from (t + 1)) refl h
  where
    by : (c : Bool) → nat_le from (t + 1) ≡ c → (if c then end_read lines (number + 1) t else Err (fault.Order number 0)) ≡ Ok f → IsRead is_low from f
    by true l k =
        let same = end_none lines (number + 1) t f k in
        let early = end_early line t is in
        let late : from ≤ t + 1 = grind (arith, nat_tests) in
        subst (λ (x : EdgeFile). IsRead is_low from x) (sym same) (record { turn = tt; ends = tt; early = early; reach = late })
    by false l k = cc

lines_are_read : (lines : List (List ℕ)) (number : ℕ) (is_low : Bool) (from : ℕ) (f : EdgeFile) → edges_read lines number is_low from ≡ Ok f → IsRead is_low from f
lines_are_read [] number is_low from f h = cc
lines_are_read (line ∷ lines) number is_low from f h =
    by (is_skipped line) h (λ k. lines_are_read lines (number + 1) is_low from f k) (λ e g k. lines_are_read lines (number + 1) e.low (e.at + 1) g k)
  where
    by : (c : Bool) → (if c then edges_read lines (number + 1) is_low from
        else read_line number is_low from (edge_line_of line) (λ e. edges_read lines (number + 1) e.low (e.at + 1)) (λ t. end_read lines (number + 1) t)) ≡ Ok f
        → (edges_read lines (number + 1) is_low from ≡ Ok f → IsRead is_low from f)
        → ((e : EdgeOf) (g : EdgeFile) → edges_read lines (number + 1) e.low (e.at + 1) ≡ Ok g → IsRead e.low (e.at + 1) g) → IsRead is_low from f
    by true k skip more = skip k
    by false k skip more = line_is_read number is_low from line (edge_line_of line) (λ e. edges_read lines (number + 1) e.low (e.at + 1)) lines f refl more k

pub edge_lines_go_on : EdgeLinesGoOn
edge_lines_go_on lines number is_low from f h = let r = lines_are_read lines number is_low from f h in (r.turn, r.ends, r.reach, r.early)

pub file_is_capture : (text : List ℕ) (f : EdgeFile) → file_of text ≡ Ok f → IsCapture f.edges f.end
file_is_capture text f h = let r = lines_are_read (lines_of text) 1 false 0 f h in record { turn = r.turn; ends = r.ends; early = r.early }

-- ---- what is returned

pub gives_fault : (x : EdgeFault) (read : Result EdgeFile EdgeFault) → read ≡ Err x → GivesEdges (Err (fault_reported x)) read
gives_fault (fault.Line line word) read h = h
gives_fault (fault.Order line word) read h = h

pub edges_end : (es : List EdgeOf) (t : ℕ) → with_edges es (Ok (record { edges = []; end = t })) ≡ Ok (record { edges = es; end = t })
edges_end [] t = refl
edges_end (e ∷ es) t = ap (with_edge e) (edges_end es t)
