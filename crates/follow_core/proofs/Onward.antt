-- Lines whose edges pass one by one.
use Rattle.std.proofs.Common.{◌≡◌, ℕ, ◌+◌, ◌≤◌, Bool, List, [], ◌∷◌, ◌++◌, Option, None, Some, IfSome, Result, Ok, Err, refl, sym, ap, subst, ◌∙◌, append_assoc, append-nil, arith}
use Rattle.std.specs.Option.{option_to_list}
use Rattle.line_wave.specs.declared.Edge.{Edge}
use Rattle.text_core.specs.declared.at.At.{At}
use Rattle.capture_core.specs.Edges.{Captured}
use Rattle.capture_core.specs.Reading.{with_edges}
use Rattle.capture_core.specs.declared.fault.Cause.{Cause}
use Rattle.capture_through.specs.Through.{AreFrom, IsCalm, IsKnown, PassesMaybe, left_of, made_of, passed_edges, turned_by}
use Rattle.capture_through.specs.declared.passed.Passed.{Passed}
use Rattle.capture_through.specs.declared.through.Through.{Through}
use Rattle.capture_through.proofs.Steps.{from_zero, turn_from}
use Rattle.capture_csv.specs.Sampling.{CsvLinesGoOn}
use Rattle.capture_monitor.specs.EdgeFile.{EdgeLinesGoOn}
use Rattle.capture_pin.specs.Sampling.{PinLinesGoOn}
use Rattle.follow_core.specs.Lines.{IsEarly, from_of, lines_left}
use Rattle.follow_core.specs.Passing.{made_read, through_read}
use Rattle.follow_core.specs.declared.lines.CaptureLines.{CaptureLines}
use Rattle.follow_core.proofs.Left.{rest_of}

-- ---- edges before those of what is left

pub passing_first : (t : Through) (inverted : Bool) (glitch : ℕ) (r : Result Captured (At Cause)) → ((edges : List Edge) → left_of t edges ≡ made_of inverted glitch edges) → through_read t r ≡ made_read inverted glitch r
passing_first t inverted glitch (Ok c) whole = ap (λ (es : List Edge). Ok (record { edges = es; end = c.end })) (whole c.edges)
passing_first t inverted glitch (Err f) whole = refl

pub passing_more : (t u v : Through) (edge : Option Edge) (one two : Passed) (r : Result Captured (At Cause)) → PassesMaybe t edge one u → ((c : Captured) → r ≡ Ok c → left_of u c.edges ≡ passed_edges two ++ left_of v c.edges)
    → through_read t (with_edges (option_to_list edge) r) ≡ with_edges (passed_edges one ++ passed_edges two) (through_read v r)
passing_more t u v edge one two (Ok c) first second =
    ap (λ (es : List Edge). Ok (record { edges = es; end = c.end }))
    (first c.edges ∙ ap (λ es. passed_edges one ++ es) (second c refl) ∙ sym (append_assoc (passed_edges one) (passed_edges two) (left_of v c.edges)))
passing_more t u v edge one two (Err f) first second = refl

-- no line is left
pub passing_end : (t u : Through) (edge : Option Edge) (one two : Passed) (end : ℕ) → PassesMaybe t edge one u → left_of u [] ≡ passed_edges two
    → through_read t (Ok (record { edges = option_to_list edge; end = end })) ≡ Ok (record { edges = passed_edges one ++ passed_edges two; end = end })
passing_end t u edge one two end first last =
    ap (λ (es : List Edge). Ok (record { edges = es; end = end }))
    (ap (left_of t) (sym (append-nil (option_to_list edge))) ∙ first [] ∙ ap (λ es. passed_edges one ++ es) last)

-- ---- where what is left stands

-- none comes before 0
held_zero : (n : ℕ) (o : Option Edge) → IfSome o (λ e. 0 ≤ e.at + n)
held_zero n None = tt
held_zero n (Some e) = omega arith

pub calm_zero : (t : Through) → IsCalm 0 t
calm_zero t = record { turner = λ rest h. from_zero (turned_by t.turner rest); smoother = held_zero t.smoother.shortest t.smoother.held }

pub known_left : (t : Through) (from known : ℕ) (r : Result Captured (At Cause)) (c : Captured) → IsKnown t from known → ((d : Captured) → r ≡ Ok d → AreFrom from d.edges × (from ≤ d.end + 1)) → through_read t r ≡ Ok c
    → AreFrom known c.edges × (known ≤ c.end + 1)
known_left t from known (Ok d) c k rest h =
    let same : record { edges = left_of t d.edges; end = d.end } ≡ c = cc in
    let none = rest d refl in
    let sooner = k.sooner in
    let reach = none.1 in
    subst (λ (x : Captured). AreFrom known x.edges × (known ≤ x.end + 1)) same (k.none d.edges none.0, omega (arith, sooner, reach))
known_left t from known (Err f) c k rest h = cc

-- the same of the lines
pub from_rest : (file : EdgeLinesGoOn) (pin : PinLinesGoOn) (csv : CsvLinesGoOn) (signal : List ℕ) (lines : CaptureLines) (number : ℕ) (rest : List (List ℕ)) (c : Captured) → IsEarly lines → lines_left signal lines number rest ≡ Ok c
    → AreFrom (from_of lines) c.edges × (from_of lines ≤ c.end + 1)
from_rest file pin csv signal lines number rest c early h =
    let r = rest_of file pin csv signal lines number rest c early h in
    (turn_from r.is_low (from_of lines) c.edges r.turn, r.reach)
