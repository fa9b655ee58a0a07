use Rattle.std.proofs.Common.{ℕ, List, rules, subst}
use Rattle.std.specs.List.{flat_map}
use Rattle.line_wave.specs.declared.Edge.{Edge}
use Rattle.text_core.specs.Adds.{Adds}
use Rattle.text_core.proofs.Adding.{text_ended, then}
use Rattle.text_core.proofs.Counting.{all_of}
use Rattle.capture_monitor.specs.EdgeText.{last_line}
use Rattle.program_captures.specs.Edges.{edge_line, edges_text}
use Rattle.program_captures.proofs.edges.write_edges_of.Goals as goal

pub returns-in-Ok : goal.returns-in-Ok
returns-in-Ok g c =
    let whole = c.args.capture.now in
    let first = subst (λ (edges : List Edge). Adds c.new-text.result c.add_edges.new.out (flat_map edge_line edges)) c.edges.ensures.edges c.add_edges.ensures in
    let last = subst (λ (end : ℕ). Adds c.add_edges.new.out c.add_end.new.out (last_line end)) c.end.ensures.end c.add_end.ensures in
    let text = edges_text whole.edges whole.end in
    let put = all_of _ _ _ _ text _ _ c.in-Ok.is
    (text_ended g.W.Sink.contents g.W.Sink.is_stuck c.args.out.now _ c.into_sink-below.result.now _ c.into_sink-below.result.ghost_name c.new-text.result c.add_end.new.out text c.written-done.result
    c.new-text.ensures (then _ _ _ (flat_map edge_line whole.edges) (last_line whole.end) first last) c.written-done.ensures.text
    c.into_sink-below.ensures.loan c.into_sink-below.ensures.known c.into_sink-below.ensures.stuck (search rules)) in
    put.0
