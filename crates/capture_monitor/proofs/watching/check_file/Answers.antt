use Rattle.std.proofs.Common.{◌∷◌, [], ◌++◌, ap, ◌∙◌, arith}
use Rattle.capture_monitor.specs.EdgeFile.{file_left, with_edges}
use Rattle.capture_monitor.proofs.Files.{edge_read, end_read_so, edges_more, edges_fault, edges_ok}
use Rattle.capture_monitor.proofs.watching.check_file.Goals as goal

pub edges-preserved : goal.edges-preserved
edges-preserved c =
    let b = edge_read c.edges.lines c.next.new.self c.in-Ok.line c.in-Edge.field-0 c.in-Ok.ensures c.in-Edge.is in
    record {
      file = (
        c.edges.invariant.file.0 ++ c.in-Edge.field-0 ∷ [],
        c.edges.invariant.file.1 ∙ ap (with_edges c.edges.invariant.file.0) b.file ∙ edges_more c.edges.invariant.file.0 c.in-Edge.field-0 (file_left c.next.new.self),
      );
      room = omega (arith, b.room, c.edges.invariant.room);
    }

pub returns-in-End : goal.returns-in-End
returns-in-End c =
    let b = end_read_so c.edges.lines c.next.new.self c.in-Ok.line c.in-End.field-0 c.in-Ok.ensures c.in-End.is in
    let f = edges_ok c.edges.invariant.file.0 (record { edges = []; end = c.in-End.field-0 }) in
    (f.0, c.edges.invariant.file.1 ∙ ap (with_edges c.edges.invariant.file.0) b.0 ∙ f.1)

pub returns-in-Err : goal.returns-in-Err
returns-in-Err c =
    c.edges.invariant.file.1 ∙ ap (with_edges c.edges.invariant.file.0) c.in-Err.ensures ∙ edges_fault c.edges.invariant.file.0 c.in-Err.fault
