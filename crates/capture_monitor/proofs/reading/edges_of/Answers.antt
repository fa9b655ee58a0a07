use Rattle.std.proofs.Common.{◌≡◌, ◌∷◌, [], ◌++◌, rules, ap, sym, ◌∙◌, arith}
use Rattle.capture_monitor.specs.EdgeFile.{file_left, file_of, with_edges}
use Rattle.capture_monitor.proofs.Files.{edge_read, edges_fault, edges_more, end_read_so}
use Rattle.capture_monitor.proofs.ReadEdges.{edges_end, gives_fault}
use Rattle.capture_monitor.proofs.reading.edges_of.Goals as goal

pub edges-preserved : goal.edges-preserved
edges-preserved c =
    let b = edge_read c.edges.lines c.next.new.self c.in-Ok.line c.in-Edge.edge c.in-Ok.ensures c.in-Edge.is in
    let pushed : c.push.new.self.items ≡ c.edges.edges.items ++ c.in-Edge.edge ∷ [] = search rules in
    record {
      file = c.edges.invariant.file ∙ ap (with_edges c.edges.edges.items) b.file ∙ edges_more c.edges.edges.items c.in-Edge.edge (file_left c.next.new.self)
          ∙ ap (λ es. with_edges es (file_left c.next.new.self)) (sym pushed);
      room = omega (arith, b.room, c.edges.invariant.room);
    }

pub returns-in-End : goal.returns-in-End
returns-in-End c =
    let b = end_read_so c.edges.lines c.next.new.self c.in-Ok.line c.in-End.end c.in-Ok.ensures c.in-End.is in
    c.edges.invariant.file ∙ ap (with_edges c.edges.edges.items) b.0 ∙ edges_end c.edges.edges.items c.in-End.end

pub returns-in-Err : goal.returns-in-Err
returns-in-Err c =
    rw c.reported_so.ensures (gives_fault c.in-Err.fault (file_of c.args.text.now) (c.edges.invariant.file ∙ ap (with_edges c.edges.edges.items) c.in-Err.ensures ∙ edges_fault c.edges.edges.items c.in-Err.fault))
