use Rattle.std.proofs.Common.{◌≡◌, length, option_map, ap, arith, true, rules}
use Rattle.line_reading.specs.Reports.{listed_as}
use Rattle.capture_monitor.proofs.Files.{watched_first, watched_more, cut_edge, ended_so, no_fault, edge_read, end_read_so}
use Rattle.capture_monitor.proofs.watching.add_readings.Goals as goal

pub edges-init : goal.edges-init
edges-init g c =
    let count = c.new-lines.ensures.first.0 in
    let text : length c.new-lines.result.rest.now ≡ length c.args.text.now = ap length c.new-lines.ensures.rest in
    record {
      watched = λ f h. watched_first c.args.text.now f c.new-lines.result c.new-monitor.result c.args.out.now h
          c.new-lines.ensures.rest c.new-lines.ensures.first.0 c.new-lines.ensures.first.1 c.new-lines.ensures.first.2 c.new-monitor.ensures;
      room = omega (arith, count, text);
    }

pub edges-preserved : goal.edges-preserved
edges-preserved g c =
    let b = edge_read c.edges.lines c.next.new.self c.in-Ok.line c.in-Edge.edge c.in-Ok.ensures c.in-Edge.is in
    record {
      watched = λ f h. watched_more f c.edges.lines c.next.new.self c.edges.monitor c.edge-reading.new.self c.in-Edge.edge (option_map listed_as c.edge-reading.result) _ _ _
          (c.edges.invariant.watched f h) b c.edge-reading.ensures.follows c.add_reported.ensures;
      room = omega (arith, b.room, c.edges.invariant.room);
    }

pub returns-then-has_failed : goal.returns-then-has_failed
returns-then-has_failed g c = λ f h.
    let b = edge_read c.edges.lines c.next.new.self c.in-Ok.line c.in-Edge.edge c.in-Ok.ensures c.in-Edge.is in
    let failed : c.add_reported.new.out.failed ≡ true = search rules in
    cut_edge f c.edges.lines c.next.new.self c.edges.monitor c.edge-reading.new.self c.in-Edge.edge (option_map listed_as c.edge-reading.result) _ _ _
    (c.edges.invariant.watched f h) b c.edge-reading.ensures.follows c.add_reported.ensures failed

pub returns-in-End : goal.returns-in-End
returns-in-End g c = λ f h.
    let b = end_read_so c.edges.lines c.next.new.self c.in-Ok.line c.in-End.t c.in-Ok.ensures c.in-End.is in
    ended_so f c.edges.lines c.edges.monitor c.in-End.t (option_map listed_as c.finish-reading.result) _ _ _
    (c.edges.invariant.watched f h) b.0 b.1 c.finish-reading.ensures.follows c.add_reported-in-End.ensures

pub returns-in-Err : goal.returns-in-Err
returns-in-Err g c = λ f h. absurd (no_fault f c.edges.lines c.edges.monitor c.args.out.now c.edges.out c.in-Err.field-0 (c.edges.invariant.watched f h) c.in-Err.ensures)
