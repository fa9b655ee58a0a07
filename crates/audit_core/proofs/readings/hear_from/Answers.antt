use Rattle.std.proofs.Common.{◌+◌, ◌≤◌, List, drop, false, get_or, option_map, refl, sym, subst, arith}
use Rattle.line_wave.specs.declared.Edge.{Edge}
use Rattle.line_wave.specs.Bounds.{latest_instant}
use Rattle.line_reading.specs.Reports.{listed_as}
use Rattle.capture_monitor.specs.Monitor.{FollowsEndBy}
use Rattle.capture_join.specs.Joined.{joined_lines}
use Rattle.audit_core.proofs.Audited.{Told, edge_early, next_edge, no_edge, told_end, told_first, told_more}
use Rattle.audit_core.proofs.JoinedLines.{after_joined, joined_go_on}
use Rattle.audit_core.proofs.readings.hear_from.Goals as goal

abbrev none : Edge
none = record { at = 0; low = false }

pub edge-reading-requires : goal.edge-reading-requires
edge-reading-requires g c =
    let edges = c.edges-edges.result.now in
    let k = c.loop-edge.edge-index in
    let is = c.edges-edges.ensures.capture in
    let by : (get_or edges k none).at ≤ c.args.capture.now.end =
    edge_early edges c.args.capture.now.end k none (rw c.edges-edges.ensures.edges is.ends) c.loop-edge-test.true in
    let early : c.args.capture.now.end ≤ latest_instant = is.early in
    record { early = omega arith }

pub loop-edge-init : goal.loop-edge-init
loop-edge-init g c =
    let t = c.args.joined_at in
    subst (λ (es : List Edge). Told g.H.LineHearer.hears (joined_lines t) (after_joined t) false c.args.windows c.args.capture.now es c.with_windows-monitor.result false c.args.out.now c.args.out.now) (sym c.edges-edges.ensures.edges)
    (told_first g.H.LineHearer.hears (joined_lines t) (after_joined t) (joined_go_on t) false c.args.windows c.args.capture.now c.with_windows-monitor.result false c.args.out.now
    (g.met.H.LineHearer.nothing c.args.out.now) c.edges-edges.ensures.capture c.with_windows-monitor.ensures refl)

pub loop-edge-preserved : goal.loop-edge-preserved
loop-edge-preserved g c =
    let edges = c.edges-edges.result.now in
    let k = c.loop-edge.edge-index in
    let t = c.args.joined_at in
    told_more g.H.LineHearer.hears g.met.H.LineHearer.then (joined_lines t) (after_joined t) (joined_go_on t) false c.args.windows c.args.capture.now (drop k edges) (drop (k + 1) edges) c.loop-edge.monitor c.edge-reading.new.self (get_or edges k none) (option_map listed_as c.edge-reading.result)
    c.loop-edge.is_reported c.has_joined-is_reported.result c.args.out.now c.loop-edge.out c.hear_joined.new.out
    c.loop-edge.invariant (next_edge edges k none c.loop-edge-test.true) (c.edge-reading.ensures.by c.args.windows) c.has_joined-is_reported.ensures c.hear_joined.ensures

pub returns : goal.returns
returns g c =
    let edges = c.edges-edges.result.now in
    let k = c.loop-edge.edge-index in
    let t = c.args.joined_at in
    (told_end g.H.LineHearer.hears g.met.H.LineHearer.then (joined_lines t) (after_joined t) (joined_go_on t) false c.args.windows c.args.capture.now (drop k edges) c.loop-edge.monitor (option_map listed_as c.finish-reading.result) c.loop-edge.is_reported _
    c.args.out.now c.loop-edge.out c.hear_joined-2.new.out c.loop-edge.invariant (no_edge edges k c.loop-edge-test.false)
    (subst (λ n. FollowsEndBy c.args.windows c.loop-edge.monitor n (option_map listed_as c.finish-reading.result)) c.end.ensures.end (c.finish-reading.ensures.by c.args.windows)) refl c.hear_joined-2.ensures).0
