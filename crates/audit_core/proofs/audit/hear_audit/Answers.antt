use Rattle.std.proofs.Common.{◌+◌, ◌≤◌, List, ℕ, drop, false, get_or, option_map, sym, subst, ap, ◌∙◌, arith}
use Rattle.line_wave.specs.declared.Edge.{Edge}
use Rattle.line_wave.specs.Bounds.{latest_instant}
use Rattle.line_reading.specs.Reports.{listed_as}
use Rattle.capture_monitor.specs.Monitor.{FollowsEndBy}
use Rattle.audit_core.specs.Audit.{after_all, first_tape, heard_all, summary_lines, tape_of}
use Rattle.audit_core.proofs.Audited.{Told, audited_end, audits_go_on, edge_early, next_edge, no_edge, told_end, told_first, told_more}
use Rattle.audit_core.proofs.audit.hear_audit.Goals as goal

abbrev none : Edge
none = record { at = 0; low = false }

pub edge-reading-requires : goal.edge-reading-requires
edge-reading-requires g c =
    let edges = c.edges-edges.result.now in
    let k = c.loop-edge.edge-index in
    let is = c.edges-edges.ensures.capture in
    let by : (get_or edges k none).at ≤ c.args.capture.now.end =
    edge_early edges c.args.capture.now.end k none (rw c.edges-edges.ensures.edges is.ends) c.loop-edge-test.true in
    let early : c.args.capture.now.end ≤ latest_instant = is.early in
    record { early = omega arith }

pub loop-edge-init : goal.loop-edge-init
loop-edge-init g c =
    let timing = c.args.options.timing in
    subst (λ (es : List Edge). Told g.H.LineHearer.hears (heard_all timing) after_all (first_tape c.args.capture.now.edges) c.args.windows c.args.capture.now es c.with_windows-monitor.result (tape_of c.new-auditor.result) c.args.out.now c.args.out.now) (sym c.edges-edges.ensures.edges)
    (told_first g.H.LineHearer.hears (heard_all timing) after_all (audits_go_on timing) (first_tape c.args.capture.now.edges) c.args.windows c.args.capture.now c.with_windows-monitor.result (tape_of c.new-auditor.result) c.args.out.now
    (g.met.H.LineHearer.nothing c.args.out.now) c.edges-edges.ensures.capture c.with_windows-monitor.ensures (c.new-auditor.ensures ∙ ap first_tape c.edges-edges.ensures.edges))

pub loop-edge-preserved : goal.loop-edge-preserved
loop-edge-preserved g c =
    let edges = c.edges-edges.result.now in
    let k = c.loop-edge.edge-index in
    let timing = c.args.options.timing in
    told_more g.H.LineHearer.hears g.met.H.LineHearer.then (heard_all timing) after_all (audits_go_on timing) (first_tape c.args.capture.now.edges) c.args.windows c.args.capture.now (drop k edges) (drop (k + 1) edges) c.loop-edge.monitor c.edge-reading.new.self (get_or edges k none) (option_map listed_as c.edge-reading.result)
    (tape_of c.loop-edge.auditor) (tape_of c.hear.new.self) c.args.out.now c.loop-edge.out c.hear.new.out
    c.loop-edge.invariant (next_edge edges k none c.loop-edge-test.true) (c.edge-reading.ensures.by c.args.windows) c.hear.ensures.kept c.hear.ensures.written

pub returns : goal.returns
returns g c =
    let edges = c.edges-edges.result.now in
    let k = c.loop-edge.edge-index in
    let timing = c.args.options.timing in
    let both = g.met.H.LineHearer.then in
    audited_end g.H.LineHearer.hears both c.args.windows c.args.capture.now timing (tape_of c.hear-2.new.self) c.args.out.now c.hear-2.new.out c.summarize.new.out
    (told_end g.H.LineHearer.hears both (heard_all timing) after_all (audits_go_on timing) (first_tape c.args.capture.now.edges) c.args.windows c.args.capture.now (drop k edges) c.loop-edge.monitor (option_map listed_as c.finish-reading.result) (tape_of c.loop-edge.auditor) (tape_of c.hear-2.new.self)
    c.args.out.now c.loop-edge.out c.hear-2.new.out c.loop-edge.invariant (no_edge edges k c.loop-edge-test.false)
    (subst (λ n. FollowsEndBy c.args.windows c.loop-edge.monitor n (option_map listed_as c.finish-reading.result)) c.end.ensures.end (c.finish-reading.ensures.by c.args.windows)) c.hear-2.ensures.kept c.hear-2.ensures.written)
    (subst (λ (n : ℕ). g.H.LineHearer.hears c.hear-2.new.out (summary_lines n (tape_of c.hear-2.new.self)) c.summarize.new.out) c.end-2.ensures.end c.summarize.ensures)
