use Rattle.std.specs.Io.KnownBytes.{append_known}
use Rattle.program_captures.proofs.CaptureLemmas.{audit_done, audit_ends, stops_audit}
use Rattle.program_captures.proofs.following.follow_remarks.Goals as goal

pub returns-in-Ok-clause-done : goal.returns-in-Ok-clause-done
returns-in-Ok-clause-done g c =
    let known = g.R.Read.remaining c.args.input.now in
    let old = append_known (g.W.Sink.contents c.args.out.now.sink) c.args.out.now.pending.items in
    let new = c.follow_audit.new.out in
    audit_done c.args.choice c.args.timing c.args.strict c.in-Ok.remarked c.args.signal.now c.reception_of.result known old (g.W.Sink.contents new.sink) new.pending.items c.end_audit.result
    c.reception_of.ensures.same c.in-Ok.ensures.handed c.end_audit.ensures.done c.in-Ok.ensures.follows

pub returns-in-Ok-clause-stops : goal.returns-in-Ok-clause-stops
returns-in-Ok-clause-stops g c =
    let known = g.R.Read.remaining c.args.input.now in
    let old = append_known (g.W.Sink.contents c.args.out.now.sink) c.args.out.now.pending.items in
    let new = append_known (g.W.Sink.contents c.follow_audit.new.out.sink) c.follow_audit.new.out.pending.items in
    audit_ends c.args.choice c.args.timing c.args.strict c.in-Ok.remarked c.args.signal.now c.reception_of.result known old new c.args.out.now.pending.items c.follow_audit.new.out.pending.items c.end_audit.result
    c.reception_of.ensures.same c.in-Ok.ensures.handed c.end_audit.ensures.stops c.in-Ok.ensures.follows

pub returns-in-Err-clause-stops : goal.returns-in-Err-clause-stops
returns-in-Err-clause-stops g c =
    let known = g.R.Read.remaining c.args.input.now in
    let old = append_known (g.W.Sink.contents c.args.out.now.sink) c.args.out.now.pending.items in
    let new = append_known (g.W.Sink.contents c.follow_audit.new.out.sink) c.follow_audit.new.out.pending.items in
    stops_audit c.args.choice c.args.timing c.args.strict c.args.signal.now c.reception_of.result known old new c.args.out.now.pending.items c.follow_audit.new.out.pending.items c.in-Err.error c.audit_fault_of.result
    c.reception_of.ensures.same c.audit_fault_of.ensures c.in-Err.ensures.follows c.in-Err.ensures.kept
