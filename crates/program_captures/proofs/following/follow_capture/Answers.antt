use Rattle.std.proofs.Common.{IfErr, OnOk, subst, sym}
use Rattle.std.specs.Io.KnownBytes.{append_known}
use Rattle.cli_choice.specs.declared.choice.FollowReport.{FollowReport}
use Rattle.program_captures.specs.Following.{FollowsTo, StopsAs}
use Rattle.program_captures.proofs.following.follow_capture.Goals as goal

pub returns-in-Readings-clause-done : goal.returns-in-Readings-clause-done
returns-in-Readings-clause-done g c =
    let known = g.R.Read.remaining c.args.input.now in
    let old = append_known (g.W.Sink.contents c.args.out.now.sink) c.args.out.now.pending.items in
    subst (λ (r : FollowReport). OnOk c.follow_readings.result (FollowsTo (record c.args.choice { report = r }) c.args.signal.now known old (g.W.Sink.contents c.follow_readings.new.out.sink))) (sym c.in-Readings.is) c.follow_readings.ensures.done

pub returns-in-Readings-clause-stops : goal.returns-in-Readings-clause-stops
returns-in-Readings-clause-stops g c =
    let known = g.R.Read.remaining c.args.input.now in
    let old = append_known (g.W.Sink.contents c.args.out.now.sink) c.args.out.now.pending.items in
    let new = append_known (g.W.Sink.contents c.follow_readings.new.out.sink) c.follow_readings.new.out.pending.items in
    subst (λ (r : FollowReport). IfErr c.follow_readings.result (StopsAs r c.args.choice c.args.signal.now known old new c.args.out.now.pending.items c.follow_readings.new.out.pending.items)) (sym c.in-Readings.is) c.follow_readings.ensures.stops

pub returns-in-Audit-clause-done : goal.returns-in-Audit-clause-done
returns-in-Audit-clause-done g c =
    let known = g.R.Read.remaining c.args.input.now in
    let old = append_known (g.W.Sink.contents c.args.out.now.sink) c.args.out.now.pending.items in
    subst (λ (r : FollowReport). OnOk c.follow_remarks.result (FollowsTo (record c.args.choice { report = r }) c.args.signal.now known old (g.W.Sink.contents c.follow_remarks.new.out.sink))) (sym c.in-Audit.is) c.follow_remarks.ensures.done

pub returns-in-Audit-clause-stops : goal.returns-in-Audit-clause-stops
returns-in-Audit-clause-stops g c =
    let known = g.R.Read.remaining c.args.input.now in
    let old = append_known (g.W.Sink.contents c.args.out.now.sink) c.args.out.now.pending.items in
    let new = append_known (g.W.Sink.contents c.follow_remarks.new.out.sink) c.follow_remarks.new.out.pending.items in
    subst (λ (r : FollowReport). IfErr c.follow_remarks.result (StopsAs r c.args.choice c.args.signal.now known old new c.args.out.now.pending.items c.follow_remarks.new.out.pending.items)) (sym c.in-Audit.is) c.follow_remarks.ensures.stops
