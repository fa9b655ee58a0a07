use Rattle.std.specs.Io.KnownBytes.{append_known}
use Rattle.program_captures.proofs.CaptureLemmas.{follows_to, stops_so}
use Rattle.program_captures.proofs.following.follow_readings.Goals as goal

pub returns-in-Ok-clause-done : goal.returns-in-Ok-clause-done
returns-in-Ok-clause-done g c =
    let known = g.R.Read.remaining c.args.input.now in
    let old = append_known (g.W.Sink.contents c.args.out.now.sink) c.args.out.now.pending.items in
    let new = c.follow.new.out in
    follows_to c.args.choice c.args.from_idle c.args.folded c.args.signal.now c.reception_of.result known old (g.W.Sink.contents new.sink) new.pending.items c.reception_of.ensures.same c.in-Ok.ensures.handed
    c.in-Ok.ensures.follows

pub returns-in-Err-clause-stops : goal.returns-in-Err-clause-stops
returns-in-Err-clause-stops g c =
    let known = g.R.Read.remaining c.args.input.now in
    let old = append_known (g.W.Sink.contents c.args.out.now.sink) c.args.out.now.pending.items in
    let new = append_known (g.W.Sink.contents c.follow.new.out.sink) c.follow.new.out.pending.items in
    stops_so c.args.choice c.args.from_idle c.args.folded c.args.signal.now c.reception_of.result known old new c.args.out.now.pending.items c.follow.new.out.pending.items c.in-Err.error c.fault_of.result c.reception_of.ensures.same
    c.fault_of.ensures c.in-Err.ensures.follows c.in-Err.ensures.kept
