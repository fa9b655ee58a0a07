use Rattle.live_dialogue.specs.Dialogue.{held}
use Rattle.program_calls.proofs.LiveLemmas.{lives}
use Rattle.program_calls.proofs.live.live.Goals as goal

pub returns : goal.returns
returns g c =
    let known = g.R.Read.remaining c.args.input.now in
    let reported = c.in_ok-session_heard.ensures.session in
    lives c.args.form g.W.Sink.contents known reported.0 (held g.W.Sink.contents c.args.out.now) (held g.W.Sink.contents c.flush.new.self) c.session_heard.new.out c.flush.ensures.bytes reported.1
    (c.in_ok-session_heard.ensures.handed.handed c.in_ok-flush.ensures.done)
