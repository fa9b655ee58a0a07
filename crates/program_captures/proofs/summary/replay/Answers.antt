use Rattle.std.proofs.Common.{ℕ, min, OnOk, subst}
use Rattle.std.specs.Io.KnownBytes.{Appends}
use Rattle.capture_replay.specs.Replay.{replay_text}
use Rattle.program_captures.proofs.ShownLemmas.{replayed}
use Rattle.program_captures.proofs.summary.replay.Goals as goal

pub returns : goal.returns
returns g c =
    let old = g.W.Sink.contents c.args.out.now in
    let new = g.W.Sink.contents c.write_replay.new.out in
    subst (λ (n : ℕ). OnOk c.write_replay.result (Appends old new (replay_text n c.args.capture.now))) c.address_of.ensures
    (replayed c.address_of.result c.args.capture.now old new _ _ c.write_replay.result c.write_replay.ensures)
