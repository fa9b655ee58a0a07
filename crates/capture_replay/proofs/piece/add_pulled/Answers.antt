use Rattle.capture_replay.proofs.Playing.{two_drives}
use Rattle.capture_replay.specs.Drives.{hidden_one, pull_in, puller}
use Rattle.capture_replay.proofs.piece.add_pulled.Goals as goal

pub returns : goal.returns
returns g c =
    two_drives c.args.address c.args.sides.sender c.hidden_one.result (hidden_one c.args.slot) c.puller.result (puller c.args.sides.taker c.args.slot) c.pull_in.result (pull_in c.args.slot)
    c.args.out.now c.add_drive.new.out c.add_drive-2.new.out c.args.counts.now c.add_drive.new.counts c.add_drive-2.new.counts c.hidden_one.ensures c.puller.ensures c.pull_in.ensures c.add_drive.ensures c.add_drive-2.ensures
