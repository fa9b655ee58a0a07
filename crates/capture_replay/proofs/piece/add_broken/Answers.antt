use Rattle.std.proofs.Common.{Option, subst, sym}
use Rattle.audit_pieces.specs.declared.stretch.LowStretch.{LowStretch}
use Rattle.capture_replay.specs.Drives.{broken_drives}
use Rattle.capture_replay.specs.Replay.{Plays}
use Rattle.capture_replay.proofs.Playing.{plays_none}
use Rattle.capture_replay.proofs.piece.add_broken.Goals as goal

pub returns-in-None : goal.returns-in-None
returns-in-None g c =
    subst (λ (o : Option LowStretch). Plays c.args.address (broken_drives o) 0 c.args.out.now c.args.out.now c.args.counts.now c.args.counts.now) (sym c.in-None.is)
    (plays_none c.args.address c.args.out.now c.args.counts.now)

pub returns-in-Some : goal.returns-in-Some
returns-in-Some g c =
    subst (λ (o : Option LowStretch). Plays c.args.address (broken_drives o) 0 c.args.out.now c.add_drive.new.out c.args.counts.now c.add_drive.new.counts) (sym c.in-Some.is) c.add_drive.ensures
