use Rattle.std.proofs.Common.{ℕ, Option, [], ◌∷◌, subst, sym}
use Rattle.capture_replay.specs.Drives.{drive}
use Rattle.capture_replay.specs.Replay.{Plays}
use Rattle.capture_replay.proofs.Playing.{plays_unknown}
use Rattle.capture_replay.proofs.piece.add_drive.Goals as goal

pub returns-in-None : goal.returns-in-None
returns-in-None g c =
    subst (λ (by : Option ℕ). Plays c.args.address (drive by c.args.low ∷ []) 0 c.args.out.now c.args.out.now c.args.counts.now c.leave_out.new.self) (sym c.in-None.is)
    (plays_unknown c.args.address c.args.low c.args.out.now c.args.counts.now c.leave_out.new.self c.leave_out.ensures)

pub returns-in-Some : goal.returns-in-Some
returns-in-Some g c =
    subst (λ (by : Option ℕ). Plays c.args.address (drive by c.args.low ∷ []) 0 c.args.out.now c.add_own.new.out c.args.counts.now c.add_own.new.counts) (sym c.in-Some.is) c.add_own.ensures
