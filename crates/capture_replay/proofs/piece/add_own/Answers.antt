use Rattle.std.proofs.Common.{sym, ◌∙◌}
use Rattle.capture_replay.proofs.Playing.{plays_other, plays_own}
use Rattle.capture_replay.proofs.piece.add_own.Goals as goal

pub returns-then-not-is_own : goal.returns-then-not-is_own
returns-then-not-is_own g c = plays_other c.args.address c.args.by c.args.low c.args.out.now c.args.counts.now (sym c.is_own.ensures ∙ c.if-not-is_own.true)

pub returns : goal.returns
returns g c =
    plays_own c.args.address c.args.by c.args.low c.args.out.now c.add_pins.new.out c.args.counts.now c.add_pin.new.self (sym c.is_own.ensures ∙ c.if-not-is_own.false) c.add_pins.ensures c.add_pin.ensures
