use Rattle.live_incoming.specs.Incoming.{bytes_left, to_come}
use Rattle.live_incoming.proofs.Coming.{end_is, nothing_is, over_is, part_is}
use Rattle.live_incoming.proofs.incoming.Lines.next.Goals as goal

pub returns-in-Nothing-clause-next : goal.returns-in-Nothing-clause-next
returns-in-Nothing-clause-next g c =
    let old = to_come c.args.self.now (g.R.Read.remaining c.args.input.now) in
    let mid = to_come c.pieces.self (g.R.Read.remaining c.pieces.input) in
    let left = bytes_left c.ready.new.self in
    let new = bytes_left c.piece.new.self in
    let rest = g.R.Read.remaining c.ready.new.input in
    (nothing_is old mid c.pieces.line.items left new c.piece.new.line.items rest c.is_empty.result c.is_empty.ensures c.pieces.invariant.whole c.pieces.invariant.come c.in-Ok.ensures c.in-Nothing.ensures).0

pub pieces-preserved : goal.pieces-preserved
pieces-preserved g c =
    let old = to_come c.args.self.now (g.R.Read.remaining c.args.input.now) in
    let mid = to_come c.pieces.self (g.R.Read.remaining c.pieces.input) in
    let left = bytes_left c.ready.new.self in
    let new = bytes_left c.piece.new.self in
    let rest = g.R.Read.remaining c.ready.new.input in
    let is = part_is old mid c.pieces.line.items left new c.piece.new.line.items rest c.pieces.invariant.whole c.pieces.invariant.come c.in-Ok.ensures c.in-Part.ensures in
    record { whole = is.0; come = is.1 }

pub returns-in-End-clause-next : goal.returns-in-End-clause-next
returns-in-End-clause-next g c =
    let old = to_come c.args.self.now (g.R.Read.remaining c.args.input.now) in
    let mid = to_come c.pieces.self (g.R.Read.remaining c.pieces.input) in
    let left = bytes_left c.ready.new.self in
    let new = bytes_left c.piece.new.self in
    let rest = g.R.Read.remaining c.ready.new.input in
    (end_is old mid c.pieces.line.items left new c.piece.new.line.items rest c.pieces.invariant.whole c.pieces.invariant.come c.in-Ok.ensures c.in-End.ensures).0

pub returns-in-Over-clause-next : goal.returns-in-Over-clause-next
returns-in-Over-clause-next g c =
    let old = to_come c.args.self.now (g.R.Read.remaining c.args.input.now) in
    let mid = to_come c.pieces.self (g.R.Read.remaining c.pieces.input) in
    let left = bytes_left c.ready.new.self in
    let new = bytes_left c.piece.new.self in
    let rest = g.R.Read.remaining c.ready.new.input in
    over_is old mid c.pieces.line.items left new c.piece.new.line.items rest c.pieces.invariant.whole c.pieces.invariant.come c.in-Ok.ensures c.in-Over.ensures
