use Rattle.line_wire.proofs.Heard.{bits_room}
use Rattle.line_wire.proofs.Hearing.{tells_none, tells_some}
use Rattle.line_wire.proofs.edge_wire.EdgeWire.tell.Goals as goal

pub tick-requires-clause-room : goal.tick-requires-clause-room
tick-requires-clause-room c = λ none. bits_room c.requires.begun.0 c.args.self.now c.requires.begun.1 none

pub returns-then-is_told-clause-stands : goal.returns-then-is_told-clause-stands
returns-then-is_told-clause-stands c = λ past b.
    let e = c.tick.ensures in
    tells_some past c.args.self.now c.tick.new.self c.tick.result c.args.was c.args.is_low c.is_told.result c.is_told_low-low.result c.is_fall.result b c.requires.was c.requires.low c.is_told.ensures c.if-is_told.true
    c.is_told_low-low.ensures c.is_fall.ensures (record { heard = e.heard; level = e.level; stands = e.stands; runs = e.runs; over = e.over })

pub returns-else-is_told-clause-stands : goal.returns-else-is_told-clause-stands
returns-else-is_told-clause-stands c = λ past b. tells_none past c.args.self.now c.args.was c.args.is_low c.is_told.result b c.requires.was c.requires.low c.is_told.ensures c.if-is_told.false
