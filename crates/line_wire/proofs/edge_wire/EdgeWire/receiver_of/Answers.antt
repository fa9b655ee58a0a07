use Rattle.line_wire.proofs.Fresh.{receiver_stands}
use Rattle.line_wire.proofs.edge_wire.EdgeWire.receiver_of.Goals as goal

pub returns-clause-stands : goal.returns-clause-stands
returns-clause-stands c = λ past b. receiver_stands past c.args.self.now b
