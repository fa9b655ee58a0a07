use Rattle.parts_laws.proofs.Same.{taken_back_sender}
use Rattle.parts_laws.proofs.laws.senders_are_their_parts.Goals as goal

pub returns : goal.returns
returns c = taken_back_sender c.args.sender.now c.parts.result c.of_parts.result c.parts.ensures c.of_parts.ensures.found (c.of_parts.ensures.there c.args.sender.now c.parts.ensures)
