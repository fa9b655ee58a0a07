use Rattle.std.proofs.Common.{◌<◌, length, sym, subst, List, Option}
use Rattle.line_reading.specs.declared.sender.Sender.{Sender}
use Rattle.line_wire.proofs.Fresh.{senders_within, sender_shown}
use Rattle.line_wire.proofs.edge_wire.EdgeWire.sender_of.Goals as goal

pub sender_at-requires : goal.sender_at-requires
sender_at-requires c = subst (λ (ss : List (Option Sender)). c.args.seat < length ss) (sym c.as_slice.ensures.value) (senders_within c.args.self.now c.args.seat c.requires.begun c.requires.known)

pub returns : goal.returns
returns c = sender_shown c.args.self.now c.args.seat c.as_slice.result.now c.sender_at.result (λ x. x.now) c.requires.begun c.as_slice.ensures.value c.sender_at.ensures
