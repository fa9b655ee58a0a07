use Rattle.line_frames.proofs.Slots as Slots
use Rattle.line_frames.proofs.laws.slots_have_their_places.Goals as goal

pub returns-clause-count : goal.returns-clause-count
returns-clause-count c = Slots.length-frame_bits

pub returns-clause-end_of_message : goal.returns-clause-end_of_message
returns-clause-end_of_message c = Slots.eom_slot

pub returns-clause-acknowledge : goal.returns-clause-acknowledge
returns-clause-acknowledge c = Slots.ack_slot
