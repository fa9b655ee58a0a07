use Rattle.std.proofs.Common.{arith}
use Rattle.line_frames.proofs.Slots.{length-frame_bits}
use Rattle.line_frames.proofs.Frame.slots.Goals as goal

pub returns : goal.returns
returns c = rw (← c.self.view_is) (omega (arith, length-frame_bits c.self.inside.blocks.items, c.len.ensures.value))
