use Rattle.std.proofs.Common.{sym}
use Rattle.room_script.proofs.sending.read_frame.Goals as goal

pub returns-in-Ok : goal.returns-in-Ok
returns-in-Ok c = (
  record { whole = c.frames_are_whole.ensures; text = sym c.in-Ok.ensures.ok },
  λ other t. let only = c.assemble.ensures.only other t.whole t.text in let is = c.in-Ok.is in cc (only, is),
)

pub returns-in-Err : goal.returns-in-Err
returns-in-Err c = (
  c.in-Err.ensures.refused,
  λ other t. let only = c.assemble.ensures.only other t.whole t.text in let is = c.in-Err.is in cc (only, is),
)
