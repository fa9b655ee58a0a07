use Rattle.std.proofs.Common.{◌-◌, vec_len}
use Rattle.live_dialogue.specs.Dialogue.{HasCome}
use Rattle.live_dialogue.proofs.opening.topology_text.Given as goal

-- the lines so far
abbrev pub invariant-lines : goal.invariant-lines
invariant-lines g l = HasCome l.fn.incoming.rest l.incoming.rest l.text.items

abbrev pub decreases-lines : goal.decreases-lines
decreases-lines g l = 1048577 - vec_len l.text
