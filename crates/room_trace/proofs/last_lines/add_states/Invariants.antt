use Rattle.std.proofs.Common.{take}
use Rattle.std.specs.List.{flat_map}
use Rattle.text_core.specs.Adds.{Adds}
use Rattle.room_trace.specs.Records.{state_text}
use Rattle.room_trace.proofs.last_lines.add_states.Given as goal

-- the texts of the devices so far are added
abbrev pub invariant-loop-device : goal.invariant-loop-device
invariant-loop-device g l = Adds l.fn.out l.out (flat_map (state_text l.form) (take l.device-index l.devices))
