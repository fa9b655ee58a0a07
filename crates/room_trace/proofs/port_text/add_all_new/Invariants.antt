use Rattle.std.proofs.Common.{length, take, get_or, false}
use Rattle.std.specs.List.{flat_map, range_with_len}
use Rattle.text_core.specs.Adds.{Adds}
use Rattle.room_trace.specs.PortText.{texts_of_new}
use Rattle.room_trace.proofs.port_text.add_all_new.Given as goal

-- the texts of the devices so far are added
abbrev pub invariant-loop-device : goal.invariant-loop-device
invariant-loop-device g l =
    Adds l.fn.out l.out (flat_map (λ device. texts_of_new l.form l.at l.root l.tree (get_or l.was device false) device) (take l.device (range_with_len 0 (length l.tree))))
