use Rattle.std.proofs.Common.{◌≡◌, ℕ, ◌<◌, get_or, false}
use Rattle.edid_tree.specs.Path.{is_on_wire}
use Rattle.room_trace.proofs.port_text.on_wire.Given as goal

-- the devices so far are told
abbrev pub invariant-loop-number : goal.invariant-loop-number
invariant-loop-number l = (k : ℕ) → k < l.number → get_or l.device-items k false ≡ is_on_wire l.tree k
