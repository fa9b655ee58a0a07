-- A frame that a device follows: what the opcode table makes of it, in the record and in the queue.
use Rattle.std.specs.Prelude.{ℕ, ◌==◌, ◌%◌, Bool, not, ◌&&◌, ◌||◌, List, ◌∷◌, if◌then◌else◌}
use Rattle.message_table.specs.declared.message.Decoded.{Decoded}
use Rattle.message_table.specs.declared.message.Decoded.TheVariants.{Known, Unknown as NoName}
use Rattle.message_table.specs.declared.words.Reason.TheVariants.{Unrecognized}
use Rattle.message_table.specs.Table.{decoded_of, rule_of, may_go}
use Rattle.device_features.specs.declared.record.Heard.{Heard}
use Rattle.device_features.specs.Effects.{effect_of, refuses, heard_of}
use Rattle.device_features.specs.Kinds.{is_outside}
use Rattle.device_core.specs.State.{State, holds}
use Rattle.device_core.specs.Say.{after_effect}

-- what a frame says: too few operands, and a poll, do nothing
abbrev pub by_decoded : ℕ → Heard → State → Decoded → State
by_decoded limit h d (Known message) = after_effect limit h (effect_of d.kind d.phys d.name d.ports h d.record_of message) d
by_decoded limit h d (NoName opcode) = after_effect limit h (refuses d.record_of Unrecognized) d
by_decoded limit h d _ = d

-- a directly addressed frame is followed by who holds its destination, a broadcast by all (CEC 6.1), and each only as the
-- opcode may go (own); a device from outside follows none
abbrev pub is_for : State → ℕ → ℕ → Bool
is_for d to opcode = not (is_outside d.kind) && (may_go (rule_of opcode) to && ((to == 15) || holds d.place to))

-- a device after a frame that came whole
abbrev pub after_frame : ℕ → State → List ℕ → ℕ → State
after_frame limit d (header ∷ opcode ∷ operands) at =
    if is_for d (header % 16) opcode
    then by_decoded limit (heard_of header opcode operands at) d (decoded_of (header ∷ opcode ∷ operands))
    else d
after_frame limit d _ at = d
