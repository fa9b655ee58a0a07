-- How a message comes, and how many operands it has (CEC 13 and 17, the tables of messages).
use Rattle.std.specs.Prelude.{ℕ, ◌-◌, ◌==◌, Bool, true, false, nat_lt, ◌&&◌, ◌||◌, if◌then◌else◌, List, length, Option, Some, None}
use Rattle.message_table.specs.declared.row.Rule.{Rule}
use Rattle.message_table.specs.Table.{rule_of}
use Rattle.audit_remarks.specs.declared.messages.Missing.{Missing}
use Rattle.audit_remarks.specs.declared.messages.Receivers.{Receivers}
use Rattle.audit_remarks.specs.declared.messages.Receivers.TheVariants.{OneDevice, AllDevices}
use Rattle.audit_remarks.specs.Frames.{opcode_of, receiver}

-- ---- whom it is for

-- Report Power Status may come to all by CEC 2.0, which has it so when a device changes its state.
abbrev pub may_broadcast : ℕ → Rule → Bool
may_broadcast opcode r = r.broadcast || (opcode == 0x90)

abbrev pub receivers_by : Bool → ℕ → Rule → Option Receivers
receivers_by true opcode r = if may_broadcast opcode r then None else Some OneDevice
receivers_by false opcode r = if r.direct then None else Some AllDevices

-- those whom it is for, where it came to others
abbrev pub missed_receivers : List ℕ → Option Receivers
missed_receivers frame = if nat_lt (length frame) 2 then None else receivers_by (receiver frame == 15) (opcode_of frame) (rule_of (opcode_of frame))

-- ---- its operands, in bytes

abbrev pub missing_by : ℕ → ℕ → Option Missing
missing_by count least = if nat_lt count least then Some (record { count = count; least = least }) else None

abbrev pub missing_operands : List ℕ → Option Missing
missing_operands frame = if nat_lt (length frame) 2 then None else missing_by (length frame - 2) (rule_of (opcode_of frame)).least
