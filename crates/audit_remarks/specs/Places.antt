-- The physical addresses that devices report (CEC 10.1, Report Physical Address; CEC 11.2, Active Source).
use Rattle.std.specs.Prelude.{ℕ, ◌==◌, Bool, nat_lt, ◌&&◌, if◌then◌else◌, List, length, replicate, slice_index, slice_index_or, slice_set, Option, Some, None}
use Rattle.text_core.specs.declared.phys.Phys.{Phys}
use Rattle.audit_remarks.specs.Frames.{opcode_of, sender}

-- the address in a frame of this opcode
abbrev pub phys_in : ℕ → List ℕ → Option Phys
phys_in opcode frame = if (opcode_of frame == opcode) && nat_lt 3 (length frame) then Some (record { high = slice_index frame 2; low = slice_index frame 3 }) else None

abbrev pub reported_address : List ℕ → Option Phys
reported_address frame = phys_in 0x84 frame

abbrev pub claimed_address : List ℕ → Option Phys
claimed_address frame = phys_in 0x82 frame

-- ---- what each logical address reported last

abbrev pub no_places : List (Option Phys)
no_places = replicate 16 None

abbrev pub with_report : ℕ → Option Phys → List (Option Phys) → List (Option Phys)
with_report initiator None places = places
with_report initiator (Some phys) places = slice_set places initiator (Some phys)

abbrev pub with_places : List ℕ → List (Option Phys) → List (Option Phys)
with_places frame places = with_report (sender frame) (reported_address frame) places

-- ---- two addresses for one device

abbrev pub same_phys : Phys → Phys → Bool
same_phys a b = (a.high == b.high) && (a.low == b.low)

-- nothing is said of address 15, which several devices may have (CEC 10.2)
abbrev pub other_than : Option Phys → Phys → Option Phys
other_than None phys = None
other_than (Some before) phys = if same_phys before phys then None else Some before

abbrev pub other_by : ℕ → Option Phys → List (Option Phys) → Option Phys
other_by initiator None places = None
other_by initiator (Some phys) places = if initiator == 15 then None else other_than (slice_index_or places initiator None) phys

abbrev pub moved_from : List ℕ → List (Option Phys) → Option Phys
moved_from frame places = other_by (sender frame) (reported_address frame) places
