-- What a device said last, by the frames that were delivered since it last polled its own address: who takes an address polls it first,
-- so that the device of an address is one and the same until then (CEC 10.2.1).
use Rattle.std.specs.Prelude.{ℕ, ◌==◌, Bool, true, false, not, nat_lt, ◌&&◌, ◌||◌, if◌then◌else◌, List, [], ◌∷◌, length, slice_index, Option, Some, None}
use Rattle.std.specs.Option.{option_or}
use Rattle.text_core.specs.declared.phys.Phys.{Phys}
use Rattle.message_table.specs.declared.message.Triple.{Triple}
use Rattle.audit_remarks.specs.Frames.{opcode_of, receiver}
use Rattle.audit_contents.specs.declared.said.Said.{Said}

-- ---- frames: the header, the opcode, the operands

-- it has this opcode, and so many bytes at least
abbrev pub says : ℕ → ℕ → List ℕ → Bool
says opcode least frame = not (nat_lt (length frame) least) && (opcode_of frame == opcode)

-- Device Vendor ID
abbrev pub vendor_in : List ℕ → Option Triple
vendor_in frame = if says 0x87 5 frame then Some (record { first = slice_index frame 2; second = slice_index frame 3; third = slice_index frame 4 }) else None

-- Set OSD Name: 14 bytes at most, and 0 past its end (CEC 17, OSD Name)
abbrev pub letters : List ℕ → List ℕ
letters frame =
    slice_index frame 2 ∷ slice_index frame 3 ∷ slice_index frame 4 ∷ slice_index frame 5 ∷ slice_index frame 6 ∷ slice_index frame 7 ∷ slice_index frame 8
    ∷ slice_index frame 9 ∷ slice_index frame 10 ∷ slice_index frame 11 ∷ slice_index frame 12 ∷ slice_index frame 13 ∷ slice_index frame 14 ∷ slice_index frame 15 ∷ []

abbrev pub name_in : List ℕ → Option (List ℕ)
name_in frame = if says 0x47 3 frame then Some (letters frame) else None

-- CEC Version
abbrev pub version_in : List ℕ → Option ℕ
version_in frame = if says 0x9e 3 frame then Some (slice_index frame 2) else None

-- Report Physical Address
abbrev pub place_in : List ℕ → Option Phys
place_in frame = if says 0x84 4 frame then Some (record { high = slice_index frame 2; low = slice_index frame 3 }) else None

-- ---- the device

abbrev pub said_nothing : Said
said_nothing = record { vendor = None; name = None; version = None; place = None; has_power = false; to_all = None; to_one = None }

-- the opcode of its last frame, where that was to all
abbrev pub told_all : List ℕ → Option ℕ
told_all frame = if receiver frame == 15 then Some (opcode_of frame) else None

-- the opcode of its last frame to one device
abbrev pub told_one : List ℕ → Option ℕ
told_one frame = if receiver frame == 15 then None else Some (opcode_of frame)

-- it said this frame too
abbrev pub with_said : List ℕ → Said → Said
with_said frame s = record {
  vendor = option_or (vendor_in frame) s.vendor;
  name = option_or (name_in frame) s.name;
  version = option_or (version_in frame) s.version;
  place = option_or (place_in frame) s.place;
  has_power = says 0x90 3 frame || s.has_power;
  to_all = told_all frame;
  to_one = option_or (told_one frame) s.to_one;
}

-- ---- what it says now, beside what it said

abbrev pub other_number : Option ℕ → Option ℕ → Bool
other_number None now = false
other_number (Some a) None = false
other_number (Some a) (Some b) = not (a == b)

abbrev pub same_triple : Triple → Triple → Bool
same_triple a b = (a.first == b.first) && ((a.second == b.second) && (a.third == b.third))

abbrev pub other_vendor : Option Triple → Option Triple → Bool
other_vendor None now = false
other_vendor (Some a) None = false
other_vendor (Some a) (Some b) = not (same_triple a b)

abbrev pub same_bytes : List ℕ → List ℕ → Bool
same_bytes [] [] = true
same_bytes [] (y ∷ ys) = false
same_bytes (x ∷ xs) [] = false
same_bytes (x ∷ xs) (y ∷ ys) = (x == y) && same_bytes xs ys

abbrev pub other_name : Option (List ℕ) → Option (List ℕ) → Bool
other_name None now = false
other_name (Some a) None = false
other_name (Some a) (Some b) = not (same_bytes a b)

abbrev pub same_place : Option Phys → Option Phys → Bool
same_place None now = false
same_place (Some a) None = false
same_place (Some a) (Some b) = (a.high == b.high) && (a.low == b.low)
