-- Where a sender pulls, by the slot of a microsecond and the place in it (CEC 5.2).
use Rattle.std.specs.Prelude.{◌≡◌, ℕ, ◌+◌, ◌*◌, ◌-◌, ◌<◌, ◌≤◌, Bool, false, ◌&&◌, nat_lt, if◌then◌else◌, List, length, slice_index_or}
use Rattle.line_wave.specs.Line.{line_of}
use Rattle.line_wave.specs.Sender.{sender_stretches, slot_stretches}

-- not before it begins
abbrev pub BeforeStart : Type 0
BeforeStart = (bits : List Bool) (begin t : ℕ) → t < begin → line_of (sender_stretches begin bits) t ≡ false

-- in the start bit for its first 3,700
abbrev pub StartAt : Type 0
StartAt = (bits : List Bool) (begin t : ℕ) → begin ≤ t → t < begin + 4500 → line_of (sender_stretches begin bits) t ≡ nat_lt (t - begin) 3700

-- after the start bit in its slots alone
abbrev pub AfterStart : Type 0
AfterStart = (bits : List Bool) (begin t : ℕ) → begin + 4500 ≤ t → line_of (sender_stretches begin bits) t ≡ line_of (slot_stretches (begin + 4500) bits) t

-- not in its slots before the first of them
abbrev pub BeforeSlots : Type 0
BeforeSlots = (bits : List Bool) (n t : ℕ) → t < n → line_of (slot_stretches n bits) t ≡ false

-- in a slot for 600 where its bit is 1, and for 1,500 where it is 0
abbrev pub SlotAt : Type 0
SlotAt = (bits : List Bool) (n q within t : ℕ) → t ≡ n + 2400 * q + within → within < 2400 → q < length bits
    → line_of (slot_stretches n bits) t ≡ nat_lt within (if slice_index_or bits q false then 600 else 1500)

-- the same of any microsecond: after the last slot it does not pull
abbrev pub SlotOrNone : Type 0
SlotOrNone = (bits : List Bool) (n q within t : ℕ) → t ≡ n + 2400 * q + within → within < 2400
    → (nat_lt q (length bits) && nat_lt within (if slice_index_or bits q false then 600 else 1500)) ≡ line_of (slot_stretches n bits) t
