-- What the standard has of what a device says (HDMI 1.4 CEC): each rule as a set of frames, some of them beside what this device, or the
-- one that it speaks to, said before. A frame is a delivered one; `i` is its initiator. None is broken by the part of it that is missing.
use Rattle.std.specs.Prelude.{ℕ, ◌+◌, ◌/◌, ◌%◌, ◌==◌, Bool, false, not, nat_lt, is_some, ◌&&◌, ◌||◌, if◌then◌else◌, List, [], ◌∷◌, take, drop, slice_index, slice_index_or, Option, Some, None}
use Rattle.message_table.specs.Table.{rule_of}
use Rattle.audit_remarks.specs.Frames.{receiver, sender}
use Rattle.audit_contents.specs.Said.{name_in, other_name, other_number, other_vendor, said_nothing, same_place, says, vendor_in, version_in, with_said}
use Rattle.audit_contents.specs.declared.said.Said.{Said}
use Rattle.audit_contents.specs.declared.rule.ContentRule.{ContentRule}
use Rattle.audit_contents.specs.declared.rule.ContentRule.TheVariants as rules

-- what the device at an address said
abbrev pub said_of : ℕ → List Said → Said
said_of i ss = slice_index_or ss i said_nothing

-- ---- Feature Abort: which opcode is refused, and why (CEC 12.3)

abbrev pub is_abort : List ℕ → Bool
is_abort f = says 0x00 4 f

abbrev pub refused : List ℕ → ℕ
refused f = slice_index f 2

-- a television is at address 0, or, where it is not the root, at 14 (CEC 10.2)
abbrev pub is_tv : ℕ → Bool
is_tv i = (i == 0) || (i == 14)

-- Each device follows Give Physical Address and Get CEC Version (CEC 13.6), each but a television Give OSD Name (CEC 13.11), and the
-- television Image View On and Text View On (CEC 13.1).
abbrev pub is_mandatory : ℕ → ℕ → Bool
is_mandatory i opcode =
    (opcode == 0x83) || ((opcode == 0x9f) || (((opcode == 0x46) && not (is_tv i)) || ((i == 0) && ((opcode == 0x04) || (opcode == 0x0d)))))

-- it said what answers this request: Device Vendor ID, its name, its state of power
abbrev pub is_known : Said → ℕ → Bool
is_known s opcode = ((opcode == 0x8c) && is_some s.vendor) || (((opcode == 0x46) && is_some s.name) || ((opcode == 0x8f) && s.has_power))

-- It says that it does not know an opcode which it has to follow, or has followed.
abbrev pub refuses : Said → List ℕ → Bool
refuses s f = is_abort f && ((slice_index f 3 == 0) && (is_mandatory (sender f) (refused f) || is_known s (refused f)))

abbrev pub is_opcode : Option ℕ → ℕ → Bool
is_opcode None opcode = false
is_opcode (Some a) opcode = a == opcode

-- the last frame of a device was to all and has this opcode, and that before it to one device has not
abbrev pub told_all_alone : Said → ℕ → Bool
told_all_alone s opcode = is_opcode s.to_all opcode && not (is_opcode s.to_one opcode)

-- Feature Abort answers neither Feature Abort nor a frame to all: the opcode is that of Feature Abort, or comes to all alone, or came so.
abbrev pub is_unasked : Said → List ℕ → Bool
is_unasked asker f =
    is_abort f && (not (receiver f == 15) && ((refused f == 0) || (not ((rule_of (refused f)).direct) || told_all_alone asker (refused f))))

-- ---- values (CEC 17)

-- an operand, by its place in the frame, is out of these bounds
abbrev pub is_out : ℕ → ℕ → ℕ → ℕ → List ℕ → Bool
is_out opcode place least greatest f =
    says opcode (place + 1) f && (nat_lt (slice_index f place) least || nat_lt greatest (slice_index f place))

-- Abort Reason 0 to 5, System Audio Status 0 and 1, Menu State 0 and 1
abbrev pub is_no_state : List ℕ → Bool
is_no_state f = is_out 0x00 3 0 5 f || (is_out 0x72 2 0 1 f || (is_out 0x7e 2 0 1 f || is_out 0x8e 2 0 1 f))

-- Device Type 0, 1 and 3 to 7, of which CEC 2.0 has 6 and 7
abbrev pub is_no_type : List ℕ → Bool
is_no_type f = is_out 0x84 4 0 7 f || (says 0x84 5 f && (slice_index f 4 == 2))

-- Power Status 0 to 3; CEC Version 4 to 6, from 1.3a to 2.0
abbrev pub is_reserved : List ℕ → Bool
is_reserved f = is_no_state f || (is_out 0x90 2 0 3 f || (is_out 0x9e 2 4 6 f || is_no_type f))

abbrev pub any_outside : ℕ → ℕ → List ℕ → Bool
any_outside least greatest [] = false
any_outside least greatest (x ∷ xs) = (nat_lt x least || nat_lt greatest x) || any_outside least greatest xs

-- The texts of Set OSD Name and Set OSD String are ASCII; a language is three small letters (ISO 639-2).
abbrev pub is_misspelled : List ℕ → Bool
is_misspelled f =
    (says 0x47 3 f && any_outside 0x20 0x7e (drop 2 f))
    || ((says 0x64 4 f && any_outside 0x20 0x7e (drop 3 f)) || (says 0x32 5 f && any_outside 0x61 0x7a (take 3 (drop 2 f))))

-- ---- physical addresses (CEC 10.1; HDMI 8.7)

-- Active Source, Report Physical Address, Set Stream Path, Inactive Source
abbrev pub names_place : List ℕ → Bool
names_place f = says 0x82 4 f || (says 0x84 4 f || (says 0x86 4 f || says 0x9d 4 f))

-- a digit that is no 0 comes after one that is
abbrev pub has_gap : ℕ → ℕ → Bool
has_gap high low =
    ((high / 16 == 0) && (not (high % 16 == 0) || not (low == 0))) || (((high % 16 == 0) && not (low == 0)) || ((low / 16 == 0) && not (low % 16 == 0)))

abbrev pub is_nowhere : ℕ → ℕ → Bool
is_nowhere high low = (high == 255) && (low == 255)

-- No such place is in the tree; f.f.f.f is none, with which a device has address 15 (CEC 10.2.1). The device at address 0 is the root
-- (CEC 10.2).
abbrev pub is_misplaced : List ℕ → Bool
is_misplaced f =
    (names_place f && (has_gap (slice_index f 2) (slice_index f 3) || (is_nowhere (slice_index f 2) (slice_index f 3) && not (sender f == 15))))
    || ((sender f == 0) && (says 0x84 4 f && (not (slice_index f 2 == 0) || not (slice_index f 3 == 0))))

-- ---- who says it (CEC 13.2, 13.6, 13.15): of the addresses 0 to 11, whose devices are of a known type

-- The television alone says Set Menu Language and Set Stream Path, the audio system alone Set System Audio Mode, Report Audio Status and
-- System Audio Mode Status.
abbrev pub is_foreign : List ℕ → Bool
is_foreign f =
    nat_lt (sender f) 12
    && ((not (sender f == 0) && (says 0x32 2 f || says 0x86 2 f)) || (not (sender f == 5) && (says 0x72 2 f || (says 0x7a 2 f || says 0x7e 2 f))))

-- ---- lawful, and worth a look

-- the device types of the logical addresses (CEC 10.2, table 5); each from 12 on may be of any
abbrev pub type_at : ℕ → Option ℕ
type_at i =
    if i == 0 then Some 0
    else if (i == 1) || ((i == 2) || (i == 9)) then Some 1
    else if (i == 3) || ((i == 6) || ((i == 7) || (i == 10))) then Some 3
    else if (i == 4) || ((i == 8) || (i == 11)) then Some 4
    else if i == 5 then Some 5
    else None

-- a device that combines several may report another one
abbrev pub has_other_type : List ℕ → Bool
has_other_type f = says 0x84 5 f && other_number (type_at (sender f)) (Some (slice_index f 4))

-- another device, numbered from one on, was at the same place, and has another vendor: what combines several has one
abbrev pub shares : ℕ → Said → ℕ → List Said → Bool
shares i s number [] = false
shares i s number (other ∷ others) =
    (not (number == i) && (same_place other.place s.place && other_vendor other.vendor s.vendor)) || shares i s (number + 1) others

-- one that was plugged in its place shares it lawfully
abbrev pub is_shared : List ℕ → List Said → Bool
is_shared f ss = (says 0x84 4 f || says 0x87 5 f) && shares (sender f) (with_said f (said_of (sender f) ss)) 0 ss

-- ---- THE rules: a frame breaks one, after what the devices said

abbrev pub breaks : ContentRule → List ℕ → List Said → Bool
breaks rules.Refuses f ss = refuses (said_of (sender f) ss) f
breaks rules.Unasked f ss = is_unasked (said_of (receiver f) ss) f
breaks rules.Reserved f ss = is_reserved f
breaks rules.Misspelled f ss = is_misspelled f
breaks rules.Misplaced f ss = is_misplaced f
breaks rules.OtherVendor f ss = other_vendor (said_of (sender f) ss).vendor (vendor_in f)
breaks rules.OtherVersion f ss = other_number (said_of (sender f) ss).version (version_in f)
breaks rules.Foreign f ss = is_foreign f
breaks rules.OtherType f ss = has_other_type f
breaks rules.OtherName f ss = other_name (said_of (sender f) ss).name (name_in f)
breaks rules.Shared f ss = is_shared f ss
