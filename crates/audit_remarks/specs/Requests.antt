-- Requests and what answers them (CEC 13, the messages of each feature; CEC 9.2: an answer comes within a second of the
-- request; CEC 12.3: a device may answer a direct message by Feature Abort, and answers so Abort and what it does not know).
-- An answer comes with its first attempt, acknowledged or not: whether the asker takes it is not up to who answers (own).
use Rattle.std.specs.Prelude.{ℕ, ◌-◌, ◌==◌, Bool, false, not, nat_le, nat_lt, is_none, is_some, ◌&&◌, ◌||◌, if◌then◌else◌, List, [], ◌∷◌, ◌++◌, length, slice_index, Option, Some, None}
use Rattle.message_table.specs.Table.{name_of}
use Rattle.audit_widths.specs.Spreads.{sum_of}
use Rattle.audit_remarks.specs.declared.requests.Request.{Request}
use Rattle.audit_remarks.specs.Frames.{opcode_of, receiver, sender}
use Rattle.audit_remarks.specs.Messages.{missed_receivers, missing_operands}

-- The message that answers one: names, addresses, vendors, versions, languages, states of power, audio and menus.
abbrev pub answer_to : ℕ → Option ℕ
answer_to opcode =
    if opcode == 0x46 then Some 0x47
    else if opcode == 0x70 then Some 0x72
    else if opcode == 0x71 then Some 0x7a
    else if opcode == 0x7d then Some 0x7e
    else if opcode == 0x83 then Some 0x84
    else if opcode == 0x8c then Some 0x87
    else if opcode == 0x8d then Some 0x8e
    else if opcode == 0x8f then Some 0x90
    else if opcode == 0x91 then Some 0x32
    else if opcode == 0x9f then Some 0x9e
    else None

-- Opcodes of later versions: Set Audio Volume Level, Give and Report Features, Request and Report Current Latency, and those of
-- the capability discovery (HDMI 1.4, HEC).
abbrev pub is_later : ℕ → Bool
is_later opcode = (opcode == 0x73) || ((nat_le 0xa5 opcode && nat_le opcode 0xa8) || (opcode == 0xf8))

-- Abort, and each opcode that no version of the standard has
abbrev pub is_to_refuse : ℕ → Bool
is_to_refuse opcode = (opcode == 0xff) || (is_none (name_of opcode) && not (is_later opcode))

-- The request of a frame to one device that ended at `since`. What comes from an unregistered device is mostly passed over
-- (CEC 12.2), and so it is here.
abbrev pub request_by : List ℕ → ℕ → Option ℕ → Option Request
request_by frame since answer =
    if is_some answer || is_to_refuse (opcode_of frame)
    then Some (record { initiator = sender frame; destination = receiver frame; opcode = opcode_of frame; answer = answer; since = since }) else None

-- it comes to others than it is for, or lacks operands: no answer is owed (own)
abbrev pub has_fault : List ℕ → Bool
has_fault frame = is_some (missed_receivers frame) || is_some (missing_operands frame)

abbrev pub request_of : List ℕ → ℕ → Option Request
request_of frame since =
    if (nat_lt (length frame) 2 || ((receiver frame == 15) || (sender frame == 15))) || has_fault frame then None
    else request_by frame since (answer_to (opcode_of frame))

-- to the asker or to all
abbrev pub reaches : List ℕ → Request → Bool
reaches frame r = (receiver frame == r.initiator) || (receiver frame == 15)

-- says to the asker that the request is not followed
abbrev pub refuses : List ℕ → Request → Bool
refuses frame r = (opcode_of frame == 0) && ((receiver frame == r.initiator) && (slice_index frame 2 == r.opcode))

abbrev pub is_opcode : ℕ → Option ℕ → Bool
is_opcode opcode None = false
is_opcode opcode (Some answer) = opcode == answer

-- more than five seconds after the request, when nothing answers it any more (own)
abbrev pub is_past : ℕ → Request → Bool
is_past begin r = nat_lt (sum_of r.since 5000000) begin

-- A frame answers a request where its first attempt begins by then, it comes from whom the request was for, and is the answer or a
-- refusal.
abbrev pub is_answer : ℕ → List ℕ → Request → Bool
is_answer begin frame r =
    not (is_past begin r || nat_lt (length frame) 2) && ((sender frame == r.destination) && ((is_opcode (opcode_of frame) r.answer && reaches frame r) || refuses frame r))

-- more than a second after the request
abbrev pub is_late : ℕ → Request → Bool
is_late begin r = nat_lt (sum_of r.since 1000000) begin

abbrev pub waited : ℕ → Request → ℕ
waited begin r = begin - r.since

-- A late answer is looked for until five seconds have passed, or until the same is asked again (own).
abbrev pub asks_again : List ℕ → Request → Bool
asks_again frame r = not (nat_lt (length frame) 2) && ((sender frame == r.initiator) && ((receiver frame == r.destination) && (opcode_of frame == r.opcode)))

abbrev pub is_given_up : ℕ → List ℕ → Request → Bool
is_given_up begin frame r = is_past begin r || (is_late begin r && asks_again frame r)

-- ---- the requests that wait for an answer

abbrev pub unless_over : Bool → Request → List Request
unless_over over r = if over then [] else r ∷ []

-- after a reading that begins then, by the frame that it delivered, and by the one that was sent, whose first attempt began at `first`
abbrev pub is_over : ℕ → List ℕ → ℕ → List ℕ → Request → Bool
is_over first sent begin frame r = is_answer first sent r || is_given_up begin frame r

abbrev pub left_waiting : ℕ → List ℕ → ℕ → List ℕ → List Request → List Request
left_waiting first sent begin frame [] = []
left_waiting first sent begin frame (r ∷ rs) = unless_over (is_over first sent begin frame r) r ++ left_waiting first sent begin frame rs

-- and with the request that it is; at most 16 are kept (own)
abbrev pub with_request : Option Request → List Request → List Request
with_request None waiting = waiting
with_request (Some r) waiting = if nat_lt (length waiting) 16 then waiting ++ r ∷ [] else waiting

abbrev pub after_frame : ℕ → List ℕ → ℕ → ℕ → List ℕ → List Request → List Request
after_frame first sent begin at frame waiting = with_request (request_of frame at) (left_waiting first sent begin frame waiting)
