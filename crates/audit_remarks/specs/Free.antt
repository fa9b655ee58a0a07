-- The signal free time before a frame (CEC 9.1): the time since the start of the final bit of the frame before.
use Rattle.std.specs.Prelude.{◌≡◌, ℕ, ◌-◌, ◌==◌, Bool, true, false, not, nat_lt, nat_le, ◌&&◌, ◌||◌, if◌then◌else◌, List, [], ◌∷◌, length, Option, Some, None}
use Rattle.line_frames.specs.FreeTime.{free_time_of}
use Rattle.line_frames.specs.declared.free_time.FreeTime.{FreeTime}
use Rattle.line_frames.specs.declared.free_time.FreeTime.TheVariants.{Retry, NewInitiator, PresentInitiator}
use Rattle.line_frames.specs.declared.Ending.{Ending}
use Rattle.line_frames.specs.declared.Ending.TheVariants.{BadStart, Short}
use Rattle.line_reading.specs.Readings.{Listed}
use Rattle.message_text.specs.ReadingText.{is_complete}
use Rattle.audit_widths.specs.declared.low.Low.{Low}
use Rattle.audit_remarks.specs.declared.free.EarlierSender.{EarlierSender}
use Rattle.audit_remarks.specs.declared.free.EarlierSender.TheVariants.{Nothing, Somebody, Frame}
use Rattle.audit_remarks.specs.declared.free.Previous.{Previous}
use Rattle.audit_remarks.specs.declared.free.FreeTaken.{FreeTaken}
use Rattle.audit_remarks.specs.declared.free.TooSoon.{TooSoon}
use Rattle.audit_remarks.specs.Header.{initiator_of, is_delivered, seeks_address, stops_untaken}

-- The initiator says who sends, but for a device that has no address, or looks for one.
abbrev pub is_known : List Bool → Bool
is_known bits = nat_le 8 (length bits) && (not (seeks_address bits) && not (initiator_of bits == 15))

-- ---- the frame before

-- The final bit of a reading is the one that falls last; of one that a fall broke as too short it is that fall, with which a
-- low drive begins (own).
abbrev pub last_fall : ℕ → List Low → ℕ
last_fall begin [] = begin
last_fall begin (low ∷ lows) = last_fall low.fall lows

abbrev pub final_by : Ending → ℕ → ℕ → ℕ
final_by Short at last = at
final_by _ at last = last

abbrev pub final_bit : Listed → List Low → ℕ
final_bit x lows = final_by x.reported.ending x.reported.at (last_fall x.begin lows)

abbrev pub before_of : Ending → List Bool → EarlierSender
before_of ending bits = if is_known bits then Frame (initiator_of bits) (is_delivered ending bits) else Somebody

abbrev pub is_bad_start : Ending → Bool
is_bad_start BadStart = true
is_bad_start _ = false

abbrev pub no_previous : Previous
no_previous = record { frame = Nothing; final_bit = 0; whole = false }

-- it ended where it was to: what follows is no rest of it
abbrev pub is_over : Ending → List Bool → Bool
is_over ending bits = is_complete ending || stops_untaken ending bits

-- a bad start is no frame (own)
abbrev pub previous_with : Previous → Listed → List Low → Previous
previous_with p x lows =
    if is_bad_start x.reported.ending then p
    else record { frame = before_of x.reported.ending x.reported.bits; final_bit = final_bit x lows; whole = is_over x.reported.ending x.reported.bits }

-- ---- the free time

abbrev pub free_before : Previous → ℕ → ℕ
free_before p begin = begin - p.final_bit

-- What is due before a frame of the same initiator is a present initiator's where the one before was taken, and a retry's
-- where it was not. Before one of another initiator it is a new one's, but a retry's where its own last frame was not taken.
-- So it is for one of a greater address: it may have lost the line to the frame before (CEC 7.2), of which the line shows
-- nothing, and then its attempt has failed (own). Where one of the two senders is not known, it is a retry's (own).
abbrev pub due_after : ℕ → Bool → ℕ → Bool → FreeTime
due_after initiator taken next again =
    if initiator == next then (if taken then PresentInitiator else Retry) else if again || nat_lt initiator next then Retry else NewInitiator

abbrev pub free_due : EarlierSender → List Bool → Bool → ℕ
free_due Nothing bits again = 0
free_due Somebody bits again = free_time_of Retry
free_due (Frame initiator taken) bits again =
    if is_known bits then free_time_of (due_after initiator taken (initiator_of bits) again) else free_time_of Retry

-- A reading comes too soon after less. Of a bad start nothing is said.
abbrev pub too_soon : Previous → Listed → Bool → Option TooSoon
too_soon p x again =
    if not (is_bad_start x.reported.ending) && nat_lt (free_before p x.begin) (free_due p.frame x.reported.bits again)
    then Some (record { free = free_before p x.begin; due = free_due p.frame x.reported.bits again }) else None

-- ---- the same where it is long enough

-- which time is due; before the first frame of a capture none is known
abbrev pub time_due : EarlierSender → List Bool → Bool → Option FreeTime
time_due Nothing bits again = None
time_due Somebody bits again = Some Retry
time_due (Frame initiator taken) bits again = if is_known bits then Some (due_after initiator taken (initiator_of bits) again) else Some Retry

abbrev pub taken_by : ℕ → Option FreeTime → Option FreeTaken
taken_by free None = None
taken_by free (Some due) = Some (record { free = free; due = due })

-- the free time before a reading
abbrev pub free_taken : Previous → Listed → Bool → Option FreeTaken
free_taken p x again = if is_bad_start x.reported.ending then None else taken_by (free_before p x.begin) (time_due p.frame x.reported.bits again)

-- what of it is too soon
abbrev pub soon_in : Option FreeTaken → Option TooSoon
soon_in None = None
soon_in (Some t) = if nat_lt t.free (free_time_of t.due) then Some (record { free = t.free; due = free_time_of t.due }) else None

-- A frame comes too soon where its free time is shorter than the one that was due.
abbrev pub FreeTimesAreDue : Type 0
FreeTimesAreDue = (p : Previous) (x : Listed) (again : Bool) → soon_in (free_taken p x again) ≡ too_soon p x again
