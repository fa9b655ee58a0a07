-- Retransmission: attempts at a frame (CEC 7.1: a frame that was not acknowledged is sent again, five times at most, each time
-- after a signal free time of three bit periods, CEC 9.1). An attempt is a reading with a header. It repeats the frame before
-- it of the same initiator where that was not taken, where both have the same bits, and where the line was never free for a
-- new initiator's time from that one on, since then others may begin (own: an initiator that repeats has not waited as long).
use Rattle.std.specs.Prelude.{ℕ, ◌+◌, ◌%◌, ◌==◌, Bool, true, false, not, nat_le, nat_lt, ◌&&◌, ◌||◌, if◌then◌else◌, List, [], ◌∷◌, length, replicate, slice_index_or, slice_set, Option, Some, None}
use mathlib.Core.Bool.{beq}
use Rattle.line_frames.specs.FreeTime.{free_time_of}
use Rattle.line_frames.specs.declared.free_time.FreeTime.TheVariants.{NewInitiator}
use Rattle.line_reading.specs.Readings.{Listed}
use Rattle.audit_widths.specs.Spreads.{sum_of}
use Rattle.audit_remarks.specs.declared.attempts.Attempts.{Attempts}
use Rattle.audit_remarks.specs.declared.attempts.LastFrame.{LastFrame}
use Rattle.audit_remarks.specs.declared.attempts.Failure.{Failure}
use Rattle.audit_remarks.specs.Free.{is_bad_start}
use Rattle.audit_remarks.specs.Header.{failed_block, initiator_of, is_delivered, is_poll, is_to_all, seeks_address}

-- ---- the same frame

-- The bits from a slot on, counted from 0, as far as both were read. Every tenth slot is an acknowledge slot, which is not
-- the initiator's (CEC 6.1.2).
abbrev pub same_from : ℕ → List Bool → List Bool → Bool
same_from slot [] ys = true
same_from slot (x ∷ xs) [] = true
same_from slot (x ∷ xs) (y ∷ ys) = ((slot % 10 == 9) || beq x y) && same_from (slot + 1) xs ys

-- A poll is no repetition of a poll: it asks anew whether a device is there (own).
abbrev pub repeats : List Bool → List Bool → Bool
repeats earlier bits = not (is_poll earlier || is_poll bits) && same_from 0 earlier bits

-- ---- the last frame of each initiator

abbrev pub no_attempts : Attempts
no_attempts = record { since = 0; last = replicate 16 None }

-- where the frames began between which the line was never free for a new initiator's time, with one that begins after this
-- time
abbrev pub since_with : Attempts → ℕ → ℕ → ℕ
since_with a begin free = if nat_lt free (free_time_of NewInitiator) then a.since else begin

-- which attempt a reading of these bits is, from 1
abbrev pub attempt_after : ℕ → List Bool → Option LastFrame → ℕ
attempt_after since bits None = 1
attempt_after since bits (Some e) = if not e.taken && (nat_le since e.begin && repeats e.bits.items bits) then sum_of e.attempt 1 else 1

abbrev pub attempt_of : Attempts → ℕ → ℕ → List Bool → ℕ
attempt_of a begin free bits = attempt_after (since_with a begin free) bits (slice_index_or a.last (initiator_of bits) None)

-- where the first attempt began, of a reading that begins then
abbrev pub first_after : ℕ → ℕ → List Bool → Option LastFrame → ℕ
first_after since begin bits None = begin
first_after since begin bits (Some e) = if not e.taken && (nat_le since e.begin && repeats e.bits.items bits) then e.first else begin

abbrev pub first_of : Attempts → ℕ → ℕ → List Bool → ℕ
first_of a begin free bits = first_after (since_with a begin free) begin bits (slice_index_or a.last (initiator_of bits) None)

abbrev pub earlier_of : Attempts → Listed → ℕ → LastFrame
earlier_of a x free = record {
  begin = x.begin;
  bits = record { items = x.reported.bits };
  taken = is_delivered x.reported.ending x.reported.bits;
  attempt = attempt_of a x.begin free x.reported.bits;
  first = first_of a x.begin free x.reported.bits;
}

-- Bad starts are no frames. A reading without a whole header, or a look for an address, is nobody's.
abbrev pub after_attempt : Attempts → Listed → ℕ → Attempts
after_attempt a x free =
    if is_bad_start x.reported.ending then a
    else if nat_lt (length x.reported.bits) 8 || seeks_address x.reported.bits then record { since = since_with a x.begin free; last = a.last }
    else record { since = since_with a x.begin free; last = slice_set a.last (initiator_of x.reported.bits) (Some (earlier_of a x free)) }

-- whether the last frame of a reading's initiator was not taken, so that it may try again
abbrev pub is_untaken : Option LastFrame → Bool
is_untaken None = false
is_untaken (Some e) = not e.taken

abbrev pub tries_again : Attempts → List Bool → Bool
tries_again a bits = is_untaken (slice_index_or a.last (initiator_of bits) None)

-- the block that failed, at which attempt, and whether it was refused, as frames to all are
abbrev pub failure_at : ℕ → List Bool → Option ℕ → Option Failure
failure_at attempt bits None = None
failure_at attempt bits (Some block) = Some (record { block = block; attempt = attempt; refused = is_to_all bits })

abbrev pub failure_of : Attempts → ℕ → ℕ → List Bool → Option Failure
failure_of a begin free bits = if seeks_address bits then None else failure_at (attempt_of a begin free bits) bits (failed_block bits)
