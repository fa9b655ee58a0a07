-- What is said of how a reading ends, where no width, no low drive and no block says it (CEC 6.1, 7.2; own).
use Rattle.std.specs.Prelude.{ℕ, ◌+◌, ◌-◌, ◌/◌, ◌==◌, Bool, true, false, not, nat_lt, nat_le, ◌&&◌, ◌||◌, is_some, if◌then◌else◌, List, [], ◌∷◌, length, slice_index_or, Option, Some, None}
use Rattle.line_frames.specs.FreeTime.{free_time_of}
use Rattle.line_frames.specs.declared.free_time.FreeTime.TheVariants.{Retry}
use Rattle.line_frames.specs.declared.Ending.{Ending}
use Rattle.line_frames.specs.declared.Ending.TheVariants.{Complete, Open}
use Rattle.line_reading.specs.Readings.{Listed}
use Rattle.audit_widths.specs.declared.low.Low.{Low}
use Rattle.audit_widths.specs.Misfits.{drive_within, low_misfit, total_misfit}
use Rattle.audit_pieces.specs.Bounds.{long_from}
use Rattle.audit_judged.specs.declared.endings.Cause.TheVariants as causes
use Rattle.audit_judged.specs.declared.endings.EndingRemark.{EndingRemark}
use Rattle.audit_judged.specs.declared.endings.EndingRemark.TheVariants as remarks
use Rattle.audit_judged.specs.declared.endings.Said.{Said}
use Rattle.audit_judged.specs.declared.endings.Said.TheVariants.{Nothing, Allowed, Remarked}
use Rattle.audit_judged.specs.declared.widths.Party.{Party}
use Rattle.audit_judged.specs.declared.widths.Party.TheVariants.{Initiator, Unknown}
use Rattle.audit_remarks.specs.declared.free.EarlierSender.{EarlierSender}
use Rattle.audit_remarks.specs.declared.free.EarlierSender.TheVariants as senders
use Rattle.audit_remarks.specs.declared.free.Previous.{Previous}
use Rattle.audit_remarks.specs.declared.series.BadStartSeries.{BadStartSeries}
use Rattle.audit_remarks.specs.Free.{free_before, is_bad_start}
use Rattle.audit_remarks.specs.Header.{ends_untaken, failed_block, initiator_of, unfinished}

-- ---- bits behind a reading

-- low for as long as a bit, and for no start bit and no low drive
abbrev pub is_bit : ℕ → Option ℕ → Bool
is_bit fall None = false
is_bit fall (Some rise) = nat_lt (rise - fall) long_from

-- a bad start of one low stretch that is no start bit by its low time
abbrev pub is_stray : Listed → List Low → Bool
is_stray x [] = false
is_stray x (low ∷ lows) = is_bad_start x.reported.ending && ((length lows == 0) && is_bit low.fall low.rise)

-- A bit that falls sooner than the shortest signal free time (CEC 9.1) after the final bit of a frame that broke, or that the capture
-- begins in, is behind that frame: the bits that its initiator still sends begin nothing.
abbrev pub is_behind : Previous → Listed → List Low → Bool
is_behind p x lows = is_stray x lows && (not p.whole && nat_lt (free_before p x.begin) (free_time_of Retry))

-- before the first frame of a capture
abbrev pub is_nothing : EarlierSender → Bool
is_nothing senders.Nothing = true
is_nothing _ = false

-- of bad starts one after another the first one alone is measured, and none that is behind a frame
abbrev pub is_measured : Previous → BadStartSeries → Listed → List Low → Bool
is_measured p s x lows = not ((is_bad_start x.reported.ending && nat_lt 0 s.count) || is_behind p x lows)

-- ---- what says why a reading ended

-- The time to the next fall says it, and of a bad start, and of what is low for longer than a bit, how long it is low.
abbrev pub ends_low : Ending → Low → Bool
ends_low ending low = is_bad_start ending || not (is_bit low.fall low.rise)

abbrev pub width_says : Ending → List Bool → ℕ → Low → Bool
width_says ending bits slot low = is_some (total_misfit ending bits slot low) || (ends_low ending low && is_some (low_misfit bits slot low))

-- the last of these slots does, counted from one on; slot 0 is the start bit
abbrev pub last_says : Ending → List Bool → ℕ → List Low → Bool
last_says ending bits slot [] = false
last_says ending bits slot (low ∷ lows) = if length lows == 0 then width_says ending bits slot low else last_says ending bits (slot + 1) lows

-- a low drive, a width or a block says it
abbrev pub is_said : Option ℕ → Listed → List Low → Bool
is_said drive x lows =
    is_some drive || (is_some (drive_within lows) || (last_says x.reported.ending x.reported.bits 0 lows || (is_some (unfinished x.reported.ending x.reported.bits) || ends_untaken x.reported.bits)))

-- ---- what is said where nothing does

-- Who loses the line stops after a 0 of another initiator, within the four bits of its own address (CEC 7.2).
abbrev pub may_have_lost : List Bool → Bool
may_have_lost bits = nat_le (length bits) 4 && not (slice_index_or bits (length bits - 1) false)

abbrev pub width_of : ℕ → Option ℕ → ℕ
width_of fall None = 0
width_of fall (Some rise) = rise - fall

-- a start bit without a frame
abbrev pub lone_of : List Low → Said
lone_of [] = Remarked (remarks.LoneStart 0)
lone_of (low ∷ lows) = Remarked (remarks.LoneStart (width_of low.fall low.rise))

abbrev pub stops_of : List Low → List Bool → Said
stops_of lows [] = lone_of lows
stops_of lows (bit ∷ bits) = if may_have_lost (bit ∷ bits) then Allowed causes.ArbitrationLost else Remarked (remarks.Stops (length (bit ∷ bits)))

abbrev pub unsaid_of : Ending → List Low → List Bool → Said
unsaid_of Complete lows bits = Nothing
unsaid_of Open lows bits = Allowed causes.CutByTheEnd
unsaid_of _ lows bits = stops_of lows bits

-- of bits that are not measured: the rest of a frame, where none was before them in the capture
abbrev pub unmeasured_of : Previous → BadStartSeries → Said
unmeasured_of p s = if (s.count == 0) && is_nothing p.frame then Allowed causes.MidFrame else Nothing

abbrev pub measured_of : Option ℕ → Listed → List Low → Said
measured_of drive x lows = if is_said drive x lows then Nothing else unsaid_of x.reported.ending lows x.reported.bits

-- of a reading of these low stretches, after which perhaps a low drive comes
abbrev pub ending_of : Previous → BadStartSeries → Option ℕ → Listed → List Low → Said
ending_of p s drive x lows = if is_measured p s x lows then measured_of drive x lows else unmeasured_of p s

-- ---- what goes on though a block was not taken (CEC 7.1)

abbrev pub begun_blocks : List Bool → ℕ
begun_blocks bits = (length bits + 10 - 1) / 10

abbrev pub goes_on_by : List Bool → Option ℕ → Option ℕ
goes_on_by bits None = None
goes_on_by bits (Some block) = if nat_lt block (begun_blocks bits) then Some block else None

abbrev pub goes_on_after : List Bool → Option ℕ
goes_on_after bits = goes_on_by bits (failed_block bits)

-- ---- who is at fault: who stops is the initiator, where that was read

abbrev pub initiator_read : List Bool → Option ℕ
initiator_read bits = if nat_lt (length bits) 4 then None else Some (initiator_of bits)

abbrev pub party_of : List Bool → EndingRemark → Party
party_of bits (remarks.Stops slots) = Initiator (initiator_read bits)
party_of bits _ = Unknown
