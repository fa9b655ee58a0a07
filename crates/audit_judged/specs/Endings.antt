-- What is said of how a piece ends: one remark, or one cause that the standard allows, or of a whole frame that was taken nothing.
use Rattle.std.specs.Prelude.{◌≡◌, ℕ, ◌+◌, ◌-◌, ◌/◌, ◌%◌, ◌==◌, Bool, true, false, not, nat_lt, nat_le, ◌&&◌, ◌||◌, if◌then◌else◌, List, [], ◌∷◌, length, Option, Some, None}
use Rattle.audit_widths.specs.Misfits.{fits, window}
use Rattle.audit_widths.specs.Spreads.{sum_of}
use Rattle.audit_pieces.specs.declared.piece.PieceEnding.{PieceEnding}
use Rattle.audit_pieces.specs.declared.piece.PieceEnding.TheVariants.{Complete, Stops, Drive, Overrun, Intruder, Long, Open, Stray, Mid}
use Rattle.audit_pieces.specs.declared.piece.Slot.{Slot}
use Rattle.audit_pieces.specs.declared.stretch.LowStretch.{LowStretch}
use Rattle.audit_pieces.specs.Pieces.{Parts, Whole, slot_fall}
use Rattle.audit_judged.specs.Header.{bit_at, failed_block, initiator_of, is_to_all}
use Rattle.audit_judged.specs.declared.endings.Cause.{Cause}
use Rattle.audit_judged.specs.declared.endings.Cause.TheVariants as causes
use Rattle.audit_judged.specs.declared.endings.EndingRemark.{EndingRemark}
use Rattle.audit_judged.specs.declared.endings.EndingRemark.TheVariants as remarks
use Rattle.audit_judged.specs.declared.widths.Party.{Party}
use Rattle.audit_judged.specs.declared.widths.Party.TheVariants.{Initiator, Follower, Unknown}
use Rattle.audit_judged.specs.declared.endings.Said.{Said}
use Rattle.audit_judged.specs.declared.endings.Said.TheVariants.{Nothing, Allowed, Remarked}

-- No stretch of CEC is low for longer: a low drive of 3,840 (CEC 7.4) that begins while a 0 is low for 1,700 (CEC 5.2.2).
abbrev pub longest_low : ℕ
longest_low = 5540

abbrev pub width_of : LowStretch → ℕ
width_of x = x.rise - x.fall

abbrev pub is_stuck : LowStretch → Bool
is_stuck x = nat_lt longest_low (width_of x)

-- ---- blocks

abbrev pub same_block : ℕ → Option ℕ → Bool
same_block block None = false
same_block block (Some failed) = block == failed

-- It ends with a block that was not taken, the first of these: its initiator stops there (CEC 7.1).
abbrev pub ends_untaken : List Slot → Bool
ends_untaken slots = nat_lt 0 (length slots) && ((length slots % 10 == 0) && same_block (length slots / 10) (failed_block slots))

-- A frame to all is refused (CEC 6.1.2). A header alone that nobody acknowledges is a poll of an address that nobody has (CEC 7.3).
abbrev pub untaken_cause : List Slot → Cause
untaken_cause slots =
    if is_to_all slots then causes.Refused else if (length slots == 10) && bit_at slots 9 then causes.PollUnanswered else causes.NotAcknowledged

-- ---- each ending

-- Who loses the line stops after a 0 of another initiator, within the four bits of its own address (CEC 7.2).
abbrev pub may_have_lost : List Slot → Bool
may_have_lost slots = nat_le (length slots) 4 && not (bit_at slots (length slots))

abbrev pub short_of : List Slot → Said
short_of slots =
    if length slots % 10 == 0 then Remarked (remarks.Unfinished (length slots / 10))
    else if may_have_lost slots then Allowed causes.ArbitrationLost else Remarked (remarks.Stops (length slots))

-- a long stretch alone: low for too long for anything, or a start bit without a frame, or a low drive of an idle line
abbrev pub lone_of : LowStretch → Said
lone_of x = if is_stuck x then Remarked (remarks.Stuck (width_of x)) else Remarked (remarks.LoneStart (width_of x))

abbrev pub stops_of : LowStretch → List Slot → Said
stops_of head [] = lone_of head
stops_of head (slot ∷ slots) = if ends_untaken (slot ∷ slots) then Allowed (untaken_cause (slot ∷ slots)) else short_of (slot ∷ slots)

abbrev pub drive_of : Parts → Option LowStretch → Said
drive_of p None = lone_of p.head
drive_of p (Some x) =
    if is_stuck x then Remarked (remarks.Stuck (width_of x))
    else Remarked (remarks.LowDrive (length p.slots) (x.fall - slot_fall p p.slots) (width_of x))

abbrev pub intruder_of : Parts → Option LowStretch → Said
intruder_of p None = lone_of p.head
intruder_of p (Some x) = Remarked (remarks.Intruder (length p.slots) (x.fall - slot_fall p p.slots))

abbrev pub overrun_of : List Slot → Said
overrun_of slots = if ends_untaken slots then Allowed (untaken_cause slots) else Remarked (remarks.Overrun (length slots))

-- a frame with all of its slots
abbrev pub failed_of : List Slot → Option ℕ → Said
failed_of slots None = Nothing
failed_of slots (Some block) = Allowed (untaken_cause slots)

abbrev pub complete_of : Parts → Said
complete_of p = if nat_lt 0 p.trail then Remarked (remarks.AfterEnd p.trail) else failed_of p.slots (failed_block p.slots)

abbrev pub said_by : Parts → PieceEnding → Said
said_by p Complete = complete_of p
said_by p Stops = stops_of p.head p.slots
said_by p Drive = drive_of p p.broken_by
said_by p Overrun = overrun_of p.slots
said_by p Intruder = intruder_of p p.broken_by
said_by p Long = Remarked remarks.TooLong
said_by p Open = Allowed causes.CutByTheEnd
said_by p Stray = Remarked (remarks.Stray (sum_of p.trail 1))
said_by p Mid = Allowed causes.MidFrame

abbrev pub said_of : Whole → Said
said_of p = said_by p.parts p.ending

-- ---- who is at fault

-- A follower drives the line low for 3,360 to 3,840 (CEC 7.4), whoever it is. One that begins with a bit of the initiator's, 2,050 after
-- the last one at least (CEC 5.2.2), is longer by that bit: the line does not tell whose it is (own).
abbrev pub drive_party : ℕ → ℕ → Party
drive_party gap width = if fits (window 3360 3840) width || (nat_le 2050 gap && nat_lt 3840 width) then Unknown else Follower None

-- What the initiator alone sends is its own; of what anybody may have pulled the line does not tell whose it is.
abbrev pub party_in : Option ℕ → EndingRemark → Party
party_in initiator (remarks.LowDrive slots gap width) = drive_party gap width
party_in initiator remarks.TooLong = Initiator initiator
party_in initiator (remarks.Unfinished block) = Initiator initiator
party_in initiator (remarks.Stops slots) = Initiator initiator
party_in initiator (remarks.AfterEnd bits) = Initiator initiator
party_in initiator _ = Unknown

abbrev pub ending_party : List Slot → EndingRemark → Party
ending_party slots remark = party_in (initiator_of slots) remark

-- ---- what goes on though a block was not taken (CEC 7.1)

abbrev pub begun_blocks : List Slot → ℕ
begun_blocks slots = (length slots + 10 - 1) / 10

abbrev pub goes_on_by : List Slot → Option ℕ → Option ℕ
goes_on_by slots None = None
goes_on_by slots (Some block) = if nat_lt block (begun_blocks slots) then Some block else None

abbrev pub goes_on_after : Whole → Option ℕ
goes_on_after p = goes_on_by p.parts.slots (failed_block p.parts.slots)

-- ---- laws

-- A piece that is no whole frame has one remark or one cause.
abbrev pub IsSaid : Said → Type 0
IsSaid Nothing = ⊥
IsSaid (Allowed cause) = Unit {0}
IsSaid (Remarked remark) = Unit {0}

abbrev pub is_complete : PieceEnding → Bool
is_complete Complete = true
is_complete _ = false

abbrev pub OneEnding : Type 0
OneEnding = (p : Whole) → is_complete p.ending ≡ false → IsSaid (said_of p)

-- Of a whole frame nothing is said exactly where nothing follows it, and each block was taken.
abbrev pub WholeFramesAreTaken : Type 0
WholeFramesAreTaken = (p : Parts) → said_by p Complete ≡ Nothing → (p.trail ≡ 0) × (failed_block p.slots ≡ None)
