-- Which widths of a piece are out of the standard's windows (CEC 5.2), each kind and each party once.
use Rattle.std.specs.Prelude.{◌≡◌, ℕ, ◌+◌, ◌-◌, ◌%◌, ◌==◌, Bool, true, false, not, nat_lt, ◌&&◌, ◌||◌, min, max, if◌then◌else◌, List, [], ◌∷◌, Option, Some, None}
use Rattle.std.specs.List.{filter_map}
use Rattle.audit_widths.specs.declared.misfit.WidthWindow.{WidthWindow}
use Rattle.audit_widths.specs.Misfits.{window, window_of}
use Rattle.audit_widths.specs.Spreads.{sum_of}
use Rattle.line_reading.specs.Windows.{standard}
use Rattle.audit_pieces.specs.declared.piece.Slot.{Slot}
use Rattle.audit_pieces.specs.declared.piece.PieceEnding.{PieceEnding}
use Rattle.audit_pieces.specs.declared.piece.PieceEnding.TheVariants.{Intruder}
use Rattle.audit_pieces.specs.declared.stretch.LowStretch.{LowStretch}
use Rattle.audit_pieces.specs.Pieces.{Whole}
use Rattle.audit_pieces.specs.Slots.{bit_of}
use Rattle.audit_judged.specs.Header.{destination_of, initiator_of}
use Rattle.audit_judged.specs.declared.widths.Party.{Party}
use Rattle.audit_judged.specs.declared.widths.Party.TheVariants.{Initiator, Follower, Either}
use Rattle.audit_judged.specs.declared.widths.WidthKind.{WidthKind}
use Rattle.audit_judged.specs.declared.widths.WidthKind.TheVariants.{StartLow, StartTotal, ZeroLow, OneLow, AckLow, LongAck, LateAck, BitTotal}
use Rattle.audit_judged.specs.declared.widths.Outs.{Outs}
use Rattle.audit_judged.specs.declared.widths.WidthRemark.{WidthRemark}

-- ---- windows

-- The start bit (CEC 5.2.1); a 0, a 1 and the whole of a bit (CEC 5.2.2); and how late who acknowledges may pull (CEC 5.2.3).
abbrev pub window_for : WidthKind → WidthWindow
window_for StartLow = window_of standard.start_low
window_for StartTotal = window_of standard.start_total
window_for ZeroLow = window 1300 1700
window_for OneLow = window 400 800
window_for AckLow = window 1300 1700
window_for LongAck = window 400 800
window_for LateAck = window 0 350
window_for BitTotal = window_of standard.bit_total

-- Out of its window by as much as its grid at least: a line that is sampled each `grid` microseconds tells no width to less.
abbrev pub is_out : ℕ → WidthWindow → ℕ → Bool
is_out grid w width = nat_lt (grid - 1) (w.least - width) || nat_lt (grid - 1) (width - w.greatest)

-- ---- the widths of each kind

-- slots are counted from 1; each tenth is an acknowledge slot
abbrev pub is_ack : ℕ → Bool
is_ack k = k % 10 == 0

abbrev pub is_long : Slot → Bool
is_long slot = nat_lt 800 (slot.rise - slot.fall)

-- A 0 in the acknowledge slot is who acknowledges; a 1 there that is low for longer than any is the initiator's or theirs: the line
-- does not tell (own).
abbrev pub has_low : WidthKind → ℕ → Slot → Bool
has_low ZeroLow k slot = not (bit_of slot) && not (is_ack k)
has_low OneLow k slot = bit_of slot && not (is_ack k && is_long slot)
has_low AckLow k slot = not (bit_of slot) && is_ack k
has_low LongAck k slot = bit_of slot && (is_ack k && is_long slot)
has_low _ k slot = false

-- The low of a slot is measured where it has one low stretch, and no other breaks it off (own: two send there).
abbrev pub low_by : Bool → Slot → List Slot → Option ℕ → Option ℕ
low_by broken slot rest (Some late) = None
low_by broken slot [] None = if broken then None else Some (slot.rise - slot.fall)
low_by broken slot (next ∷ rest) None = Some (slot.rise - slot.fall)

abbrev pub low_in : Bool → WidthKind → ℕ → Slot → List Slot → Option ℕ
low_in broken kind k slot rest = if has_low kind k slot then low_by broken slot rest slot.late else None

abbrev pub total_in : Slot → List Slot → Option ℕ
total_in slot [] = None
total_in slot (next ∷ rest) = Some (next.fall - slot.fall)

abbrev pub late_in : Slot → Option ℕ → Option ℕ
late_in slot None = None
late_in slot (Some late) = Some (late - slot.fall)

-- the width of this kind that a slot has, with those after it
abbrev pub slot_width : Bool → WidthKind → ℕ → Slot → List Slot → Option ℕ
slot_width broken StartLow k slot rest = None
slot_width broken StartTotal k slot rest = None
slot_width broken LateAck k slot rest = late_in slot slot.late
slot_width broken BitTotal k slot rest = total_in slot rest
slot_width broken kind k slot rest = low_in broken kind k slot rest

-- of the start bit, where a slot follows
abbrev pub start_low_in : LowStretch → List Slot → Option ℕ
start_low_in head [] = None
start_low_in head (slot ∷ slots) = Some (head.rise - head.fall)

abbrev pub start_total_in : LowStretch → List Slot → Option ℕ
start_total_in head [] = None
start_total_in head (slot ∷ slots) = Some (slot.fall - head.fall)

abbrev pub start_width : WidthKind → LowStretch → List Slot → Option ℕ
start_width StartLow head slots = start_low_in head slots
start_width StartTotal head slots = start_total_in head slots
start_width _ head slots = None

-- ---- what is out

-- the first of them, the least and the greatest, and how many there are; slot 0 is the start bit
abbrev pub with_out : ℕ → ℕ → Option Outs → Outs
with_out k width None = record { slot = k; width = width; least = width; greatest = width; count = 1 }
with_out k width (Some o) = record { slot = k; width = width; least = min width o.least; greatest = max width o.greatest; count = sum_of o.count 1 }

abbrev pub with_width : ℕ → WidthWindow → ℕ → Option ℕ → Option Outs → Option Outs
with_width grid w k None outs = outs
with_width grid w k (Some width) outs = if is_out grid w width then Some (with_out k width outs) else outs

-- of slots from one on
abbrev pub slot_outs : ℕ → Bool → WidthKind → ℕ → List Slot → Option Outs
slot_outs grid broken kind k [] = None
slot_outs grid broken kind k (slot ∷ slots) =
    with_width grid (window_for kind) k (slot_width broken kind k slot slots) (slot_outs grid broken kind (k + 1) slots)

-- a bit that comes too soon breaks the last slot off
abbrev pub is_intruded : PieceEnding → Bool
is_intruded Intruder = true
is_intruded _ = false

abbrev pub outs_of : ℕ → Whole → WidthKind → Option Outs
outs_of grid p kind =
    with_width grid (window_for kind) 0 (start_width kind p.parts.head p.parts.slots) (slot_outs grid (is_intruded p.ending) kind 1 p.parts.slots)

-- ---- who is at fault

-- The destination of a frame to one device acknowledges, and of one to all some follower refuses (CEC 6.1.2).
abbrev pub taker_by : Option ℕ → Option ℕ
taker_by None = None
taker_by (Some to) = if to == 15 then None else Some to

abbrev pub taker_of : List Slot → Option ℕ
taker_of slots = taker_by (destination_of slots)

abbrev pub party_of : WidthKind → List Slot → Party
party_of AckLow slots = Follower (taker_of slots)
party_of LateAck slots = Follower (taker_of slots)
party_of LongAck slots = Either (initiator_of slots) (taker_of slots)
party_of kind slots = Initiator (initiator_of slots)

-- ---- the remarks

abbrev pub width_remark : Whole → WidthKind → Outs → WidthRemark
width_remark p kind outs = record { kind = kind; who = party_of kind p.parts.slots; outs = outs }

abbrev pub remark_by : Whole → WidthKind → Option Outs → Option WidthRemark
remark_by p kind None = None
remark_by p kind (Some outs) = Some (width_remark p kind outs)

-- that of a kind; bits without a start bit are not measured
abbrev pub remark_for : ℕ → Whole → WidthKind → Option WidthRemark
remark_for grid p kind = remark_by p kind (outs_of grid p kind)

-- in order: the start bit, what is low, what is whole
abbrev pub kinds_in_order : List WidthKind
kinds_in_order = StartLow ∷ StartTotal ∷ ZeroLow ∷ OneLow ∷ AckLow ∷ LongAck ∷ LateAck ∷ BitTotal ∷ []

abbrev pub width_remarks : ℕ → Whole → List WidthRemark
width_remarks grid p = filter_map (remark_for grid p) kinds_in_order

-- ---- laws

-- The line of a frame whose widths are all in their windows has no remark of a width.
abbrev pub IsIn : ℕ → WidthWindow → Option ℕ → Type 0
IsIn grid w None = Unit {0}
IsIn grid w (Some width) = is_out grid w width ≡ false

abbrev pub SlotsAreIn : ℕ → Bool → WidthKind → ℕ → List Slot → Type 0
SlotsAreIn grid broken kind k [] = Unit {0}
SlotsAreIn grid broken kind k (slot ∷ slots) = IsIn grid (window_for kind) (slot_width broken kind k slot slots) × SlotsAreIn grid broken kind (k + 1) slots

abbrev pub AreIn : ℕ → Whole → Type 0
AreIn grid p = (kind : WidthKind)
    → IsIn grid (window_for kind) (start_width kind p.parts.head p.parts.slots) × SlotsAreIn grid (is_intruded p.ending) kind 1 p.parts.slots

abbrev pub LawfulWidthsHaveNoRemark : Type 0
LawfulWidthsHaveNoRemark = (grid : ℕ) (p : Whole) → AreIn grid p → width_remarks grid p ≡ []
