-- Lines of what is said of pieces, by their cells (own). Each begins with two spaces, as what stands below a reading does.
use Rattle.std.specs.Prelude.{ℕ, ◌+◌, ◌-◌, ◌/◌, ◌%◌, ◌==◌, Bool, nat_lt, if◌then◌else◌, List, [], ◌∷◌, ◌++◌, Option, Some, None, codes}
use Rattle.audit_widths.specs.declared.misfit.WidthWindow.{WidthWindow}
use Rattle.audit_widths.specs.Misfits.{fits, window}
use Rattle.audit_judged.specs.declared.endings.Cause.{Cause}
use Rattle.audit_judged.specs.declared.endings.Cause.TheVariants as causes
use Rattle.audit_judged.specs.declared.endings.EndingRemark.{EndingRemark}
use Rattle.audit_judged.specs.declared.endings.EndingRemark.TheVariants as endings
use Rattle.audit_judged.specs.declared.widths.Outs.{Outs}
use Rattle.audit_judged.specs.declared.widths.Party.{Party}
use Rattle.audit_judged.specs.declared.widths.Party.TheVariants.{Initiator, Follower, Either, Unknown}
use Rattle.audit_judged.specs.declared.widths.WidthKind.{WidthKind}
use Rattle.audit_judged.specs.declared.widths.WidthKind.TheVariants as widths
use Rattle.audit_judged.specs.declared.widths.WidthRemark.{WidthRemark}
use Rattle.audit_judged.specs.Widths.{window_for}
use Rattle.record_core.specs.Cells.{PlainCell, both, hidden, line_only}
use Rattle.record_core.specs.Values.{nibble_or, nothing, number, text}
use Rattle.record_core.specs.Records.{record_text}
use Rattle.record_core.specs.declared.cell.Form.{Form}
use Rattle.piece_notes.specs.Kinds.{cause_name, cause_section, ending_name, ending_section, width_name, width_section}

-- ---- what each has first: what it is called, and its section

abbrev pub named : List ℕ → List ℕ → PlainCell
named field name = hidden field (text name)

abbrev pub in_section : List ℕ → PlainCell
in_section section = hidden (codes "section") (text section)

abbrev pub said_so : List ℕ → PlainCell
said_so words = line_only words nothing

-- ---- who is at fault: ` by initiator 4`, ` by follower 0`, ` by a follower`, ` by initiator 4 or follower 0`, or nothing

abbrev pub who_word : Party → List ℕ
who_word (Initiator i) = codes "initiator"
who_word (Follower f) = codes "follower"
who_word (Either i f) = codes "either"
who_word Unknown = codes "unknown"

abbrev pub who_cell : Party → PlainCell
who_cell who = hidden (codes "who") (text (who_word who))

abbrev pub initiator_cell : Party → PlainCell
initiator_cell (Initiator i) = both (codes " by initiator ") (codes "initiator") (nibble_or i)
initiator_cell (Either i f) = both (codes " by initiator ") (codes "initiator") (nibble_or i)
initiator_cell _ = hidden (codes "initiator") nothing

abbrev pub taker_cell : List ℕ → List ℕ → Option ℕ → PlainCell
taker_cell known unknown None = both unknown (codes "follower") nothing
taker_cell known unknown (Some f) = both known (codes "follower") (nibble_or (Some f))

abbrev pub follower_cell : Party → PlainCell
follower_cell (Follower f) = taker_cell (codes " by follower ") (codes " by a follower") f
follower_cell (Either i f) = taker_cell (codes " or follower ") (codes " or a follower") f
follower_cell _ = hidden (codes "follower") nothing

abbrev pub who_cells : Party → List PlainCell
who_cells who = who_cell who ∷ initiator_cell who ∷ follower_cell who ∷ []

-- ---- widths

-- of more than one the least and the greatest, and how many: ` (850..880 in 3 slots)`
abbrev pub shortest_cell : Outs → PlainCell
shortest_cell o = if o.count == 1 then hidden (codes "shortest") (number o.least) else both (codes " (") (codes "shortest") (number o.least)

abbrev pub longest_cell : Outs → PlainCell
longest_cell o = if o.count == 1 then hidden (codes "longest") (number o.greatest) else both (codes "..") (codes "longest") (number o.greatest)

abbrev pub count_cell : Outs → PlainCell
count_cell o = if o.count == 1 then hidden (codes "count") (number o.count) else both (codes " in ") (codes "count") (number o.count)

abbrev pub slots_cell : Outs → PlainCell
slots_cell o = if o.count == 1 then said_so [] else said_so (codes " slots)")

abbrev pub width_lead : WidthKind → List ℕ
width_lead widths.StartTotal = codes " total "
width_lead widths.BitTotal = codes " total "
width_lead widths.LateAck = codes " late "
width_lead _ = codes " low "

abbrev pub out_cells : WidthRemark → List PlainCell
out_cells r =
    both (width_lead r.kind) (codes "width") (number r.outs.width) ∷ both (codes " not ") (codes "least") (number (window_for r.kind).least)
    ∷ both (codes "..") (codes "most") (number (window_for r.kind).greatest) ∷ shortest_cell r.outs ∷ longest_cell r.outs ∷ count_cell r.outs ∷ slots_cell r.outs
    ∷ who_cells r.who

-- of the start bit: `  start low 3400 not 3500..3900 by initiator 4`
abbrev pub start_cells : WidthRemark → List PlainCell
start_cells r =
    said_so (codes "  start") ∷ hidden (codes "slot") (number 0) ∷ hidden (codes "block") nothing ∷ hidden (codes "bit") nothing ∷ out_cells r

-- of a slot: `  slot 13 block 2 bit 3 low 870 not 400..800 by initiator 4`
abbrev pub bit_cells : WidthRemark → List PlainCell
bit_cells r =
    said_so [] ∷ both (codes "  slot ") (codes "slot") (number r.outs.slot) ∷ both (codes " block ") (codes "block") (number ((r.outs.slot - 1) / 10 + 1))
    ∷ both (codes " bit ") (codes "bit") (number ((r.outs.slot - 1) % 10 + 1)) ∷ out_cells r

abbrev pub width_cells : WidthRemark → List PlainCell
width_cells r =
    named (codes "remark") (width_name r.kind) ∷ in_section (width_section r.kind) ∷ (if r.outs.slot == 0 then start_cells r else bit_cells r)

-- THE text of a remark of widths
abbrev pub width_text : Form → WidthRemark → List ℕ
width_text form r = record_text form (codes "remark") (width_cells r)

-- ---- endings

-- where a low drive or a fall stands: ` after slot 13, 1500 from its fall`
abbrev pub place_cells : List ℕ → ℕ → ℕ → List PlainCell
place_cells lead slots gap = both lead (codes "slot") (number slots) ∷ both (codes ", ") (codes "gap") (number gap) ∷ said_so (codes " from its fall") ∷ []

-- a low drive in its window, or out of it: `  low drive 3000 not 3360..3840 after slot 13, 1500 from its fall`
abbrev pub good_drive_cells : ℕ → ℕ → ℕ → List PlainCell
good_drive_cells slots gap width =
    both (codes "  low drive ") (codes "width") (number width) ∷ hidden (codes "least") nothing ∷ hidden (codes "most") nothing
    ∷ place_cells (codes " after slot ") slots gap

abbrev pub bad_drive_cells : ℕ → ℕ → ℕ → List PlainCell
bad_drive_cells slots gap width =
    both (codes "  low drive ") (codes "width") (number width) ∷ both (codes " not ") (codes "least") (number 3360) ∷ both (codes "..") (codes "most") (number 3840)
    ∷ place_cells (codes " after slot ") slots gap

abbrev pub drive_cells : ℕ → ℕ → ℕ → List PlainCell
drive_cells slots gap width = if fits (window 3360 3840) width then good_drive_cells slots gap width else bad_drive_cells slots gap width

abbrev pub own_cells : EndingRemark → List PlainCell
own_cells (endings.Stray bits) = both (codes "  bits without a start bit: ") (codes "count") (number bits) ∷ []
own_cells (endings.LoneStart width) = both (codes "  low for ") (codes "width") (number width) ∷ said_so (codes " and nothing after it") ∷ []
own_cells (endings.Stuck width) = both (codes "  low for ") (codes "width") (number width) ∷ both (codes ", at most ") (codes "most") (number 5540) ∷ []
own_cells (endings.LowDrive slots gap width) = drive_cells slots gap width
own_cells (endings.Overrun slots) = both (codes "  another start bit after slot ") (codes "slot") (number slots) ∷ []
own_cells (endings.Intruder slots gap) = place_cells (codes "  another fall after slot ") slots gap
own_cells endings.TooLong = both (codes "  goes on after block ") (codes "block") (number 16) ∷ []
own_cells (endings.Unfinished block) = both (codes "  ends after block ") (codes "block") (number block) ∷ said_so (codes " without EOM") ∷ []
own_cells (endings.Stops slots) = both (codes "  stops after slot ") (codes "slot") (number slots) ∷ []
own_cells (endings.AfterEnd bits) = both (codes "  bits after EOM: ") (codes "count") (number bits) ∷ []

abbrev pub cells_with : EndingRemark → List PlainCell → Party → List PlainCell
cells_with r own who = named (codes "remark") (ending_name r) ∷ in_section (ending_section r) ∷ (own ++ who_cells who)

abbrev pub text_with : Form → EndingRemark → List PlainCell → Party → List ℕ
text_with form r own who = record_text form (codes "remark") (cells_with r own who)

-- THE text of a remark of an ending
abbrev pub ending_text : Form → EndingRemark → Party → List ℕ
ending_text form r who = text_with form r (own_cells r) who

-- what goes on after a block that was not taken: `  goes on after block 2, which was not taken by initiator 4`
abbrev pub goes_on_cells : ℕ → Party → List PlainCell
goes_on_cells block who =
    named (codes "remark") (codes "goes-on") ∷ in_section (codes "7.1") ∷ both (codes "  goes on after block ") (codes "block") (number block)
    ∷ said_so (codes ", which was not taken,") ∷ who_cells who

abbrev pub goes_on_text : Form → ℕ → Party → List ℕ
goes_on_text form block who = record_text form (codes "remark") (goes_on_cells block who)

-- ---- causes

abbrev pub cause_words : Cause → List ℕ
cause_words causes.ArbitrationLost = codes "  arbitration lost"
cause_words causes.PollUnanswered = codes "  poll unanswered"
cause_words causes.NotAcknowledged = codes "  not acknowledged"
cause_words causes.Refused = codes "  refused"
cause_words causes.CutByTheEnd = codes "  cut by the end"
cause_words causes.MidFrame = codes "  begins in mid frame"

abbrev pub cause_cells : Cause → List PlainCell
cause_cells c = named (codes "note") (cause_name c) ∷ in_section (cause_section c) ∷ said_so (cause_words c) ∷ []

abbrev pub cause_text : Form → Cause → List ℕ
cause_text form c = record_text form (codes "note") (cause_cells c)
