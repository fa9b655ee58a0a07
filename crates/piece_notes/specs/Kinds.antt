-- What is said of pieces: what each kind is called, the section of the standard that it goes by (HDMI 1.4, CEC), and whether the standard
-- has it otherwise.
use Rattle.std.specs.Prelude.{ℕ, ◌==◌, Bool, true, false, if◌then◌else◌, List, [], codes}
use Rattle.audit_judged.specs.declared.endings.Cause.{Cause}
use Rattle.audit_judged.specs.declared.endings.Cause.TheVariants as causes
use Rattle.audit_judged.specs.declared.endings.EndingRemark.{EndingRemark}
use Rattle.audit_judged.specs.declared.endings.EndingRemark.TheVariants as endings
use Rattle.audit_judged.specs.declared.widths.WidthKind.{WidthKind}
use Rattle.audit_judged.specs.declared.widths.WidthKind.TheVariants as widths

abbrev pub width_name : WidthKind → List ℕ
width_name widths.StartLow = codes "start-low"
width_name widths.StartTotal = codes "start-total"
width_name widths.BitTotal = codes "bit-total"
width_name widths.LateAck = codes "late-ack"
width_name _ = codes "bit-low"

abbrev pub width_section : WidthKind → List ℕ
width_section widths.StartLow = codes "5.2.1"
width_section widths.StartTotal = codes "5.2.1"
width_section widths.LateAck = codes "5.2.3"
width_section _ = codes "5.2.2"

abbrev pub ending_name : EndingRemark → List ℕ
ending_name (endings.Stray bits) = codes "stray"
ending_name (endings.LoneStart width) = codes "lone-start"
ending_name (endings.Stuck width) = codes "stuck"
ending_name (endings.LowDrive slots gap width) = codes "low-drive"
ending_name (endings.Overrun slots) = codes "overrun"
ending_name (endings.Intruder slots gap) = codes "intruder"
ending_name endings.TooLong = codes "too-long"
ending_name (endings.Unfinished block) = codes "unfinished"
ending_name (endings.Stops slots) = codes "stops"
ending_name (endings.AfterEnd bits) = codes "after-eom"

abbrev pub ending_section : EndingRemark → List ℕ
ending_section (endings.Stray bits) = codes "5.2.1"
ending_section (endings.LoneStart width) = codes "5.2.1"
ending_section (endings.Stuck width) = codes "5"
ending_section (endings.LowDrive slots gap width) = codes "7.4"
ending_section (endings.Overrun slots) = codes "9.1"
ending_section (endings.Intruder slots gap) = codes "7.2"
ending_section endings.TooLong = codes "6.1"
ending_section (endings.Unfinished block) = codes "6.1.2"
ending_section (endings.Stops slots) = codes "6.1"
ending_section (endings.AfterEnd bits) = codes "6.1.2"

abbrev pub cause_name : Cause → List ℕ
cause_name causes.ArbitrationLost = codes "arbitration-lost"
cause_name causes.PollUnanswered = codes "poll-unanswered"
cause_name causes.NotAcknowledged = codes "not-acknowledged"
cause_name causes.Refused = codes "refused"
cause_name causes.CutByTheEnd = codes "cut-by-the-end"
cause_name causes.MidFrame = codes "mid-frame"

-- what the capture cuts goes by no section
abbrev pub cause_section : Cause → List ℕ
cause_section causes.ArbitrationLost = codes "7.2"
cause_section causes.PollUnanswered = codes "7.3"
cause_section causes.NotAcknowledged = codes "6.1.2"
cause_section causes.Refused = codes "6.1.2"
cause_section _ = []
