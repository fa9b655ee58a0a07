-- THE text of the rows of a report, by the cells of their lines (own).
use Rattle.std.specs.Prelude.{ℕ, ◌+◌, ◌/◌, ◌==◌, Bool, false, not, nat_lt, ◌||◌, if◌then◌else◌, List, [], ◌∷◌, ◌++◌, Option, Some, None, codes}
use Rattle.line_frames.specs.FreeTime.{free_time_of}
use Rattle.line_frames.specs.declared.free_time.FreeTime.{FreeTime}
use Rattle.line_frames.specs.declared.free_time.FreeTime.TheVariants.{Retry, NewInitiator, PresentInitiator}
use Rattle.record_core.specs.Cells.{PlainCell, both, hidden, line_only}
use Rattle.record_core.specs.Records.{record_text}
use Rattle.record_core.specs.Values.{nibble_or, nothing, number, text}
use Rattle.record_core.specs.declared.cell.Form.{Form}
use Rattle.audit_contents.specs.Texts.{contents_text}
use Rattle.audit_contents.specs.declared.contents.Contents.{Contents}
use Rattle.audit_widths.specs.declared.spread.Spread.{Spread}
use Rattle.audit_remarks.specs.declared.counts.FrameCount.{FrameCount}
use Rattle.audit_notes.specs.Kinds.{name_of, section_of}
use Rattle.audit_notes.specs.Notes.{spread_name}
use Rattle.audit_notes.specs.declared.note.SpreadKind.TheVariants as spreads
use Rattle.audit_report.specs.declared.kinds.KindCount.{KindCount}
use Rattle.audit_report.specs.declared.row.FreeColumn.{FreeColumn}
use Rattle.audit_report.specs.declared.row.FreeTimes.{FreeTimes}
use Rattle.audit_report.specs.declared.row.Row.{Row}

-- whose it is; of nobody null
abbrev pub whose : Option ℕ → PlainCell
whose who = hidden (codes "logical_address") (nibble_or who)

-- words of the line alone
abbrev pub said_so : List ℕ → PlainCell
said_so words = line_only words nothing

abbrev pub is_some_of : ℕ → Bool
is_some_of n = not (n == 0)

-- ---- heads: `address 4`, `unknown`

abbrev pub named_head : ℕ → List PlainCell
named_head address = both (codes "address ") (codes "logical_address") (nibble_or (Some address)) ∷ []

abbrev pub unknown_head : List PlainCell
unknown_head = said_so (codes "unknown") ∷ whose None ∷ []

abbrev pub head_text : Form → Option ℕ → List ℕ
head_text form (Some address) = record_text form (codes "address") (named_head address)
head_text form None = record_text form (codes "address") unknown_head

-- ---- frames: `  frames 12 taken, 1 not taken, 2 broken, 0 past the sixth attempt`

abbrev pub frames_cells : Option ℕ → FrameCount → ℕ → List PlainCell
frames_cells who c past =
    whose who ∷ both (codes "  frames ") (codes "taken") (number c.taken) ∷ both (codes " taken, ") (codes "not_taken") (number c.untaken)
    ∷ both (codes " not taken, ") (codes "broken") (number c.broken) ∷ both (codes " broken, ") (codes "past") (number past)
    ∷ said_so (codes " past the sixth attempt") ∷ []

abbrev pub has_frames : Row → Bool
has_frames r = is_some_of r.frames.taken || (is_some_of r.frames.untaken || (is_some_of r.frames.broken || is_some_of r.past))

abbrev pub frames_text : Form → Option ℕ → Row → List ℕ
frames_text form who r = if has_frames r then record_text form (codes "frames") (frames_cells who r.frames r.past) else []

-- ---- widths: `  zero low 1490..1512 mean 1501 of 14, 0 out`

-- the mean is rounded down
abbrev pub mean_of : Spread → ℕ
mean_of s = if s.count == 0 then 0 else s.sum / s.count

abbrev pub spread_cells : Option ℕ → List ℕ → Spread → ℕ → ℕ → List PlainCell
spread_cells who kind s mean outs =
    whose who ∷ both (codes "  ") (codes "kind") (text kind) ∷ both (codes " ") (codes "least") (number s.least) ∷ both (codes "..") (codes "greatest") (number s.greatest)
    ∷ both (codes " mean ") (codes "mean") (number mean) ∷ both (codes " of ") (codes "count") (number s.count) ∷ both (codes ", ") (codes "out") (number outs)
    ∷ said_so (codes " out") ∷ []

-- nothing where there are none
abbrev pub spread_text : Form → Option ℕ → List ℕ → Spread → ℕ → List ℕ
spread_text form who kind s outs =
    if is_some_of s.count then record_text form (codes "spread") (spread_cells who kind s (mean_of s) outs) else []

-- of frames that it sent, and of acknowledge slots
abbrev pub own_text : Form → Option ℕ → Row → List ℕ
own_text form who r =
    spread_text form who (spread_name spreads.StartLow) r.widths.start_low r.outs.start_low
    ++ (spread_text form who (spread_name spreads.StartTotal) r.widths.start_total r.outs.start_total
    ++ (spread_text form who (spread_name spreads.OneLow) r.widths.one_low r.outs.one_low
    ++ (spread_text form who (spread_name spreads.ZeroLow) r.widths.zero_low r.outs.zero_low
    ++ (spread_text form who (spread_name spreads.BitTotal) r.widths.total r.outs.total
    ++ spread_text form who (codes "ack low") r.acks.zero_low r.outs.ack_low))))

-- ---- free times: `  free retry 7199 of 3, 1 before 7200`

abbrev pub due_name : FreeTime → List ℕ
due_name Retry = codes "retry"
due_name NewInitiator = codes "new-initiator"
due_name PresentInitiator = codes "present-initiator"

abbrev pub free_cells : Option ℕ → List ℕ → ℕ → FreeColumn → List PlainCell
free_cells who kind due c =
    whose who ∷ both (codes "  free ") (codes "kind") (text kind) ∷ both (codes " ") (codes "least") (number c.taken.least)
    ∷ both (codes " of ") (codes "count") (number c.taken.count) ∷ both (codes ", ") (codes "short") (number c.short)
    ∷ both (codes " before ") (codes "due") (number due) ∷ []

abbrev pub free_text : Form → Option ℕ → FreeTime → FreeColumn → List ℕ
free_text form who due c =
    if is_some_of c.taken.count then record_text form (codes "free") (free_cells who (due_name due) (free_time_of due) c) else []

abbrev pub free_times_text : Form → Option ℕ → FreeTimes → List ℕ
free_times_text form who t =
    free_text form who Retry t.retry ++ (free_text form who NewInitiator t.new_initiator ++ free_text form who PresentInitiator t.present_initiator)

-- ---- answers: `  answers 23400..1199000 mean 500000 of 4, 1 late, 2 missing`

abbrev pub answers_cells : Option ℕ → Spread → ℕ → ℕ → ℕ → List PlainCell
answers_cells who s mean late missing =
    whose who ∷ both (codes "  answers ") (codes "least") (number s.least) ∷ both (codes "..") (codes "greatest") (number s.greatest)
    ∷ both (codes " mean ") (codes "mean") (number mean) ∷ both (codes " of ") (codes "count") (number s.count) ∷ both (codes ", ") (codes "late") (number late)
    ∷ both (codes " late, ") (codes "missing") (number missing) ∷ said_so (codes " missing") ∷ []

abbrev pub has_answers : Row → Bool
has_answers r = is_some_of r.answers.count || is_some_of r.missing

abbrev pub answers_text : Form → Option ℕ → Row → List ℕ
answers_text form who r =
    if has_answers r then record_text form (codes "answers") (answers_cells who r.answers (mean_of r.answers) r.late r.missing) else []

-- ---- remarks: `  bit-low 2 by 5.2.2`

abbrev pub remark_cells : Option ℕ → List ℕ → List ℕ → ℕ → List PlainCell
remark_cells who name section count =
    whose who ∷ both (codes "  ") (codes "remark") (text name) ∷ both (codes " ") (codes "count") (number count)
    ∷ both (codes " by ") (codes "section") (text section) ∷ []

abbrev pub count_text : Form → Option ℕ → KindCount → List ℕ
count_text form who k =
    if is_some_of k.count then record_text form (codes "charge") (remark_cells who (name_of k.kind) (section_of k.kind) k.count) else []

abbrev pub counts_text : Form → Option ℕ → List KindCount → List ℕ
counts_text form who [] = []
counts_text form who (k ∷ ks) = count_text form who k ++ counts_text form who ks

-- ---- rows

abbrev pub has_counts : List KindCount → Bool
has_counts [] = false
has_counts (k ∷ ks) = is_some_of k.count || has_counts ks

abbrev pub has_widths : Row → Bool
has_widths r =
    is_some_of r.widths.start_low.count || (is_some_of r.widths.start_total.count || (is_some_of r.widths.one_low.count
    || (is_some_of r.widths.zero_low.count || (is_some_of r.widths.total.count || is_some_of r.acks.zero_low.count))))

abbrev pub has_free : FreeTimes → Bool
has_free t = is_some_of t.retry.taken.count || (is_some_of t.new_initiator.taken.count || is_some_of t.present_initiator.taken.count)

-- a line is written of it
abbrev pub is_told : Row → Bool
is_told r = has_frames r || (has_widths r || (has_free r.free || (has_answers r || has_counts r.remarks)))

-- what the device says stands last: it sent frames
abbrev pub others_text : Form → Contents → Option ℕ → Row → List ℕ
others_text form c who r = free_times_text form who r.free ++ (answers_text form who r ++ (counts_text form who r.remarks ++ contents_text form who c))

abbrev pub row_lines : Form → Contents → Option ℕ → Row → List ℕ
row_lines form c who r = head_text form who ++ (frames_text form who r ++ (own_text form who r ++ others_text form c who r))

abbrev pub row_text : Form → Contents → Option ℕ → Row → List ℕ
row_text form c who r = if is_told r then row_lines form c who r else []

-- the rows of the addresses 0 to 15, and the last of nobody
abbrev pub who_at : ℕ → Option ℕ
who_at number = if nat_lt number 16 then Some number else None

abbrev pub rows_text : Form → Contents → ℕ → List Row → List ℕ
rows_text form c number [] = []
rows_text form c number (r ∷ rs) = row_text form c (who_at number) r ++ rows_text form c (number + 1) rs
