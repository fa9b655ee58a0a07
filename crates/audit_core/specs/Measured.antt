-- What is measured of a reading, also where nothing is remarked of it: the free time before it, how long the requests waited that it
-- answers, and its widths (CEC 5.2, 9.1, 9.2; which widths are a slot's own is own).
use Rattle.std.specs.Prelude.{ℕ, Bool, if◌then◌else◌, List, [], ◌∷◌, ◌++◌, length, Option, None}
use Rattle.line_wave.specs.declared.Edge.{Edge}
use Rattle.line_reading.specs.Readings.{Listed}
use Rattle.audit_widths.specs.declared.low.Low.{Low}
use Rattle.audit_remarks.specs.declared.free.FreeTaken.{FreeTaken}
use Rattle.audit_remarks.specs.declared.requests.Request.{Request}
use Rattle.audit_remarks.specs.Attempts.{tries_again}
use Rattle.audit_remarks.specs.Endings.{is_measured}
use Rattle.audit_remarks.specs.Frames.{sent_frame}
use Rattle.audit_remarks.specs.Free.{free_taken}
use Rattle.audit_remarks.specs.Requests.{is_answer, waited}
use Rattle.audit_core.specs.declared.lines.LastSlot.{LastSlot}
use Rattle.audit_core.specs.declared.lines.LastSlot.TheVariants.{Own, Followed, Driven}
use Rattle.audit_core.specs.Audit.{Tape, drive_of, first_begin, lows_of}
use Rattle.audit_core.specs.Lines.{last_of, slot_by}

-- ---- free times

abbrev pub free_of : Tape → Listed → Option FreeTaken
free_of t x = free_taken t.previous x (tries_again t.attempts x.reported.bits)

-- ---- answers

abbrev pub waits_unless : Bool → ℕ → List ℕ
waits_unless answers wait = if answers then wait ∷ [] else []

-- how long those requests had waited that a frame answers, whose first attempt begins then
abbrev pub waits_in : ℕ → List ℕ → List Request → List ℕ
waits_in begin frame [] = []
waits_in begin frame (r ∷ rs) = waits_unless (is_answer begin frame r) (waited begin r) ++ waits_in begin frame rs

abbrev pub waits_of : Tape → Listed → List ℕ
waits_of t x = waits_in (first_begin t x) (sent_frame x) t.waiting

-- ---- widths

-- A low stretch without the widths that an audit passes over: a low drive follows it, or begins within it.
abbrev pub own_of : LastSlot → Low → Low
own_of Own low = low
own_of Followed low = record { fall = low.fall; rise = low.rise; next = None }
own_of Driven low = record { fall = low.fall; rise = None; next = None }

abbrev pub owned : LastSlot → List Low → List Low
owned last [] = []
owned last (low ∷ lows) = own_of (slot_by last (length lows)) low ∷ owned last lows

-- the low stretches of a reading with what of each is measured, the start bit first; of a reading that is not measured there are none
abbrev pub measured_by : Tape → Listed → List Low → Option ℕ → List Low
measured_by t x lows drive = if is_measured t.previous t.series x lows then owned (last_of drive x lows) lows else []

abbrev pub measured_of : Tape → Listed → List Low
measured_of t x = measured_by t x (lows_of x t.place) (drive_of x t.place)
