-- Bad starts in a row, as noise makes them (own).
use Rattle.std.specs.Prelude.{ℕ, ◌==◌, nat_lt, ◌&&◌, not, if◌then◌else◌, Option, Some, None}
use Rattle.line_frames.specs.declared.Ending.{Ending}
use Rattle.audit_widths.specs.Spreads.{sum_of}
use Rattle.audit_remarks.specs.declared.series.BadStartSeries.{BadStartSeries}
use Rattle.audit_remarks.specs.Free.{is_bad_start}

-- how many there were, and where the first one began
abbrev pub no_series : BadStartSeries
no_series = record { count = 0; since = 0 }

abbrev pub after_start : BadStartSeries → Ending → ℕ → BadStartSeries
after_start s ending begin =
    if is_bad_start ending then record { count = sum_of s.count 1; since = if s.count == 0 then begin else s.since } else no_series

-- A series of two or more is over with the next reading that is none of it.
abbrev pub series_over : BadStartSeries → Ending → Option BadStartSeries
series_over s ending = if not (is_bad_start ending) && nat_lt 1 s.count then Some s else None
