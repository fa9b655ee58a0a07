-- The windows by which a line is read, in microseconds (CEC 5.2; the windows are this profile's own, about the standard's
-- nominal times), and the instant at which a bit is sampled (CEC 5.2.2: 1,050 nominally).
use Rattle.std.specs.Prelude.{ℕ, ◌+◌, ◌-◌, ◌<◌, ◌≤◌}
use Rattle.line_reading.specs.declared.times.Span.{Span}
use Rattle.line_reading.specs.declared.times.Windows.{Windows}

-- a start bit is low for 3,700 and lasts 4,500, a data bit lasts 2,400 (CEC 5.2.1 and 5.2.2)
abbrev pub standard : Windows
standard = record {
  start_low = record { least = 3500; most = 3900 };
  start_total = record { least = 4300; most = 4700 };
  bit_total = record { least = 2050; most = 2750 };
}

-- a bit is sampled so long after its fall
abbrev pub sample_at : ℕ
sample_at = 1050

-- What the rule of reading asks of windows: each has a least and a most, a start bit is low for less than it lasts at most, a bit
-- is sampled before the next one may fall, and lasts no longer than a start bit, which lasts at most 10,000 (own).
pub record AreWindows (windows : Windows) : Type 0 where
  pub low : windows.start_low.least ≤ windows.start_low.most
  pub total : windows.start_total.least ≤ windows.start_total.most
  pub bit : windows.bit_total.least ≤ windows.bit_total.most
  pub risen : windows.start_low.most < windows.start_total.most
  pub sampled : sample_at < windows.bit_total.least
  pub brief : windows.start_total.most ≤ 10000
  pub longer : windows.bit_total.most ≤ windows.start_total.most

-- windows that are so much wider at either side, by 300 at most
abbrev pub most_margin : ℕ
most_margin = 300

abbrev pub wider_span : ℕ → Span → Span
wider_span margin s = record { least = s.least - margin; most = s.most + margin }

abbrev pub wider : ℕ → Windows
wider margin = record {
  start_low = wider_span margin standard.start_low;
  start_total = wider_span margin standard.start_total;
  bit_total = wider_span margin standard.bit_total;
}
