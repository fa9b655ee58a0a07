-- The rates of a detailed timing (E-EDID Release A, section 3.10.2).
use Rattle.std.specs.Prelude.{ℕ, ◌+◌, ◌*◌, ◌/◌, ◌<◌, ◌≤◌, List, slice_index, min}
use Rattle.meaning_words.specs.declared.rates.TimingNumbers.{TimingNumbers}

-- the whole number that is nearest to number / by: less than half away, or half away above it
pub record IsNearest (number by r : ℕ) : Type 0 where
  pub not_above : 2 * by * r ≤ 2 * number + by
  pub not_below : 2 * number + by < 2 * by * r + 2 * by

-- that number
unfoldable pub nearest : ℕ → ℕ → ℕ
nearest number by = (2 * number + by) / (2 * by)

-- a number of a timing's line: each has at most 16 bits
abbrev pub number_at : List ℕ → ℕ → ℕ
number_at numbers place = min (slice_index numbers place) 65535

-- The numbers of its line by their names: clock; active and blanking, horizontally and vertically; four of the syncs, of which
-- nothing is told; millimetres; borders.
abbrev pub of_line : List ℕ → ℕ → TimingNumbers
of_line n flags = record {
  clock = number_at n 0;
  horizontal_active = number_at n 1;
  horizontal_blanking = number_at n 2;
  vertical_active = number_at n 3;
  vertical_blanking = number_at n 4;
  width = number_at n 9;
  height = number_at n 10;
  horizontal_border = number_at n 11;
  vertical_border = number_at n 12;
  flags = flags;
}

-- the pixels of a line, blanking among them
abbrev pub line_pixels : TimingNumbers → ℕ
line_pixels t = t.horizontal_active + t.horizontal_blanking

-- the half lines of a field: bit 7 of the flags says that a picture is two fields, each half a line longer
abbrev pub half_lines : TimingNumbers → ℕ
half_lines t = 2 * (t.vertical_active + t.vertical_blanking) + t.flags / 128

-- the lines of a picture: of both fields where it is interlaced
abbrev pub picture_lines : TimingNumbers → ℕ
picture_lines t = t.vertical_active * (1 + t.flags / 128)

-- fields a second, in thousandths of a Hz: the clock counts 10,000 pixels a second
abbrev pub field_rate : TimingNumbers → ℕ
field_rate t = nearest (t.clock * 20000000) (line_pixels t * half_lines t)

-- lines a second
abbrev pub line_rate : TimingNumbers → ℕ
line_rate t = nearest (t.clock * 10000) (line_pixels t)
