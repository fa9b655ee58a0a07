-- The Generalized Timing Formula (VESA GTF 1.1, section 5) with the default blanking curve, without margins and fields.
use Rattle.std.specs.Prelude.{ℕ, ◌+◌, ◌-◌, ◌*◌, ◌/◌, min, Option}
use Rattle.edid_modes.specs.Modes.{lines_with, time_left, where_room}
use Rattle.edid_modes.specs.declared.mode.Mode.{Mode}
use Rattle.edid_modes.specs.declared.timing.ModeTiming.{ModeTiming}

-- a quotient to the nearest whole number
abbrev pub nearest : ℕ → ℕ → ℕ
nearest part whole = (2 * part + whole) / (2 * whole)

-- sync and back porch: the lines of 550 microseconds
abbrev pub back_lines : Mode → ℕ
back_lines m = nearest (550 * lines_with m 1) (time_left m 550)

-- the lines of a second
abbrev pub line_rate : Mode → ℕ
line_rate m = m.rate * (m.height + back_lines m + 1)

-- The blanking of a line in pairs of cells. Its share is 30 in 100 less 0.3 for each microsecond of the line; of a share s the blanking
-- is s / (100 - s) of the picture.
abbrev pub across : Mode → ℕ
across m = nearest (m.width * (3 * line_rate m - 30000)) (16 * (7 * line_rate m + 30000)) * 16

-- the clock to the nearest 10 kHz
abbrev pub clock : Mode → ℕ → ℕ
clock m blanking = min (((m.width + blanking) * line_rate m + 5000) / 10000) 65536

-- sync is 8 in 100 of the line in cells, to the nearest, and ends in the middle of the blanking
abbrev pub generalized_by : Mode → ℕ → Option ModeTiming
generalized_by m blanking = where_room (record {
  clock = clock m blanking;
  width = m.width;
  horizontal_blanking = blanking;
  height = m.height;
  vertical_blanking = 1 + back_lines m;
  horizontal_offset = blanking / 2 - (m.width + blanking + 50) / 100 * 8;
  horizontal_sync = (m.width + blanking + 50) / 100 * 8;
  vertical_offset = 1;
  vertical_sync = 3;
  flags = 28;
})

abbrev pub generalized : Mode → Option ModeTiming
generalized m = generalized_by m (min (across m) 4096)
