-- Coordinated Video Timings with reduced blanking, version 1 (VESA CVT 1.2, section 5.2), without margins and fields.
--
-- A line is estimated to take `time_left m 460 / lines_with m 0` microseconds.
use Rattle.std.specs.Prelude.{ℕ, ◌+◌, ◌*◌, ◌/◌, min, max, Option}
use Rattle.edid_modes.specs.Coordinated.{sync_lines}
use Rattle.edid_modes.specs.Modes.{lines_with, time_left, where_room}
use Rattle.edid_modes.specs.declared.mode.Mode.{Mode}
use Rattle.edid_modes.specs.declared.timing.ModeTiming.{ModeTiming}

-- the vertical blanking: the lines of 460 microseconds and one, and at least front porch, sync and seven
abbrev pub blank_lines : Mode → ℕ
blank_lines m = max (460 * lines_with m 0 / time_left m 460 + 1) (3 + sync_lines m + 7)

-- 160 pixels of blanking, of which 48 are the front porch and 32 the sync; the clock in whole quarters of a MHz
abbrev pub reduced : Mode → Option ModeTiming
reduced m = where_room (record {
  clock = min (25 * (m.rate * (m.height + blank_lines m) * (m.width + 160) / 250000)) 65536;
  width = m.width;
  horizontal_blanking = 160;
  height = m.height;
  vertical_blanking = blank_lines m;
  horizontal_offset = 48;
  horizontal_sync = 32;
  vertical_offset = 3;
  vertical_sync = sync_lines m;
  flags = 26;
})
