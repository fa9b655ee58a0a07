-- Coordinated Video Timings with the blanking of a tube (VESA CVT 1.2, section 5.1), without margins and fields.
--
-- A line is estimated to take `time_left m 550 / lines_with m 3` microseconds: the frame without 550 of them, shared by the picture's
-- lines and the front porch.
use Rattle.std.specs.Prelude.{ℕ, ◌+◌, ◌-◌, ◌*◌, ◌/◌, ◌==◌, ◌||◌, nat_lt, min, max, if◌then◌else◌, Option}
use Rattle.edid_modes.specs.Modes.{lines_with, time_left, where_room}
use Rattle.edid_modes.specs.declared.mode.Mode.{Mode}
use Rattle.edid_modes.specs.declared.timing.ModeTiming.{ModeTiming}

-- table 2: the lines of the vertical sync by the aspect, 4:3, 16:9, 16:10, 5:4, 15:9 and any other
abbrev pub sync_lines : Mode → ℕ
sync_lines m =
    if m.width * 3 == m.height * 4 then 4
    else if m.width * 9 == m.height * 16 then 5
    else if m.width * 10 == m.height * 16 then 6
    else if (m.width * 4 == m.height * 5) || (m.width * 9 == m.height * 15) then 7
    else 10

-- sync and back porch: the lines of 550 microseconds and one, and at least the sync and seven
abbrev pub back_lines : Mode → ℕ
back_lines m = max (550 * lines_with m 3 / time_left m 550 + 1) (sync_lines m + 7)

-- The blanking of a line in whole pairs of cells. Its share is 30 in 100 less 0.3 for each microsecond of the line, and at least 20 in
-- 100; of a share s the blanking is s / (100 - s) of the picture.
abbrev pub across : Mode → ℕ
across m =
    if nat_lt (100 * lines_with m 3) (3 * time_left m 550) then m.width / 64 * 16
    else m.width * (300 * lines_with m 3 - 3 * time_left m 550) / (16 * (700 * lines_with m 3 + 3 * time_left m 550)) * 16

-- the clock in whole quarters of a MHz
abbrev pub clock : Mode → ℕ → ℕ
clock m blanking = min (25 * (4 * (m.width + blanking) * lines_with m 3 / time_left m 550)) 65536

-- sync is 8 in 100 of the line in whole cells, and ends in the middle of the blanking
abbrev pub coordinated_by : Mode → ℕ → Option ModeTiming
coordinated_by m blanking = where_room (record {
  clock = clock m blanking;
  width = m.width;
  horizontal_blanking = blanking;
  height = m.height;
  vertical_blanking = 3 + back_lines m;
  horizontal_offset = blanking / 2 - (m.width + blanking) / 100 * 8;
  horizontal_sync = (m.width + blanking) / 100 * 8;
  vertical_offset = 3;
  vertical_sync = sync_lines m;
  flags = 28;
})

abbrev pub coordinated : Mode → Option ModeTiming
coordinated m = coordinated_by m (min (across m) 4096)
