-- Modes, and the numbers of their timings (own; the room of a detailed timing is that of E-EDID A, 3.10.2).
use Rattle.std.specs.Prelude.{ℕ, ◌+◌, ◌-◌, ◌*◌, ◌%◌, ◌==◌, ◌<◌, ◌≤◌, Bool, ◌&&◌, not, nat_lt, nat_le, if◌then◌else◌, Option, Some, None}
use Rattle.edid_modes.specs.declared.mode.Mode.{Mode}
use Rattle.edid_modes.specs.declared.mode.ModeFault.{ModeFault}
use Rattle.edid_modes.specs.declared.mode.ModeFault.TheVariants.{Width, Height, Rate}
use Rattle.edid_modes.specs.declared.timing.ModeTiming.{ModeTiming}

-- a number from 1 to another
abbrev pub is_within : ℕ → ℕ → Bool
is_within most n = nat_lt 0 n && nat_le n most

-- The first number of a mode that is none: a picture has whole cells of eight pixels.
abbrev pub mode_fault : Mode → Option ModeFault
mode_fault m =
    if not (is_within 4095 m.width && (m.width % 8 == 0)) then Some Width
    else if not (is_within 4095 m.height) then Some Height
    else if not (is_within 500 m.rate) then Some Rate
    else None

-- how large the numbers of a mode are
abbrev pub IsMode : Mode → Type 0
IsMode m = (m.width < 4096) × ((m.height < 4096) × ((0 < m.rate) × (m.rate ≤ 500)))

-- the lines of a second, where each frame has some more than the picture's
abbrev pub lines_with : Mode → ℕ → ℕ
lines_with m more = m.rate * (m.height + more)

-- the microseconds of a second that are left where each frame spends some on blanking
abbrev pub time_left : Mode → ℕ → ℕ
time_left m blanking = 1000000 - blanking * m.rate

-- A detailed timing has room for it, and its sync stands within its blanking. A clock of 65,536 stands for all that are too fast, a
-- blanking of 4,096 for all that are too long.
abbrev pub has_room : ModeTiming → Bool
has_room t =
    is_within 65535 t.clock && nat_le t.horizontal_blanking 4095 && nat_le t.vertical_blanking 4095
    && is_within 1023 t.horizontal_offset && is_within 1023 t.horizontal_sync && nat_le t.vertical_offset 63 && nat_le t.vertical_sync 63
    && nat_le (t.horizontal_offset + t.horizontal_sync) t.horizontal_blanking && nat_le (t.vertical_offset + t.vertical_sync) t.vertical_blanking

abbrev pub where_room : ModeTiming → Option ModeTiming
where_room t = if has_room t then Some t else None
