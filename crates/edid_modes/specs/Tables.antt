-- Timings by the numbers of tables (CTA-861-G, table 3 and figures 1 to 4; VESA DMT 1.13; the room is that of E-EDID A, 3.10.2).
use Rattle.std.specs.Prelude.{ℕ, ◌==◌, if◌then◌else◌, List, [], ◌∷◌, Option, Some, None}
use Rattle.edid_modes.specs.declared.tables.TheConstants.{FORMATS, MONITORS}
use Rattle.edid_modes.specs.declared.timing.ModeTiming.{ModeTiming}

-- the formats by their video codes
unfoldable pub format_rows : List (ℕ × ModeTiming)
format_rows = FORMATS.now

-- the monitor timings by their identifiers
unfoldable pub monitor_rows : List (ℕ × ModeTiming)
monitor_rows = MONITORS.now

abbrev pub timing_with : List (ℕ × ModeTiming) → ℕ → Option ModeTiming
timing_with [] number = None
timing_with (row ∷ rows) number = if row.0 == number then Some row.1 else timing_with rows number

abbrev pub code_timing : ℕ → Option ModeTiming
code_timing code = timing_with format_rows code

abbrev pub monitor_timing : ℕ → Option ModeTiming
monitor_timing identifier = timing_with monitor_rows identifier
