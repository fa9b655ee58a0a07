-- Timings by VESA's formulas (CVT 1.2), and by the table of monitor timings (VESA DMT 1.13).
use Rattle.std.specs.Prelude.{ℕ, ◌+◌, ◌-◌, ◌*◌, ◌/◌, ◌==◌, false, nat_le, max, if◌then◌else◌, Option, Some, None, Result, Ok, Err}
use Rattle.edid_modes.specs.Formulas.{timing_by}
use Rattle.edid_modes.specs.Tables.{monitor_timing}
use Rattle.edid_modes.specs.declared.formula.Formula.{Formula}
use Rattle.edid_modes.specs.declared.formula.Formula.TheVariants.{Coordinated, Reduced}
use Rattle.edid_modes.specs.declared.mode.ModeFault.{ModeFault}
use Rattle.edid_modes.specs.declared.timing.ModeTiming.{ModeTiming}
use Rattle.edid_displayid.specs.declared.timing.TypedFormat.{TypedFormat}
use Rattle.edid_displayid.specs.declared.timing.TypedFormat.TheVariants.{Timing}

-- its clock is in units of 10 kHz; bit 7 of its flags: a picture is two fields
abbrev pub of_mode : ModeTiming → TypedFormat
of_mode t = Timing (record {
  clock = t.clock * 10;
  width = t.width;
  pixels = t.width + t.horizontal_blanking;
  lines = t.height + t.vertical_blanking;
  is_interlaced = nat_le 128 t.flags;
})

-- ---- by a table

abbrev pub of_dmt : Option ModeTiming → Option TypedFormat
of_dmt None = None
of_dmt (Some t) = Some (of_mode t)

abbrev pub progressive : ℕ → ℕ → ℕ → ℕ → Option TypedFormat
progressive clock width pixels lines =
    Some (Timing (record { clock = clock; width = width; pixels = pixels; lines = lines; is_interlaced = false }))

-- three have a clock that is no multiple of 10 kHz
abbrev pub dmt_format : ℕ → Option TypedFormat
dmt_format identifier =
    if identifier == 0x04 then progressive 25175 640 800 525
    else if identifier == 0x57 then progressive 556744 4096 4176 2222
    else if identifier == 0x58 then progressive 556188 4096 4176 2222
    else of_dmt (monitor_timing identifier)

-- ---- by a formula

-- none where a type_i timing has no room for what the formula gives (own)
abbrev pub of_result : Result ModeTiming ModeFault → Option TypedFormat
of_result (Err fault) = None
of_result (Ok t) = Some (of_mode t)

abbrev pub by_formula : Formula → ℕ → ℕ → ℕ → Option TypedFormat
by_formula formula width height rate = of_result (timing_by formula (record { width = width; height = height; rate = rate }))

-- Reduced blanking of version 2: the vertical blanking has the lines of 460 microseconds and one, and at least 15, which are front porch,
-- sync and back porch of 1, 8 and 6.
abbrev pub blank_lines : ℕ → ℕ → ℕ
blank_lines height rate = max (460 * (rate * height) / (1000000 - 460 * rate) + 1) 15

-- a line has 80 pixels of blanking; the clock in whole kHz
abbrev pub reduced_version_2 : ℕ → ℕ → ℕ → TypedFormat
reduced_version_2 width height rate = Timing (record {
  clock = rate * (height + blank_lines height rate) * (width + 80) / 1000;
  width = width;
  pixels = width + 80;
  lines = height + blank_lines height rate;
  is_interlaced = false;
})

-- CVT with the blanking of a tube, and with reduced blanking of versions 1 and 2
abbrev pub by_version : ℕ → ℕ → ℕ → ℕ → Option TypedFormat
by_version version width height rate =
    if version == 0 then by_formula Coordinated width height rate
    else if version == 1 then by_formula Reduced width height rate
    else if version == 2 then Some (reduced_version_2 width height rate)
    else None
