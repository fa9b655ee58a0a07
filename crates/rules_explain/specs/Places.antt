-- What stands at fault in a data block.
use Rattle.std.specs.Prelude.{ℕ, ◌*◌, if◌then◌else◌, Option, Some, None}
use Rattle.edid_cta.specs.declared.block.DataBlock.{DataBlock}
use Rattle.rules_values.specs.BlockParts.{has_fast_clock, hdmi_of}

-- the clock of an HDMI block in MHz, a unit of 5 MHz, where a rule asks that it is less (HDMI 1.4, section 8.3.2)
abbrev pub fast_clock : DataBlock → Option ℕ
fast_clock b = if has_fast_clock b then Some (5 * (hdmi_of b).max_clock) else None
