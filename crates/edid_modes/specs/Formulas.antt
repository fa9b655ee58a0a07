-- The timing that a formula of VESA gives a mode, or the number of the mode at fault.
use Rattle.std.specs.Prelude.{Option, Some, None, Result, Ok, Err}
use Rattle.edid_modes.specs.Coordinated.{coordinated}
use Rattle.edid_modes.specs.Generalized.{generalized}
use Rattle.edid_modes.specs.Modes.{mode_fault}
use Rattle.edid_modes.specs.Reduced.{reduced}
use Rattle.edid_modes.specs.declared.formula.Formula.{Formula}
use Rattle.edid_modes.specs.declared.formula.Formula.TheVariants.{Coordinated, Generalized, Reduced}
use Rattle.edid_modes.specs.declared.mode.Mode.{Mode}
use Rattle.edid_modes.specs.declared.mode.ModeFault.{ModeFault}
use Rattle.edid_modes.specs.declared.mode.ModeFault.TheVariants.{Rate}
use Rattle.edid_modes.specs.declared.timing.ModeTiming.{ModeTiming}

abbrev pub formula_of : Formula → Mode → Option ModeTiming
formula_of Coordinated m = coordinated m
formula_of Reduced m = reduced m
formula_of Generalized m = generalized m

-- where a detailed timing has no room, the rate is at fault
abbrev pub with_room : Option ModeTiming → Result ModeTiming ModeFault
with_room None = Err Rate
with_room (Some t) = Ok t

abbrev pub timing_where : Formula → Mode → Option ModeFault → Result ModeTiming ModeFault
timing_where formula m (Some fault) = Err fault
timing_where formula m None = with_room (formula_of formula m)

abbrev pub timing_by : Formula → Mode → Result ModeTiming ModeFault
timing_by formula m = timing_where formula m (mode_fault m)
