-- What a stepper knows of the end of its run (own).
use Rattle.std.specs.Prelude.{ℕ, Bool, true, false, Result, Ok, Err}
use Rattle.room_steps.specs.declared.stepper.StepError.{StepError}
use Rattle.room_steps.specs.declared.stepper.StepError.TheVariants.{Ended, Write}
use Rattle.room_steps.specs.Steps.{Steps, IsNoEdge}

-- where it is known to be over, no edge is left
abbrev pub OverIf : Bool → Steps → Type 0
OverIf false s = Unit {0}
OverIf true s = IsNoEdge s

-- there was no such step
abbrev pub is_ended : Result ℕ StepError → Bool
is_ended (Ok reported) = false
is_ended (Err Ended) = true
is_ended (Err (Write reported)) = false
