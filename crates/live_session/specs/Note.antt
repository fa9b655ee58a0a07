-- What becomes of a line of the script (this profile's own).
use Rattle.std.specs.Prelude.{◌≡◌, ℕ, Option, Some, None, Result}
use Rattle.room_script.specs.Script.{Notes}
use Rattle.text_core.specs.declared.at.AtWord.{AtWord}
use Rattle.room_script.specs.declared.script.ScriptCause.{ScriptCause}
use Rattle.room_script.specs.declared.script.ScriptLineError.{ScriptLineError}
use Rattle.room_script.specs.declared.script.ScriptLineError.TheVariants.{Fault, Memory}
use Rattle.live_session.specs.declared.answer.RefusalCause.TheVariants.{Script}
use Rattle.live_session.specs.declared.live.Step.{Step}
use Rattle.live_session.specs.Session.{Standing, refuse, step_noted, standing_with}

-- the step that it asks for, by the instant that it gives the pin, and what it changes
pub record IsSettled (s : Standing) (given : Option ℕ) (read : Result Notes (AtWord ScriptCause)) (step : Step) (t : Standing) : Type 0 where
  pub asks : step ≡ step_noted s given read
  pub stands : t ≡ standing_with s given read

-- a line that is not taken is refused, or memory ran out
abbrev pub refused_by : ScriptLineError → Option Step
refused_by (Fault fault) = Some (refuse fault.word (Script fault.cause))
refused_by Memory = None
