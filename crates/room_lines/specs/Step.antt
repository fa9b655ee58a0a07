-- The forms of the lines of steps (own): the table is the code's.
use Rattle.std.specs.Prelude.{List, map}
use Rattle.text_forms.specs.Forms.{Place}
use Rattle.room_lines.specs.declared.step.TheConstants.{STEPS}
use Rattle.room_lines.specs.declared.step.StepVerb.{StepVerb}

abbrev pub step_rows : List (StepVerb × List Place)
step_rows = map (λ r. (r.0, map (λ p. (p.0, p.1.now)) r.1.now)) STEPS.now
