-- Texts of steps (own), by the forms of room_lines. Of a line that has none of them, the word at fault is given: its number from 0;
-- where one is missing, the number that it would have. A name is looked for where the line has a form.
use Rattle.std.specs.Prelude.{◌≡◌, ℕ, ◌+◌, if◌then◌else◌, List, [], ◌∷◌, ◌++◌, Option, Some, None, Result, Ok, Err}
use Rattle.edid_tree.specs.Node.{Node}
use Rattle.edid_tree.specs.Tree.{device_named}
use Rattle.text_core.specs.Lines.{lines_of, is_skipped}
use Rattle.text_core.specs.Words.{words_of}
use Rattle.text_forms.specs.Forms.{Meaning, Said, byte_at, line_of, text_at}
use Rattle.room_lines.specs.Step.{step_rows}
use Rattle.room_lines.specs.declared.step.StepVerb.{StepVerb}
use Rattle.room_lines.specs.declared.step.StepVerb.TheVariants as verbs
use Rattle.room_step_text.specs.declared.break_at.Break.TheVariants.{Opcode, Device, AnyBreak}
use Rattle.room_step_text.specs.declared.commands.StepCommand.{StepCommand}
use Rattle.room_step_text.specs.declared.commands.StepCommand.TheVariants.{Edge, Round, Until, Show}
use Rattle.room_step_text.specs.declared.commands.CommandsError.{CommandsError}
use Rattle.room_step_text.specs.declared.commands.CommandsError.TheVariants.{At, Memory}

-- what words say by the table of forms
unfoldable pub step_said : List (List ℕ) → Said StepVerb
step_said words = line_of step_rows words

-- the device that the word of this number names
abbrev pub device_by : ℕ → Option ℕ → Result ℕ ℕ
device_by word None = Err word
device_by word (Some device) = Ok device

abbrev pub until_by : Result ℕ ℕ → Result StepCommand ℕ
until_by (Ok device) = Ok (Until (Device device))
until_by (Err word) = Err word

abbrev pub show_by : Result ℕ ℕ → Result StepCommand ℕ
show_by (Ok device) = Ok (Show device)
show_by (Err word) = Err word

-- what the values of a form ask for, or the word that names no device
abbrev pub command_said : List Node → StepVerb → List Meaning → Result StepCommand ℕ
command_said tree verbs.Edge values = Ok Edge
command_said tree verbs.Round values = Ok Round
command_said tree verbs.UntilOpcode values = Ok (Until (Opcode (byte_at values 2)))
command_said tree verbs.UntilDevice values = until_by (device_by 2 (device_named tree (text_at values 2)))
command_said tree verbs.UntilBreak values = Ok (Until AnyBreak)
command_said tree verbs.Show values = show_by (device_by 1 (device_named tree (text_at values 1)))

abbrev pub command_by : List Node → Said StepVerb → Result StepCommand ℕ
command_by tree (Err fault) = Err fault.word
command_by tree (Ok said) = command_said tree said.0 said.1

abbrev pub command_of : List Node → List ℕ → Result StepCommand ℕ
command_of tree line = command_by tree (step_said (words_of line))

-- the first line at fault, and its word
pub record LineFault : Type 0 where
  pub line : ℕ
  pub word : ℕ

abbrev pub onward : ℕ → List StepCommand → Result StepCommand ℕ → (List StepCommand → Result (List StepCommand) LineFault) → Result (List StepCommand) LineFault
onward line before (Err word) on = Err (record { line = line; word = word })
onward line before (Ok command) on = on (before ++ command ∷ [])

-- the commands of lines from this number on, after those before, or the first fault
abbrev pub lines_read : List Node → List (List ℕ) → ℕ → List StepCommand → Result (List StepCommand) LineFault
lines_read tree [] number before = Ok before
lines_read tree (line ∷ lines) number before =
    if is_skipped line then lines_read tree lines (number + 1) before
    else onward number before (command_of tree line) (λ next. lines_read tree lines (number + 1) next)

abbrev pub commands_of : List Node → List ℕ → Result (List StepCommand) LineFault
commands_of tree text = lines_read tree (lines_of text) 1 []

-- why there are none: the first line at fault, and its word; of memory nothing is said
abbrev pub IsFault : List Node → List ℕ → CommandsError → Type 0
IsFault tree text (At line word) = commands_of tree text ≡ Err (record { line = line; word = word })
IsFault tree text Memory = Unit {0}
