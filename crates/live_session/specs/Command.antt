-- The lines of a session that are no lines of a script (this profile's own), by the forms of room_lines. Every other line is one of
-- the script.
use Rattle.std.specs.Prelude.{ℕ, List, [], ◌∷◌, codes, if◌then◌else◌, Option, Some, None, Ok, Err}
use Rattle.std.specs.Str.{bytes_eq}
use Rattle.edid_tree.specs.Node.{Node}
use Rattle.edid_tree.specs.Tree.{device_named}
use Rattle.text_core.specs.Words.{words_of, two_of}
use Rattle.text_forms.specs.Forms.{Meaning, Said, late_time_at, level_at, line_of, text_at}
use Rattle.room_lines.specs.Session.{session_rows}
use Rattle.room_lines.specs.declared.session.SessionVerb.{SessionVerb}
use Rattle.room_lines.specs.declared.session.SessionVerb.TheVariants as verbs
use Rattle.room_script.specs.Script.{time_of}
use Rattle.live_session.specs.declared.command.SessionCommand.{SessionCommand}
use Rattle.live_session.specs.declared.command.SessionCommand.TheVariants.{Script, Wait, WaitUntil, RunTo, Show, Edge, Edges, Seats}

-- what the values of a form ask for
abbrev pub command_said : List Node → SessionVerb → List Meaning → SessionCommand
command_said tree verbs.RunTo values = RunTo (late_time_at values 2)
command_said tree verbs.Wait values = Wait
command_said tree verbs.WaitUntil values = WaitUntil (late_time_at values 1)
command_said tree verbs.Show values = Show (device_named tree (text_at values 1))
command_said tree verbs.Edge values = Edge (late_time_at values 1)
command_said tree verbs.Edges values = Edges (level_at values 1)
command_said tree verbs.Seats values = Seats (level_at values 1)

abbrev pub command_by : List Node → Said SessionVerb → SessionCommand
command_by tree (Err fault) = Script
command_by tree (Ok said) = command_said tree said.0 said.1

-- what words say by the table of forms
unfoldable pub session_said : List (List ℕ) → Said SessionVerb
session_said words = line_of session_rows words

abbrev pub command_of : List Node → List ℕ → SessionCommand
command_of tree line = command_by tree (session_said (words_of line))

-- the instant of a line `pin T LEVEL` of the script, also of one that changes nothing
abbrev pub pin_words_time : Option (List ℕ × List ℕ) → Option ℕ
pin_words_time None = None
pin_words_time (Some words) = time_of words.0

abbrev pub pin_verb_time : List (List ℕ) → Option ℕ
pin_verb_time [] = None
pin_verb_time (verb ∷ words) = if bytes_eq verb (codes "pin") then pin_words_time (two_of words) else None

abbrev pub pin_time : List ℕ → Option ℕ
pin_time line = pin_verb_time (words_of line)
