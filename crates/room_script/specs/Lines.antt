-- What holds of the notes of a script line by line.
use Rattle.std.specs.Prelude.{◌≡◌, ℕ, ◌+◌, ◌≤◌, Bool, true, codes, List, [], ◌∷◌, ◌++◌, get_or, length, map, max, Option, Some, None, Result, Ok, IfOk, All}
use Rattle.line_wave.specs.declared.Stretch.{Stretch}
use Rattle.line_wave.specs.Line.{IsWave}
use Rattle.line_wave.specs.Pulls.{are_timely}
use Rattle.line_wave.specs.Bounds.{latest_event, most_pulls, most_pulses}
use Rattle.std.specs.Str.{bytes_eq}
use Rattle.text_core.specs.Number.{number_of}
use Rattle.text_forms.specs.Forms.{Meaning, Place, is_whole, late_time_at, read_by, time_at}
use Rattle.room_lines.specs.Script.{script_rows}
use Rattle.room_lines.specs.declared.script.ScriptVerb.{ScriptVerb}
use Rattle.room_lines.specs.declared.script.ScriptVerb.TheVariants as verbs
use Rattle.device_features.specs.KeyWords.{key_text, word_of_key}
use Rattle.device_features.specs.declared.key_word.KeyWord.{KeyWord}
use Rattle.device_features.specs.declared.keys.Key.{Key}
use Rattle.room_script.specs.Keys.{key_said}
use Rattle.edid_tree.specs.Node.{Node}
use Rattle.room_script.specs.declared.script.TimedEvent.{TimedEvent}
use Rattle.text_core.specs.declared.at.At.{At}
use Rattle.room_script.specs.declared.script.ScriptCause.{ScriptCause}
use Rattle.room_script.specs.declared.course.Script.{Script}
use Rattle.room_script.specs.declared.script.ScriptError.{ScriptError}
use Rattle.room_script.specs.Script.{Course, Notes, course_at_end, course_of, last_time, no_notes, AreFramedEvents, AreLinesRead, GivesCourse, GivesScript, IsLineRead, IsNoWider, IsSchedule, IsScript, IsScriptRead, MayFall, key_time, line_said}

-- ---- what the lines so far keep

-- a pull that begins within the limit of times
abbrev pub IsEarly : Stretch → Type 0
IsEarly pulse = pulse.from ≤ latest_event

-- notes that may become a script for so many devices: events in order, and pulses and pulls in order, which the pull of a pin
-- that is low may follow
pub record AreSound (count : ℕ) (notes : Notes) : Type 0 where
  pub schedule : IsSchedule count (last_time notes.events + 1) 0 notes.events
  pub framed : AreFramedEvents notes.events
  pub order : IsWave notes.pulses
  pub wide : All IsNoWider notes.pulses
  pub early : All IsEarly notes.pulses
  pub ended : (time : ℕ) → notes.end ≡ Some time → IsSchedule count time 0 notes.events × (time ≤ latest_event)
  pub held : (from : ℕ) → notes.pin ≡ Some from → MayFall notes.pulses from
  pub let_go : (time : ℕ) → notes.end ≡ Some time → notes.pin ≡ None

-- before the first line they are sound,
abbrev pub NoneAreSound : Type 0
NoneAreSound = (count : ℕ) → AreSound count no_notes

-- each line that is taken keeps them so,
abbrev pub LinesKeepSound : Type 0
LinesKeepSound = (tree : List Node) (notes : Notes) (waiting line : ℕ) (text : List ℕ) (next : Notes) → AreSound (length tree) notes
    → IsLineRead tree notes waiting line text (Ok next) → AreSound (length tree) next

-- and what they pull low passes the test of pulls, where it is few
abbrev pub SoundAreTimely : Type 0
SoundAreTimely = (pulses : List Stretch) → length pulses ≤ most_pulls → IsWave pulses → All IsNoWider pulses → All IsEarly pulses → are_timely pulses ≡ true

-- ---- what a line adds

-- how many pulls are still to come of a pin
abbrev pub pulls_held : Option ℕ → ℕ
pulls_held None = 0
pulls_held (Some from) = 1

-- one event and one pulse or pull more at most,
pub record Extends (old new : Notes) : Type 0 where
  pub events : List TimedEvent
  pub pulses : List Stretch
  pub events_are : new.events ≡ old.events ++ events
  pub pulses_are : new.pulses ≡ old.pulses ++ pulses
  pub few_events : length events ≤ 1
  pub few_pulses : length pulses ≤ 1

-- and that where there is room
pub record IsMore (waiting : ℕ) (old new : Notes) : Type 0 where
  pub added : Extends old new
  pub room : waiting + length added.pulses + pulls_held new.pin ≤ max (waiting + pulls_held old.pin) most_pulls

-- what a script pulls low is few, with the pull of a pin that is low
abbrev pub AreFew : Notes → Type 0
AreFew notes = length notes.pulses + pulls_held notes.pin ≤ most_pulls

abbrev pub LinesAdd : Type 0
LinesAdd = (waiting : ℕ) (tree : List Node) (notes : Notes) (line : ℕ) (text : List ℕ) (next : Notes) → IsLineRead tree notes waiting line text (Ok next) → IsMore waiting notes next

abbrev pub LinesKeepFew : Type 0
LinesKeepFew = (tree : List Node) (notes : Notes) (line : ℕ) (text : List ℕ) (next : Notes) → IsLineRead tree notes (length notes.pulses) line text (Ok next) → AreFew notes → AreFew next

-- A line that is taken while few of the pulses wait is one of a script too, where its pulses and pulls are few in all.
abbrev pub LinesAreOfScripts : Type 0
LinesAreOfScripts = (tree : List Node) (notes next : Notes) (waiting line : ℕ) (text : List ℕ) → length next.pulses ≤ most_pulses → IsLineRead tree notes waiting line text (Ok next)
    → IsLineRead tree notes (length notes.pulses) line text (Ok next)

-- ---- lines, one after another

-- the first of some lines, and those after it
abbrev pub LinesFollow : Type 0
LinesFollow = (tree : List Node) (texts after : List (List ℕ)) (text : List ℕ) (line : ℕ) (notes next : Notes) (read : Result Course (At ScriptCause)) → texts ≡ text ∷ after
    → IsLineRead tree notes (length notes.pulses) line text (Ok next) → AreLinesRead tree after (line + 1) next read → AreLinesRead tree texts line notes read

-- after the last line: a script, where an end stands above
abbrev pub LinesEnd : Type 0
LinesEnd = (tree : List Node) (texts : List (List ℕ)) (line : ℕ) (notes : Notes) → texts ≡ [] → AreLinesRead tree texts line notes (course_at_end notes line notes.end)

-- what is answered of what a text says is answered of the text
abbrev pub AnswersAreGiven : Type 0
AnswersAreGiven = (tree : List Node) (text : List ℕ) (read : Result Course (At ScriptCause)) (answer : Result Script ScriptError) → IsScriptRead tree text read → GivesCourse answer read
    → GivesScript tree text answer × IfOk answer (λ script. IsScript (length tree) (course_of script))

-- ---- keys

-- the key that the values of a form say is one of its word
abbrev pub KeysHaveTheirWords : Type 0
KeysHaveTheirWords = (word : KeyWord) (values : List Meaning) (key : Key) → key_said word values ≡ Ok key → word_of_key key ≡ word

-- that word stands in the form, after the name
abbrev pub names_word : ScriptVerb → List ℕ → Bool
names_word (verbs.Press word) text = bytes_eq (key_text word) text
names_word (verbs.Release word) text = bytes_eq (key_text word) text
names_word _ text = true

abbrev pub names_key : ScriptVerb × List Place → Bool
names_key row = names_word row.0 (get_or (map (λ p. p.1) row.1) 4 [])

-- ---- forms

-- a row of the table, all of whose words a line has, and by which it is read
pub record IsOfRow (words : List (List ℕ)) (verb : ScriptVerb) (values : List Meaning) : Type 0 where
  pub before : List (ScriptVerb × List Place)
  pub form : List Place
  pub after : List (ScriptVerb × List Place)
  pub row_is : script_rows ≡ before ++ (verb, form) ∷ after
  pub whole : is_whole form words ≡ true
  pub read : read_by verb form words ≡ Ok (verb, values)

-- a line that is read is one of a row
abbrev pub LinesAreOfRows : Type 0
LinesAreOfRows = (words : List (List ℕ)) (verb : ScriptVerb) (values : List Meaning) → line_said words ≡ Ok (verb, values) → IsOfRow words verb values

-- the first word of a row, and the time that its values say
abbrev pub first_of : ScriptVerb → List ℕ
first_of verbs.Pulse = codes "pulse"
first_of verbs.Pull = codes "pull"
first_of verbs.Pin = codes "pin"
first_of verbs.End = codes "end"
first_of _ = codes "at"

abbrev pub time_said : ScriptVerb → List Meaning → Option ℕ
time_said (verbs.Press word) values = key_time word values
time_said (verbs.Release word) values = key_time word values
time_said verbs.Send values = late_time_at values 1
time_said verbs.Hold values = late_time_at values 1
time_said _ values = Some (time_at values 1)

-- a line that is read begins with the row's word, and then with that time
abbrev pub LinesBeginSo : Type 0
LinesBeginSo = (words : List (List ℕ)) (verb : ScriptVerb) (values : List Meaning) (time : ℕ) → line_said words ≡ Ok (verb, values) → time_said verb values ≡ Some time
    → (word : List ℕ) × (others : List (List ℕ)) × (words ≡ first_of verb ∷ word ∷ others) × (number_of word ≡ Some time)
