-- Texts of scripts (own): lines of the forms of room_lines, and what they mean for a network. Of the causes that apply to a line it has
-- the first in the order of `ScriptCause`: where a word has a cause of its own that comes before that of the time, the time is read here.
use Rattle.std.specs.Prelude.{◌≡◌, ℕ, ◌+◌, ◌-◌, ◌<◌, ◌≤◌, ◌==◌, ◌&&◌, ◌||◌, Bool, true, false, cond, codes, length, max, min, List, [], ◌∷◌, ◌++◌, nat_lt, nat_le, slice_get, if◌then◌else◌, Option, Some, None, is_some, option_map, Result, Ok, Err, All}
use Rattle.std.specs.Option.{option_map_or}
use Rattle.line_wave.specs.declared.Stretch.{Stretch}
use Rattle.line_wave.specs.declared.PulsesError.{PulsesError}
use Rattle.line_wave.specs.declared.PulsesError.TheVariants as faults
use Rattle.line_wave.specs.Pulses.{first_of, stretch_fault}
use Rattle.line_wave.specs.Pulls.{AreTimely}
use Rattle.line_wave.specs.Bounds.{latest_event, most_pulses, most_pulls, widest_pull}
use Rattle.device_features.specs.declared.keys.Key.{Key as KeyValue}
use Rattle.device_features.specs.declared.key_word.KeyWord.{KeyWord}
use Rattle.device_features.specs.declared.key_word.KeyWord.TheVariants as key_words
use Rattle.text_forms.specs.Forms.{Meaning, Said, late_time_at, level_at, line_of, number_at, port_at, text_at, time_at, words_at}
use Rattle.text_forms.specs.declared.form.LineCause.{LineCause}
use Rattle.text_forms.specs.declared.form.LineCause.TheVariants as causes
use Rattle.room_lines.specs.Script.{script_rows}
use Rattle.room_lines.specs.declared.script.ScriptVerb.{ScriptVerb}
use Rattle.room_lines.specs.declared.script.ScriptVerb.TheVariants as verbs
use Rattle.edid_tree.specs.Node.{Node}
use Rattle.edid_tree.specs.Tree.{device_named}
use Rattle.message_text.specs.Causes.{assemble_cause}
use Rattle.text_core.specs.Lines.{lines_of, is_skipped}
use Rattle.text_core.specs.Words.{words_of}
use Rattle.text_core.specs.Number.{number_of}
use Rattle.text_core.specs.At.{at_line, at_word}
use Rattle.text_core.specs.declared.at.At.{At}
use Rattle.room_script.specs.Keys.{key_said}
use Rattle.room_script.specs.Sending.{handed_in, IsFrameRead}
use Rattle.room_script.specs.Header.{header_names}
use Rattle.room_script.specs.Holding.{hold_of}
use Rattle.device_core.specs.declared.device.Ticket.{Ticket}
use Rattle.device_core.specs.declared.outside.Act.{Act}
use Rattle.device_core.specs.declared.outside.Act.TheVariants.{Empty}
use Rattle.room_event.specs.Events.{NamesDevices, IsFramedEvent}
use Rattle.room_event.specs.declared.event.Event.{Event}
use Rattle.room_event.specs.declared.event.Event.TheVariants.{Plug, Unplug, Key, Send, SendNamed, Outside}
use Rattle.room_event.specs.declared.event.HeaderNames.{HeaderNames}
use Rattle.room_script.specs.declared.script.TimedEvent.{TimedEvent}
use Rattle.room_script.specs.declared.script.ScriptDraft.{ScriptDraft}
use Rattle.room_script.specs.declared.course.Script.{Script}
use Rattle.text_core.specs.declared.at.AtWord.{AtWord}
use Rattle.room_script.specs.declared.script.ScriptCause.{ScriptCause}
use Rattle.room_script.specs.declared.script.ScriptCause.TheVariants.{Word, Number, Name, Frame, Hex, Width, Order, Close, TooMany, End}
use Rattle.room_script.specs.declared.script.ScriptError.{ScriptError}
use Rattle.room_script.specs.declared.script.ScriptError.TheVariants as errors
use Rattle.room_script.specs.declared.script.ScriptLineError.{ScriptLineError}
use Rattle.room_script.specs.declared.script.ScriptLineError.TheVariants.{Fault, Memory}

-- the words by which a refused line is reported
abbrev pub script_cause : ScriptCause → List ℕ
script_cause Word = codes "word"
script_cause Number = codes "number"
script_cause Name = codes "name"
script_cause (Frame cause) = codes "frame " ++ assemble_cause cause
script_cause Hex = codes "hex"
script_cause Width = codes "width"
script_cause Order = codes "order"
script_cause Close = codes "close"
script_cause TooMany = codes "too-many"
script_cause End = codes "end"

-- what a script says, without where it lies in memory; pulses, pulls and the pulls of the pin are one list
pub record Course : Type 0 where
  pub events : List TimedEvent
  pub pulses : List Stretch
  pub end : ℕ

abbrev pub course_of : Script → Course
course_of script = record { events = script.events.items; pulses = script.pulses.items; end = script.end }

-- what the lines so far say, and the instant at which the pin went low and has not gone high, where it is low
pub record Notes : Type 0 where
  pub events : List TimedEvent
  pub pulses : List Stretch
  pub end : Option ℕ
  pub pin : Option ℕ

abbrev pub notes_of : ScriptDraft → Notes
notes_of draft = record { events = draft.events.items; pulses = draft.pulses.items; end = draft.end; pin = draft.pin }

-- nothing yet
abbrev pub no_notes : Notes
no_notes = record { events = []; pulses = []; end = None; pin = None }

-- a time, at most 1,000,000,000,000 microseconds
abbrev pub within_limit : Option ℕ → Option ℕ
within_limit None = None
within_limit (Some time) = if nat_lt latest_event time then None else Some time

abbrev pub time_of : List ℕ → Option ℕ
time_of word = within_limit (number_of word)

-- the time of the last event, 0 where there is none
abbrev pub last_time : List TimedEvent → ℕ
last_time events = option_map_or (λ event. event.at) (slice_get events (length events - 1)) 0

-- ---- events

-- an event of this line: its time is not before the last event's, and no `end` stands above it
abbrev pub notes_with_event : Notes → ℕ → ℕ → Event → Result Notes (AtWord ScriptCause)
notes_with_event notes line time event =
    if nat_lt time (last_time notes.events) then Err (at_word 1 Order)
    else if is_some notes.end then Err (at_word 0 End)
    else Ok (record notes { events = notes.events ++ record { line = line; at = time; event = event } ∷ [] })

-- a plug, of a child and a parent that are there
abbrev pub plug_checked : Notes → ℕ → ℕ → ℕ → Option ℕ → Option ℕ → Result Notes (AtWord ScriptCause)
plug_checked notes line time port None parent = Err (at_word 3 Name)
plug_checked notes line time port (Some child) None = Err (at_word 4 Name)
plug_checked notes line time port (Some child) (Some parent) = notes_with_event notes line time (Plug child parent port)

abbrev pub unplug_checked : Notes → ℕ → ℕ → Option ℕ → Result Notes (AtWord ScriptCause)
unplug_checked notes line time None = Err (at_word 3 Name)
unplug_checked notes line time (Some child) = notes_with_event notes line time (Unplug child)

-- a key that goes down or comes up
abbrev pub key_read : Notes → ℕ → Bool → Result KeyValue (AtWord ScriptCause) → Option ℕ → Option ℕ → Result Notes (AtWord ScriptCause)
key_read notes line press (Err fault) time device = Err fault
key_read notes line press (Ok key) None device = Err (at_word 1 Number)
key_read notes line press (Ok key) (Some time) None = Err (at_word 3 Name)
key_read notes line press (Ok key) (Some time) (Some device) = notes_with_event notes line time (Key device key press)

-- what a device from outside does
abbrev pub act_read : Notes → ℕ → Option Act → Option ℕ → Option ℕ → Result Notes (AtWord ScriptCause)
act_read notes line None time device = Err (at_word 4 Word)
act_read notes line (Some act) None device = Err (at_word 1 Number)
act_read notes line (Some act) (Some time) None = Err (at_word 3 Name)
act_read notes line (Some act) (Some time) (Some device) = notes_with_event notes line time (Outside device act)

-- a frame that is handed in, with its line and how many attempts it has, and the names in its header, where there are some
abbrev pub frame_event : ℕ → Ticket → Option HeaderNames → List ℕ → Event
frame_event device ticket None frame = Send device frame ticket
frame_event device ticket (Some names) frame = SendNamed device names frame ticket

-- what is handed in: the first word of the frame has this number
abbrev pub send_read : Notes → ℕ → ℕ → Option ℕ → Option (Option ℕ) → Option ℕ → Option (Option HeaderNames) → Result (List ℕ) (AtWord ScriptCause) → Result Notes (AtWord ScriptCause)
send_read notes line at None attempts device names frame = Err (at_word 1 Number)
send_read notes line at (Some time) None device names frame = Err (at_word 5 Number)
send_read notes line at (Some time) (Some attempts) None names frame = Err (at_word 3 Name)
send_read notes line at (Some time) (Some attempts) (Some device) None frame = Err (at_word at Name)
send_read notes line at (Some time) (Some attempts) (Some device) (Some names) (Err fault) = Err fault
send_read notes line at (Some time) (Some attempts) (Some device) (Some names) (Ok frame) = notes_with_event notes line time (frame_event device (record { line = line; attempts = attempts }) names frame)

-- what is handed in after the name; where a frame's text has names in its header, they stand in its first word
abbrev pub IsHandedRead : List Node → Notes → ℕ → Option ℕ → List ℕ → ℕ → Option (Option ℕ) → List (List ℕ) → Result Notes (AtWord ScriptCause) → Type 0
IsHandedRead tree notes line time name at attempts [] read = read ≡ Err (at_word at Word)
IsHandedRead tree notes line time name at attempts (word ∷ words) read =
    (frame : Result (List ℕ) (AtWord ScriptCause))
    × IsFrameRead at (word ∷ words) frame
    × (read ≡ send_read notes line at time attempts (device_named tree name) (header_names tree word) frame)

-- ---- pulses, pulls, the pin and the end

abbrev pub pulse_fault : PulsesError → AtWord ScriptCause
pulse_fault faults.Width = at_word 2 Width
pulse_fault faults.Close = at_word 1 Close
pulse_fault faults.Order = at_word 1 Order
pulse_fault faults.TooMany = at_word 0 TooMany

-- the end of the last pulse or pull
abbrev pub last_end : List Stretch → Option ℕ
last_end pulses = option_map (λ pulse. pulse.to) (slice_get pulses (length pulses - 1))

-- a pulse after the others: narrow and far enough from the last, one of at most 4,096 with the pulses and pulls that wait,
-- and no `end` stands above it
abbrev pub unless_fault : Option PulsesError → Notes → ℕ → Stretch → Result Notes (AtWord ScriptCause)
unless_fault (Some fault) notes waiting pulse = Err (pulse_fault fault)
unless_fault None notes waiting pulse =
    if nat_le most_pulses waiting then Err (at_word 0 TooMany)
    else if is_some notes.end then Err (at_word 0 End)
    else Ok (record notes { pulses = notes.pulses ++ pulse ∷ [] })

-- what is wrong with a pulse, if there is something: while the pin is low none may begin
abbrev pub pulse_refusal : Option ℕ → Option ℕ → Stretch → Option PulsesError
pulse_refusal None before pulse = stretch_fault before pulse
pulse_refusal (Some from) before pulse = first_of (stretch_fault None pulse) (Some faults.Order)

abbrev pub notes_with_pulse : Notes → ℕ → Stretch → Result Notes (AtWord ScriptCause)
notes_with_pulse notes waiting pulse = unless_fault (pulse_refusal notes.pin (last_end notes.pulses) pulse) notes waiting pulse

-- a width above 65,535 counts as 65,535
abbrev pub pulse_of : ℕ → ℕ → Stretch
pulse_of time width = record { from = time; to = time + min width 65535 }

-- whether a pull from an instant on would overlap or touch one that ends so
abbrev pub touches : Option ℕ → ℕ → Bool
touches None time = false
touches (Some end) time = nat_le time end

-- a pull after the others: 1 to 10,000,000 wide, while the pin is high, neither over nor touching the last, one of at most 16,384 with
-- the pulses and pulls that wait, and no `end` stands above it
abbrev pub notes_with_pull : Notes → ℕ → ℕ → ℕ → Result Notes (AtWord ScriptCause)
notes_with_pull notes waiting time width =
    if width == 0 || nat_lt widest_pull width then Err (at_word 2 Width)
    else if is_some notes.pin || touches (last_end notes.pulses) time then Err (at_word 1 Order)
    else if nat_le most_pulls waiting then Err (at_word 0 TooMany)
    else if is_some notes.end then Err (at_word 0 End)
    else Ok (record notes { pulses = notes.pulses ++ record { from = time; to = time + width } ∷ [] })

-- the pin goes low: its pull neither overlaps nor touches the last pulse or pull, is one of at most 16,384 with those that wait, and
-- no `end` stands above it
abbrev pub pin_falls : Notes → ℕ → ℕ → Result Notes (AtWord ScriptCause)
pin_falls notes waiting time =
    if touches (last_end notes.pulses) time then Err (at_word 1 Order)
    else if nat_le most_pulls waiting then Err (at_word 0 TooMany)
    else if is_some notes.end then Err (at_word 0 End)
    else Ok (record notes { pin = Some time })

-- whether an instant lies before the end of the last pulse or pull
abbrev pub is_before : Option ℕ → ℕ → Bool
is_before None time = false
is_before (Some end) time = nat_lt time end

-- the pin is high already: nothing changes
abbrev pub pin_stays_high : Notes → ℕ → Result Notes (AtWord ScriptCause)
pin_stays_high notes time =
    if is_before (last_end notes.pulses) time then Err (at_word 1 Order)
    else if is_some notes.end then Err (at_word 0 End)
    else Ok notes

-- the pin is low from an instant on: its pull is from there on until it goes high, however long that takes
abbrev pub pin_rises : Notes → ℕ → ℕ → Result Notes (AtWord ScriptCause)
pin_rises notes from time =
    if nat_le time from then Err (at_word 1 Order)
    else Ok (record notes { pulses = notes.pulses ++ record { from = from; to = time } ∷ []; pin = None })

-- it is low already: nothing changes
abbrev pub pin_stays_low : Notes → ℕ → ℕ → Result Notes (AtWord ScriptCause)
pin_stays_low notes from time = if nat_lt time from then Err (at_word 1 Order) else Ok notes

abbrev pub notes_with_level : Notes → ℕ → ℕ → Option ℕ → Bool → Result Notes (AtWord ScriptCause)
notes_with_level notes waiting time None false = pin_falls notes waiting time
notes_with_level notes waiting time None true = pin_stays_high notes time
notes_with_level notes waiting time (Some from) false = pin_stays_low notes from time
notes_with_level notes waiting time (Some from) true = pin_rises notes from time

-- the end lets the pin go, a microsecond after it went low at the earliest; it went low at a time of a script
abbrev pub pulses_ended : Option ℕ → List Stretch → ℕ → List Stretch
pulses_ended None pulses time = pulses
pulses_ended (Some from) pulses time = pulses ++ record { from = from; to = max time (min from latest_event + 1) } ∷ []

-- one end alone, after every event
abbrev pub end_checked : Notes → ℕ → Result Notes (AtWord ScriptCause)
end_checked notes time =
    if is_some notes.end then Err (at_word 0 End)
    else if nat_lt 0 (length notes.events) && nat_le time (last_time notes.events) then Err (at_word 1 End)
    else Ok (record notes { pulses = pulses_ended notes.pin notes.pulses time; end = Some time; pin = None })

-- ---- lines

-- the time of a key's line
abbrev pub key_time : KeyWord → List Meaning → Option ℕ
key_time key_words.Watch values = late_time_at values 1
key_time key_words.Language values = late_time_at values 1
key_time key_words.Remote values = late_time_at values 1
key_time _ values = Some (time_at values 1)

-- a frame that is handed in, with what may stand before it
abbrev pub IsSendSaid : List Node → Notes → ℕ → List Meaning → Result Notes (AtWord ScriptCause) → Type 0
IsSendSaid tree notes line values read =
    IsHandedRead tree notes line (late_time_at values 1) (text_at values 3) (handed_in (words_at values 4)).at (handed_in (words_at values 4)).attempts (handed_in (words_at values 4)).words read

-- what the values of a form make of the notes
abbrev pub IsSaid : List Node → Notes → ℕ → ℕ → ScriptVerb → List Meaning → Result Notes (AtWord ScriptCause) → Type 0
IsSaid tree notes waiting line (verbs.Press word) values read = read ≡ key_read notes line true (key_said word values) (key_time word values) (device_named tree (text_at values 3))
IsSaid tree notes waiting line (verbs.Release word) values read = read ≡ key_read notes line false (key_said word values) (key_time word values) (device_named tree (text_at values 3))
IsSaid tree notes waiting line verbs.Plug values read =
    read ≡ plug_checked notes line (time_at values 1) (port_at values 5) (device_named tree (text_at values 3)) (device_named tree (text_at values 4))
IsSaid tree notes waiting line verbs.Unplug values read = read ≡ unplug_checked notes line (time_at values 1) (device_named tree (text_at values 3))
IsSaid tree notes waiting line verbs.Send values read = IsSendSaid tree notes line values read
IsSaid tree notes waiting line verbs.Hold values read = read ≡ act_read notes line (hold_of (text_at values 4)) (late_time_at values 1) (device_named tree (text_at values 3))
IsSaid tree notes waiting line verbs.Drop values read = read ≡ act_read notes line (Some Empty) (Some (time_at values 1)) (device_named tree (text_at values 3))
IsSaid tree notes waiting line verbs.Pulse values read = read ≡ notes_with_pulse notes waiting (pulse_of (time_at values 1) (number_at values 2))
IsSaid tree notes waiting line verbs.Pull values read = read ≡ notes_with_pull notes waiting (time_at values 1) (number_at values 2)
IsSaid tree notes waiting line verbs.Pin values read = read ≡ notes_with_level notes waiting (time_at values 1) notes.pin (level_at values 2)
IsSaid tree notes waiting line verbs.End values read = read ≡ end_checked notes (time_at values 1)

abbrev pub cause_as : LineCause → ScriptCause
cause_as causes.Word = Word
cause_as causes.Number = Number

abbrev pub fault_as : AtWord LineCause → AtWord ScriptCause
fault_as fault = at_word fault.word (cause_as fault.cause)

abbrev pub IsSaidRead : List Node → Notes → ℕ → ℕ → Said ScriptVerb → Result Notes (AtWord ScriptCause) → Type 0
IsSaidRead tree notes waiting line (Err fault) read = read ≡ Err (fault_as fault)
IsSaidRead tree notes waiting line (Ok said) read = IsSaid tree notes waiting line said.0 said.1 read

-- what words say by the table of forms
unfoldable pub line_said : List (List ℕ) → Said ScriptVerb
line_said words = line_of script_rows words

-- what a line makes of the notes, where so many of their pulses and pulls wait to be taken into a round
abbrev pub IsLineRead : List Node → Notes → ℕ → ℕ → List ℕ → Result Notes (AtWord ScriptCause) → Type 0
IsLineRead tree notes waiting line text read =
    cond {A = Type 0} (is_skipped text) (read ≡ Ok notes) (IsSaidRead tree notes waiting line (line_said (words_of text)) read)

-- after the last line an `end` stands above
abbrev pub course_at_end : Notes → ℕ → Option ℕ → Result Course (At ScriptCause)
course_at_end notes line None = Err (at_line line (at_word 0 End))
course_at_end notes line (Some time) = Ok (record { events = notes.events; pulses = notes.pulses; end = time })

abbrev pub Onward : ℕ → Result Notes (AtWord ScriptCause) → (Notes → Type 0) → Result Course (At ScriptCause) → Type 0
Onward line (Ok notes) rest read = rest notes
Onward line (Err fault) rest read = read ≡ Err (at_line line fault)

-- what the lines from this number on make of the notes: a script, or the first fault. All pulses and pulls of a script wait for its run.
abbrev pub AreLinesRead : List Node → List (List ℕ) → ℕ → Notes → Result Course (At ScriptCause) → Type 0
AreLinesRead tree [] line notes read = read ≡ course_at_end notes line notes.end
AreLinesRead tree (text ∷ texts) line notes read =
    (now : Result Notes (AtWord ScriptCause))
    × IsLineRead tree notes (length notes.pulses) line text now
    × Onward line now (λ next. AreLinesRead tree texts (line + 1) next read) read

-- the script of a text for the devices of a tree, or its first fault
abbrev pub IsScriptRead : List Node → List ℕ → Result Course (At ScriptCause) → Type 0
IsScriptRead tree text read = AreLinesRead tree (lines_of text) 1 no_notes read

-- ---- what the program gives

-- what a part of a line made of the draft is what its words say, unless memory ran out
abbrev pub GivesNotes : Notes → Result Unit ScriptLineError → Result Notes (AtWord ScriptCause) → Type 0
GivesNotes notes (Ok done) read = read ≡ Ok notes
GivesNotes notes (Err Memory) read = Unit {0}
GivesNotes notes (Err (Fault fault)) read = read ≡ Err fault

-- the same of what is read by a relation
abbrev pub Gives : Notes → Result Unit ScriptLineError → (Result Notes (AtWord ScriptCause) → Type 0) → Type 0
Gives notes (Ok done) IsRead = IsRead (Ok notes)
Gives notes (Err Memory) IsRead = Unit {0}
Gives notes (Err (Fault fault)) IsRead = IsRead (Err fault)

-- what is answered is this script or this fault
abbrev pub GivesCourse : Result Script ScriptError → Result Course (At ScriptCause) → Type 0
GivesCourse (Ok script) read = read ≡ Ok (course_of script)
GivesCourse (Err errors.Memory) read = ⊥
GivesCourse (Err (errors.At fault)) read = read ≡ Err fault

-- what is answered is what the text says, unless memory ran out
abbrev pub GivesScript : List Node → List ℕ → Result Script ScriptError → Type 0
GivesScript tree text (Ok script) = IsScriptRead tree text (Ok (course_of script))
GivesScript tree text (Err errors.Memory) = Unit {0}
GivesScript tree text (Err (errors.At fault)) = IsScriptRead tree text (Err fault)

abbrev pub error_at : ℕ → ScriptLineError → ScriptError
error_at line Memory = errors.Memory
error_at line (Fault fault) = errors.At (at_line line fault)

-- ---- what holds of every script

-- times that do not go back from here and lie before an end, and devices among so many
abbrev pub IsSchedule : ℕ → ℕ → ℕ → List TimedEvent → Type 0
IsSchedule count end from [] = Unit {0}
IsSchedule count end from (event ∷ events) = (from ≤ event.at) × (event.at < end) × NamesDevices count event.event × IsSchedule count end event.at events

-- no frame that is handed in is empty
abbrev pub AreFramedEvents : List TimedEvent → Type 0
AreFramedEvents [] = Unit {0}
AreFramedEvents (event ∷ events) = IsFramedEvent event.event × AreFramedEvents events

-- a pull has a greatest width, but for the pin's: that ends by the latest time of a script
abbrev pub IsNoWider : Stretch → Type 0
IsNoWider pull = pull.to ≤ max latest_event (pull.from + widest_pull)

-- an instant from which on the pin may be low, after these pulses and pulls
abbrev pub MayFall : List Stretch → ℕ → Type 0
MayFall pulses from = (touches (last_end pulses) from ≡ false) × (from ≤ latest_event)

-- a script for so many devices: its pulses and pulls are in order, and no two of them overlap or touch
pub record IsScript (count : ℕ) (course : Course) : Type 0 where
  pub schedule : IsSchedule count course.end 0 course.events
  pub framed : AreFramedEvents course.events
  pub timely : AreTimely course.pulses
  pub wide : All IsNoWider course.pulses
  pub early : All (λ pulse. pulse.from ≤ latest_event) course.pulses
  pub limit : course.end ≤ latest_event

-- every text of a script gives one
abbrev pub ScriptsAreSound : Type 0
ScriptsAreSound = (tree : List Node) (text : List ℕ) (course : Course) → IsScriptRead tree text (Ok course) → IsScript (length tree) course

-- a text that is read as a script is read in no other way
abbrev pub OneScript : Type 0
OneScript = (tree : List Node) (text : List ℕ) (course : Course) (read : Result Course (At ScriptCause))
    → IsScriptRead tree text (Ok course) → IsScriptRead tree text read → read ≡ Ok course
