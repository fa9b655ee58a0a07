-- What holds of every script: the order of times, the limit, devices of the tree, frames and pulses.
use Rattle.std.proofs.Common.{◌≡◌, ◌↔◌, ℕ, suc, ◌+◌, ◌-◌, ◌<◌, ◌≤◌, ◌==◌, ◌&&◌, ◌||◌, Bool, true, false, cond, codes, List, [], ◌∷◌, ◌++◌, length, max, min, nat_lt, nat_le, if◌then◌else◌, drop, get_or, slice_get, Option, Some, None, IfSome, is_some, option_map, Result, Ok, Err, refl, sym, ap, subst, ◌∙◌, arith}
use Rattle.std.specs.Str.{bytes_eq}
use Rattle.std.specs.Option.{option_map_or}
use Rattle.std.specs.List.{All}
use Rattle.std.proofs.lemmas.Grind.{common_steps}
use Rattle.std.proofs.lemmas.List.Elements.{All-append, All-nil, All-from_recursion}
use Rattle.std.proofs.lemmas.Bool.Decides.{nat_tests}
use Rattle.line_wave.specs.declared.Stretch.{Stretch}
use Rattle.line_wave.specs.declared.PulsesError.TheVariants as faults
use Rattle.line_wave.specs.Pulses.{stretch_fault, gap_fault}
use Rattle.line_wave.specs.Line.{IsWave, IsWaveFrom}
use Rattle.line_wave.specs.Pulls.{AreTimely}
use Rattle.line_wave.proofs.Kept.{timely_tested}
use Rattle.text_forms.specs.Forms.{Meaning, Said as SaidBy, late_time_at, level_at, number_at, port_at, text_at, time_at, time_of_meaning, words_at}
use Rattle.text_forms.specs.Forms.Meaning.{Itself, Number as NumberOf, PortOf, PortsOf, Level, KindOf, Text, Words}
use Rattle.room_lines.specs.declared.script.ScriptVerb.{ScriptVerb}
use Rattle.room_lines.specs.declared.script.ScriptVerb.TheVariants as verbs
use Rattle.edid_tree.specs.Node.{Node}
use Rattle.edid_tree.specs.Tree.{device_named}
use Rattle.device_features.specs.declared.keys.Key.{Key as KeyValue}
use Rattle.line_wave.specs.Bounds.{latest_event, most_pulses, most_pulls, widest_pull}
use Rattle.text_core.specs.Lines.{lines_of, is_skipped}
use Rattle.message_text.specs.FrameReading.{is_frame}
use Rattle.message_text.specs.declared.assembler.AssembleError.{AssembleError}
use Rattle.text_core.specs.Words.{text_of, words_of}
use Rattle.message_hex.specs.Bytes.{after_arrow, frame_in, whole_frame}
use Rattle.message_hex.specs.Spelling.{Spells}
use Rattle.message_hex.proofs.Spelled.{spellings_are_read}
use Rattle.message_hex.specs.declared.bytes.DisCause.{DisCause}
use Rattle.message_hex.specs.declared.bytes.DisCause.TheVariants.{Length}
use Rattle.room_script.specs.Sending.{frame_read, handed_in, hex_read, IsFrameOf, IsFrameRead, IsTextRead}
use Rattle.room_script.specs.Keys.{key_said}
use Rattle.room_script.specs.Header.{is_named, initiator_part, destination_part, has_names, device_of, names_by, header_names, digits_text}
use Rattle.room_script.specs.Holding.{hold_of}
use Rattle.device_core.specs.declared.device.Ticket.{Ticket}
use Rattle.device_core.specs.declared.outside.Act.{Act}
use Rattle.device_core.specs.declared.outside.Act.TheVariants.{Empty}
use Rattle.room_event.specs.Events.{AreNamed, NamesDevices, IsFramedEvent}
use Rattle.room_event.specs.declared.event.Event.{Event}
use Rattle.room_event.specs.declared.event.Event.TheVariants.{Plug, Unplug, Key, Send, SendNamed, Outside}
use Rattle.room_event.specs.declared.event.HeaderNames.{HeaderNames}
use Rattle.room_script.specs.declared.script.TimedEvent.{TimedEvent}
use Rattle.room_script.specs.Lines.{AnswersAreGiven, AreFew, AreSound, IsEarly, LinesKeepSound, NoneAreSound, SoundAreTimely}
use Rattle.room_script.proofs.Adding.{few_pulses, none_while_low}
use Rattle.text_core.specs.declared.at.AtWord.{AtWord}
use Rattle.room_script.specs.declared.script.ScriptCause.{ScriptCause}
use Rattle.room_script.specs.declared.script.ScriptError.TheVariants as errors
use Rattle.room_script.specs.Script.{IsSaid, IsSaidRead, key_time, line_said, plug_checked, Course, Notes, last_time, last_end, notes_with_event, unplug_checked, key_read, act_read, send_read, frame_event, unless_fault, pulse_refusal, notes_with_pulse, touches, notes_with_pull, is_before, pin_falls, pin_rises, pin_stays_high, pin_stays_low, notes_with_level, pulses_ended, end_checked, course_at_end, course_of, no_notes, IsHandedRead, IsLineRead, IsSchedule, AreFramedEvents, IsNoWider, MayFall, IsScript, Onward, AreLinesRead, IsScriptRead, ScriptsAreSound}

-- ---- times

-- the time of the last event, from where there is none
last_from : ℕ → List TimedEvent → ℕ
last_from from [] = from
last_from from (event ∷ events) = last_from event.at events

at_place : List TimedEvent → ℕ → ℕ
at_place events place = option_map_or (λ event. event.at) (slice_get events place) 0

last_time-cons : (event next : TimedEvent) (events : List TimedEvent) → last_time (event ∷ next ∷ events) ≡ last_time (next ∷ events)
unfolding at_place
last_time-cons event next events =
    let long : length (event ∷ next ∷ events) - 1 ≡ suc (length events) = omega arith in
    let short : length (next ∷ events) - 1 ≡ length events = omega arith in
    ap (at_place (event ∷ next ∷ events)) long ∙ sym (ap (at_place (next ∷ events)) short)

last_time-last_from : (events : List TimedEvent) → last_time events ≡ last_from 0 events
unfolding last_from
last_time-last_from [] = refl
last_time-last_from (event ∷ events) = onward event events
  where
    onward : (event : TimedEvent) (events : List TimedEvent) → last_time (event ∷ events) ≡ last_from event.at events
    onward event [] = refl
    onward event (next ∷ events) = last_time-cons event next events ∙ onward next events

IsSchedule-later : (count end later from : ℕ) (events : List TimedEvent) → end ≤ later → IsSchedule count end from events → IsSchedule count later from events
IsSchedule-later count end later from [] h s = tt
IsSchedule-later count end later from (event ∷ events) h s = (s.0, omega (arith, s.1), s.2, IsSchedule-later count end later event.at events h s.3)

IsSchedule-append : (count end from : ℕ) (events : List TimedEvent) (event : TimedEvent) → IsSchedule count end from events → last_from from events ≤ event.at → event.at < end → NamesDevices count event.event →
    IsSchedule count end from (events ++ event ∷ [])
unfolding last_from
IsSchedule-append count end from [] event s after before known = (after, before, known, tt)
IsSchedule-append count end from (first ∷ events) event s after before known = (s.0, s.1, s.2, IsSchedule-append count end first.at events event s.3 after before known)

last_from-append : (from : ℕ) (events : List TimedEvent) (event : TimedEvent) → last_from from (events ++ event ∷ []) ≡ event.at
unfolding last_from
last_from-append from [] event = refl
last_from-append from (first ∷ events) event = last_from-append first.at events event

AreFramedEvents-append : (events : List TimedEvent) (event : TimedEvent) → AreFramedEvents events → IsFramedEvent event.event → AreFramedEvents (events ++ event ∷ [])
AreFramedEvents-append [] event f g = (g, tt)
AreFramedEvents-append (first ∷ events) event f g = (f.0, AreFramedEvents-append events event f.1 g)

-- ---- pulses

-- the end of the last pulse, from where there is none
end_from : Option ℕ → List Stretch → Option ℕ
end_from before [] = before
end_from before (pulse ∷ pulses) = end_from (Some pulse.to) pulses

end_at : List Stretch → ℕ → Option ℕ
end_at pulses place = option_map (λ pulse. pulse.to) (slice_get pulses place)

last_end-cons : (pulse next : Stretch) (pulses : List Stretch) → last_end (pulse ∷ next ∷ pulses) ≡ last_end (next ∷ pulses)
unfolding end_at
last_end-cons pulse next pulses =
    let long : length (pulse ∷ next ∷ pulses) - 1 ≡ suc (length pulses) = omega arith in
    let short : length (next ∷ pulses) - 1 ≡ length pulses = omega arith in
    ap (end_at (pulse ∷ next ∷ pulses)) long ∙ sym (ap (end_at (next ∷ pulses)) short)

last_end-end_from : (pulses : List Stretch) → last_end pulses ≡ end_from None pulses
unfolding end_from
last_end-end_from [] = refl
last_end-end_from (pulse ∷ pulses) = onward pulse pulses
  where
    onward : (pulse : Stretch) (pulses : List Stretch) → last_end (pulse ∷ pulses) ≡ end_from (Some pulse.to) pulses
    onward pulse [] = refl
    onward pulse (next ∷ pulses) = last_end-cons pulse next pulses ∙ onward next pulses

-- the first instant after the last pulse or pull, from where there is none
free_from : ℕ → List Stretch → ℕ
free_from from [] = from
free_from from (pulse ∷ pulses) = free_from (pulse.to + 1) pulses

-- the first instant after an end
free_after : Option ℕ → ℕ
free_after None = 0
free_after (Some end) = end + 1

free_from-end : (before : Option ℕ) (pulses : List Stretch) → free_from (free_after before) pulses ≡ free_after (end_from before pulses)
unfolding free_from free_after end_from
free_from-end before [] = refl
free_from-end before (pulse ∷ pulses) = free_from-end (Some pulse.to) pulses

free_from-last : (pulses : List Stretch) → free_from 0 pulses ≡ free_after (last_end pulses)
unfolding free_after
free_from-last pulses = free_from-end None pulses ∙ ap free_after (sym (last_end-end_from pulses))

wave-append : (from : ℕ) (pulses : List Stretch) (pulse : Stretch) → IsWaveFrom from pulses → free_from from pulses ≤ pulse.from → pulse.from < pulse.to → IsWaveFrom from (pulses ++ pulse ∷ [])
unfolding free_from
wave-append from [] pulse wave later wide = (later, wide, tt)
wave-append from (first ∷ pulses) pulse wave later wide = (wave.0, wave.1, wave-append (first.to + 1) pulses pulse wave.2 later wide)

-- one that begins after the last
wave_more : (pulses : List Stretch) (pulse : Stretch) → IsWave pulses → free_after (last_end pulses) ≤ pulse.from → pulse.from < pulse.to → IsWave (pulses ++ pulse ∷ [])
wave_more pulses pulse wave later wide = let last = free_from-last pulses in wave-append 0 pulses pulse wave (omega (arith, last, later)) wide

-- a pulse that is not refused begins after the last, and is narrow
abbrev IsApart : Option ℕ → Stretch → Type 0
IsApart before pulse = (free_after before ≤ pulse.from) × (pulse.from < pulse.to) × (pulse.to ≤ pulse.from + 10000)

gap-apart : (before : Option ℕ) (pulse : Stretch) → gap_fault before pulse ≡ None → free_after before ≤ pulse.from
unfolding free_after
gap-apart None pulse h = omega arith
gap-apart (Some end) pulse h = by (nat_lt pulse.from end) (nat_lt pulse.from (end + 25000)) refl h
  where
    by : (early near : Bool) → nat_lt pulse.from (end + 25000) ≡ near → (if early then Some faults.Order else if near then Some faults.Close else None) ≡ None → end + 1 ≤ pulse.from
    by true near e g = cc
    by false true e g = cc
    by false false e g = grind (arith, nat_tests, e)

pulse-apart : (before : Option ℕ) (pulse : Stretch) → stretch_fault before pulse ≡ None → IsApart before pulse
pulse-apart before pulse h = by (nat_lt pulse.from pulse.to) (nat_le pulse.to (pulse.from + 10000)) refl refl h
  where
    by : (some narrow : Bool) → nat_lt pulse.from pulse.to ≡ some → nat_le pulse.to (pulse.from + 10000) ≡ narrow → (if some && narrow then gap_fault before pulse else Some faults.Width) ≡ None
        → (free_after before ≤ pulse.from) × (pulse.from < pulse.to) × (pulse.to ≤ pulse.from + 10000)
    by true true e g k = (gap-apart before pulse k, grind (arith, nat_tests, e), grind (arith, nat_tests, g))
    by true false e g k = cc
    by false narrow e g k = cc

touches-apart : (before : Option ℕ) (time : ℕ) → touches before time ≡ false → free_after before ≤ time
unfolding free_after
touches-apart None time h = omega arith
touches-apart (Some end) time h = grind (arith, nat_tests, h)

-- ---- what the lines so far keep

pub sound_start : NoneAreSound
sound_start count = record { schedule = tt; framed = tt; order = tt; wide = All-nil IsNoWider; early = All-nil IsEarly; ended = λ t e. (cc); held = λ t e. (cc); let_go = λ t e. refl }

Keeps : ℕ → Result Notes (AtWord ScriptCause) → Type 0
Keeps count read = (next : Notes) → read ≡ Ok next → AreSound count next

keeps_next : (count : ℕ) (read : Result Notes (AtWord ScriptCause)) (next : Notes) → Keeps count read → read ≡ Ok next → AreSound count next
unfolding Keeps
keeps_next count read next k e = k next e

abbrev is_refused : Result Notes (AtWord ScriptCause) → Bool
is_refused (Ok notes) = false
is_refused (Err fault) = true

-- whatever the fault
keeps_err : (count : ℕ) (read : Result Notes (AtWord ScriptCause)) → is_refused read ≡ true → Keeps count read
unfolding Keeps
keeps_err count (Ok notes) refused next h = cc
keeps_err count (Err fault) refused next h = cc

keeps_if : (count : ℕ) (b : Bool) (x y : Result Notes (AtWord ScriptCause)) → (b ≡ true → Keeps count x) → (b ≡ false → Keeps count y) → Keeps count (cond b x y)
keeps_if count true x y f g = f refl
keeps_if count false x y f g = g refl

keeps_ok : (count : ℕ) (notes : Notes) → AreSound count notes → Keeps count (Ok notes)
unfolding Keeps
keeps_ok count notes s next h = let e : notes ≡ next = cc in let P : Notes → Type 0 = λ n. AreSound count n in subst P e s

scheduled-keeps : (count : ℕ) (notes : Notes) (line time : ℕ) (event : Event) → AreSound count notes → NamesDevices count event → IsFramedEvent event → Keeps count (notes_with_event notes line time event)
scheduled-keeps count notes line time event s known framed =
    keeps_if count (nat_lt time (last_time notes.events)) _ _ (λ e. keeps_err count _ refl)
    (λ on_time. keeps_if count (is_some notes.end) _ _ (λ e. keeps_err count _ refl) (λ unended. keeps_ok count _ (sound_more on_time unended)))
  where
    sound_more : nat_lt time (last_time notes.events) ≡ false → is_some notes.end ≡ false →
        AreSound count (record notes { events = notes.events ++ record { line = line; at = time; event = event } ∷ [] })
    sound_more on_time unended =
        let timed : TimedEvent = record { line = line; at = time; event = event } in
        let after : last_time notes.events ≤ time = grind (arith, nat_tests) in
        let from_zero : last_from 0 notes.events ≤ time = omega (arith, last_time-last_from notes.events) in
        let last : last_time (notes.events ++ timed ∷ []) ≡ time = last_time-last_from (notes.events ++ timed ∷ []) ∙ last_from-append 0 notes.events timed in
        let Until : ℕ → Type 0 = λ n. IsSchedule count (n + 1) 0 (notes.events ++ timed ∷ []) in
        record {
          schedule = subst Until (sym last) (IsSchedule-append count (time + 1) 0 notes.events timed (IsSchedule-later count (last_time notes.events + 1) (time + 1) 0 notes.events (omega arith) s.schedule) from_zero (omega arith) known);
          framed = AreFramedEvents-append notes.events timed s.framed framed;
          order = s.order;
          wide = s.wide;
          early = s.early;
          ended = λ t h. (let clash = rw h at unended in cc);
          held = s.held;
          let_go = s.let_go;
        }

named-below : (tree : List Node) (name : List ℕ) (device : ℕ) → device_named tree name ≡ Some device → device < length tree
named-below tree name device h = grind (arith, common_steps)

plug-keeps : (count : ℕ) (notes : Notes) (line time port : ℕ) (child parent : Option ℕ) → AreSound count notes →
    ((i : ℕ) → child ≡ Some i → i < count) → ((i : ℕ) → parent ≡ Some i → i < count) → Keeps count (plug_checked notes line time port child parent)
plug-keeps count notes line time port None parent s hc hp = keeps_err count _ refl
plug-keeps count notes line time port (Some child) None s hc hp = keeps_err count _ refl
plug-keeps count notes line time port (Some child) (Some parent) s hc hp = scheduled-keeps count notes line time (Plug child parent port) s (hc child refl, hp parent refl) tt

unplug-keeps : (count : ℕ) (notes : Notes) (line time : ℕ) (child : Option ℕ) → AreSound count notes → ((i : ℕ) → child ≡ Some i → i < count) → Keeps count (unplug_checked notes line time child)
unplug-keeps count notes line time None s hc = keeps_err count _ refl
unplug-keeps count notes line time (Some child) s hc = scheduled-keeps count notes line time (Unplug child) s (hc child refl) tt

key_read-keeps : (count : ℕ) (notes : Notes) (line : ℕ) (press : Bool) (key : Result KeyValue (AtWord ScriptCause)) (time device : Option ℕ) → AreSound count notes → ((i : ℕ) → device ≡ Some i → i < count) →
    Keeps count (key_read notes line press key time device)
key_read-keeps count notes line press (Err cause) time device s hd = keeps_err count _ refl
key_read-keeps count notes line press (Ok key) None device s hd = keeps_err count _ refl
key_read-keeps count notes line press (Ok key) (Some time) None s hd = keeps_err count _ refl
key_read-keeps count notes line press (Ok key) (Some time) (Some device) s hd = scheduled-keeps count notes line time (Key device key press) s (hd device refl) tt

act_read-keeps : (count : ℕ) (notes : Notes) (line : ℕ) (act : Option Act) (time device : Option ℕ) → AreSound count notes → ((i : ℕ) → device ≡ Some i → i < count) →
    Keeps count (act_read notes line act time device)
act_read-keeps count notes line None time device s hd = keeps_err count _ refl
act_read-keeps count notes line (Some act) None device s hd = keeps_err count _ refl
act_read-keeps count notes line (Some act) (Some time) None s hd = keeps_err count _ refl
act_read-keeps count notes line (Some act) (Some time) (Some device) s hd = scheduled-keeps count notes line time (Outside device act) s (hd device refl) tt

-- a frame has a block
frame_some : (frame : List ℕ) → is_frame frame ≡ true → 0 < length frame
frame_some [] h = cc
frame_some (block ∷ blocks) h = omega arith

-- a device that a part of a header names is one of the tree
device_of-below : (tree : List Node) (part : List ℕ) (found : Option ℕ) → device_of tree part ≡ Some found → IfSome found (λ d. d < length tree)
device_of-below tree part found h = by (is_named part) (device_named tree (drop 1 part)) refl h
  where
    by : (named : Bool) (device : Option ℕ) → device_named tree (drop 1 part) ≡ device → (if named then option_map Some device else Some None) ≡ Some found → IfSome found (λ d. d < length tree)
    by false device e g = let none : None ≡ found = cc in subst (λ (o : Option ℕ). IfSome o (λ d. d < length tree)) none tt
    by true None e g = cc
    by true (Some d) e g = let some : Some d ≡ found = cc in subst (λ (o : Option ℕ). IfSome o (λ d. d < length tree)) some (named-below tree (drop 1 part) d e)

-- the names of a header are those of devices of the tree
abbrev AreBelow : ℕ → Option HeaderNames → Type 0
AreBelow count names = IfSome names (λ n. AreNamed count n)

names_by-below : (count : ℕ) (initiator destination : Option (Option ℕ)) (names : Option HeaderNames) → ((o : Option ℕ) → initiator ≡ Some o → IfSome o (λ d. d < count))
    → ((o : Option ℕ) → destination ≡ Some o → IfSome o (λ d. d < count)) → names_by initiator destination ≡ Some names → AreBelow count names
names_by-below count None destination names hi hd e = cc
names_by-below count (Some i) None names hi hd e = cc
names_by-below count (Some i) (Some d) names hi hd e =
    let some : Some (record { initiator = i; destination = d }) ≡ names = cc in subst (AreBelow count) some (hi i refl, hd d refl)

header-below : (tree : List Node) (word : List ℕ) (names : Option HeaderNames) → header_names tree word ≡ Some names → AreBelow (length tree) names
header-below tree word names h = by (has_names word) h
  where
    by : (b : Bool) → (if b then names_by (device_of tree (initiator_part word)) (device_of tree (destination_part word)) else Some None) ≡ Some names → AreBelow (length tree) names
    by false e = let none : None ≡ names = cc in subst (AreBelow (length tree)) none tt
    by true e =
        names_by-below (length tree) (device_of tree (initiator_part word)) (device_of tree (destination_part word)) names (device_of-below tree (initiator_part word)) (device_of-below tree (destination_part word)) e

-- the event of a frame
framed-keeps : (count : ℕ) (notes : Notes) (line time device : ℕ) (ticket : Ticket) (names : Option HeaderNames) (frame : List ℕ) → AreSound count notes → device < count → AreBelow count names → 0 < length frame
    → Keeps count (notes_with_event notes line time (frame_event device ticket names frame))
framed-keeps count notes line time device ticket None frame s below named some = scheduled-keeps count notes line time (Send device frame ticket) s below some
framed-keeps count notes line time device ticket (Some names) frame s below named some = scheduled-keeps count notes line time (SendNamed device names frame ticket) s (below, named) some

-- either way
by_cond : (b : Bool) (P Q R : Type 0) → (P → R) → (Q → R) → cond {A = Type 0} b P Q → R
by_cond true P Q R f g h = f h
by_cond false P Q R f g h = g h

-- a frame in hex has a block
hex_some : (at : ℕ) (bytes : Result (List ℕ) DisCause) (frame : List ℕ) → Ok frame ≡ hex_read at (whole_frame bytes) → 0 < length frame
hex_some at (Err cause) frame e = cc
hex_some at (Ok bytes) frame e = by (nat_le 1 (length bytes)) (nat_le (length bytes) 16) refl e
  where
    by : (some few : Bool) → nat_le 1 (length bytes) ≡ some → Ok frame ≡ hex_read at (if some && few then Ok bytes else Err Length) → 0 < length frame
    by true true t k = let same : frame ≡ bytes = cc in let long : 0 < length bytes = grind (arith, nat_tests) in subst (λ (x : List ℕ). 0 < length x) (sym same) long
    by true false t k = cc
    by false few t k = cc

-- however the bytes are read
hex_said : {from : List ℕ → Result (List ℕ) DisCause} → ((text bytes : List ℕ) → (from text ≡ Ok bytes) ↔ Spells text bytes) → (at : ℕ) (text frame : List ℕ)
    → Ok frame ≡ hex_read at (whole_frame (from text)) → 0 < length frame
hex_said {from = from} spelled at text frame e = hex_some at (from text) frame e

-- and so has the frame of a text
text_some : (at : ℕ) (words : List (List ℕ)) (frame : List ℕ) → IsTextRead at words (Ok frame) → 0 < length frame
text_some at words frame h = by h.0 h.1 h.2
  where
    by : (r : Result (List ℕ) AssembleError) → IsFrameOf (digits_text words) r → Ok frame ≡ frame_read at r → 0 < length frame
    by (Err cause) is e = cc
    by (Ok f) is e = let same : frame ≡ f = cc in subst (λ (x : List ℕ). 0 < length x) (sym same) (frame_some f is.0.whole)

said_some : (at : ℕ) (words : List (List ℕ)) (frame : List ℕ) → IsFrameRead at words (Ok frame) → 0 < length frame
said_some at [] frame h = cc
said_some at (word ∷ words) frame h =
    by_cond (bytes_eq word (codes "hex")) (Ok frame ≡ hex_read (at + 1) (frame_in (text_of words))) (IsTextRead at (word ∷ words) (Ok frame)) (0 < length frame)
    (λ p. hex_said spellings_are_read (at + 1) (after_arrow (text_of words)) frame p) (λ q. text_some at (word ∷ words) frame q) h

send_read-keeps : (count : ℕ) (notes : Notes) (line at : ℕ) (time : Option ℕ) (attempts : Option (Option ℕ)) (device : Option ℕ) (names : Option (Option HeaderNames)) (frame : Result (List ℕ) (AtWord ScriptCause)) → AreSound count notes
    → ((i : ℕ) → device ≡ Some i → i < count) → ((n : Option HeaderNames) → names ≡ Some n → AreBelow count n) → ((f : List ℕ) → frame ≡ Ok f → 0 < length f) → Keeps count (send_read notes line at time attempts device names frame)
send_read-keeps count notes line at None attempts device names frame s hd hn hf = keeps_err count _ refl
send_read-keeps count notes line at (Some time) None device names frame s hd hn hf = keeps_err count _ refl
send_read-keeps count notes line at (Some time) (Some attempts) None names frame s hd hn hf = keeps_err count _ refl
send_read-keeps count notes line at (Some time) (Some attempts) (Some device) None frame s hd hn hf = keeps_err count _ refl
send_read-keeps count notes line at (Some time) (Some attempts) (Some device) (Some names) (Err fault) s hd hn hf = keeps_err count _ refl
send_read-keeps count notes line at (Some time) (Some attempts) (Some device) (Some names) (Ok frame) s hd hn hf =
    framed-keeps count notes line time device (record { line = line; attempts = attempts }) names frame s (hd device refl) (hn names refl) (hf frame refl)

handed-keeps : (tree : List Node) (notes : Notes) (line : ℕ) (time : Option ℕ) (name : List ℕ) (at : ℕ) (attempts : Option (Option ℕ)) (words : List (List ℕ)) (next : Notes) → AreSound (length tree) notes
    → IsHandedRead tree notes line time name at attempts words (Ok next) → AreSound (length tree) next
handed-keeps tree notes line time name at attempts [] next s h = cc
handed-keeps tree notes line time name at attempts (word ∷ words) next s h =
    let Said : Result (List ℕ) (AtWord ScriptCause) → Type 0 = λ r. IsFrameRead at (word ∷ words) r in
    keeps_next (length tree) (send_read notes line at time attempts (device_named tree name) (header_names tree word) h.0) next
    (send_read-keeps (length tree) notes line at time attempts (device_named tree name) (header_names tree word) h.0 s (named-below tree name) (header-below tree word) (λ f e. said_some at (word ∷ words) f (subst Said e h.1))) (sym h.2)

-- one more that is pulled low from outside
sound_with : (count : ℕ) (notes : Notes) (pulse : Stretch) → AreSound count notes → pulse.from ≤ latest_event → free_after (last_end notes.pulses) ≤ pulse.from → pulse.from < pulse.to → IsNoWider pulse
    → AreSound count (record notes { pulses = notes.pulses ++ pulse ∷ []; pin = None })
sound_with count notes pulse s within later some wide = record {
  schedule = s.schedule;
  framed = s.framed;
  order = wave_more notes.pulses pulse s.order later some;
  wide = All-append IsNoWider notes.pulses (pulse ∷ []) s.wide (All-from_recursion IsNoWider (pulse ∷ []) (wide, tt));
  early = All-append IsEarly notes.pulses (pulse ∷ []) s.early (All-from_recursion IsEarly (pulse ∷ []) (within, tt));
  ended = s.ended;
  held = λ t h. (cc);
  let_go = λ t h. refl;
}

-- while the pin is high
sound_high : (count : ℕ) (notes : Notes) (pulse : Stretch) → AreSound count notes → is_some notes.pin ≡ false → pulse.from ≤ latest_event → free_after (last_end notes.pulses) ≤ pulse.from → pulse.from < pulse.to
    → pulse.to ≤ pulse.from + widest_pull → AreSound count (record notes { pulses = notes.pulses ++ pulse ∷ [] })
sound_high count notes pulse s high within later some wide =
    let none = is_high notes.pin high in
    let With : Option ℕ → Type 0 = λ pin. AreSound count (record notes { pulses = notes.pulses ++ pulse ∷ []; pin = pin }) in
    subst With (sym none) (sound_with count notes pulse s within later some (omega (arith, wide)))
  where
    is_high : (pin : Option ℕ) → is_some pin ≡ false → pin ≡ None
    is_high None h = refl
    is_high (Some from) h = cc

pulsed-keeps : (count : ℕ) (notes : Notes) (waiting : ℕ) (pulse : Stretch) → AreSound count notes → pulse.from ≤ latest_event → Keeps count (notes_with_pulse notes waiting pulse)
pulsed-keeps count notes waiting pulse s within =
    elim (pulse_refusal notes.pin (last_end notes.pulses) pulse) as (λ o. pulse_refusal notes.pin (last_end notes.pulses) pulse ≡ o → Keeps count (unless_fault o notes waiting pulse)) [
      | Some fault ↦ λ e. keeps_err count _ refl
      | None ↦ λ e. keeps_if count (nat_le most_pulses waiting) _ _ (λ full. keeps_err count _ refl)
          (λ room. keeps_if count (is_some notes.end) _ _ (λ ended. keeps_err count _ refl)
          (λ unended. keeps_ok count _ (sound_high count notes pulse s (high e) within (apart e).0 (apart e).1 (let narrow = (apart e).2 in omega (arith, narrow)))))
    ] refl
  where
    high : pulse_refusal notes.pin (last_end notes.pulses) pulse ≡ None → is_some notes.pin ≡ false
    high e = none_while_low notes.pin (last_end notes.pulses) pulse e

    by : (pin : Option ℕ) → pulse_refusal pin (last_end notes.pulses) pulse ≡ None → is_some pin ≡ false → stretch_fault (last_end notes.pulses) pulse ≡ None
    by None e h = e
    by (Some from) e h = cc

    apart : pulse_refusal notes.pin (last_end notes.pulses) pulse ≡ None → IsApart (last_end notes.pulses) pulse
    apart e = pulse-apart (last_end notes.pulses) pulse (by notes.pin e (high e))

-- none of two
both_false : (a b : Bool) → (a || b) ≡ false → (a ≡ false) × (b ≡ false)
both_false true b h = cc
both_false false b h = (refl, h)

-- a pull that is not refused for its width
fits_width : (time width : ℕ) → (width == 0 || nat_lt widest_pull width) ≡ false → (time < time + width) × (time + width ≤ time + widest_pull)
fits_width time width h = by (width == 0) (nat_lt widest_pull width) refl refl h
  where
    by : (none wide : Bool) → (width == 0) ≡ none → nat_lt widest_pull width ≡ wide → (none || wide) ≡ false → (time < time + width) × (time + width ≤ time + widest_pull)
    by true wide e g k = cc
    by false true e g k = cc
    by false false e g k = (grind (arith, nat_tests, e), grind (arith, nat_tests, g))

pulled-keeps : (count : ℕ) (notes : Notes) (waiting time width : ℕ) → AreSound count notes → time ≤ latest_event → Keeps count (notes_with_pull notes waiting time width)
pulled-keeps count notes waiting time width s within =
    keeps_if count (width == 0 || nat_lt widest_pull width) _ _ (λ misfits. keeps_err count _ refl)
    (λ fits. keeps_if count (is_some notes.pin || touches (last_end notes.pulses) time) _ _ (λ near. keeps_err count _ refl)
    (λ apart. keeps_if count (nat_le most_pulls waiting) _ _ (λ full. keeps_err count _ refl)
    (λ room. keeps_if count (is_some notes.end) _ _ (λ ended. keeps_err count _ refl)
    (λ unended. keeps_ok count _ (sound_high count notes (record { from = time; to = time + width }) s (both_false (is_some notes.pin) (touches (last_end notes.pulses) time) apart).0 within
    (touches-apart (last_end notes.pulses) time (both_false (is_some notes.pin) (touches (last_end notes.pulses) time) apart).1) (fits_width time width fits).0 (fits_width time width fits).1)))))

-- the pin
fall-keeps : (count : ℕ) (notes : Notes) (waiting time : ℕ) → AreSound count notes → time ≤ latest_event → Keeps count (pin_falls notes waiting time)
fall-keeps count notes waiting time s within =
    keeps_if count (touches (last_end notes.pulses) time) _ _ (λ near. keeps_err count _ refl)
    (λ apart. keeps_if count (nat_le most_pulls waiting) _ _ (λ full. keeps_err count _ refl)
    (λ room. keeps_if count (is_some notes.end) _ _ (λ ended. keeps_err count _ refl)
    (λ unended. keeps_ok count _ (fallen apart unended))))
  where
    fallen : touches (last_end notes.pulses) time ≡ false → is_some notes.end ≡ false → AreSound count (record notes { pin = Some time })
    fallen apart unended = record {
      schedule = s.schedule;
      framed = s.framed;
      order = s.order;
      wide = s.wide;
      early = s.early;
      ended = s.ended;
      held = λ from h. (let same : time ≡ from = cc in subst (MayFall notes.pulses) same (apart, within));
      let_go = λ t h. (let clash = rw h at unended in cc);
    }

high-keeps : (count : ℕ) (notes : Notes) (time : ℕ) → AreSound count notes → Keeps count (pin_stays_high notes time)
high-keeps count notes time s =
    keeps_if count (is_before (last_end notes.pulses) time) _ _ (λ early. keeps_err count _ refl)
    (λ late. keeps_if count (is_some notes.end) _ _ (λ ended. keeps_err count _ refl) (λ unended. keeps_ok count notes s))

-- a pull of the pin, which ends by the latest time of a script or a microsecond after it began
sound_risen : (count : ℕ) (notes : Notes) (from to : ℕ) → AreSound count notes → notes.pin ≡ Some from → from < to → to ≤ max latest_event (from + 1)
    → AreSound count (record notes { pulses = notes.pulses ++ record { from = from; to = to } ∷ []; pin = None })
sound_risen count notes from to s is some early =
    let fell = s.held from is in
    sound_with count notes (record { from = from; to = to }) s fell.1 (touches-apart (last_end notes.pulses) from fell.0) some (omega (arith, early))

rise-keeps : (count : ℕ) (notes : Notes) (from time : ℕ) → AreSound count notes → notes.pin ≡ Some from → time ≤ latest_event → Keeps count (pin_rises notes from time)
rise-keeps count notes from time s is within =
    keeps_if count (nat_le time from) _ _ (λ early. keeps_err count _ refl)
    (λ later. keeps_ok count _ (sound_risen count notes from time s is (grind (arith, nat_tests, later)) (omega (arith, within))))

low-keeps : (count : ℕ) (notes : Notes) (from time : ℕ) → AreSound count notes → Keeps count (pin_stays_low notes from time)
low-keeps count notes from time s = keeps_if count (nat_lt time from) _ _ (λ early. keeps_err count _ refl) (λ late. keeps_ok count notes s)

level-keeps : (count : ℕ) (notes : Notes) (waiting time : ℕ) (pin : Option ℕ) (level : Bool) → AreSound count notes → notes.pin ≡ pin → time ≤ latest_event → Keeps count (notes_with_level notes waiting time pin level)
level-keeps count notes waiting time None false s is within = fall-keeps count notes waiting time s within
level-keeps count notes waiting time None true s is within = high-keeps count notes time s
level-keeps count notes waiting time (Some from) false s is within = low-keeps count notes from time s
level-keeps count notes waiting time (Some from) true s is within = rise-keeps count notes from time s is within

-- after every event there is
ends_after : (count time : ℕ) (events : List TimedEvent) → IsSchedule count (last_time events + 1) 0 events → (nat_lt 0 (length events) && nat_le time (last_time events)) ≡ false → IsSchedule count time 0 events
ends_after count time [] s h = tt
ends_after count time (event ∷ events) s h =
    let after : last_time (event ∷ events) < time = grind (arith, nat_tests) in
    IsSchedule-later count (last_time (event ∷ events) + 1) time 0 (event ∷ events) (omega arith) s

-- with its end, where the pin is high
sound_ended : (count : ℕ) (notes : Notes) (pulses : List Stretch) (time : ℕ) → AreSound count (record notes { pulses = pulses; pin = None })
    → (nat_lt 0 (length notes.events) && nat_le time (last_time notes.events)) ≡ false → time ≤ latest_event → AreSound count (record notes { pulses = pulses; end = Some time; pin = None })
sound_ended count notes pulses time s after within = record {
  schedule = s.schedule;
  framed = s.framed;
  order = s.order;
  wide = s.wide;
  early = s.early;
  ended = λ t h. (let same : time ≡ t = cc in let Ends : ℕ → Type 0 = λ n. IsSchedule count n 0 notes.events × (n ≤ latest_event) in
      subst Ends same (ends_after count time notes.events s.schedule after, within));
  held = s.held;
  let_go = λ t h. refl;
}

end-keeps : (count : ℕ) (notes : Notes) (time : ℕ) → AreSound count notes → time ≤ latest_event → Keeps count (end_checked notes time)
end-keeps count notes time s within =
    keeps_if count (is_some notes.end) _ _ (λ e. keeps_err count _ refl)
    (λ unended. keeps_if count (nat_lt 0 (length notes.events) && nat_le time (last_time notes.events)) _ _ (λ e. keeps_err count _ refl)
    (λ after. keeps_ok count _ (sound_ended count notes (pulses_ended notes.pin notes.pulses time) time (high_again notes.pin refl) after within)))
  where
    high_again : (pin : Option ℕ) → notes.pin ≡ pin → AreSound count (record notes { pulses = pulses_ended pin notes.pulses time; pin = None })
    high_again None is = let With : Option ℕ → Type 0 = λ pin. AreSound count (record notes { pin = pin }) in subst With is s
    high_again (Some from) is =
        let fell = (s.held from is).1 in
        sound_risen count notes from (max time (min from latest_event + 1)) s is (omega (arith, fell)) (omega (arith, fell, within))

-- no time of a line is past the latest
in_time : (m : Meaning) → time_of_meaning m ≤ latest_event
in_time Itself = omega arith
in_time (NumberOf n) = omega arith
in_time (PortOf n) = omega arith
in_time (PortsOf n) = omega arith
in_time (Level is) = omega arith
in_time (KindOf kind) = omega arith
in_time (Text word) = omega arith
in_time (Words words) = omega arith

timed : (values : List Meaning) (place : ℕ) → time_at values place ≤ latest_event
timed values place = in_time (get_or values place Itself)

-- the values of a form
said-keeps : (tree : List Node) (notes : Notes) (waiting line : ℕ) (verb : ScriptVerb) (values : List Meaning) (next : Notes) → AreSound (length tree) notes → IsSaid tree notes waiting line verb values (Ok next)
    → AreSound (length tree) next
said-keeps tree notes waiting line (verbs.Press word) values next s h =
    keeps_next (length tree) (key_read notes line true (key_said word values) (key_time word values) (device_named tree (text_at values 3))) next
    (key_read-keeps (length tree) notes line true (key_said word values) (key_time word values) (device_named tree (text_at values 3)) s (named-below tree (text_at values 3))) (sym h)
said-keeps tree notes waiting line (verbs.Release word) values next s h =
    keeps_next (length tree) (key_read notes line false (key_said word values) (key_time word values) (device_named tree (text_at values 3))) next
    (key_read-keeps (length tree) notes line false (key_said word values) (key_time word values) (device_named tree (text_at values 3)) s (named-below tree (text_at values 3))) (sym h)
said-keeps tree notes waiting line verbs.Plug values next s h =
    keeps_next (length tree) (plug_checked notes line (time_at values 1) (port_at values 5) (device_named tree (text_at values 3)) (device_named tree (text_at values 4))) next
    (plug-keeps (length tree) notes line (time_at values 1) (port_at values 5) (device_named tree (text_at values 3)) (device_named tree (text_at values 4)) s (named-below tree (text_at values 3)) (named-below tree (text_at values 4))) (sym h)
said-keeps tree notes waiting line verbs.Unplug values next s h =
    keeps_next (length tree) (unplug_checked notes line (time_at values 1) (device_named tree (text_at values 3))) next
    (unplug-keeps (length tree) notes line (time_at values 1) (device_named tree (text_at values 3)) s (named-below tree (text_at values 3))) (sym h)
said-keeps tree notes waiting line verbs.Send values next s h =
    let handed = handed_in (words_at values 4) in
    handed-keeps tree notes line (late_time_at values 1) (text_at values 3) handed.at handed.attempts handed.words next s h
said-keeps tree notes waiting line verbs.Hold values next s h =
    keeps_next (length tree) (act_read notes line (hold_of (text_at values 4)) (late_time_at values 1) (device_named tree (text_at values 3))) next
    (act_read-keeps (length tree) notes line (hold_of (text_at values 4)) (late_time_at values 1) (device_named tree (text_at values 3)) s (named-below tree (text_at values 3))) (sym h)
said-keeps tree notes waiting line verbs.Drop values next s h =
    keeps_next (length tree) (act_read notes line (Some Empty) (Some (time_at values 1)) (device_named tree (text_at values 3))) next
    (act_read-keeps (length tree) notes line (Some Empty) (Some (time_at values 1)) (device_named tree (text_at values 3)) s (named-below tree (text_at values 3))) (sym h)
said-keeps tree notes waiting line verbs.Pulse values next s h =
    let pulse : Stretch = record { from = time_at values 1; to = time_at values 1 + min (number_at values 2) 65535 } in
    keeps_next (length tree) (notes_with_pulse notes waiting pulse) next (pulsed-keeps (length tree) notes waiting pulse s (timed values 1)) (sym h)
said-keeps tree notes waiting line verbs.Pull values next s h =
    keeps_next (length tree) (notes_with_pull notes waiting (time_at values 1) (number_at values 2)) next (pulled-keeps (length tree) notes waiting (time_at values 1) (number_at values 2) s (timed values 1)) (sym h)
said-keeps tree notes waiting line verbs.Pin values next s h =
    keeps_next (length tree) (notes_with_level notes waiting (time_at values 1) notes.pin (level_at values 2)) next
    (level-keeps (length tree) notes waiting (time_at values 1) notes.pin (level_at values 2) s refl (timed values 1)) (sym h)
said-keeps tree notes waiting line verbs.End values next s h =
    keeps_next (length tree) (end_checked notes (time_at values 1)) next (end-keeps (length tree) notes (time_at values 1) s (timed values 1)) (sym h)

form-keeps : (tree : List Node) (notes : Notes) (waiting line : ℕ) (said : SaidBy ScriptVerb) (next : Notes) → AreSound (length tree) notes → IsSaidRead tree notes waiting line said (Ok next) → AreSound (length tree) next
form-keeps tree notes waiting line (Err fault) next s h = cc
form-keeps tree notes waiting line (Ok said) next s h = said-keeps tree notes waiting line said.0 said.1 next s h

-- a line that is taken keeps it
pub line-keeps : LinesKeepSound
line-keeps tree notes waiting line text next s h =
    by_cond (is_skipped text) (Ok next ≡ Ok notes) (IsSaidRead tree notes waiting line (line_said (words_of text)) (Ok next)) (AreSound (length tree) next)
    (λ p. keeps_next (length tree) (Ok notes) next (keeps_ok (length tree) notes s) (sym p))
    (λ q. form-keeps tree notes waiting line (line_said (words_of text)) next s q) (h)

-- pulls in order that begin early enough and are no wider than they may be
timely : (pulses : List Stretch) → length pulses ≤ most_pulls → IsWave pulses → All IsNoWider pulses → All IsEarly pulses → AreTimely pulses
timely pulses few order wide early = record {
  few = few;
  order = order;
  ends = λ k p l. (let x = wide k p l in let y = early k p l in omega (arith, x, y));
}

-- the same as a test
pub tested : SoundAreTimely
tested pulses few order wide early = (timely_tested pulses).1 (timely pulses few order wide early)

-- what the lines keep at the end is a script
sound_script : (count : ℕ) (notes : Notes) (line : ℕ) (course : Course) → AreSound count notes → length notes.pulses ≤ most_pulls → Ok course ≡ course_at_end notes line notes.end → IsScript count course
sound_script count notes line course s few h =
    let Is : Course → Type 0 = λ found. IsScript count found in
    elim notes.end as (λ o. notes.end ≡ o → Ok course ≡ course_at_end notes line o → IsScript count course) [
      | None ↦ λ e g. (cc)
      | Some time ↦ λ e g. (
          let r = s.ended time e in
          let same : record { events = notes.events; pulses = notes.pulses; end = time } ≡ course = cc in
          subst Is same (record { schedule = r.0; framed = s.framed; timely = timely notes.pulses few s.order s.wide s.early; wide = s.wide; early = s.early; limit = r.1 }))
    ] refl h

lines-sound : (tree : List Node) (texts : List (List ℕ)) (line : ℕ) (notes : Notes) (course : Course) → AreSound (length tree) notes → AreFew notes → AreLinesRead tree texts line notes (Ok course)
    → IsScript (length tree) course
lines-sound tree [] line notes course s few h = sound_script (length tree) notes line course s (omega (arith, few)) h
lines-sound tree (text ∷ texts) line notes course s few h = step h.0 h.1 h.2 (λ next n room. lines-sound tree texts (line + 1) next course n room)
  where
    step : (r : Result Notes (AtWord ScriptCause)) → IsLineRead tree notes (length notes.pulses) line text r → Onward line r (λ next. AreLinesRead tree texts (line + 1) next (Ok course)) (Ok course)
        → ((next : Notes) → AreSound (length tree) next → AreFew next → AreLinesRead tree texts (line + 1) next (Ok course) → IsScript (length tree) course) → IsScript (length tree) course
    step (Ok next) l k on = on next (line-keeps tree notes (length notes.pulses) line text next s l) (few_pulses tree notes line text next l few) k
    step (Err fault) l k on = cc

pub scripts_are_sound : ScriptsAreSound
scripts_are_sound tree text course h = lines-sound tree (lines_of text) 1 no_notes course (sound_start (length tree)) (omega arith) h

pub answer_given : AnswersAreGiven
answer_given tree text read (Ok script) is gives = let of = subst (IsScriptRead tree text) gives is in (of, scripts_are_sound tree text (course_of script) of)
answer_given tree text read (Err errors.Memory) is gives = (tt, tt)
answer_given tree text read (Err (errors.At fault)) is gives = (subst (IsScriptRead tree text) gives is, tt)
