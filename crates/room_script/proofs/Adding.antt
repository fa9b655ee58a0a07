-- A line of a script adds at most one event and one pulse or pull to what was said before, and a pulse where there is room; a pin
-- that is low has room for its pull.
use Rattle.std.proofs.Common.{◌≡◌, ℕ, ◌+◌, ◌<◌, ◌≤◌, ◌==◌, ◌&&◌, ◌||◌, Bool, true, false, cond, if◌then◌else◌, List, [], ◌∷◌, ◌++◌, length, length-append, max, min, nat_lt, nat_le, Option, Some, None, is_some, Result, Ok, Err, refl, sym, ap, subst, ◌∙◌, arith, append-nil}
use Rattle.std.proofs.lemmas.Bool.Decides.{nat_tests}
use Rattle.line_wave.specs.declared.Stretch.{Stretch}
use Rattle.line_wave.specs.declared.PulsesError.{PulsesError}
use Rattle.line_wave.specs.declared.PulsesError.TheVariants as faults
use Rattle.line_wave.specs.Pulses.{first_of, stretch_fault}
use Rattle.text_forms.specs.Forms.{Meaning, Said, late_time_at, level_at, number_at, port_at, text_at, time_at, words_at}
use Rattle.room_lines.specs.declared.script.ScriptVerb.{ScriptVerb}
use Rattle.room_lines.specs.declared.script.ScriptVerb.TheVariants as verbs
use Rattle.edid_tree.specs.Node.{Node}
use Rattle.edid_tree.specs.Tree.{device_named}
use Rattle.device_features.specs.declared.keys.Key.{Key as KeyValue}
use Rattle.text_core.specs.Lines.{is_skipped}
use Rattle.text_core.specs.Words.{words_of}
use Rattle.room_script.specs.Keys.{key_said}
use Rattle.room_script.specs.Header.{header_names}
use Rattle.room_script.specs.Holding.{hold_of}
use Rattle.device_core.specs.declared.outside.Act.{Act}
use Rattle.device_core.specs.declared.outside.Act.TheVariants.{Empty}
use Rattle.room_event.specs.declared.event.Event.{Event}
use Rattle.room_event.specs.declared.event.Event.TheVariants.{Plug, Unplug, Key, Outside}
use Rattle.room_event.specs.declared.event.HeaderNames.{HeaderNames}
use Rattle.room_script.specs.declared.script.TimedEvent.{TimedEvent}
use Rattle.text_core.specs.At.{at_word}
use Rattle.text_core.specs.declared.at.AtWord.{AtWord}
use Rattle.room_script.specs.declared.script.ScriptCause.{ScriptCause}
use Rattle.room_script.specs.declared.script.ScriptCause.TheVariants.{Width, Order, TooMany, End}
use Rattle.room_script.specs.Script.{IsSaid, IsSaidRead, key_time, line_said, plug_checked, Notes, last_time, last_end, notes_with_event, unplug_checked, key_read, act_read, send_read, frame_event, unless_fault, pulse_refusal, notes_with_pulse, touches, notes_with_pull, is_before, pin_falls, pin_rises, pin_stays_high, pin_stays_low, notes_with_level, pulses_ended, end_checked, IsHandedRead}
use Rattle.room_script.specs.Sending.{handed_in}
use Rattle.room_script.specs.Lines.{IsMore, LinesAdd, LinesAreOfScripts, LinesKeepFew, pulls_held}
use Rattle.line_wave.specs.Bounds.{latest_event, most_pulses, most_pulls, widest_pull}

-- ---- what a line adds

none_held : (pin : Option ℕ) → is_some pin ≡ false → pulls_held pin ≡ 0
none_held None h = refl
none_held (Some from) h = cc

with_none : (waiting : ℕ) (notes : Notes) → IsMore waiting notes notes
with_none waiting notes = record {
  added = record {
    events = [];
    pulses = [];
    events_are = sym (append-nil notes.events);
    pulses_are = sym (append-nil notes.pulses);
    few_events = omega arith;
    few_pulses = omega arith;
  };
  room = omega arith;
}

with_event : (waiting : ℕ) (notes : Notes) (event : TimedEvent) → IsMore waiting notes (record notes { events = notes.events ++ event ∷ [] })
with_event waiting notes event = record {
  added = record {
    events = event ∷ [];
    pulses = [];
    events_are = refl;
    pulses_are = sym (append-nil notes.pulses);
    few_events = omega arith;
    few_pulses = omega arith;
  };
  room = omega arith;
}

with_pulse : (waiting : ℕ) (notes : Notes) (pulse : Stretch) → is_some notes.pin ≡ false → waiting < most_pulls → IsMore waiting notes (record notes { pulses = notes.pulses ++ pulse ∷ [] })
with_pulse waiting notes pulse high few = record {
  added = record {
    events = [];
    pulses = pulse ∷ [];
    events_are = sym (append-nil notes.events);
    pulses_are = refl;
    few_events = omega arith;
    few_pulses = omega arith;
  };
  room = (let none = none_held notes.pin high in omega (arith, few, none));
}

-- a pin that is high and falls
with_fall : (waiting : ℕ) (notes : Notes) (from : ℕ) → waiting < most_pulls → IsMore waiting notes (record notes { pin = Some from })
with_fall waiting notes from few = record {
  added = record {
    events = [];
    pulses = [];
    events_are = sym (append-nil notes.events);
    pulses_are = sym (append-nil notes.pulses);
    few_events = omega arith;
    few_pulses = omega arith;
  };
  room = omega (arith, few);
}

-- one that was low and rises
with_rise : (waiting : ℕ) (notes : Notes) (pull : Stretch) (end : Option ℕ) → pulls_held notes.pin ≡ 1 → IsMore waiting notes (record notes { pulses = notes.pulses ++ pull ∷ []; end = end; pin = None })
with_rise waiting notes pull end low = record {
  added = record {
    events = [];
    pulses = pull ∷ [];
    events_are = sym (append-nil notes.events);
    pulses_are = refl;
    few_events = omega arith;
    few_pulses = omega arith;
  };
  room = omega (arith, low);
}

with_end : (waiting : ℕ) (notes : Notes) (time : ℕ) → IsMore waiting notes (record notes { end = Some time; pin = None })
with_end waiting notes time = record {
  added = record {
    events = [];
    pulses = [];
    events_are = sym (append-nil notes.events);
    pulses_are = sym (append-nil notes.pulses);
    few_events = omega arith;
    few_pulses = omega arith;
  };
  room = omega arith;
}

-- ---- whichever line it is

Adds : ℕ → Notes → Result Notes (AtWord ScriptCause) → Type 0
Adds waiting old read = (next : Notes) → read ≡ Ok next → IsMore waiting old next

adds_next : (waiting : ℕ) (old : Notes) (read : Result Notes (AtWord ScriptCause)) (next : Notes) → Adds waiting old read → read ≡ Ok next → IsMore waiting old next
unfolding Adds
adds_next waiting old read next k e = k next e

abbrev is_refused : Result Notes (AtWord ScriptCause) → Bool
is_refused (Ok notes) = false
is_refused (Err fault) = true

-- whatever the fault
adds_err : (waiting : ℕ) (old : Notes) (read : Result Notes (AtWord ScriptCause)) → is_refused read ≡ true → Adds waiting old read
unfolding Adds
adds_err waiting old (Ok notes) refused next h = cc
adds_err waiting old (Err fault) refused next h = cc

adds_if : (waiting : ℕ) (old : Notes) (b : Bool) (x y : Result Notes (AtWord ScriptCause)) → Adds waiting old x → Adds waiting old y → Adds waiting old (cond b x y)
adds_if waiting old true x y f g = f
adds_if waiting old false x y f g = g

adds_unless : (waiting : ℕ) (old : Notes) (b : Bool) (x y : Result Notes (AtWord ScriptCause)) → Adds waiting old x → (b ≡ false → Adds waiting old y) → Adds waiting old (cond b x y)
adds_unless waiting old true x y f g = f
adds_unless waiting old false x y f g = g refl

adds_ok : (waiting : ℕ) (old notes : Notes) → IsMore waiting old notes → Adds waiting old (Ok notes)
unfolding Adds
adds_ok waiting old notes s next h = let e : notes ≡ next = cc in let P : Notes → Type 0 = λ n. IsMore waiting old n in subst P e s

scheduled-adds : (waiting : ℕ) (notes : Notes) (line time : ℕ) (event : Event) → Adds waiting notes (notes_with_event notes line time event)
scheduled-adds waiting notes line time event =
    adds_if waiting notes (nat_lt time (last_time notes.events)) _ _ (adds_err waiting notes _ refl)
    (adds_if waiting notes (is_some notes.end) _ _ (adds_err waiting notes _ refl) (adds_ok waiting notes _ (with_event waiting notes (record { line = line; at = time; event = event }))))

plug-adds : (waiting : ℕ) (notes : Notes) (line time port : ℕ) (child parent : Option ℕ) → Adds waiting notes (plug_checked notes line time port child parent)
plug-adds waiting notes line time port None parent = adds_err waiting notes _ refl
plug-adds waiting notes line time port (Some child) None = adds_err waiting notes _ refl
plug-adds waiting notes line time port (Some child) (Some parent) = scheduled-adds waiting notes line time (Plug child parent port)

unplug-adds : (waiting : ℕ) (notes : Notes) (line time : ℕ) (child : Option ℕ) → Adds waiting notes (unplug_checked notes line time child)
unplug-adds waiting notes line time None = adds_err waiting notes _ refl
unplug-adds waiting notes line time (Some child) = scheduled-adds waiting notes line time (Unplug child)

key_read-adds : (waiting : ℕ) (notes : Notes) (line : ℕ) (press : Bool) (key : Result KeyValue (AtWord ScriptCause)) (time device : Option ℕ) → Adds waiting notes (key_read notes line press key time device)
key_read-adds waiting notes line press (Err cause) time device = adds_err waiting notes _ refl
key_read-adds waiting notes line press (Ok key) None device = adds_err waiting notes _ refl
key_read-adds waiting notes line press (Ok key) (Some time) None = adds_err waiting notes _ refl
key_read-adds waiting notes line press (Ok key) (Some time) (Some device) = scheduled-adds waiting notes line time (Key device key press)

act_read-adds : (waiting : ℕ) (notes : Notes) (line : ℕ) (act : Option Act) (time device : Option ℕ) → Adds waiting notes (act_read notes line act time device)
act_read-adds waiting notes line None time device = adds_err waiting notes _ refl
act_read-adds waiting notes line (Some act) None device = adds_err waiting notes _ refl
act_read-adds waiting notes line (Some act) (Some time) None = adds_err waiting notes _ refl
act_read-adds waiting notes line (Some act) (Some time) (Some device) = scheduled-adds waiting notes line time (Outside device act)

send_read-adds : (waiting : ℕ) (notes : Notes) (line at : ℕ) (time : Option ℕ) (attempts : Option (Option ℕ)) (device : Option ℕ) (names : Option (Option HeaderNames)) (frame : Result (List ℕ) (AtWord ScriptCause))
    → Adds waiting notes (send_read notes line at time attempts device names frame)
send_read-adds waiting notes line at None attempts device names frame = adds_err waiting notes _ refl
send_read-adds waiting notes line at (Some time) None device names frame = adds_err waiting notes _ refl
send_read-adds waiting notes line at (Some time) (Some attempts) None names frame = adds_err waiting notes _ refl
send_read-adds waiting notes line at (Some time) (Some attempts) (Some device) None frame = adds_err waiting notes _ refl
send_read-adds waiting notes line at (Some time) (Some attempts) (Some device) (Some names) (Err fault) = adds_err waiting notes _ refl
send_read-adds waiting notes line at (Some time) (Some attempts) (Some device) (Some names) (Ok frame) = scheduled-adds waiting notes line time (frame_event device (record { line = line; attempts = attempts }) names frame)

handed-adds : (waiting : ℕ) (tree : List Node) (notes : Notes) (line : ℕ) (time : Option ℕ) (name : List ℕ) (at : ℕ) (attempts : Option (Option ℕ)) (words : List (List ℕ)) (next : Notes)
    → IsHandedRead tree notes line time name at attempts words (Ok next) → IsMore waiting notes next
handed-adds waiting tree notes line time name at attempts [] next h = cc
handed-adds waiting tree notes line time name at attempts (word ∷ words) next h =
    adds_next waiting notes (send_read notes line at time attempts (device_named tree name) (header_names tree word) h.0) next
    (send_read-adds waiting notes line at time attempts (device_named tree name) (header_names tree word) h.0) (sym h.2)

-- none of two
neither : (a b : Bool) → (a || b) ≡ false → a ≡ false
neither true b h = cc
neither false b h = refl

-- either way
by_cond : (b : Bool) (P Q R : Type 0) → (P → R) → (Q → R) → cond {A = Type 0} b P Q → R
by_cond true P Q R f g h = f h
by_cond false P Q R f g h = g h

unless_fault-adds : (waiting : ℕ) (fault : Option PulsesError) (notes : Notes) (pulse : Stretch) → (fault ≡ None → is_some notes.pin ≡ false) → Adds waiting notes (unless_fault fault notes waiting pulse)
unless_fault-adds waiting (Some fault) notes pulse high = adds_err waiting notes _ refl
unless_fault-adds waiting None notes pulse high =
    adds_unless waiting notes (nat_le most_pulses waiting) _ _ (adds_err waiting notes _ refl)
    (λ room. adds_if waiting notes (is_some notes.end) _ _ (adds_err waiting notes _ refl)
    (adds_ok waiting notes _ (with_pulse waiting notes pulse (high refl) (let l : waiting < most_pulses = grind (arith, nat_tests, room) in omega (arith, l)))))

-- a pulse is taken while the pin is high
pub none_while_low : (pin before : Option ℕ) (pulse : Stretch) → pulse_refusal pin before pulse ≡ None → is_some pin ≡ false
none_while_low None before pulse h = refl
none_while_low (Some from) before pulse h = by (stretch_fault None pulse) h
  where
    by : (fault : Option PulsesError) → first_of fault (Some faults.Order) ≡ None → true ≡ false
    by None k = cc
    by (Some fault) k = cc

pulsed-adds : (waiting : ℕ) (notes : Notes) (pulse : Stretch) → Adds waiting notes (notes_with_pulse notes waiting pulse)
pulsed-adds waiting notes pulse = unless_fault-adds waiting (pulse_refusal notes.pin (last_end notes.pulses) pulse) notes pulse (λ taken. none_while_low notes.pin (last_end notes.pulses) pulse taken)

pulled-adds : (waiting : ℕ) (notes : Notes) (time width : ℕ) → Adds waiting notes (notes_with_pull notes waiting time width)
pulled-adds waiting notes time width =
    adds_if waiting notes (width == 0 || nat_lt widest_pull width) _ _ (adds_err waiting notes _ refl)
    (adds_unless waiting notes (is_some notes.pin || touches (last_end notes.pulses) time) _ _ (adds_err waiting notes _ refl)
    (λ apart. adds_unless waiting notes (nat_le most_pulls waiting) _ _ (adds_err waiting notes _ refl)
    (λ room. adds_if waiting notes (is_some notes.end) _ _ (adds_err waiting notes _ refl)
    (adds_ok waiting notes _ (with_pulse waiting notes (record { from = time; to = time + width }) (neither (is_some notes.pin) (touches (last_end notes.pulses) time) apart) (grind (arith, nat_tests, room)))))))

-- the pin
fall-adds : (waiting : ℕ) (notes : Notes) (time : ℕ) → Adds waiting notes (pin_falls notes waiting time)
fall-adds waiting notes time =
    adds_if waiting notes (touches (last_end notes.pulses) time) _ _ (adds_err waiting notes _ refl)
    (adds_unless waiting notes (nat_le most_pulls waiting) _ _ (adds_err waiting notes _ refl)
    (λ room. adds_if waiting notes (is_some notes.end) _ _ (adds_err waiting notes _ refl) (adds_ok waiting notes _ (with_fall waiting notes time (grind (arith, nat_tests, room))))))

high-adds : (waiting : ℕ) (notes : Notes) (time : ℕ) → Adds waiting notes (pin_stays_high notes time)
high-adds waiting notes time =
    adds_if waiting notes (is_before (last_end notes.pulses) time) _ _ (adds_err waiting notes _ refl)
    (adds_if waiting notes (is_some notes.end) _ _ (adds_err waiting notes _ refl) (adds_ok waiting notes notes (with_none waiting notes)))

rise-adds : (waiting : ℕ) (notes : Notes) (from time : ℕ) → pulls_held notes.pin ≡ 1 → Adds waiting notes (pin_rises notes from time)
rise-adds waiting notes from time low =
    adds_if waiting notes (nat_le time from) _ _ (adds_err waiting notes _ refl) (adds_ok waiting notes _ (with_rise waiting notes (record { from = from; to = time }) notes.end low))

low-adds : (waiting : ℕ) (notes : Notes) (from time : ℕ) → Adds waiting notes (pin_stays_low notes from time)
low-adds waiting notes from time = adds_if waiting notes (nat_lt time from) _ _ (adds_err waiting notes _ refl) (adds_ok waiting notes notes (with_none waiting notes))

level-adds : (waiting : ℕ) (notes : Notes) (time : ℕ) (pin : Option ℕ) (level : Bool) → notes.pin ≡ pin → Adds waiting notes (notes_with_level notes waiting time pin level)
level-adds waiting notes time None false is = fall-adds waiting notes time
level-adds waiting notes time None true is = high-adds waiting notes time
level-adds waiting notes time (Some from) false is = low-adds waiting notes from time
level-adds waiting notes time (Some from) true is = rise-adds waiting notes from time (ap pulls_held is)

end-adds : (waiting : ℕ) (notes : Notes) (time : ℕ) → Adds waiting notes (end_checked notes time)
end-adds waiting notes time =
    adds_if waiting notes (is_some notes.end) _ _ (adds_err waiting notes _ refl)
    (adds_if waiting notes (nat_lt 0 (length notes.events) && nat_le time (last_time notes.events)) _ _ (adds_err waiting notes _ refl) (adds_ok waiting notes _ (ended notes.pin refl)))
  where
    ended : (pin : Option ℕ) → notes.pin ≡ pin → IsMore waiting notes (record notes { pulses = pulses_ended pin notes.pulses time; end = Some time; pin = None })
    ended None is = with_end waiting notes time
    ended (Some from) is = with_rise waiting notes (record { from = from; to = max time (min from latest_event + 1) }) (Some time) (ap pulls_held is)

-- the values of a form
said-adds : (waiting : ℕ) (tree : List Node) (notes : Notes) (line : ℕ) (verb : ScriptVerb) (values : List Meaning) (next : Notes) → IsSaid tree notes waiting line verb values (Ok next) → IsMore waiting notes next
said-adds waiting tree notes line (verbs.Press word) values next h = adds_next waiting notes (key_read notes line true (key_said word values) (key_time word values) (device_named tree (text_at values 3))) next (key_read-adds waiting notes line true (key_said word values) (key_time word values) (device_named tree (text_at values 3))) (sym h)
said-adds waiting tree notes line (verbs.Release word) values next h = adds_next waiting notes (key_read notes line false (key_said word values) (key_time word values) (device_named tree (text_at values 3))) next (key_read-adds waiting notes line false (key_said word values) (key_time word values) (device_named tree (text_at values 3))) (sym h)
said-adds waiting tree notes line verbs.Plug values next h = adds_next waiting notes (plug_checked notes line (time_at values 1) (port_at values 5) (device_named tree (text_at values 3)) (device_named tree (text_at values 4))) next (plug-adds waiting notes line (time_at values 1) (port_at values 5) (device_named tree (text_at values 3)) (device_named tree (text_at values 4))) (sym h)
said-adds waiting tree notes line verbs.Unplug values next h = adds_next waiting notes (unplug_checked notes line (time_at values 1) (device_named tree (text_at values 3))) next (unplug-adds waiting notes line (time_at values 1) (device_named tree (text_at values 3))) (sym h)
said-adds waiting tree notes line verbs.Send values next h =
    let handed = handed_in (words_at values 4) in
    handed-adds waiting tree notes line (late_time_at values 1) (text_at values 3) handed.at handed.attempts handed.words next h
said-adds waiting tree notes line verbs.Hold values next h = adds_next waiting notes (act_read notes line (hold_of (text_at values 4)) (late_time_at values 1) (device_named tree (text_at values 3))) next (act_read-adds waiting notes line (hold_of (text_at values 4)) (late_time_at values 1) (device_named tree (text_at values 3))) (sym h)
said-adds waiting tree notes line verbs.Drop values next h = adds_next waiting notes (act_read notes line (Some Empty) (Some (time_at values 1)) (device_named tree (text_at values 3))) next (act_read-adds waiting notes line (Some Empty) (Some (time_at values 1)) (device_named tree (text_at values 3))) (sym h)
said-adds waiting tree notes line verbs.Pulse values next h =
    let pulse : Stretch = record { from = time_at values 1; to = time_at values 1 + min (number_at values 2) 65535 } in
    adds_next waiting notes (notes_with_pulse notes waiting pulse) next (pulsed-adds waiting notes pulse) (sym h)
said-adds waiting tree notes line verbs.Pull values next h = adds_next waiting notes (notes_with_pull notes waiting (time_at values 1) (number_at values 2)) next (pulled-adds waiting notes (time_at values 1) (number_at values 2)) (sym h)
said-adds waiting tree notes line verbs.Pin values next h = adds_next waiting notes (notes_with_level notes waiting (time_at values 1) notes.pin (level_at values 2)) next (level-adds waiting notes (time_at values 1) notes.pin (level_at values 2) refl) (sym h)
said-adds waiting tree notes line verbs.End values next h = adds_next waiting notes (end_checked notes (time_at values 1)) next (end-adds waiting notes (time_at values 1)) (sym h)

form-adds : (waiting : ℕ) (tree : List Node) (notes : Notes) (line : ℕ) (said : Said ScriptVerb) (next : Notes) → IsSaidRead tree notes waiting line said (Ok next) → IsMore waiting notes next
form-adds waiting tree notes line (Err fault) next h = cc
form-adds waiting tree notes line (Ok said) next h = said-adds waiting tree notes line said.0 said.1 next h

-- a line that is taken
pub line_adds : LinesAdd
line_adds waiting tree notes line text next h =
    by_cond (is_skipped text) (Ok next ≡ Ok notes) (IsSaidRead tree notes waiting line (line_said (words_of text)) (Ok next)) (IsMore waiting notes next)
    (λ p. adds_next waiting notes (Ok notes) next (adds_ok waiting notes notes (with_none waiting notes)) (sym p))
    (λ q. form-adds waiting tree notes line (line_said (words_of text)) next q) (h)

-- what a script pulls low stays few
pub few_pulses : LinesKeepFew
few_pulses tree notes line text next read few =
    let more = line_adds (length notes.pulses) tree notes line text next read in
    let long : length next.pulses ≡ length notes.pulses + length more.added.pulses = ap length more.added.pulses_are ∙ length-append notes.pulses more.added.pulses in
    let room = more.room in omega (arith, long, room, few)

-- ---- with fewer pulses and pulls that wait

unless_again : (fault : Option PulsesError) (notes next : Notes) (waiting : ℕ) (pulse : Stretch) → length next.pulses ≤ most_pulses → Ok next ≡ unless_fault fault notes waiting pulse
    → Ok next ≡ unless_fault fault notes (length notes.pulses) pulse
unless_again (Some fault) notes next waiting pulse few h = h
unless_again None notes next waiting pulse few h = by_room (nat_le most_pulses waiting) h
  where
    added : Notes
    added = record notes { pulses = notes.pulses ++ pulse ∷ [] }

    by_end : (b : Bool) → Ok next ≡ (if b then Err (at_word 0 End) else Ok added) → Ok next ≡ (if nat_le most_pulses (length notes.pulses) then Err (at_word 0 TooMany) else if b then Err (at_word 0 End) else Ok added)
    by_end true k = cc
    by_end false k =
        let same : next ≡ added = cc in
        let long : length next.pulses ≡ length notes.pulses + 1 = ap (λ (n : Notes). length n.pulses) same ∙ length-append notes.pulses (pulse ∷ []) in
        let room : nat_le most_pulses (length notes.pulses) ≡ false = (let l : length notes.pulses < most_pulses = omega (arith, long, few) in grind (arith, nat_tests, l)) in
        rw room k

    by_room : (b : Bool) → Ok next ≡ (if b then Err (at_word 0 TooMany) else if is_some notes.end then Err (at_word 0 End) else Ok added)
        → Ok next ≡ (if nat_le most_pulses (length notes.pulses) then Err (at_word 0 TooMany) else if is_some notes.end then Err (at_word 0 End) else Ok added)
    by_room true k = cc
    by_room false k = by_end (is_some notes.end) k

pull_again : (notes next : Notes) (waiting time width : ℕ) → length next.pulses ≤ most_pulses → Ok next ≡ notes_with_pull notes waiting time width → Ok next ≡ notes_with_pull notes (length notes.pulses) time width
pull_again notes next waiting time width few h = by_width (width == 0 || nat_lt widest_pull width) h
  where
    added : Notes
    added = record notes { pulses = notes.pulses ++ record { from = time; to = time + width } ∷ [] }

    at_end : Bool → Result Notes (AtWord ScriptCause)
    at_end b = if b then Err (at_word 0 End) else Ok added

    with_room : ℕ → Result Notes (AtWord ScriptCause)
    with_room many = if nat_le most_pulls many then Err (at_word 0 TooMany) else at_end (is_some notes.end)

    by_end : (b : Bool) → Ok next ≡ at_end b → Ok next ≡ (if nat_le most_pulls (length notes.pulses) then Err (at_word 0 TooMany) else at_end b)
    by_end true k = cc
    by_end false k =
        let same : next ≡ added = cc in
        let long : length next.pulses ≡ length notes.pulses + 1 = ap (λ (n : Notes). length n.pulses) same ∙ length-append notes.pulses (record { from = time; to = time + width } ∷ []) in
        let room : nat_le most_pulls (length notes.pulses) ≡ false = (let l : length notes.pulses < most_pulls = omega (arith, long, few) in grind (arith, nat_tests, l)) in
        rw room k

    by_room : (b : Bool) → Ok next ≡ (if b then Err (at_word 0 TooMany) else at_end (is_some notes.end)) → Ok next ≡ with_room (length notes.pulses)
    by_room true k = cc
    by_room false k = by_end (is_some notes.end) k

    by_time : (b : Bool) → Ok next ≡ (if b then Err (at_word 1 Order) else with_room waiting) → Ok next ≡ (if b then Err (at_word 1 Order) else with_room (length notes.pulses))
    by_time true k = cc
    by_time false k = by_room (nat_le most_pulls waiting) k

    by_width : (b : Bool) → Ok next ≡ (if b then Err (at_word 2 Width) else if is_some notes.pin || touches (last_end notes.pulses) time then Err (at_word 1 Order) else with_room waiting)
        → Ok next ≡ (if b then Err (at_word 2 Width) else if is_some notes.pin || touches (last_end notes.pulses) time then Err (at_word 1 Order) else with_room (length notes.pulses))
    by_width true k = cc
    by_width false k = by_time (is_some notes.pin || touches (last_end notes.pulses) time) k

-- a pin that falls has room for its pull where pulses and pulls are that few
fall_again : (notes next : Notes) (waiting time : ℕ) → length next.pulses ≤ most_pulses → Ok next ≡ pin_falls notes waiting time → Ok next ≡ pin_falls notes (length notes.pulses) time
fall_again notes next waiting time few h = by_time (touches (last_end notes.pulses) time) h
  where
    fallen : Notes
    fallen = record notes { pin = Some time }

    at_end : Bool → Result Notes (AtWord ScriptCause)
    at_end b = if b then Err (at_word 0 End) else Ok fallen

    with_room : ℕ → Result Notes (AtWord ScriptCause)
    with_room many = if nat_le most_pulls many then Err (at_word 0 TooMany) else at_end (is_some notes.end)

    by_end : (b : Bool) → Ok next ≡ at_end b → Ok next ≡ (if nat_le most_pulls (length notes.pulses) then Err (at_word 0 TooMany) else at_end b)
    by_end true k = cc
    by_end false k =
        let same : next ≡ fallen = cc in
        let long : length next.pulses ≡ length notes.pulses = ap (λ (n : Notes). length n.pulses) same in
        let room : nat_le most_pulls (length notes.pulses) ≡ false = (let l : length notes.pulses < most_pulls = omega (arith, long, few) in grind (arith, nat_tests, l)) in
        rw room k

    by_room : (b : Bool) → Ok next ≡ (if b then Err (at_word 0 TooMany) else at_end (is_some notes.end)) → Ok next ≡ with_room (length notes.pulses)
    by_room true k = cc
    by_room false k = by_end (is_some notes.end) k

    by_time : (b : Bool) → Ok next ≡ (if b then Err (at_word 1 Order) else with_room waiting) → Ok next ≡ (if b then Err (at_word 1 Order) else with_room (length notes.pulses))
    by_time true k = cc
    by_time false k = by_room (nat_le most_pulls waiting) k

level_again : (notes next : Notes) (waiting time : ℕ) (pin : Option ℕ) (level : Bool) → length next.pulses ≤ most_pulses → Ok next ≡ notes_with_level notes waiting time pin level
    → Ok next ≡ notes_with_level notes (length notes.pulses) time pin level
level_again notes next waiting time None false few h = fall_again notes next waiting time few h
level_again notes next waiting time None true few h = h
level_again notes next waiting time (Some from) false few h = h
level_again notes next waiting time (Some from) true few h = h

-- the values of a form
said_again : (tree : List Node) (notes next : Notes) (waiting line : ℕ) (verb : ScriptVerb) (values : List Meaning) → length next.pulses ≤ most_pulses → IsSaid tree notes waiting line verb values (Ok next)
    → IsSaid tree notes (length notes.pulses) line verb values (Ok next)
said_again tree notes next waiting line (verbs.Press word) values few h = h
said_again tree notes next waiting line (verbs.Release word) values few h = h
said_again tree notes next waiting line verbs.Plug values few h = h
said_again tree notes next waiting line verbs.Unplug values few h = h
said_again tree notes next waiting line verbs.Send values few h = h
said_again tree notes next waiting line verbs.Hold values few h = h
said_again tree notes next waiting line verbs.Drop values few h = h
said_again tree notes next waiting line verbs.Pulse values few h =
    let pulse : Stretch = record { from = time_at values 1; to = time_at values 1 + min (number_at values 2) 65535 } in
    unless_again (pulse_refusal notes.pin (last_end notes.pulses) pulse) notes next waiting pulse few h
said_again tree notes next waiting line verbs.Pull values few h = pull_again notes next waiting (time_at values 1) (number_at values 2) few h
said_again tree notes next waiting line verbs.Pin values few h = level_again notes next waiting (time_at values 1) notes.pin (level_at values 2) few h
said_again tree notes next waiting line verbs.End values few h = h

form_again : (tree : List Node) (notes next : Notes) (waiting line : ℕ) (said : Said ScriptVerb) → length next.pulses ≤ most_pulses → IsSaidRead tree notes waiting line said (Ok next)
    → IsSaidRead tree notes (length notes.pulses) line said (Ok next)
form_again tree notes next waiting line (Err fault) few h = h
form_again tree notes next waiting line (Ok said) few h = said_again tree notes next waiting line said.0 said.1 few h

-- a line that is taken is one of a script too, where its pulses and pulls are few in all
pub read_again : LinesAreOfScripts
read_again tree notes next waiting line text few h =
    by_text (is_skipped text) h
  where
    by_text : (b : Bool) → cond {A = Type 0} b (◌≡◌ {A = Result Notes (AtWord ScriptCause)} (Ok next) (Ok notes)) (IsSaidRead tree notes waiting line (line_said (words_of text)) (Ok next))
        → cond {A = Type 0} b (◌≡◌ {A = Result Notes (AtWord ScriptCause)} (Ok next) (Ok notes)) (IsSaidRead tree notes (length notes.pulses) line (line_said (words_of text)) (Ok next))
    by_text true k = k
    by_text false k = form_again tree notes next waiting line (line_said (words_of text)) few k
