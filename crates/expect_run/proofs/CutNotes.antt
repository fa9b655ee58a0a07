-- What each line of a plain script gives in the same script that ends earlier.
use Rattle.std.proofs.Common.{◌≡◌, ℕ, suc, ◌+◌, ◌-◌, ◌<◌, ◌≤◌, ◌==◌, ◌&&◌, ◌||◌, Bool, true, false, cond, codes, if◌then◌else◌, List, [], ◌∷◌, ◌++◌, length, filter, nat_lt, nat_le, slice_get, Option, Some, None, is_some, option_map, ◌⊎◌, Result, Ok, Err, All, refl, sym, ap, subst, ◌∙◌, arith, append-nil}
use Rattle.std.specs.Option.{option_map_or}
use Rattle.std.proofs.lemmas.Bool.Decides.{nat_tests}
use Rattle.std.proofs.lemmas.List.Elements.{All-head, All-tail, All-push, All-weaker, All-filter, filter-append}
use Rattle.edid_tree.specs.Node.{Node}
use Rattle.edid_tree.specs.Tree.{device_named}
use Rattle.line_wave.specs.declared.Stretch.{Stretch}
use Rattle.line_wave.specs.declared.PulsesError.{PulsesError}
use Rattle.line_wave.specs.Bounds.{most_pulses, most_pulls, widest_pull}
use Rattle.device_features.specs.declared.keys.Key.{Key as KeyValue}
use Rattle.text_forms.specs.Forms.{Meaning, late_time_at, port_at, text_at, time_at, words_at}
use Rattle.room_lines.specs.declared.script.ScriptVerb.{ScriptVerb}
use Rattle.room_lines.specs.declared.script.ScriptVerb.TheVariants as verbs
use Rattle.room_event.specs.declared.event.Event.{Event}
use Rattle.room_event.specs.declared.event.Event.TheVariants.{Plug, Unplug, Key, Outside}
use Rattle.room_event.specs.declared.event.HeaderNames.{HeaderNames}
use Rattle.room_script.specs.Keys.{key_said}
use Rattle.room_script.specs.Lines.{first_of, time_said}
use Rattle.room_script.specs.Header.{header_names}
use Rattle.room_script.specs.Sending.{handed_in}
use Rattle.room_script.specs.Holding.{hold_of}
use Rattle.device_core.specs.declared.outside.Act.{Act}
use Rattle.device_core.specs.declared.outside.Act.TheVariants.{Empty}
use Rattle.room_script.specs.declared.script.TimedEvent.{TimedEvent}
use Rattle.text_core.specs.At.{at_word}
use Rattle.text_core.specs.declared.at.AtWord.{AtWord}
use Rattle.room_script.specs.declared.script.ScriptCause.{ScriptCause}
use Rattle.room_script.specs.declared.script.ScriptCause.TheVariants.{Width, Order, TooMany, End}
use Rattle.room_script.specs.Script.{is_before as is_over, Notes, last_time, last_end, notes_with_event, plug_checked, unplug_checked, key_read, key_time, act_read, send_read, frame_event, unless_fault, pulse_refusal, notes_with_pulse, touches, notes_with_pull, pin_falls, pin_stays_high, notes_with_level, pulses_ended, end_checked, IsHandedRead, IsLineRead, IsSaid}
use Rattle.expect_run.specs.Cuts.{is_early}

-- ---- what the lines so far say of a script that ends earlier

abbrev pub cut_notes : ℕ → Notes → Notes
cut_notes time notes = record { events = filter (is_early time) notes.events; pulses = notes.pulses; end = option_map (λ _. time) notes.end; pin = notes.pin }

-- and once that has ended
abbrev pub notes_ended : ℕ → Notes → Notes
notes_ended time notes = record { events = filter (is_early time) notes.events; pulses = pulses_ended notes.pin notes.pulses time; end = Some time; pin = None }

-- no event is after the last
abbrev pub AreInOrder : List TimedEvent → Type 0
AreInOrder events = All (λ (e : TimedEvent). e.at ≤ last_time events) events

at_place : List TimedEvent → ℕ → ℕ
at_place events place = option_map_or (λ event. event.at) (slice_get events place) 0

last_time-cons : (event next : TimedEvent) (events : List TimedEvent) → last_time (event ∷ next ∷ events) ≡ last_time (next ∷ events)
unfolding at_place
last_time-cons event next events =
    let long : length (event ∷ next ∷ events) - 1 ≡ suc (length events) = omega arith in
    let short : length (next ∷ events) - 1 ≡ length events = omega arith in
    ap (at_place (event ∷ next ∷ events)) long ∙ sym (ap (at_place (next ∷ events)) short)

last_push : (events : List TimedEvent) (event : TimedEvent) → last_time (events ++ event ∷ []) ≡ event.at
last_push [] event = refl
last_push (first ∷ []) event = last_time-cons first event []
last_push (first ∷ next ∷ events) event = last_time-cons first next (events ++ event ∷ []) ∙ last_push (next ∷ events) event

-- the last is no later than each bound of all
last_low : (m : ℕ) (events : List TimedEvent) → All (λ (e : TimedEvent). e.at ≤ m) events → last_time events ≤ m
last_low m [] h = omega arith
last_low m (event ∷ []) h = All-head (λ (e : TimedEvent). e.at ≤ m) event [] h
last_low m (event ∷ next ∷ events) h =
    subst (λ t. t ≤ m) (sym (last_time-cons event next events)) (last_low m (next ∷ events) (All-tail (λ (e : TimedEvent). e.at ≤ m) event (next ∷ events) h))

order_push : (events : List TimedEvent) (event : TimedEvent) → AreInOrder events → last_time events ≤ event.at → AreInOrder (events ++ event ∷ [])
order_push events event h after =
    let low : All (λ (e : TimedEvent). e.at ≤ event.at) events = All-weaker (λ (e : TimedEvent). e.at ≤ last_time events) (λ (e : TimedEvent). e.at ≤ event.at) (λ e l. omega (arith, l, after)) events h in
    let all : All (λ (e : TimedEvent). e.at ≤ event.at) (events ++ event ∷ []) = All-push (λ (e : TimedEvent). e.at ≤ event.at) events event low (omega arith) in
    subst (λ t. All (λ (e : TimedEvent). e.at ≤ t) (events ++ event ∷ [])) (sym (last_push events event)) all

early_at : (time at : ℕ) → nat_lt at time ≡ true → at ≤ time - 1
early_at time at h = grind (arith, nat_tests)

-- the early ones end before the time
pub early_end : (time : ℕ) (events : List TimedEvent) → All (λ (e : TimedEvent). is_early time e ≡ true) events → (nat_lt 0 (length events) && nat_le time (last_time events)) ≡ false
early_end time [] h = refl
early_end time (event ∷ events) h =
    let first : nat_lt event.at time ≡ true = All-head (λ (e : TimedEvent). is_early time e ≡ true) event events h in
    let low : last_time (event ∷ events) ≤ time - 1 = last_low (time - 1) (event ∷ events) (All-weaker (λ (e : TimedEvent). is_early time e ≡ true) (λ (e : TimedEvent). e.at ≤ time - 1) (λ e l. early_at time e.at l) (event ∷ events) h) in
    not_late (last_time (event ∷ events)) (early_some event.at first) low
  where
    early_some : (at : ℕ) → nat_lt at time ≡ true → 0 < time
    early_some at h = grind (arith, nat_tests)

    neither : (a b : Bool) → b ≡ false → (a && b) ≡ false
    neither true b e = e
    neither false b e = refl

    not_late : (t : ℕ) → 0 < time → t ≤ time - 1 → (nat_lt 0 (length (event ∷ events)) && nat_le time t) ≡ false
    not_late t some low = (let le : nat_le time t ≡ false = grind (arith, nat_tests) in neither (nat_lt 0 (length (event ∷ events))) (nat_le time t) le)

-- ---- one event's line

-- a line that is read as an event at a time
pub record Takes (time : Option ℕ) (line : ℕ) (R : Notes → Result Notes (AtWord ScriptCause) → Type 0) (notes next : Notes) : Type 0 where
  pub at : ℕ
  pub event : Event
  pub time_is : time ≡ Some at
  pub reads : (n : Notes) → R n (notes_with_event n line at event)
  pub now : Ok next ≡ notes_with_event notes line at event

-- what a function of the notes gives
abbrev By : (Notes → Result Notes (AtWord ScriptCause)) → Notes → Result Notes (AtWord ScriptCause) → Type 0
By f n read = read ≡ f n

plug_takes : (line time port : ℕ) (child parent : Option ℕ) (notes next : Notes) → Ok next ≡ plug_checked notes line time port child parent → Takes (Some time) line (By (λ n. plug_checked n line time port child parent)) notes next
plug_takes line time port None parent notes next e = cc
plug_takes line time port (Some c) None notes next e = cc
plug_takes line time port (Some c) (Some d) notes next e = record { at = time; event = Plug c d port; time_is = refl; reads = λ n. refl; now = e }

unplug_takes : (line time : ℕ) (child : Option ℕ) (notes next : Notes) → Ok next ≡ unplug_checked notes line time child → Takes (Some time) line (By (λ n. unplug_checked n line time child)) notes next
unplug_takes line time None notes next e = cc
unplug_takes line time (Some c) notes next e = record { at = time; event = Unplug c; time_is = refl; reads = λ n. refl; now = e }

key_takes : (line : ℕ) (press : Bool) (key : Result KeyValue (AtWord ScriptCause)) (time device : Option ℕ) (notes next : Notes) → Ok next ≡ key_read notes line press key time device
    → Takes time line (By (λ n. key_read n line press key time device)) notes next
key_takes line press (Err fault) time device notes next e = cc
key_takes line press (Ok key) None device notes next e = cc
key_takes line press (Ok key) (Some t) None notes next e = cc
key_takes line press (Ok key) (Some t) (Some d) notes next e = record { at = t; event = Key d key press; time_is = refl; reads = λ n. refl; now = e }

act_takes : (line : ℕ) (act : Option Act) (time device : Option ℕ) (notes next : Notes) → Ok next ≡ act_read notes line act time device
    → Takes time line (By (λ n. act_read n line act time device)) notes next
act_takes line None time device notes next e = cc
act_takes line (Some act) None device notes next e = cc
act_takes line (Some act) (Some t) None notes next e = cc
act_takes line (Some act) (Some t) (Some d) notes next e = record { at = t; event = Outside d act; time_is = refl; reads = λ n. refl; now = e }

send_takes : (line word : ℕ) (time : Option ℕ) (attempts : Option (Option ℕ)) (device : Option ℕ) (names : Option (Option HeaderNames)) (frame : Result (List ℕ) (AtWord ScriptCause)) (notes next : Notes)
    → Ok next ≡ send_read notes line word time attempts device names frame → Takes time line (By (λ n. send_read n line word time attempts device names frame)) notes next
send_takes line word None attempts device names frame notes next e = cc
send_takes line word (Some t) None device names frame notes next e = cc
send_takes line word (Some t) (Some m) None names frame notes next e = cc
send_takes line word (Some t) (Some m) (Some d) None frame notes next e = cc
send_takes line word (Some t) (Some m) (Some d) (Some names) (Err fault) notes next e = cc
send_takes line word (Some t) (Some m) (Some d) (Some names) (Ok frame) notes next e = record { at = t; event = frame_event d (record { line = line; attempts = m }) names frame; time_is = refl; reads = λ n. refl; now = e }

handed_takes : (tree : List Node) (line : ℕ) (time : Option ℕ) (name : List ℕ) (at : ℕ) (attempts : Option (Option ℕ)) (words : List (List ℕ)) (notes next : Notes) → IsHandedRead tree notes line time name at attempts words (Ok next)
    → Takes time line (λ n read. IsHandedRead tree n line time name at attempts words read) notes next
handed_takes tree line time name at attempts [] notes next h = cc
handed_takes tree line time name at attempts (word ∷ words) notes next h =
    let s = send_takes line at time attempts (device_named tree name) (header_names tree word) h.0 notes next h.2 in
    record { at = s.at; event = s.event; time_is = s.time_is; reads = λ n. (h.0, h.1, s.reads n); now = s.now }

-- what the values of a row make of any notes
abbrev pub Says : List Node → ℕ → ScriptVerb → List Meaning → Notes → Result Notes (AtWord ScriptCause) → Type 0
Says tree line verb values n read = IsSaid tree n (length n.pulses) line verb values read

-- a row of an event
pub event_takes : (tree : List Node) (line : ℕ) (verb : ScriptVerb) (values : List Meaning) (notes next : Notes) → first_of verb ≡ codes "at" → Says tree line verb values notes (Ok next)
    → Takes (time_said verb values) line (Says tree line verb values) notes next
event_takes tree line (verbs.Press word) values notes next at h = key_takes line true (key_said word values) (key_time word values) (device_named tree (text_at values 3)) notes next h
event_takes tree line (verbs.Release word) values notes next at h = key_takes line false (key_said word values) (key_time word values) (device_named tree (text_at values 3)) notes next h
event_takes tree line verbs.Plug values notes next at h = plug_takes line (time_at values 1) (port_at values 5) (device_named tree (text_at values 3)) (device_named tree (text_at values 4)) notes next h
event_takes tree line verbs.Unplug values notes next at h = unplug_takes line (time_at values 1) (device_named tree (text_at values 3)) notes next h
event_takes tree line verbs.Send values notes next at h =
    let handed = handed_in (words_at values 4) in
    handed_takes tree line (late_time_at values 1) (text_at values 3) handed.at handed.attempts handed.words notes next h
event_takes tree line verbs.Hold values notes next at h = act_takes line (hold_of (text_at values 4)) (late_time_at values 1) (device_named tree (text_at values 3)) notes next h
event_takes tree line verbs.Drop values notes next at h = act_takes line (Some Empty) (Some (time_at values 1)) (device_named tree (text_at values 3)) notes next h
event_takes tree line verbs.Pulse values notes next at h = cc
event_takes tree line verbs.Pull values notes next at h = cc
event_takes tree line verbs.Pin values notes next at h = cc
event_takes tree line verbs.End values notes next at h = cc

-- ---- one line

-- what a line gives that is not the end, and then one of the script that ends earlier
pub record Goes (tree : List Node) (time line : ℕ) (text cut : List ℕ) (notes next : Notes) : Type 0 where
  pub order : AreInOrder next.events
  pub same_end : next.end ≡ notes.end
  pub cut_is : IsLineRead tree (cut_notes time notes) (length notes.pulses) line cut (Ok (cut_notes time next))

-- and of the end
pub record Ends (tree : List Node) (time line : ℕ) (cut : List ℕ) (notes next : Notes) : Type 0 where
  pub at : ℕ
  pub next_is : next ≡ record notes { pulses = pulses_ended notes.pin notes.pulses at; end = Some at; pin = None }
  pub cut_is : IsLineRead tree (cut_notes time notes) (length notes.pulses) line cut (Ok (notes_ended time notes))

abbrev pub Gone : List Node → ℕ → ℕ → List ℕ → List ℕ → Notes → Notes → Type 0
Gone tree time line text cut notes next = Goes tree time line text cut notes next ⊎ Ends tree time line cut notes next

pub some_end : (time : ℕ) (end : Option ℕ) → is_some (option_map (λ (t : ℕ). time) end) ≡ is_some end
some_end time None = refl
some_end time (Some t) = refl

-- an event that is taken
pub record Taken (notes : Notes) (line at : ℕ) (event : Event) (next : Notes) : Type 0 where
  pub after : nat_lt at (last_time notes.events) ≡ false
  pub open_end : is_some notes.end ≡ false
  pub next_is : next ≡ record notes { events = notes.events ++ record { line = line; at = at; event = event } ∷ [] }

-- two readings that give the same
abbrev pub AreSame : Notes → Notes → Type 0
AreSame a b = ◌≡◌ {A = Result Notes (AtWord ScriptCause)} (Ok a) (Ok b)

pub ok_same : (a b : Notes) → AreSame a b → a ≡ b
ok_same a b e = cc

pub taken : (notes : Notes) (line at : ℕ) (event : Event) (next : Notes) → Ok next ≡ notes_with_event notes line at event → Taken notes line at event next
taken notes line at event next e = by (nat_lt at (last_time notes.events)) (is_some notes.end) refl refl e
  where
    more : Notes
    more = record notes { events = notes.events ++ record { line = line; at = at; event = event } ∷ [] }

    by : (a b : Bool) → nat_lt at (last_time notes.events) ≡ a → is_some notes.end ≡ b → Ok next ≡ (if a then Err (at_word 1 Order) else if b then Err (at_word 0 End) else Ok more) → Taken notes line at event next
    by true b p q e = cc
    by false true p q e = cc
    by false false p q e = record { after = p; open_end = q; next_is = ok_same next more e }

-- an event that is early is kept
early_kept : (notes next : Notes) (line at time : ℕ) (event : Event) → AreInOrder notes.events → Taken notes line at event next → nat_lt at time ≡ true
    → notes_with_event (cut_notes time notes) line at event ≡ Ok (cut_notes time next)
early_kept notes next line at time event order t early =
    let one : TimedEvent = record { line = line; at = at; event = event } in
    let low : last_time notes.events ≤ at = not_before at (last_time notes.events) t.after in
    let last : last_time (filter (is_early time) notes.events) ≤ at =
    let l = last_low (last_time notes.events) (filter (is_early time) notes.events) (All-filter (is_early time) (λ (e : TimedEvent). e.at ≤ last_time notes.events) notes.events order) in omega (arith, l, low) in
    let after : nat_lt at (last_time (filter (is_early time) notes.events)) ≡ false = not_after at (last_time (filter (is_early time) notes.events)) last in
    let unended : is_some (option_map (λ (t : ℕ). time) notes.end) ≡ false = some_end time notes.end ∙ t.open_end in
    let more : filter (is_early time) (notes.events ++ one ∷ []) ≡ filter (is_early time) notes.events ++ one ∷ [] =
    filter-append (is_early time) notes.events (one ∷ []) ∙ ap (λ b. filter (is_early time) notes.events ++ cond b (one ∷ []) []) early in
    let whole : cut_notes time next ≡ record (cut_notes time notes) { events = filter (is_early time) notes.events ++ one ∷ [] } =
    ap (cut_notes time) t.next_is ∙ ap (λ (es : List TimedEvent). record (cut_notes time notes) { events = es }) more in
    chosen (nat_lt at (last_time (filter (is_early time) notes.events))) (is_some (option_map (λ (t : ℕ). time) notes.end))
    (record (cut_notes time notes) { events = filter (is_early time) notes.events ++ one ∷ [] }) after unended ∙ ap Ok (sym whole)
  where
    not_before : (a l : ℕ) → nat_lt a l ≡ false → l ≤ a
    not_before a l h = grind (arith, nat_tests)

    not_after : (a l : ℕ) → l ≤ a → nat_lt a l ≡ false
    not_after a l h = grind (arith, nat_tests)

    chosen : (a b : Bool) (n : Notes) → a ≡ false → b ≡ false → (if a then Err (at_word 1 Order) else if b then Err (at_word 0 End) else Ok n) ≡ Ok n
    chosen true b n p q = cc
    chosen false true n p q = cc
    chosen false false n p q = refl

-- one that is not is left out
late_gone : (notes next : Notes) (line at time : ℕ) (event : Event) → Taken notes line at event next → nat_lt at time ≡ false → cut_notes time next ≡ cut_notes time notes
late_gone notes next line at time event t late =
    let one : TimedEvent = record { line = line; at = at; event = event } in
    let more : filter (is_early time) (notes.events ++ one ∷ []) ≡ filter (is_early time) notes.events =
    filter-append (is_early time) notes.events (one ∷ []) ∙ ap (λ b. filter (is_early time) notes.events ++ cond b (one ∷ []) []) late ∙ append-nil (filter (is_early time) notes.events) in
    ap (cut_notes time) t.next_is ∙ ap (λ (es : List TimedEvent). record (cut_notes time notes) { events = es }) more

-- a line with an event, where it is not skipped
pub event_goes : (tree : List Node) (time line at : ℕ) (text : List ℕ) (event : Event) (notes next : Notes) → AreInOrder notes.events → Taken notes line at event next
    → ((n : Notes) → IsLineRead tree n (length n.pulses) line text (notes_with_event n line at event)) → Goes tree time line text (if nat_lt at time then text else []) notes next
event_goes tree time line at text event notes next order t reads = record {
  order = subst (λ (n : Notes). AreInOrder n.events) (sym t.next_is) (order_push notes.events (record { line = line; at = at; event = event }) order (not_before at (last_time notes.events) t.after));
  same_end = ap (λ (n : Notes). n.end) t.next_is;
  cut_is = by (nat_lt at time) refl;
}
  where
    not_before : (a l : ℕ) → nat_lt a l ≡ false → l ≤ a
    not_before a l h = grind (arith, nat_tests)

    by : (b : Bool) → nat_lt at time ≡ b → IsLineRead tree (cut_notes time notes) (length notes.pulses) line (if b then text else []) (Ok (cut_notes time next))
    by true e = subst (λ r. IsLineRead tree (cut_notes time notes) (length notes.pulses) line text r) (early_kept notes next line at time event order t e) (reads (cut_notes time notes))
    by false e = ap Ok (late_gone notes next line at time event t e)

-- ---- pulses

-- a line that is no event and not the end, and what it gives in the script that ends earlier
pub record Stays (time : ℕ) (notes next : Notes) (cut : Result Notes (AtWord ScriptCause)) : Type 0 where
  pub events : next.events ≡ notes.events
  pub same_end : next.end ≡ notes.end
  pub cut_is : cut ≡ Ok (cut_notes time next)

-- one that stands above the end
pub record Opens (time : ℕ) (notes next : Notes) (cut : Result Notes (AtWord ScriptCause)) : Type 0 where
  pub stays : Stays time notes next cut
  pub open_end : is_some notes.end ≡ false

opens : (time : ℕ) (notes next found : Notes) → AreSame next found → found.events ≡ notes.events → found.end ≡ notes.end → is_some notes.end ≡ false
    → Opens time notes next (if is_some (option_map (λ (t : ℕ). time) notes.end) then Err (at_word 0 End) else Ok (cut_notes time found))
opens time notes next found e events same_end above =
    let same = ok_same next found e in
    let unended : is_some (option_map (λ (t : ℕ). time) notes.end) ≡ false = some_end time notes.end ∙ above in
    record {
      stays = record {
        events = ap (λ (n : Notes). n.events) same ∙ events;
        same_end = ap (λ (n : Notes). n.end) same ∙ same_end;
        cut_is = ap (λ b. if b then Err (at_word 0 End) else Ok (cut_notes time found)) unended ∙ ap (λ (n : Notes). Ok (cut_notes time n)) (sym same);
      };
      open_end = above;
    }

pub pulse_goes : (time : ℕ) (notes next : Notes) (pulse : Stretch) → Ok next ≡ notes_with_pulse notes (length notes.pulses) pulse → Opens time notes next (notes_with_pulse (cut_notes time notes) (length notes.pulses) pulse)
pulse_goes time notes next pulse e = faulted (pulse_refusal notes.pin (last_end notes.pulses) pulse) e
  where
    more : Notes → Notes
    more n = record n { pulses = n.pulses ++ pulse ∷ [] }

    by : (a b : Bool) → is_some notes.end ≡ b → Ok next ≡ (if a then Err (at_word 0 TooMany) else if b then Err (at_word 0 End) else Ok (more notes))
        → Opens time notes next (if a then Err (at_word 0 TooMany) else if is_some (option_map (λ (t : ℕ). time) notes.end) then Err (at_word 0 End) else Ok (more (cut_notes time notes)))
    by true b p e = cc
    by false true p e = cc
    by false false p e = opens time notes next (more notes) e refl refl p

    faulted : (o : Option PulsesError) → Ok next ≡ unless_fault o notes (length notes.pulses) pulse → Opens time notes next (unless_fault o (cut_notes time notes) (length notes.pulses) pulse)
    faulted None e = by (nat_le most_pulses (length notes.pulses)) (is_some notes.end) refl e
    faulted (Some fault) e = cc

-- ---- pulls

pub pull_goes : (time : ℕ) (notes next : Notes) (from width : ℕ) → Ok next ≡ notes_with_pull notes (length notes.pulses) from width → Opens time notes next (notes_with_pull (cut_notes time notes) (length notes.pulses) from width)
pull_goes time notes next from width e =
    by (width == 0 || nat_lt widest_pull width) (is_some notes.pin || touches (last_end notes.pulses) from) (nat_le most_pulls (length notes.pulses)) (is_some notes.end) refl e
  where
    more : Notes → Notes
    more n = record n { pulses = n.pulses ++ record { from = from; to = from + width } ∷ [] }

    by : (misfits near full ended : Bool) → is_some notes.end ≡ ended
        → Ok next ≡ (if misfits then Err (at_word 2 Width) else if near then Err (at_word 1 Order) else if full then Err (at_word 0 TooMany) else if ended then Err (at_word 0 End) else Ok (more notes))
        → Opens time notes next (if misfits then Err (at_word 2 Width) else if near then Err (at_word 1 Order) else if full then Err (at_word 0 TooMany)
        else if is_some (option_map (λ (t : ℕ). time) notes.end) then Err (at_word 0 End) else Ok (more (cut_notes time notes)))
    by true near full ended p e = cc
    by false true full ended p e = cc
    by false false true ended p e = cc
    by false false false true p e = cc
    by false false false false p e = opens time notes next (more notes) e refl refl p

-- ---- the pin

fall_goes : (time : ℕ) (notes next : Notes) (at : ℕ) → Ok next ≡ pin_falls notes (length notes.pulses) at → Opens time notes next (pin_falls (cut_notes time notes) (length notes.pulses) at)
fall_goes time notes next at e = by (touches (last_end notes.pulses) at) (nat_le most_pulls (length notes.pulses)) (is_some notes.end) refl e
  where
    fallen : Notes → Notes
    fallen n = record n { pin = Some at }

    by : (near full ended : Bool) → is_some notes.end ≡ ended
        → Ok next ≡ (if near then Err (at_word 1 Order) else if full then Err (at_word 0 TooMany) else if ended then Err (at_word 0 End) else Ok (fallen notes))
        → Opens time notes next (if near then Err (at_word 1 Order) else if full then Err (at_word 0 TooMany)
        else if is_some (option_map (λ (t : ℕ). time) notes.end) then Err (at_word 0 End) else Ok (fallen (cut_notes time notes)))
    by true full ended p e = cc
    by false true ended p e = cc
    by false false true p e = cc
    by false false false p e = opens time notes next (fallen notes) e refl refl p

high_goes : (time : ℕ) (notes next : Notes) (at : ℕ) → Ok next ≡ pin_stays_high notes at → Opens time notes next (pin_stays_high (cut_notes time notes) at)
high_goes time notes next at e = by (is_over (last_end notes.pulses) at) (is_some notes.end) refl e
  where
    by : (early ended : Bool) → is_some notes.end ≡ ended → Ok next ≡ (if early then Err (at_word 1 Order) else if ended then Err (at_word 0 End) else Ok notes)
        → Opens time notes next (if early then Err (at_word 1 Order) else if is_some (option_map (λ (t : ℕ). time) notes.end) then Err (at_word 0 End) else Ok (cut_notes time notes))
    by true ended p e = cc
    by false true p e = cc
    by false false p e = opens time notes next notes e refl refl p

stays : (time : ℕ) (notes next found : Notes) → AreSame next found → found.events ≡ notes.events → found.end ≡ notes.end → Stays time notes next (Ok (cut_notes time found))
stays time notes next found e events same_end =
    let same = ok_same next found e in
    record {
      events = ap (λ (n : Notes). n.events) same ∙ events;
      same_end = ap (λ (n : Notes). n.end) same ∙ same_end;
      cut_is = ap (λ (n : Notes). Ok (cut_notes time n)) (sym same);
    }

pub level_goes : (time : ℕ) (notes next : Notes) (at : ℕ) (pin : Option ℕ) (level : Bool) → Ok next ≡ notes_with_level notes (length notes.pulses) at pin level
    → Stays time notes next (notes_with_level (cut_notes time notes) (length notes.pulses) at pin level)
level_goes time notes next at None false e = (fall_goes time notes next at e).stays
level_goes time notes next at None true e = (high_goes time notes next at e).stays
level_goes time notes next at (Some from) false e = by (nat_lt at from) e
  where
    by : (early : Bool) → Ok next ≡ (if early then Err (at_word 1 Order) else Ok notes) → Stays time notes next (if early then Err (at_word 1 Order) else Ok (cut_notes time notes))
    by true e = cc
    by false e = stays time notes next notes e refl refl
level_goes time notes next at (Some from) true e = by (nat_le at from) e
  where
    risen : Notes → Notes
    risen n = record n { pulses = n.pulses ++ record { from = from; to = at } ∷ []; pin = None }

    by : (early : Bool) → Ok next ≡ (if early then Err (at_word 1 Order) else Ok (risen notes)) → Stays time notes next (if early then Err (at_word 1 Order) else Ok (risen (cut_notes time notes)))
    by true e = cc
    by false e = stays time notes next (risen notes) e refl refl

-- a line of a pin that is high stands above the end
pub pin_opens : (notes next : Notes) (at : ℕ) (level : Bool) → notes.pin ≡ None → Ok next ≡ notes_with_level notes (length notes.pulses) at notes.pin level → is_some notes.end ≡ false
pin_opens notes next at level high e = by level (subst (λ (pin : Option ℕ). Ok next ≡ notes_with_level notes (length notes.pulses) at pin level) high e)
  where
    by : (level : Bool) → Ok next ≡ notes_with_level notes (length notes.pulses) at None level → is_some notes.end ≡ false
    by false e = (fall_goes 0 notes next at e).open_end
    by true e = (high_goes 0 notes next at e).open_end

-- ---- the end

pub end_given : (notes next : Notes) (t : ℕ) → Ok next ≡ end_checked notes t → (is_some notes.end ≡ false) × (next ≡ record notes { pulses = pulses_ended notes.pin notes.pulses t; end = Some t; pin = None })
end_given notes next t e = by (is_some notes.end) (nat_lt 0 (length notes.events) && nat_le t (last_time notes.events)) refl e
  where
    over : Notes
    over = record notes { pulses = pulses_ended notes.pin notes.pulses t; end = Some t; pin = None }

    by : (a b : Bool) → is_some notes.end ≡ a → Ok next ≡ (if a then Err (at_word 0 End) else if b then Err (at_word 1 End) else Ok over) → (is_some notes.end ≡ false) × (next ≡ over)
    by true b p e = cc
    by false true p e = cc
    by false false p e = (p, ok_same next over e)
