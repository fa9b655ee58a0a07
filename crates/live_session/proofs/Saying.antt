-- What a session says, as lines or as objects.
use Rattle.std.proofs.Common.{◌≡◌, ℕ, zero, suc, ◌+◌, ◌<◌, ◌≤◌, Bool, true, false, nat_lt, get_or, if◌then◌else◌, codes, List, [], ◌∷◌, ◌++◌, length, drop, slice_get, Option, Some, None, Result, Ok, Err, IfSome, MatchOption, refl, sym, ap, ap₂, subst, ◌∙◌, arith}
use Rattle.std.specs.List.{flat_map, range_with_len}
use Rattle.text_core.specs.Adds.{Adds, Tally}
use Rattle.text_core.specs.declared.at.AtWord.{AtWord}
use Rattle.text_core.specs.Held.{held_bytes}
use Rattle.text_core.specs.declared.held.Held.{Held}
use Rattle.text_core.proofs.Adding.{then}
use Rattle.line_wave.specs.declared.Stretch.{Stretch}
use Rattle.line_rounds.specs.declared.Outcome.{Outcome}
use Rattle.edid_core.specs.declared.edid.Edid.{Edid}
use Rattle.edid_tree.specs.Node.{Node}
use Rattle.edid_tree.specs.Path.{is_on_wire}
use Rattle.device_core.specs.State.{State}
use Rattle.record_core.specs.Cells.{PlainCell}
use Rattle.record_core.specs.Records.{line_of, record_text}
use Rattle.record_core.specs.declared.cell.Form.{Form}
use Rattle.record_core.specs.declared.cell.Form.TheVariants.{Text, Json}
use Rattle.room_event.specs.declared.event.EventError.{EventError}
use Rattle.room_net.specs.State.{NetState}
use Rattle.room_net.specs.Apply.{event_fault, net_after}
use Rattle.room_script.specs.Script.{Notes}
use Rattle.room_script.specs.declared.script.ScriptCause.{ScriptCause}
use Rattle.room_script.specs.declared.script.TimedEvent.{TimedEvent}
use Rattle.room_trace.specs.Notes.{moved_note, moved_notes}
use Rattle.room_trace.specs.PortText.{port_texts, texts_of_new}
use Rattle.room_trace.specs.Records.{by_form, end_text, event_text, round_text, state_text}
use Rattle.room_run.specs.Happening.{IsApplied, OfEvent, OfRound}
use Rattle.room_run.specs.Run.{end_reported, start_reported}
use Rattle.live_session.specs.declared.answer.RefusalCause.TheVariants.{Past}
use Rattle.live_session.specs.declared.command.SessionCommand.{SessionCommand}
use Rattle.live_session.specs.declared.command.SessionCommand.TheVariants as commands
use Rattle.live_session.specs.declared.edges.InstantRange.{InstantRange}
use Rattle.live_session.specs.declared.live.Step.{Step}
use Rattle.live_session.specs.declared.live.Step.TheVariants.{Refuse, Idle, Show, Go, Edge, Finish}
use Rattle.live_session.specs.Command.{command_of, pin_time}
use Rattle.live_session.specs.Edges.{edges_reported}
use Rattle.live_session.specs.Session.{Session, Standing, is_late, refuse, shown_text, step_by, step_noted, step_to, step_wait, with_line_counted, IsEdgeStep, IsEdgeStepBy, IsWaitStep, IsWaitStepBy, IsStep, IsStepBy, standing}
use Rattle.live_session.specs.Shown.{IsMade, IsShow, IsStateMade}
use Rattle.live_session.specs.Turns.{form_of, moved_if, reporting_of, said_of, sent_if, text_with, turn_notes}
use Rattle.live_session.proofs.Below.{event_keeps}
use Rattle.live_session.proofs.Going.{form_back}

-- ---- a record whose line this is

recorded_is : (form : Form) (line kind : List ℕ) (cells : List PlainCell) → line_of cells ≡ line → record_text form kind cells ≡ by_form form line kind cells
recorded_is Text line kind cells e = e
recorded_is Json line kind cells e = refl

pub recorded : (form : Form) (line kind : List ℕ) (cells : List PlainCell) (a b : Tally) → line_of cells ≡ line → Adds a b (record_text form kind cells) → Adds a b (by_form form line kind cells)
recorded form line kind cells a b e adds = subst (λ (t : List ℕ). Adds a b t) (recorded_is form line kind cells e) adds

-- ---- at the start and at the end

pub start_is : (form : Form) (edid : Option Edid) (net : NetState) → port_texts form 0 edid (λ device. false) net.tree ≡ start_reported (reporting_of form edid) net
start_is Text edid net = refl
start_is Json edid net = refl

pub end_is : (form : Form) (edid : Option Edid) (end : ℕ) (net : NetState) → flat_map (state_text form) net.devices ++ end_text form end ≡ end_reported (reporting_of form edid) end net
end_is Text edid end net = refl
end_is Json edid end net = refl

-- ---- of a turn

-- parts that are the same for each number of a range
same_parts : (f g : ℕ → List ℕ) (a n : ℕ) → ((k : ℕ) → k < a + n → f k ≡ g k) → flat_map f (range_with_len a n) ≡ flat_map g (range_with_len a n)
same_parts f g a zero h = refl
same_parts f g a (suc n) h = ap₂ (λ (x y : List ℕ). x ++ y) (h a (omega arith)) (same_parts f g (a + 1) n (λ k b. h k (omega arith)))

-- what is told of ports goes by the devices of the tree alone
same_ports : (form : Form) (at : ℕ) (edid : Option Edid) (f g : ℕ → Bool) (tree : List Node) → ((k : ℕ) → k < length tree → f k ≡ g k) → port_texts form at edid f tree ≡ port_texts form at edid g tree
same_ports form at None f g tree h = refl
same_ports form at (Some root) f g tree h =
    same_parts (λ device. texts_of_new form at root tree (f device) device) (λ device. texts_of_new form at root tree (g device) device) 0 (length tree)
    (λ k b. ap (λ (was : Bool). texts_of_new form at root tree was k) (h k (omega arith)))

event_is : (form : Form) (at : ℕ) (edid : Option Edid) (e : TimedEvent) (s : NetState)
    → event_text form at e.line (event_fault s e.event) ++ port_texts form at edid (is_on_wire s.tree) (net_after at e.event s).tree ≡ said_of form edid (OfEvent at e s)
event_is Text at edid e s = refl
event_is Json at edid e s = refl

-- what is told of devices that came or left goes by those alone
same_moved : (form : Form) (f g : ℕ → Bool) (n number : ℕ) (devices : List State) → number + length devices ≤ n → ((k : ℕ) → k < n → f k ≡ g k) → moved_notes form f number devices ≡ moved_notes form g number devices
same_moved form f g n number [] fit h = refl
same_moved form f g n number (d ∷ devices) fit h =
    ap₂ (λ (x y : List ℕ). x ++ y) (ap (λ (was : Bool). moved_note form was d) (h number (omega (arith, fit)))) (same_moved form f g n (number + 1) devices (omega (arith, fit)) h)

same_notes : (seats : Bool) (form : Form) (f g : ℕ → Bool) (devices : List State) → ((k : ℕ) → k < length devices → f k ≡ g k) → moved_if seats form f devices ≡ moved_if seats form g devices
same_notes false form f g devices h = refl
same_notes true form f g devices h = same_moved form f g (length devices) 0 devices (omega arith) h

pub event_said : (seats : Bool) (form : Form) (at : ℕ) (edid : Option Edid) (span : InstantRange) (e : TimedEvent) (before after : NetState) (refused : Option EventError) (was : List Bool) (tree : List Node) (devices : List State)
    → (a b c d : Tally) → IsApplied at e before refused was after → tree ≡ after.tree → devices ≡ after.devices → length after.devices ≡ length after.tree → Adds a b (event_text form at e.line refused) → Adds b c (port_texts form at edid (λ device. get_or was device false) tree)
    → Adds c d (moved_if seats form (λ device. get_or was device false) devices) → Adds a d (text_with seats form edid span (OfEvent at e before))
event_said seats form at edid span e before after refused was tree devices a b c d applied tree_is devices_are fit event ports moved =
    let kept = event_keeps at e.event before after applied.after_is in
    let count : length tree ≡ length before.tree = ap length tree_is ∙ kept.count in
    let there : tree ≡ (net_after at e.event before).tree = tree_is ∙ ap (λ (x : NetState). x.tree) applied.after_is in
    let known = same_ports form at edid (λ device. get_or was device false) (is_on_wire before.tree) tree (λ k h. applied.was_is k (omega (arith, h, count))) in
    let same = known ∙ ap (port_texts form at edid (is_on_wire before.tree)) there in
    let whole = ap₂ (λ (x y : List ℕ). x ++ y) (ap (event_text form at e.line) applied.refused_is) same ∙ event_is form at edid e before in
    let many : length devices ≡ length before.tree = ap length devices_are ∙ fit ∙ kept.count in
    let noted = same_notes seats form (λ device. get_or was device false) (is_on_wire before.tree) devices (λ k h. applied.was_is k (omega (arith, h, many)))
    ∙ ap (moved_if seats form (is_on_wire before.tree)) (devices_are ∙ ap (λ (x : NetState). x.devices) applied.after_is) in
    (then) a c d (said_of form edid (OfEvent at e before)) (turn_notes seats form (OfEvent at e before))
    (subst (λ (t : List ℕ). Adds a c t) whole ((then) a b c (event_text form at e.line refused) (port_texts form at edid (λ device. get_or was device false) tree) event ports))
    (subst (λ (t : List ℕ). Adds c d t) noted moved)

round_is : (form : Form) (edid : Option Edid) (begin : ℕ) (before : NetState) (o : Outcome) → round_text form before.devices o ≡ said_of form edid (OfRound begin before o)
round_is Text edid begin before o = refl
round_is Json edid begin before o = refl

pub round_said : (seats : Bool) (form : Form) (edid : Option Edid) (span : InstantRange) (begin : ℕ) (before : NetState) (o : Outcome) (wave : List Stretch) (devices others : List State) (a b c d : Tally)
    → wave ≡ o.wave → devices ≡ before.devices → others ≡ before.devices → Adds a b (edges_reported form span wave) → Adds b c (round_text form devices o) → Adds c d (sent_if seats form o others)
    → Adds a d (text_with seats form edid span (OfRound begin before o))
round_said seats form edid span begin before o wave devices others a b c d line same also edges round sent =
    let told : edges_reported form span wave ≡ edges_reported form span o.wave = ap (edges_reported form span) line in
    let said : round_text form devices o ≡ said_of form edid (OfRound begin before o) = ap (λ (ds : List State). round_text form ds o) same ∙ round_is form edid begin before o in
    let noted : sent_if seats form o others ≡ turn_notes seats form (OfRound begin before o) = ap (sent_if seats form o) also in
    (then) a b d (edges_reported form span o.wave) (said_of form edid (OfRound begin before o) ++ turn_notes seats form (OfRound begin before o)) (subst (λ (t : List ℕ). Adds a b t) told edges)
    ((then) b c d (said_of form edid (OfRound begin before o)) (turn_notes seats form (OfRound begin before o)) (subst (λ (t : List ℕ). Adds b c t) said round) (subst (λ (t : List ℕ). Adds c d t) noted sent))

-- ---- a state that is shown

pub object_shown : (form : Form) (d : State) (state : List ℕ) (a b : Tally) → form ≡ Json → IsStateMade form d state → Adds a b (codes "{\"line\":\"= " ++ drop 9 state) → Adds a b (shown_text form d)
object_shown form d state a b json made added =
    subst (λ (f : Form). Adds a b (shown_text f d)) (sym json)
    (subst (λ (t : List ℕ). Adds a b (codes "{\"line\":\"= " ++ drop 9 t)) (subst (λ (f : Form). IsStateMade f d state) json made) added)

-- none of the steps of a line of the script shows a device
not_noted : (s : Standing) (given : Option ℕ) (read : Result Notes (AtWord ScriptCause)) → IsShow (step_noted s given read) → ⊥
not_noted s given (Err fault) is = is
not_noted s given (Ok new) is = by_late (is_late s given new) is
  where
    by_end : (end : Option ℕ) → IsShow (step_by end) → ⊥
    by_end None k = k
    by_end (Some end) k = k

    by_late : (late : Bool) → IsShow (if late then refuse 1 Past else step_by new.end) → ⊥
    by_late true k = k
    by_late false k = by_end new.end k

not_waited : (soon : Option ℕ) → IsShow (step_wait soon) → ⊥
not_waited None is = is
not_waited (Some time) is = is

not_to : (s : Session) (time : Option ℕ) → IsShow (step_to s time) → ⊥
not_to s None is = is
not_to s (Some time) is = by_test (nat_lt time s.horizon) is
  where
    by_test : (b : Bool) → IsShow (if b then refuse 2 Past else Go) → ⊥
    by_test true k = k
    by_test false k = k

not_wait : (s t : Session) (time : Option ℕ) (step : Step) → IsWaitStep s time step t → IsShow step → ⊥
not_wait s t None step is show = subst IsShow is.0 show
not_wait s t (Some until) step is show = by_test (nat_lt until s.horizon) is
  where
    by_test : (b : Bool) → IsWaitStepBy b s until step t → ⊥
    by_test true k = subst IsShow k.0 show
    by_test false k = subst IsShow k.0 show

not_edge : (s t : Session) (time : Option ℕ) (step : Step) → IsEdgeStep s time step t → IsShow step → ⊥
not_edge s t None step is show = subst IsShow is.0 show
not_edge s t (Some until) step is show = by_test (nat_lt until s.horizon) is
  where
    by_test : (b : Bool) → IsEdgeStepBy b s until step t → ⊥
    by_test true k = subst IsShow k.0 show
    by_test false k = subst IsShow k.0 show

shows : (s : Session) (command : SessionCommand) (line : List ℕ) (step : Step) (t : Session) → IsStepBy s command line step t → IsShow step → t ≡ s
shows s commands.Script line step t is show = absurd (not_noted (standing s) (pin_time line) is.0 (subst IsShow is.2 show))
shows s commands.Wait line step t is show = absurd (not_waited is.0 (subst IsShow is.2 show))
shows s (commands.WaitUntil time) line step t is show = absurd (not_wait s t time step is show)
shows s (commands.RunTo time) line step t is show = absurd (not_to s time (subst IsShow is.0 show))
shows s (commands.Show device) line step t is show = is.1
shows s (commands.Edge time) line step t is show = absurd (not_edge s t time step is show)
shows s (commands.Edges edges) line step t is show = absurd (subst IsShow is.0 show)
shows s (commands.Seats seats) line step t is show = absurd (subst IsShow is.0 show)

-- a line that shows a device changes nothing but the count of lines
pub shows_alone : (s : Session) (line : List ℕ) (step : Step) (t : Session) → IsStep s line step t → IsShow step → t ≡ with_line_counted s
shows_alone s line step t is show = shows (with_line_counted s) (command_of s.tree line) line step t is show

-- what was made of a device by its number
same_shown : (x : Option State) (a b : State) → x ≡ Some a → x ≡ Some b → a ≡ b
same_shown x a b e f = cc

pub made_shown : (s : Session) (device : ℕ) (d : State) (form : Form) (result : Option Held) → form ≡ form_of s.reporting → slice_get s.place.net.devices device ≡ Some d
    → IfSome result (λ held. IsStateMade form d (held_bytes held)) → MatchOption result (IsShow (Show device)) (λ held. IsMade s (Show device) (held_bytes held))
made_shown s device d form None says found made = tt
made_shown s device d form (Some held) says found made = λ other e.
    subst (λ (x : State). IsStateMade (form_of s.reporting) x (held_bytes held)) (same_shown (slice_get s.place.net.devices device) d other found e)
    (subst (λ (f : Form). IsStateMade f d (held_bytes held)) says made)

-- another step shows none
pub made_none : (s : Session) (step : Step) (text : List ℕ) → (IsShow step → ⊥) → IsMade s step text
made_none s (Refuse refusal) text other = tt
made_none s Idle text other = tt
made_none s (Show device) text other = absurd (other tt)
made_none s Go text other = tt
made_none s Edge text other = tt
made_none s Finish text other = tt

-- ---- by what a session reports

pub says : (s now : Session) (form : Form) (edid : Option Edid) → s.reporting ≡ reporting_of form edid → s ≡ now → form ≡ form_of now.reporting
says s now form edid is same = sym (form_back form edid) ∙ ap form_of (sym is) ∙ ap (λ (x : Session). form_of x.reporting) same

pub says_text : (text : Form → Session → List ℕ) (form : Form) (edid : Option Edid) (s now : Session) (a b : Tally) → s.reporting ≡ reporting_of form edid → s ≡ now → Adds a b (text form s) → Adds a b (text (form_of now.reporting) now)
says_text text form edid s now a b is same added =
    subst (λ (x : Session). Adds a b (text (form_of x.reporting) x)) same (subst (λ (f : Form). Adds a b (text f s)) (sym (form_back form edid) ∙ ap form_of (sym is)) added)
