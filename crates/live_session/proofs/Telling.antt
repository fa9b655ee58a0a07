-- What the lines of a session tell of edges is in every run that may still come.
use Rattle.std.proofs.Common.{◌≡◌, ℕ, zero, suc, ◌+◌, ◌<◌, ◌≤◌, ◌&&◌, ◌||◌, max, Bool, true, false, nat_lt, nat_le, if◌then◌else◌, List, [], ◌∷◌, ◌++◌, length, inl, inr, Option, Some, None, Result, Ok, Err, refl, sym, ap, ap₂, subst, ◌∙◌, arith, append-nil, append_assoc}
use Rattle.live_session.specs.Session.{IsWaitStep, IsWaitStepBy, horizon_waited}
use Rattle.std.specs.List.{list_any}
use Rattle.std.proofs.lemmas.Bool.{cases_lt}
use Rattle.std.proofs.lemmas.Bool.Decides.{nat_tests}
use Rattle.std.proofs.lemmas.List.Elements.{All-append, All-nil}
use Rattle.std.proofs.lemmas.List.Prefix.{front_rest}
use Rattle.line_wave.specs.declared.Stretch.{Stretch}
use Rattle.line_wave.specs.Line.{IsWave, IsWaveFrom}
use Rattle.line_wave.specs.Bounds.{latest_event}
use Rattle.line_rounds.specs.declared.Outcome.{Outcome}
use Rattle.edid_tree.specs.Node.{Node}
use Rattle.room_net.specs.State.{first_net}
use Rattle.room_net.specs.Line.{run_wave}
use Rattle.room_script.specs.Script.{Notes, AreFramedEvents, IsLineRead, last_time}
use Rattle.room_script.specs.declared.script.ScriptCause.TheVariants.{Name, Number}
use Rattle.room_script.specs.declared.script.TimedEvent.{TimedEvent}
use Rattle.text_core.specs.declared.at.AtWord.{AtWord}
use Rattle.room_script.specs.declared.script.ScriptCause.{ScriptCause}
use Rattle.room_run.specs.declared.run.Reporting.{Reporting}
use Rattle.room_run.specs.declared.run.Reporting.TheVariants.{Line}
use Rattle.capture_forms.specs.declared.form.CaptureForm.TheVariants.{Edges}
use Rattle.room_run.specs.declared.run.Totals.{Totals}
use Rattle.room_run.specs.declared.run.Turn.{Turn}
use Rattle.room_run.specs.declared.run.Turn.TheVariants.{Stop}
use Rattle.room_run.specs.Run.{Config, start, turn_at, IsRunText}
use Rattle.room_run.specs.RunLine.{EdgesAreTheLine, rounds_in}
use Rattle.room_run.specs.OneRun.{OneRun}
use Rattle.room_run.specs.HasRun.{RunsHaveTexts}
use Rattle.room_run.specs.Certain.{ComesFrom, IsOverBy, LeadsIf, with_more}
use Rattle.capture_monitor.specs.EdgeText.{edge_lines}
use Rattle.room_trace.specs.TraceText.{end_line}
use Rattle.record_core.specs.declared.cell.Form.{Form}
use Rattle.live_session.specs.declared.answer.RefusalCause.{RefusalCause}
use Rattle.live_session.specs.declared.answer.RefusalCause.TheVariants.{Script, Past}
use Rattle.live_session.specs.declared.command.SessionCommand.{SessionCommand}
use Rattle.live_session.specs.declared.command.SessionCommand.TheVariants as commands
use Rattle.live_session.specs.declared.edges.InstantRange.{InstantRange}
use Rattle.live_session.specs.declared.live.Step.{Step}
use Rattle.live_session.specs.declared.live.Step.TheVariants.{Refuse, Idle, Show, Go, Edge, Finish}
use Rattle.live_session.specs.Command.{command_of, pin_time}
use Rattle.live_session.specs.Edges.{edge_reported, edge_text, edges_reported}
use Rattle.live_session.specs.Turns.{LeadsWith, MayCome, certain_until, form_of}
use Rattle.live_session.specs.Session.{Session, SessionGoes, is_given_before, is_late, is_past, new_events, new_pulses, refuse, refuses_pulse, rises_before, standing, standing_with, step_by, step_noted, step_show, step_to, step_wait, after_to, after_wait, with_line_counted, with_standing, IsDue, IsEdgeStep, IsEdgeStepBy, IsStepBy}
use Rattle.live_session.specs.Whole.{IsLine, AreLines, reported_of}
use Rattle.live_session.specs.Told.{AreOn, EdgesAreCertain, LineEdgesAreCertain, edges_gone, told_in, told_of}
use Rattle.live_session.proofs.Below.{framed-started}
use Rattle.live_session.proofs.Coming.{AreEarly, AreOver, Laws, parted, told_of_turns, told_on, waves_append}
use Rattle.live_session.proofs.Edging.{no_edges}
use Rattle.live_session.proofs.EdgesOf.{all_before, all_past, before, edges_append, past}
use Rattle.live_session.proofs.Extends.{line_extends}
use Rattle.live_session.proofs.LaterStarts.{settled_started}
use Rattle.live_session.proofs.Moving.{AreLone, IsKnown, IsRunning, RunsTo, known_turn, moved, of_leads, rising_of}
use Rattle.live_session.proofs.Noting.{taken}
use Rattle.live_session.proofs.Wholly.{Asked, Reached, SoFar, asked_by, certain_by, certain_on, all_lines, comes, comes_from, counted, due_reached, from_end, neither, not_both, reached, same_place, same_standing}

-- ---- what a line brings

-- from a session to the one that a line asks for
pub record Came (s t : Session) : Type 0 where
  pub events : List TimedEvent
  pub pulses : List Stretch
  pub events_are : t.notes.events ≡ s.notes.events ++ events
  pub pulses_are : t.notes.pulses ≡ s.notes.pulses ++ pulses
  pub place_is : t.place ≡ with_more events pulses s.place
  pub reporting_is : t.reporting ≡ s.reporting
  pub since_is : t.since ≡ s.since
  pub later : s.horizon ≤ t.horizon
  pub comes : ComesFrom (certain_until s.notes.pin s.horizon) events pulses (certain_until t.notes.pin t.horizon)

-- where nothing goes on the horizon stays
abbrev IsStill : Step → Session → Session → Type 0
IsStill (Refuse refusal) s t = t.horizon ≡ s.horizon
IsStill Idle s t = t.horizon ≡ s.horizon
IsStill (Show device) s t = t.horizon ≡ s.horizon
IsStill Go s t = Unit {0}
IsStill Edge s t = Unit {0}
IsStill Finish s t = Unit {0}

pub record HasCome (step : Step) (s t : Session) : Type 0 where
  pub came : Came s t
  pub still : IsStill step s t

pub nothing : (until on : ℕ) → until ≤ on → ComesFrom until [] [] on
nothing until on l = record { scheduled = All-nil (λ e. until ≤ e.at); begun = All-nil (λ p. until ≤ p.from); over = l }

came_on : (s : Session) (horizon : ℕ) (edges seats : Bool) → s.horizon ≤ horizon → Came s (record s { horizon = horizon; edges = edges; seats = seats })
came_on s horizon edges seats l = record {
  events = [];
  pulses = [];
  events_are = sym (append-nil s.notes.events);
  pulses_are = sym (append-nil s.notes.pulses);
  place_is = sym (same_place s.place);
  reporting_is = refl;
  since_is = refl;
  later = l;
  comes = nothing (certain_until s.notes.pin s.horizon) (certain_until s.notes.pin horizon) (certain_on s.notes.pin s.horizon horizon l);
}

came_same : (s t : Session) → t ≡ s → Came s t
came_same s t e = subst (λ (t : Session). Came s t) (sym e) (came_on s s.horizon s.edges s.seats (omega arith))

stays : (s t : Session) → t ≡ s → t.horizon ≡ s.horizon
stays s t e = ap (λ (t : Session). t.horizon) e

-- a line that is not late gives no end before the horizon
end_late : (s : Session) (given : Option ℕ) (new : Notes) → is_late (standing s) given new ≡ false → is_given_before s.horizon new.end ≡ false
end_late s given new e =
    let until = certain_until s.notes.pin s.horizon in
    let pulses = new_pulses s.notes new in
    let rises = rises_before s.horizon s.notes.pin pulses in
    let falls = is_given_before until new.pin in
    let ends = is_given_before s.horizon new.end in
    let scheduled = list_any (λ e. nat_lt e.at s.horizon) (new_events s.notes new) in
    let begun = list_any (λ p. nat_lt p.from until) pulses in
    let past = (neither (is_past s.horizon given s.notes new) (refuses_pulse pulses s.place.net) e).0 in
    let added = (neither (is_given_before s.horizon given) (scheduled || (begun || (rises || (falls || ends)))) past).1 in
    let first = neither scheduled (begun || (rises || (falls || ends))) added in
    let second = neither begun (rises || (falls || ends)) first.1 in
    (neither falls ends (neither rises (falls || ends) second.1).1).1

came_taken : (s : Session) (line : List ℕ) (new : Notes) → IsLineRead s.tree s.notes (length s.place.net.pulses) s.lines line (Ok new) → is_late (standing s) (pin_time line) new ≡ false → Came s (with_standing s (taken (standing s) new))
came_taken s line new read late =
    let e = line_extends s.tree s.notes (length s.place.net.pulses) s.lines line new read in
    let c = comes (standing s) (pin_time line) new late in
    record {
      events = new_events s.notes new;
      pulses = new_pulses s.notes new;
      events_are = sym (ap (λ (es : List TimedEvent). s.notes.events ++ es) (front_rest new.events s.notes.events e.events e.events_are) ∙ sym e.events_are);
      pulses_are = sym (ap (λ (ps : List Stretch). s.notes.pulses ++ ps) (front_rest new.pulses s.notes.pulses e.pulses e.pulses_are) ∙ sym e.pulses_are);
      place_is = refl;
      reporting_is = refl;
      since_is = refl;
      later = from_end s.horizon new.end (end_late s (pin_time line) new late);
      comes = c;
    }

still_by : (end : Option ℕ) (s t : Session) → IsStill (step_by end) s t
still_by None s t = tt
still_by (Some end) s t = tt

come_same : (s t : Session) (word : ℕ) (cause : RefusalCause) → t ≡ s → HasCome (refuse word cause) s t
come_same s t word cause e = record { came = came_same s t e; still = stays s t e }

come_read : (s : Session) (line : List ℕ) (read : Result Notes (AtWord ScriptCause)) → IsLineRead s.tree s.notes (length s.place.net.pulses) s.lines line read
    → HasCome (step_noted (standing s) (pin_time line) read) s (with_standing s (standing_with (standing s) (pin_time line) read))
come_read s line (Err fault) is = come_same s (with_standing s (standing s)) fault.word (Script fault.cause) (same_standing s)
come_read s line (Ok new) is = by (is_late (standing s) (pin_time line) new) refl
  where
    by : (b : Bool) → is_late (standing s) (pin_time line) new ≡ b → HasCome (if b then refuse 1 Past else step_by new.end) s (with_standing s (if b then standing s else taken (standing s) new))
    by true e = come_same s (with_standing s (standing s)) 1 Past (same_standing s)
    by false e = record { came = came_taken s line new is e; still = still_by new.end s (with_standing s (taken (standing s) new)) }

come_waited : (s : Session) (soon : Option ℕ) → HasCome (step_wait soon) s (after_wait s soon)
come_waited s None = record { came = came_same s s refl; still = refl }
come_waited s (Some time) = record { came = came_on s (max s.horizon time) s.edges s.seats (omega arith); still = tt }

come_to : (s : Session) (time : Option ℕ) → HasCome (step_to s time) s (after_to s time)
come_to s None = come_same s s 2 (Script Number) refl
come_to s (Some time) = by (nat_lt time s.horizon) refl
  where
    by : (b : Bool) → nat_lt time s.horizon ≡ b → HasCome (if b then refuse 2 Past else Go) s (if b then s else record s { horizon = time })
    by true e = come_same s s 2 Past refl
    by false e = record { came = came_on s time s.edges s.seats (grind (arith, nat_tests)); still = tt }

come_shown : (s : Session) (device : Option ℕ) → HasCome (step_show device) s s
come_shown s None = come_same s s 1 (Script Name) refl
come_shown s (Some device) = record { came = came_same s s refl; still = refl }

waited_later : (horizon until : ℕ) (soon : Option ℕ) → horizon ≤ until → horizon ≤ horizon_waited horizon until soon
waited_later horizon until None l = l
waited_later horizon until (Some time) l = omega arith

come_wait_until : (s : Session) (time : Option ℕ) (step : Step) (t : Session) → IsWaitStep s time step t → HasCome step s t
come_wait_until s None step t (asks, stands) = subst (λ (step : Step). HasCome step s t) (sym asks) (come_same s t 1 (Script Number) stands)
come_wait_until s (Some until) step t is = by (nat_lt until s.horizon) refl is
  where
    by : (b : Bool) → nat_lt until s.horizon ≡ b → IsWaitStepBy b s until step t → HasCome step s t
    by true e (asks, stands) = subst (λ (step : Step). HasCome step s t) (sym asks) (come_same s t 1 Past stands)
    by false e (asks, soon, is, stands) =
        let l : s.horizon ≤ until = grind (arith, nat_tests) in
        subst (λ (step : Step). HasCome step s t) (sym asks) (subst (λ (t : Session). HasCome Go s t) (sym stands) (record { came = came_on s (horizon_waited s.horizon until soon) s.edges s.seats (waited_later s.horizon until soon l); still = tt }))

come_edge : (s : Session) (time : Option ℕ) (step : Step) (t : Session) → IsEdgeStep s time step t → HasCome step s t
come_edge s None step t (asks, stands) = subst (λ (step : Step). HasCome step s t) (sym asks) (come_same s t 1 (Script Number) stands)
come_edge s (Some until) step t is = by (nat_lt until s.horizon) is
  where
    by : (b : Bool) → IsEdgeStepBy b s until step t → HasCome step s t
    by true (asks, stands) = subst (λ (step : Step). HasCome step s t) (sym asks) (come_same s t 1 Past stands)
    by false (asks, to, edge, stands) =
        subst (λ (step : Step). HasCome step s t) (sym asks) (subst (λ (t : Session). HasCome Edge s t) (sym stands) (record { came = came_on s (max s.horizon to) s.edges s.seats (omega arith); still = tt }))

pub has_come : (s : Session) (command : SessionCommand) (line : List ℕ) (step : Step) (t : Session) → IsStepBy s command line step t → HasCome step s t
has_come s commands.Script line step t (read, is, asks, stands) =
    subst (λ (step : Step). HasCome step s t) (sym asks) (subst (λ (t : Session). HasCome (step_noted (standing s) (pin_time line) read) s t) (sym stands) (come_read s line read is))
has_come s commands.Wait line step t (soon, is, asks, stands) =
    subst (λ (step : Step). HasCome step s t) (sym asks) (subst (λ (t : Session). HasCome (step_wait soon) s t) (sym stands) (come_waited s soon))
has_come s (commands.WaitUntil time) line step t is = come_wait_until s time step t is
has_come s (commands.RunTo time) line step t (asks, stands) =
    subst (λ (step : Step). HasCome step s t) (sym asks) (subst (λ (t : Session). HasCome (step_to s time) s t) (sym stands) (come_to s time))
has_come s (commands.Show device) line step t (asks, stands) =
    subst (λ (step : Step). HasCome step s t) (sym asks) (subst (λ (t : Session). HasCome (step_show device) s t) (sym stands) (come_shown s device))
has_come s (commands.Edge time) line step t is = come_edge s time step t is
has_come s (commands.Edges edges) line step t (asks, stands) =
    subst (λ (step : Step). HasCome step s t) (sym asks) (subst (λ (t : Session). HasCome Go s t) (sym stands) (record { came = came_on s s.horizon edges s.seats (omega arith); still = tt }))
has_come s (commands.Seats seats) line step t (asks, stands) =
    subst (λ (step : Step). HasCome step s t) (sym asks) (subst (λ (t : Session). HasCome Go s t) (sym stands) (record { came = came_on s s.horizon s.edges seats (omega arith); still = tt }))

-- ---- what is due leaves

pub record Keeps (s t : Session) : Type 0 where
  pub notes : t.notes ≡ s.notes
  pub horizon : t.horizon ≡ s.horizon
  pub edges : t.edges ≡ s.edges

keeps_same : (s t : Session) → t ≡ s → Keeps s t
keeps_same s t e = subst (λ (t : Session). Keeps s t) (sym e) (record { notes = refl; horizon = refl; edges = refl })

keeps_placed : (s t : Session) (place : Config) → t ≡ record s { place = place } → Keeps s t
keeps_placed s t place e = subst (λ (t : Session). Keeps s t) (sym e) (record { notes = refl; horizon = refl; edges = refl })

pub due_keeps : (step : Step) (s t : Session) (text : List ℕ) → IsDue step s text t → Keeps s t
due_keeps (Refuse refusal) s t text due = keeps_same s t due.1
due_keeps Idle s t text due = keeps_same s t due.1
due_keeps (Show device) s t text due = keeps_same s t due.3
due_keeps Go s t text due = keeps_placed s t due.2 due.5
due_keeps Edge s t text due = keeps_placed s t due.2 due.5
due_keeps Finish s t text due = keeps_placed s t due.2 due.5

-- ---- what is still to come of a script

pub record Future (events : List TimedEvent) (pulses : List Stretch) (end : ℕ) (notes : Notes) (horizon : ℕ) : Type 0 where
  pub more : List TimedEvent
  pub later : List Stretch
  pub events_are : events ≡ notes.events ++ more
  pub pulses_are : pulses ≡ notes.pulses ++ later
  pub comes : ComesFrom (certain_until notes.pin horizon) more later end

comes_both : (until on end : ℕ) (events more : List TimedEvent) (pulses later : List Stretch) → ComesFrom until events pulses on → ComesFrom on more later end → ComesFrom until (events ++ more) (pulses ++ later) end
comes_both until on end events more pulses later f g = record {
  scheduled = All-append (λ (e : TimedEvent). until ≤ e.at) events more f.scheduled (λ k e l. (let x = g.scheduled k e l in let y = f.over in omega (arith, x, y)));
  begun = All-append (λ (p : Stretch). until ≤ p.from) pulses later f.begun (λ k p l. (let x = g.begun k p l in let y = f.over in omega (arith, x, y)));
  over = (let x = f.over in let y = g.over in omega (arith, x, y));
}

future_before : (events : List TimedEvent) (pulses : List Stretch) (end : ℕ) (s t : Session) → Came s t → Future events pulses end t.notes t.horizon → Future events pulses end s.notes s.horizon
future_before events pulses end s t c f = record {
  more = c.events ++ f.more;
  later = c.pulses ++ f.later;
  events_are = f.events_are ∙ ap (λ (es : List TimedEvent). es ++ f.more) c.events_are ∙ append_assoc s.notes.events c.events f.more;
  pulses_are = f.pulses_are ∙ ap (λ (ps : List Stretch). ps ++ f.later) c.pulses_are ∙ append_assoc s.notes.pulses c.pulses f.later;
  comes = comes_both (certain_until s.notes.pin s.horizon) (certain_until t.notes.pin t.horizon) end c.events f.more c.pulses f.later c.comes f.comes;
}

future_same : (events : List TimedEvent) (pulses : List Stretch) (end : ℕ) (s t : Session) → t.notes ≡ s.notes → t.horizon ≡ s.horizon → Future events pulses end t.notes t.horizon → Future events pulses end s.notes s.horizon
future_same events pulses end s t e g f = subst (λ (h : ℕ). Future events pulses end s.notes h) g (subst (λ (n : Notes). Future events pulses end n t.horizon) e f)

pub future_asked : (events : List TimedEvent) (pulses : List Stretch) (end : ℕ) (s t : Session) (line kept reported text : List ℕ) → (is : IsLine s line kept reported text t) → Future events pulses end t.notes t.horizon
    → Future events pulses end is.asked.notes is.asked.horizon
future_asked events pulses end s t line kept reported text is f = (let k = due_keeps is.step is.asked t text is.due in future_same events pulses end is.asked t k.notes k.horizon f)

pub future_of : (events : List TimedEvent) (pulses : List Stretch) (end : ℕ) (lines : List (List ℕ)) (s : Session) (kept : List (List ℕ)) (reported text : List ℕ) (t : Session) → AreLines lines s kept reported text t
    → Future events pulses end t.notes t.horizon → Future events pulses end s.notes s.horizon
future_of events pulses end [] s kept reported text t (nothing, none, empty, same) f = subst (λ (x : Session). Future events pulses end x.notes x.horizon) same f
future_of events pulses end (line ∷ lines) s kept reported text t (mid, own, others, first, second, more, rest, is, after, kept_is, reported_is, text_is) f =
    let there = future_of events pulses end lines mid others more rest t after f in
    future_before events pulses end (with_line_counted s) is.asked (has_come (with_line_counted s) (command_of s.tree line) line is.step is.asked is.asks).came
    (future_asked events pulses end s mid line own first second is there)

pub ends_none : (lines : List (List ℕ)) (s : Session) (kept : List (List ℕ)) (reported text : List ℕ) (t : Session) → AreLines lines s kept reported text t → t.notes.end ≡ None → s.notes.end ≡ None
ends_none [] s kept reported text t (nothing, none, empty, same) going = ap (λ (x : Session). x.notes.end) (sym same) ∙ going
ends_none (line ∷ lines) s kept reported text t (mid, own, others, first, second, more, rest, is, after, kept_is, reported_is, text_is) going = is.goes_on

-- ---- spans, one after another

sooner : (form : Form) (a b c at level : ℕ) → b ≤ c → at < b → edge_reported form (record { from = a; until = b }) at level ≡ edge_reported form (record { from = a; until = c }) at level
sooner form a b c at level l m =
    let e : nat_lt at b ≡ true = grind (arith, nat_tests) in
    let f : nat_lt at c ≡ true = (let n : at < c = omega (arith, l, m) in grind (arith, nat_tests)) in
    ap (λ x. if nat_le a at && x then edge_text form at level else []) (e ∙ sym f)

later : (form : Form) (a b c at level : ℕ) → a ≤ b → b ≤ at → edge_reported form (record { from = b; until = c }) at level ≡ edge_reported form (record { from = a; until = c }) at level
later form a b c at level l m =
    let e : nat_le b at ≡ true = grind (arith, nat_tests) in
    let f : nat_le a at ≡ true = (let n : a ≤ at = omega (arith, l, m) in grind (arith, nat_tests)) in
    ap (λ x. if x && nat_lt at c then edge_text form at level else []) (e ∙ sym f)

all_later : (form : Form) (a b c from : ℕ) (ss : List Stretch) → IsWaveFrom from ss → a ≤ b → b ≤ from → edges_reported form (record { from = b; until = c }) ss ≡ edges_reported form (record { from = a; until = c }) ss
all_later form a b c from [] w l m = refl
all_later form a b c from (s ∷ ss) w l m =
    ap₂ (λ x y. x ++ y) (ap₂ (λ x y. x ++ y) (later form a b c s.from 0 l (let x = w.0 in omega (arith, m, x))) (later form a b c s.to 1 l (let x = w.0 in let y = w.1 in omega (arith, m, x, y))))
    (all_later form a b c (s.to + 1) ss w.2 l (let x = w.0 in let y = w.1 in omega (arith, m, x, y)))

parts : (x y z : List ℕ) → ((x ++ []) ++ []) ++ (([] ++ y) ++ z) ≡ (x ++ y) ++ z
parts x y z = ap (λ w. w ++ (y ++ z)) (append-nil (x ++ []) ∙ append-nil x) ∙ sym (append_assoc x y z)

pub spans : (form : Form) (a b c from : ℕ) (ss : List Stretch) → IsWaveFrom from ss → a ≤ b → b ≤ c
    → edges_reported form (record { from = a; until = b }) ss ++ edges_reported form (record { from = b; until = c }) ss ≡ edges_reported form (record { from = a; until = c }) ss
spans form a b c from [] w l m = refl
spans form a b c from (s ∷ ss) w l m = by (spans form a b c (s.to + 1) ss w.2 l m)
  where
    one : InstantRange
    one = record { from = a; until = b }

    two : InstantRange
    two = record { from = b; until = c }

    both : InstantRange
    both = record { from = a; until = c }

    by : edges_reported form one ss ++ edges_reported form two ss ≡ edges_reported form both ss → edges_reported form one (s ∷ ss) ++ edges_reported form two (s ∷ ss) ≡ edges_reported form both (s ∷ ss)
    by rest =
        elim (cases_lt s.from b) [
          | inl lt ↦ elim (cases_lt s.to b) [
            | inl short ↦ (
                let x = sooner form a b c s.from 0 m lt in
                let y = sooner form a b c s.to 1 m short in
                let p : edge_reported form two s.from 0 ≡ [] = before form two s.from 0 lt in
                let q : edge_reported form two s.to 1 ≡ [] = before form two s.to 1 short in
                ap₂ (λ u v. u ++ v) (ap (λ u. u ++ edges_reported form one ss) (ap₂ (λ u v. u ++ v) x y)) (ap (λ u. u ++ edges_reported form two ss) (ap₂ (λ u v. u ++ v) p q))
                ∙ append_assoc (edge_reported form both s.from 0 ++ edge_reported form both s.to 1) (edges_reported form one ss) (edges_reported form two ss)
                ∙ ap (λ u. (edge_reported form both s.from 0 ++ edge_reported form both s.to 1) ++ u) rest
                )
            | inr long ↦ (
                let x = sooner form a b c s.from 0 m lt in
                let y : edge_reported form one s.to 1 ≡ [] = past form one s.to 1 long in
                let z : edges_reported form one ss ≡ [] = all_past form one (s.to + 1) ss w.2 (omega (arith, long)) in
                let p : edge_reported form two s.from 0 ≡ [] = before form two s.from 0 lt in
                let q = later form a b c s.to 1 l long in
                let r = all_later form a b c (s.to + 1) ss w.2 l (omega (arith, long)) in
                ap₂ (λ u v. u ++ v) (ap₂ (λ u v. u ++ v) (ap₂ (λ u v. u ++ v) x y) z) (ap₂ (λ u v. u ++ v) (ap₂ (λ u v. u ++ v) p q) r)
                ∙ parts (edge_reported form both s.from 0) (edge_reported form both s.to 1) (edges_reported form both ss)
                )
          ]
          | inr ge ↦ ap₂ (λ u v. u ++ v) (all_past form one b (s ∷ ss) (ge, w.1, w.2) (omega arith)) (all_later form a b c b (s ∷ ss) (ge, w.1, w.2) l (omega arith))
        ]

-- ---- rounds that were over

pub none_past : (form : Form) (span : InstantRange) (until : ℕ) (os : List Outcome) → until ≤ span.from → AreOver until os → AreLone os → edges_reported form span (run_wave os) ≡ []
none_past form span until [] l over lone = refl
none_past form span until (o ∷ os) l over lone =
    edges_append form span o.wave (run_wave os)
    ∙ ap₂ (λ x y. x ++ y) (all_before form span 0 o.rest o.wave lone.1 lone.0.after (let x = over.0 in omega (arith, x, l))) (none_past form span until os l over.1 lone.2)

pub lone_front : (xs ys : List Outcome) → AreLone (xs ++ ys) → AreLone xs
lone_front [] ys lone = tt
lone_front (x ∷ xs) ys lone = (lone.0, lone.1, lone_front xs ys lone.2)

-- ---- the places that lines lead to

known_leads : (Holds : Turn → Config → Type 0) (reporting : Reporting) (until n : ℕ) (c d : Config) (text : List ℕ) → LeadsIf Holds reporting until n c text d → IsKnown c → IsKnown d
known_leads Holds reporting until zero c d text l k = subst IsKnown (sym l.1) k
known_leads Holds reporting until (suc n) c d text (mid, line, rest, turn, over, after, e) k = known_leads Holds reporting until n mid d rest after (known_turn reporting (turn_at until c) c mid line turn k)

known_with : (reporting : Reporting) (ended seats : Bool) (span : InstantRange) (until n : ℕ) (c d : Config) (reported text : List ℕ) → LeadsWith reporting ended seats span until n c reported text d → IsKnown c → IsKnown d
known_with reporting ended seats span until zero c d reported text l k = subst IsKnown (sym l.2) k
known_with reporting ended seats span until (suc n) c d reported text (mid, line, edges, others, rest, turn, over, own, after, e, f) k =
    known_with reporting ended seats span until n mid d others rest after (known_turn reporting (turn_at until c) c mid line turn k)

known_start : (reporting : Reporting) (tree : List Node) (s : Session) (reported : List ℕ) → SoFar reporting tree s reported → IsKnown (start (first_net tree s.notes.pulses) s.notes.events)
known_start reporting tree s reported r = record {
  running = record { order = r.sound.order; framed = framed-started tree s.notes.pulses; events = r.sound.framed; settled = settled_started tree s.notes.pulses };
  rising = rising_of (length s.tree) (last_time s.notes.events + 1) 0 s.notes.events r.sound.schedule;
}

pub known_place : (reporting : Reporting) (tree : List Node) (s : Session) (reported : List ℕ) → SoFar reporting tree s reported → IsKnown s.place
known_place reporting tree s reported r =
    known_leads (IsOverBy (certain_until s.notes.pin s.horizon)) reporting (certain_until s.notes.pin s.horizon) r.turns (start (first_net tree s.notes.pulses) s.notes.events) s.place reported r.leads
    (known_start reporting tree s reported r)

-- ---- one run

pub record IsWhole (reporting : Reporting) (tree : List Node) (events : List TimedEvent) (pulses : List Stretch) (end : ℕ) (os : List Outcome) : Type 0 where
  pub turns : ℕ
  pub last : Config
  pub runs : RunsTo reporting end turns (start (first_net tree pulses) events) os last
  pub stops : turn_at end last ≡ Stop
  pub running : IsRunning (start (first_net tree pulses) events)
  pub lone : AreLone os
  pub wave : IsWave (run_wave os)

same_more : (more events : List TimedEvent) (pulses later : List Stretch) (place : Config) → with_more (more ++ events) (pulses ++ later) place ≡ with_more events later (with_more more pulses place)
same_more more events pulses later place =
    ap₂ (λ (ps : List Stretch) (es : List TimedEvent). let c : Config = record { net = record place.net { pulses = ps }; events = es; totals = place.totals } in c)
    (sym (append_assoc place.net.pulses pulses later)) (sym (append_assoc place.events more events))

-- the run from where the session stood, as the line that came has it
pub record IsLeft (reporting : Reporting) (end : ℕ) (s asked : Session) (more : List TimedEvent) (later : List Stretch) (last : Config) (os : List Outcome) : Type 0 where
  pub turns : ℕ
  pub past : List Outcome
  pub rest : List Outcome
  pub runs : RunsTo asked.reporting end turns (with_more more later asked.place) rest last
  pub whole : os ≡ past ++ rest
  pub there : IsRunning (with_more more later asked.place)
  pub over : AreOver (certain_until s.notes.pin s.horizon) past

pub left : Laws → (reporting : Reporting) (tree : List Node) (events : List TimedEvent) (pulses : List Stretch) (end : ℕ) (os : List Outcome) (s asked : Session) (reported : List ℕ) → (run : IsWhole reporting tree events pulses end os)
    → SoFar reporting tree s reported → Came s asked → (f : Future events pulses end asked.notes asked.horizon) → IsLeft reporting end s asked f.more f.later run.last os
unfolding future_before
left laws reporting tree events pulses end os s asked reported run r c f =
    let g = future_before events pulses end s asked c f in
    let from = start (first_net tree s.notes.pulses) s.notes.events in
    let here : RunsTo reporting end run.turns (with_more g.more g.later from) os run.last =
    subst (λ (es : List TimedEvent). RunsTo reporting end run.turns (start (first_net tree (s.notes.pulses ++ g.later)) es) os run.last) g.events_are
    (subst (λ (ps : List Stretch). RunsTo reporting end run.turns (start (first_net tree ps) events) os run.last) g.pulses_are run.runs) in
    let running : IsRunning (with_more g.more g.later from) =
    subst (λ (es : List TimedEvent). IsRunning (start (first_net tree (s.notes.pulses ++ g.later)) es)) g.events_are
    (subst (λ (ps : List Stretch). IsRunning (start (first_net tree ps) events)) g.pulses_are run.running) in
    let p = parted laws.lone reporting (certain_until s.notes.pin s.horizon) end r.turns run.turns from s.place run.last reported g.more g.later os (known_start reporting tree s reported r).running running g.comes r.leads here run.stops in
    let place : with_more g.more g.later s.place ≡ with_more f.more f.later asked.place = same_more c.events f.more c.pulses f.later s.place ∙ ap (with_more f.more f.later) (sym c.place_is) in
    let own : reporting ≡ asked.reporting = sym (c.reporting_is ∙ r.reporting_is) in
    record {
      turns = p.turns;
      past = p.past;
      rest = p.rest;
      runs = subst (λ (e : Reporting). RunsTo e end p.turns (with_more f.more f.later asked.place) p.rest run.last) own (subst (λ (x : Config). RunsTo reporting end p.turns x p.rest run.last) place p.runs);
      whole = p.whole;
      there = subst IsRunning place p.there;
      over = p.over;
    }

-- ---- one line

gone_told : Laws → (reporting : Reporting) (end : ℕ) (os : List Outcome) (s asked : Session) (more : List TimedEvent) (later : List Stretch) (last : Config) (edges : Bool) (first own : List ℕ) (place : Config)
    → IsLeft reporting end s asked more later last os → turn_at end last ≡ Stop → AreLone os → IsKnown asked.place → MayCome asked.notes.pin asked.horizon more later end → AreEarly asked.notes.pin asked.horizon
    → asked.since ≡ s.horizon → edges ≡ true → (goes : SessionGoes edges false asked first own place)
    → edges_gone edges false asked first own place goes ≡ edges_reported (form_of asked.reporting) (record { from = s.horizon; until = asked.horizon }) (run_wave os)
gone_told laws reporting end os s asked more later last false first own place w stops lone known may early since on goes = cc
gone_told laws reporting end os s asked more later last true first own place w stops lone known may early since on goes =
    let span : InstantRange = record { from = asked.since; until = asked.horizon } in
    let until = certain_until asked.notes.pin asked.horizon in
    let comes = comes_from asked.notes.pin asked.horizon end more later may in
    let t = told_of_turns laws.lone asked.reporting asked.seats span until end goes.turns w.turns asked.place place last first goes.over more later w.rest known.running w.there comes goes.leads w.runs stops in
    let after = known_with asked.reporting false asked.seats span until goes.turns asked.place place first goes.over goes.leads known in
    let on = told_on laws asked.reporting asked.notes.pin span asked.horizon end t.turns place last goes.on more later t.rest after t.there may early goes.last goes.on_is (omega arith) t.runs stops in
    let past : edges_reported (form_of asked.reporting) span (run_wave w.past) ≡ [] =
    none_past (form_of asked.reporting) span (certain_until s.notes.pin s.horizon) w.past (let x = certain_by s.notes.pin s.horizon in omega (arith, x, since)) w.over (lone_front w.past w.rest (subst AreLone w.whole lone)) in
    ap₂ (λ x y. x ++ y) t.edges on
    ∙ sym (waves_append (form_of asked.reporting) span t.past t.rest)
    ∙ ap (λ (xs : List Outcome). edges_reported (form_of asked.reporting) span (run_wave xs)) (sym t.whole)
    ∙ ap (λ (x : List ℕ). x ++ edges_reported (form_of asked.reporting) span (run_wave w.rest)) (sym past)
    ∙ sym (waves_append (form_of asked.reporting) span w.past w.rest)
    ∙ ap (λ (xs : List Outcome). edges_reported (form_of asked.reporting) span (run_wave xs)) (sym w.whole)
    ∙ ap (λ (h : ℕ). edges_reported (form_of asked.reporting) (record { from = h; until = asked.horizon }) (run_wave os)) since

some_none : (end : Option ℕ) (at : ℕ) → end ≡ None → end ≡ Some at → ⊥
some_none end at e f = cc

step_told : Laws → (reporting : Reporting) (tree : List Node) (end : ℕ) (os : List Outcome) (step : Step) (s asked mid : Session) (reported text : List ℕ) (more : List TimedEvent) (later : List Stretch) (last : Config)
    → IsLeft reporting end s asked more later last os → turn_at end last ≡ Stop → AreLone os → Asked reporting tree step asked reported → IsStill step s asked → MayCome asked.notes.pin asked.horizon more later end
    → AreEarly asked.notes.pin asked.horizon → asked.since ≡ s.horizon → asked.edges ≡ true → asked.notes.end ≡ None → (due : IsDue step asked text mid)
    → told_of step asked text mid due ≡ edges_reported (form_of asked.reporting) (record { from = s.horizon; until = asked.horizon }) (run_wave os)
step_told laws reporting tree end os (Refuse refusal) s asked mid reported text more later last w stops lone a still may early since on going due = sym (no_edges (form_of asked.reporting) (record { from = s.horizon; until = asked.horizon }) (run_wave os) (omega (arith, still)))
step_told laws reporting tree end os Idle s asked mid reported text more later last w stops lone a still may early since on going due = sym (no_edges (form_of asked.reporting) (record { from = s.horizon; until = asked.horizon }) (run_wave os) (omega (arith, still)))
step_told laws reporting tree end os (Show device) s asked mid reported text more later last w stops lone a still may early since on going due = sym (no_edges (form_of asked.reporting) (record { from = s.horizon; until = asked.horizon }) (run_wave os) (omega (arith, still)))
step_told laws reporting tree end os Go s asked mid reported text more later last w stops lone a still may early since on going due =
    gone_told laws reporting end os s asked more later last asked.edges due.0 due.1 due.2 w stops lone (known_place reporting tree asked reported a.so_far) may early since on due.3
step_told laws reporting tree end os Edge s asked mid reported text more later last w stops lone a still may early since on going due =
    gone_told laws reporting end os s asked more later last true due.0 due.1 due.2 w stops lone (known_place reporting tree asked reported a.so_far) may early since refl due.3
step_told laws reporting tree end os Finish s asked mid reported text more later last w stops lone a still may early since on going due = absurd (some_none asked.notes.end asked.horizon going a.ended)

-- ---- all lines

pub still_going : (reporting : Reporting) (tree : List Node) (s : Session) (reported : List ℕ) → s.notes.end ≡ None → Reached reporting tree s reported → SoFar reporting tree s reported
still_going reporting tree s reported none (inl (r, going)) = r
still_going reporting tree s reported none (inr over) = absurd (not_both s.notes.end s.horizon none over.ended)

-- what one of them tells
line_by : Laws → (reporting : Reporting) (tree : List Node) (events : List TimedEvent) (pulses : List Stretch) (end : ℕ) (os : List Outcome) → IsWhole reporting tree events pulses end os → (s mid : Session)
    (line kept reported text before : List ℕ) → SoFar reporting tree s before → s.notes.end ≡ None → (is : IsLine s line kept reported text mid) → mid.edges ≡ true → mid.notes.end ≡ None
    → (f : Future events pulses end is.asked.notes is.asked.horizon) → MayCome is.asked.notes.pin is.asked.horizon f.more f.later end → AreEarly is.asked.notes.pin is.asked.horizon
    → (told_of is.step is.asked text mid is.due ≡ edges_reported (form_of reporting) (record { from = s.horizon; until = mid.horizon }) (run_wave os)) × (s.horizon ≤ mid.horizon)
line_by laws reporting tree events pulses end os run s mid line kept reported text before r going is on none future may early =
    let counted_s = with_line_counted s in
    let so = counted reporting tree s before r in
    let come = has_come counted_s (command_of s.tree line) line is.step is.asked is.asks in
    let asked = asked_by reporting tree counted_s before line (command_of s.tree line) is.step is.asked so going is.asks in
    let keep = due_keeps is.step is.asked mid text is.due in
    let w = left laws reporting tree events pulses end os counted_s is.asked before run so come.came future in
    let here : told_of is.step is.asked text mid is.due ≡ edges_reported (form_of is.asked.reporting) (record { from = s.horizon; until = is.asked.horizon }) (run_wave os) =
    step_told laws reporting tree end os is.step counted_s is.asked mid before text future.more future.later run.last w run.stops run.lone asked come.still may early come.came.since_is
    (sym keep.edges ∙ on) (ap (λ (n : Notes). n.end) (sym keep.notes) ∙ none) is.due in (
      here
          ∙ ap (λ (r : Reporting). edges_reported (form_of r) (record { from = s.horizon; until = is.asked.horizon }) (run_wave os)) asked.so_far.reporting_is
          ∙ ap (λ (h : ℕ). edges_reported (form_of reporting) (record { from = s.horizon; until = h }) (run_wave os)) (sym keep.horizon),
      (let x = come.came.later in let y = keep.horizon in omega (arith, x, y)),
    )

-- with a pin that is high
high_may : (pin : Option ℕ) (horizon end : ℕ) (more : List TimedEvent) (later : List Stretch) → pin ≡ None → ComesFrom (certain_until pin horizon) more later end → MayCome pin horizon more later end × AreEarly pin horizon
high_may None horizon end more later high comes = (comes, tt)
high_may (Some low) horizon end more later high comes = cc

pub line_told : Laws → (reporting : Reporting) (tree : List Node) (events : List TimedEvent) (pulses : List Stretch) (end : ℕ) (os : List Outcome) → IsWhole reporting tree events pulses end os
    → (s mid : Session) (line kept reported text before : List ℕ) → SoFar reporting tree s before → s.notes.end ≡ None → (is : IsLine s line kept reported text mid) → mid.edges ≡ true → mid.notes.pin ≡ None
    → mid.notes.end ≡ None → Future events pulses end mid.notes mid.horizon
    → (told_of is.step is.asked text mid is.due ≡ edges_reported (form_of reporting) (record { from = s.horizon; until = mid.horizon }) (run_wave os)) × (s.horizon ≤ mid.horizon)
line_told laws reporting tree events pulses end os run s mid line kept reported text before r going is on high none there =
    let keep = due_keeps is.step is.asked mid text is.due in
    let future = future_asked events pulses end s mid line kept reported text is there in
    let may = high_may is.asked.notes.pin is.asked.horizon end future.more future.later (ap (λ (n : Notes). n.pin) (sym keep.notes) ∙ high) future.comes in
    line_by laws reporting tree events pulses end os run s mid line kept reported text before r going is on none future may.0 may.1

-- and where the session goes on it stands after that line as before
pub line_reached : (reporting : Reporting) (tree : List Node) (s mid : Session) (line kept reported text before : List ℕ) → SoFar reporting tree s before → s.notes.end ≡ None → IsLine s line kept reported text mid → mid.notes.end ≡ None
    → (now : List ℕ) × SoFar reporting tree mid now
line_reached reporting tree s mid line kept reported text before r going is none =
    let asked = asked_by reporting tree (with_line_counted s) before line (command_of s.tree line) is.step is.asked (counted reporting tree s before r) going is.asks in
    let now = before ++ reported_of is.step is.asked text mid is.due in
    (now, still_going reporting tree mid now none (due_reached reporting tree is.asked mid before text is.step asked is.due))

lines_told : Laws → (reporting : Reporting) (tree : List Node) (events : List TimedEvent) (pulses : List Stretch) (end : ℕ) (os : List Outcome) → IsWhole reporting tree events pulses end os
    → (lines : List (List ℕ)) (s : Session) (kept : List (List ℕ)) (reported text : List ℕ) (t : Session) (before : List ℕ) → SoFar reporting tree s before → s.notes.end ≡ None
    → (l : AreLines lines s kept reported text t) → AreOn lines s kept reported text t l → t.notes.end ≡ None → Future events pulses end t.notes t.horizon
    → (told_in lines s kept reported text t l ≡ edges_reported (form_of reporting) (record { from = s.horizon; until = t.horizon }) (run_wave os)) × (s.horizon ≤ t.horizon)
lines_told laws reporting tree events pulses end os run [] s kept reported text t before r going (nothing, none, empty, same) on over f =
    let stays : t.horizon ≡ s.horizon = ap (λ (x : Session). x.horizon) same in
    (sym (no_edges (form_of reporting) (record { from = s.horizon; until = t.horizon }) (run_wave os) (omega (arith, stays))), omega (arith, stays))
lines_told laws reporting tree events pulses end os run (line ∷ lines) s kept reported text t before r going (mid, own, others, first, second, more, rest, is, after, kept_is, reported_is, text_is) on over f =
    let none : mid.notes.end ≡ None = ends_none lines mid others more rest t after over in
    let here = line_told laws reporting tree events pulses end os run s mid line own first second before r going is on.0 on.1 none (future_of events pulses end lines mid others more rest t after f) in
    let now = line_reached reporting tree s mid line own first second before r going is none in
    let there = lines_told laws reporting tree events pulses end os run lines mid others more rest t now.0 now.1 none after on.2 over f in (
      ap₂ (λ x y. x ++ y) here.0 there.0 ∙ spans (form_of reporting) s.horizon mid.horizon t.horizon 0 (run_wave os) run.wave here.1 there.1,
      (let x = here.1 in let y = there.1 in omega (arith, x, y)),
    )

framed_both : (es fs : List TimedEvent) → AreFramedEvents es → AreFramedEvents fs → AreFramedEvents (es ++ fs)
framed_both [] fs h k = k
framed_both (e ∷ es) fs h k = (h.0, framed_both es fs h.1 k)

-- a run has its rounds, and the edges of their lines are its edge file
pub record IsFiled (reporting : Reporting) (tree : List Node) (events : List TimedEvent) (pulses : List Stretch) (end : ℕ) (file : List ℕ) : Type 0 where
  pub rounds : List Outcome
  pub whole : IsWhole reporting tree events pulses end rounds
  pub last : ℕ
  pub file_is : file ≡ edge_lines (run_wave rounds) ++ end_line last

pub filed : Laws → OneRun → RunsHaveTexts → EdgesAreTheLine → (reporting : Reporting) (tree : List Node) (events : List TimedEvent) (pulses : List Stretch) (end : ℕ) (file : List ℕ) (totals : Totals) → IsWave pulses → AreFramedEvents events
    → IsRunText (Line Edges) end (start (first_net tree pulses) events) file totals → IsFiled reporting tree events pulses end file
filed laws one has line reporting tree events pulses end file totals order framed run =
    let from = start (first_net tree pulses) events in
    let trace = has reporting tree pulses events end order in
    let p = trace.2 in
    let os = rounds_in reporting end p.run.turns from p.run.body p.run.last p.run.leads in
    let same = (one reporting (Line Edges) end from trace.0 file trace.1 totals p run).rounds in
    let edges = line tree pulses events end file totals order framed run in
    let running : IsRunning from = record { order = order; framed = framed-started tree pulses; events = framed; settled = settled_started tree pulses } in
    let runs = of_leads reporting end p.run.turns from p.run.last p.run.body p.run.leads in
    record {
      rounds = os;
      whole = record {
        turns = p.run.turns;
        last = p.run.last;
        runs = runs;
        stops = p.run.stops;
        running = running;
        lone = (moved laws.lone reporting end p.run.turns from p.run.last os runs running).lone;
        wave = subst (λ (xs : List Outcome). IsWave (run_wave xs)) (sym same) edges.read.wave;
      };
      last = max end run.run.last.net.close;
      file_is = edges.whole ∙ ap (λ (xs : List Outcome). edge_lines (run_wave xs) ++ end_line (max end run.run.last.net.close)) (sym same);
    }

pub edges_are_certain : Laws → OneRun → RunsHaveTexts → EdgesAreTheLine → EdgesAreCertain
edges_are_certain laws one has line reporting tree before lines kept more x y text told s t b l on going events later end file totals comes order framed run =
    let none : s.notes.end ≡ None = ends_none lines s more y told t l going in
    let r = still_going reporting tree s x none (reached reporting tree before kept x text s b) in
    let last = still_going reporting tree t (x ++ y) going (all_lines reporting tree lines more s t x y told (inl (r, none)) l) in
    let known = t.notes.events ++ events in
    let pulses = t.notes.pulses ++ later in
    let is = filed laws one has line reporting tree known pulses end file totals order (framed_both t.notes.events events last.sound.framed framed) run in
    let future : Future known pulses end t.notes t.horizon = record { more = events; later = later; events_are = refl; pulses_are = refl; comes = comes_from t.notes.pin t.horizon end events later comes } in
    record {
      wave = run_wave is.rounds;
      order = is.whole.wave;
      end = is.last;
      file_is = is.file_is;
      told_is = (lines_told laws reporting tree known pulses end is.rounds is.whole lines s more y told t x r none l on going future).0;
    }

-- ---- a line by itself, whether the pin is high or low

early_by : (pin : Option ℕ) (horizon end : ℕ) (more : List TimedEvent) (later : List Stretch) → MayCome pin horizon more later end → end ≤ latest_event → ((from : ℕ) → pin ≡ Some from → from ≤ latest_event) → AreEarly pin horizon
early_by None horizon end more later may limit low = tt
early_by (Some from) horizon end more [] may limit low = absurd may
early_by (Some from) horizon end more (pull ∷ later) may limit low = (low from refl, (let x = may.2.over in omega (arith, x, limit)))

pub line_edges_are_certain : Laws → OneRun → RunsHaveTexts → EdgesAreTheLine → LineEdgesAreCertain
line_edges_are_certain laws one has line reporting tree before kept x text s t words own y told b is on going events later end file totals comes limit order framed run =
    let r = still_going reporting tree s x is.goes_on (reached reporting tree before kept x text s b) in
    let now = line_reached reporting tree s t words own y told x r is.goes_on is going in
    let known = t.notes.events ++ events in
    let pulses = t.notes.pulses ++ later in
    let whole = filed laws one has line reporting tree known pulses end file totals order (framed_both t.notes.events events now.1.sound.framed framed) run in
    let keep = due_keeps is.step is.asked t told is.due in
    let asked = asked_by reporting tree (with_line_counted s) x words (command_of s.tree words) is.step is.asked (counted reporting tree s x r) is.goes_on is.asks in
    let may : MayCome is.asked.notes.pin is.asked.horizon events later end =
    subst (λ (h : ℕ). MayCome is.asked.notes.pin h events later end) keep.horizon (subst (λ (n : Notes). MayCome n.pin t.horizon events later end) keep.notes comes) in
    let future : Future known pulses end is.asked.notes is.asked.horizon = record {
      more = events;
      later = later;
      events_are = ap (λ (n : Notes). n.events ++ events) keep.notes;
      pulses_are = ap (λ (n : Notes). n.pulses ++ later) keep.notes;
      comes = comes_from is.asked.notes.pin is.asked.horizon end events later may;
    } in
    let early = early_by is.asked.notes.pin is.asked.horizon end events later may limit (λ from e. (asked.so_far.sound.held from e).1) in
    record {
      wave = run_wave whole.rounds;
      order = whole.whole.wave;
      end = whole.last;
      file_is = whole.file_is;
      told_is = (line_by laws reporting tree known pulses end whole.rounds whole.whole s t words own y told x r is.goes_on is on going future may early).0;
    }
