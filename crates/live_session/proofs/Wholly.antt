-- What the lines of a session have reported is the front of the trace, and in the end that trace.
use Rattle.std.proofs.Common.{◌≡◌, ℕ, zero, suc, ◌≤◌, ◌||◌, ◌⊎◌, max, min, Bool, true, false, nat_lt, if◌then◌else◌, List, [], ◌∷◌, ◌++◌, length, inl, inr, Option, Some, None, Result, Ok, Err, refl, sym, ap, ap₂, subst, ◌∙◌, arith, append-nil, append_assoc}
use Rattle.live_session.specs.Session.{IsWaitStep, IsWaitStepBy, horizon_waited}
use Rattle.std.specs.List.{All, list_any}
use Rattle.std.proofs.lemmas.List.Elements.{All-nil, All-cons}
use Rattle.std.proofs.lemmas.List.Prefix.{front_rest}
use Rattle.std.proofs.lemmas.Bool.Decides.{nat_tests}
use Rattle.line_wave.specs.declared.Stretch.{Stretch}
use Rattle.edid_tree.specs.Node.{Node}
use Rattle.room_net.specs.State.{first_net}
use Rattle.room_script.specs.Script.{Notes, IsLineRead}
use Rattle.room_script.specs.declared.script.TimedEvent.{TimedEvent}
pub use Rattle.room_script.specs.Lines.{AreSound}
use Rattle.room_script.proofs.Sound.{line-keeps, sound_start}
use Rattle.text_core.specs.declared.at.AtWord.{AtWord}
use Rattle.room_script.specs.declared.script.ScriptCause.{ScriptCause}
use Rattle.room_run.specs.declared.run.Reporting.{Reporting}
use Rattle.room_run.specs.declared.run.Reporting.TheVariants.{Line, Objects, Trace}
use Rattle.room_run.specs.declared.run.Turn.{Turn}
use Rattle.room_run.specs.Run.{Config, start, start_reported, end_reported, Leads, IsRunText, IsRunTextFrom}
use Rattle.room_run.specs.Certain.{ComesFrom, LeadsIf, LeadsBy, with_more}
use Rattle.room_script.specs.declared.script.ScriptCause.TheVariants.{Number}
use Rattle.live_session.specs.declared.answer.RefusalCause.TheVariants.{Script, Past}
use Rattle.live_session.specs.declared.command.SessionCommand.{SessionCommand}
use Rattle.live_session.specs.declared.command.SessionCommand.TheVariants as commands
use Rattle.live_session.specs.declared.live.Step.{Step}
use Rattle.live_session.specs.declared.live.Step.TheVariants.{Refuse, Idle, Show, Go, Edge, Finish}
use Rattle.live_session.specs.Turns.{IsReported, Goes, GoesWith, MayCome, certain_until}
use Rattle.live_session.specs.Command.{command_of, pin_time}
use Rattle.live_session.specs.Session.{Session, Standing, first_session, refuse, with_line_counted, standing, with_standing, standing_with, step_noted, step_by, step_to, after_to, step_wait, after_wait, step_show, span_of, is_late, is_past, refuses_pulse, rises_before, is_given_before, horizon_by, new_events, new_pulses, IsEdgeStep, IsEdgeStepBy, IsStepBy, IsDue, SessionGoes}
use Rattle.live_session.specs.Whole.{reported_of, AreLines, SessionsReportFronts, SessionsReportTraces}
use Rattle.live_session.proofs.Below.{framed-started, reported_is_front, turns_stay_certain}
use Rattle.live_session.proofs.Extends.{line_extends}
use Rattle.live_session.proofs.Going.{goes_of}
use Rattle.live_session.proofs.Noting.{taken, drop_all}

-- ---- while a session goes on

-- some, and others after them
all_on : (Holds : Turn → Config → Type 0) (reporting : Reporting) (until n m : ℕ) (c mid d : Config) (text more : List ℕ) → LeadsIf Holds reporting until n c text mid
    → LeadsIf Holds reporting until m mid more d → (turns : ℕ) × LeadsIf Holds reporting until turns c (text ++ more) d
all_on Holds reporting until zero m c mid d text more l k =
    (m, subst (λ t. LeadsIf Holds reporting until m c t d) (ap (λ t. t ++ more) (sym l.0)) (subst (λ x. LeadsIf Holds reporting until m x more d) l.1 k))
all_on Holds reporting until (suc n) m c mid d text more (first, head, rest, turn, over, after, e) k =
    let go = all_on Holds reporting until n m first mid d rest more after k in
    (suc go.0, (first, head, rest ++ more, turn, over, go.1, ap (λ t. t ++ more) e ∙ append_assoc head rest more))

pub record SoFar (reporting : Reporting) (tree : List Node) (s : Session) (reported : List ℕ) : Type 0 where
  pub reporting_is : s.reporting ≡ reporting
  pub turns : ℕ
  pub leads : LeadsBy reporting (certain_until s.notes.pin s.horizon) turns (start (first_net tree s.notes.pulses) s.notes.events) reported s.place
  pub sound : AreSound (length s.tree) s.notes

so_far_start : (reporting : Reporting) (tree : List Node) → SoFar reporting tree (first_session reporting tree) []
so_far_start reporting tree = record { reporting_is = refl; turns = zero; leads = (refl, refl); sound = sound_start (length tree) }

-- what comes for the horizon or later leaves it
stay_on : (reporting : Reporting) (tree : List Node) (until on turns count : ℕ) (notes : Notes) (place : Config) (reported : List ℕ) (events : List TimedEvent) (later : List Stretch) → AreSound count notes
    → LeadsBy reporting until turns (start (first_net tree notes.pulses) notes.events) reported place → ComesFrom until events later on
    → LeadsBy reporting on turns (start (first_net tree (notes.pulses ++ later)) (notes.events ++ events)) reported (with_more events later place)
stay_on reporting tree until on turns count notes place reported events later sound l comes =
    turns_stay_certain reporting until on turns (start (first_net tree notes.pulses) notes.events) place reported events later
    sound.order (framed-started tree notes.pulses) sound.framed comes l

pub same_place : (place : Config) → with_more [] [] place ≡ place
same_place place =
    ap₂ (λ (ps : List Stretch) (es : List TimedEvent). let c : Config = record { net = record place.net { pulses = ps }; events = es; totals = place.totals } in c)
    (append-nil place.net.pulses) (append-nil place.events)

pub certain_by : (pin : Option ℕ) (horizon : ℕ) → certain_until pin horizon ≤ horizon
certain_by None horizon = omega arith
certain_by (Some low) horizon = omega arith

pub certain_on : (pin : Option ℕ) (horizon on : ℕ) → horizon ≤ on → certain_until pin horizon ≤ certain_until pin on
certain_on None horizon on le = le
certain_on (Some low) horizon on le = omega (arith, le)

raised : (reporting : Reporting) (tree : List Node) (s : Session) (reported : List ℕ) (horizon : ℕ) → SoFar reporting tree s reported → s.horizon ≤ horizon → SoFar reporting tree (record s { horizon = horizon }) reported
raised reporting tree s reported horizon r le =
    let until = certain_until s.notes.pin s.horizon in
    let on = certain_until s.notes.pin horizon in
    let comes : ComesFrom until [] [] on = record { scheduled = All-nil (λ e. until ≤ e.at); begun = All-nil (λ p. until ≤ p.from); over = certain_on s.notes.pin s.horizon horizon le } in
    let l = stay_on reporting tree until on r.turns (length s.tree) s.notes s.place reported [] [] r.sound r.leads comes in
    record {
      reporting_is = r.reporting_is;
      turns = r.turns;
      leads = subst (λ (c : Config). LeadsBy reporting on r.turns (start (first_net tree s.notes.pulses) s.notes.events) reported c) (same_place s.place)
          (subst (λ (es : List TimedEvent). LeadsBy reporting on r.turns (start (first_net tree s.notes.pulses) es) reported (with_more [] [] s.place)) (append-nil s.notes.events)
          (subst (λ (ps : List Stretch). LeadsBy reporting on r.turns (start (first_net tree ps) (s.notes.events ++ [])) reported (with_more [] [] s.place)) (append-nil s.notes.pulses) l));
      sound = r.sound;
    }

-- ---- a line of the script

pub neither : (a b : Bool) → (a || b) ≡ false → (a ≡ false) × (b ≡ false)
neither true b e = cc
neither false b e = (refl, e)

from_events : (until horizon : ℕ) (events : List TimedEvent) → until ≤ horizon → list_any (λ e. nat_lt e.at horizon) events ≡ false → All (λ e. until ≤ e.at) events
from_events until horizon [] le e = All-nil (λ e. until ≤ e.at)
from_events until horizon (event ∷ events) le e =
    let parts = neither (nat_lt event.at horizon) (list_any (λ e. nat_lt e.at horizon) events) e in
    All-cons (λ e. until ≤ e.at) event events (let no = parts.0 in let later : horizon ≤ event.at = grind (arith, nat_tests) in omega (arith, le, later)) (from_events until horizon events le parts.1)

from_pulses : (horizon : ℕ) (pulses : List Stretch) → list_any (λ p. nat_lt p.from horizon) pulses ≡ false → All (λ p. horizon ≤ p.from) pulses
from_pulses horizon [] e = All-nil (λ p. horizon ≤ p.from)
from_pulses horizon (pulse ∷ pulses) e =
    let parts = neither (nat_lt pulse.from horizon) (list_any (λ p. nat_lt p.from horizon) pulses) e in
    All-cons (λ p. horizon ≤ p.from) pulse pulses (let no = parts.0 in grind (arith, nat_tests)) (from_pulses horizon pulses parts.1)

pub from_end : (horizon : ℕ) (end : Option ℕ) → is_given_before horizon end ≡ false → horizon ≤ horizon_by horizon end
from_end horizon None e = omega arith
from_end horizon (Some end) e = grind (arith, nat_tests)

-- the pin goes low when that is still open
from_fall : (until on : ℕ) (pin : Option ℕ) → until ≤ on → is_given_before until pin ≡ false → until ≤ certain_until pin on
from_fall until on None le e = le
from_fall until on (Some low) le e = (let later : until ≤ low = grind (arith, nat_tests) in omega (arith, le, later))

pub comes : (s : Standing) (given : Option ℕ) (new : Notes) → is_late s given new ≡ false
    → ComesFrom (certain_until s.notes.pin s.horizon) (new_events s.notes new) (new_pulses s.notes new) (certain_until new.pin (horizon_by s.horizon new.end))
comes s given new e =
    let until = certain_until s.notes.pin s.horizon in
    let events = new_events s.notes new in
    let pulses = new_pulses s.notes new in
    let rises = rises_before s.horizon s.notes.pin pulses in
    let falls = is_given_before until new.pin in
    let ends = is_given_before s.horizon new.end in
    let scheduled = list_any (λ e. nat_lt e.at s.horizon) events in
    let begun = list_any (λ p. nat_lt p.from until) pulses in
    let past = (neither (is_past s.horizon given s.notes new) (refuses_pulse pulses s.net) e).0 in
    let added = (neither (is_given_before s.horizon given) (scheduled || (begun || (rises || (falls || ends)))) past).1 in
    let first = neither scheduled (begun || (rises || (falls || ends))) added in
    let second = neither begun (rises || (falls || ends)) first.1 in
    let last = neither falls ends (neither rises (falls || ends) second.1).1 in
    let le = certain_by s.notes.pin s.horizon in
    let later = from_end s.horizon new.end last.1 in
    record {
      scheduled = from_events until s.horizon events le first.0;
      begun = from_pulses until pulses second.0;
      over = from_fall until (horizon_by s.horizon new.end) new.pin (omega (arith, le, later)) last.0;
    }

-- a step that ends the script, or does not
abbrev pub EndBy : Step → Session → Type 0
EndBy Finish s = s.notes.end ≡ Some s.horizon
EndBy (Refuse refusal) s = s.notes.end ≡ None
EndBy Idle s = s.notes.end ≡ None
EndBy (Show device) s = s.notes.end ≡ None
EndBy Go s = s.notes.end ≡ None
EndBy Edge s = s.notes.end ≡ None

pub record Asked (reporting : Reporting) (tree : List Node) (step : Step) (s : Session) (reported : List ℕ) : Type 0 where
  pub so_far : SoFar reporting tree s reported
  pub ended : EndBy step s

pub same_standing : (s : Session) → with_standing s (standing s) ≡ s
same_standing s =
    ap (λ (es : List TimedEvent). let t : Session = record s { place = record s.place { events = es } } in t)
    (ap (λ (es : List TimedEvent). s.place.events ++ es) (drop_all s.notes.events) ∙ append-nil s.place.events)

asked_taken : (reporting : Reporting) (tree : List Node) (s : Session) (reported line : List ℕ) (new : Notes) → SoFar reporting tree s reported → IsLineRead s.tree s.notes (length s.place.net.pulses) s.lines line (Ok new)
    → is_late (standing s) (pin_time line) new ≡ false → SoFar reporting tree (with_standing s (taken (standing s) new)) reported
asked_taken reporting tree s reported line new r read late =
    let e = line_extends s.tree s.notes (length s.place.net.pulses) s.lines line new read in
    let events : s.notes.events ++ new_events s.notes new ≡ new.events = ap (λ (es : List TimedEvent). s.notes.events ++ es) (front_rest new.events s.notes.events e.events e.events_are) ∙ sym e.events_are in
    let pulses : s.notes.pulses ++ new_pulses s.notes new ≡ new.pulses = ap (λ (ps : List Stretch). s.notes.pulses ++ ps) (front_rest new.pulses s.notes.pulses e.pulses e.pulses_are) ∙ sym e.pulses_are in
    let until = certain_until s.notes.pin s.horizon in
    let on = certain_until new.pin (horizon_by s.horizon new.end) in
    let place = with_more (new_events s.notes new) (new_pulses s.notes new) s.place in
    let l = stay_on reporting tree until on r.turns (length s.tree) s.notes s.place reported (new_events s.notes new) (new_pulses s.notes new) r.sound r.leads (comes (standing s) (pin_time line) new late) in
    record {
      reporting_is = r.reporting_is;
      turns = r.turns;
      leads = subst (λ (es : List TimedEvent). LeadsBy reporting on r.turns (start (first_net tree new.pulses) es) reported place) events
          (subst (λ (ps : List Stretch). LeadsBy reporting on r.turns (start (first_net tree ps) (s.notes.events ++ new_events s.notes new)) reported place) pulses l);
      sound = line-keeps s.tree s.notes (length s.place.net.pulses) s.lines line new r.sound read;
    }

end_taken : (s : Session) (new : Notes) (end : Option ℕ) → new.end ≡ end → EndBy (step_by end) (record s { notes = new; horizon = horizon_by s.horizon end })
end_taken s new None e = e
end_taken s new (Some end) e = e

asked_late : (reporting : Reporting) (tree : List Node) (s : Session) (reported line : List ℕ) (new : Notes) (late : Bool) → is_late (standing s) (pin_time line) new ≡ late → SoFar reporting tree s reported → s.notes.end ≡ None
    → IsLineRead s.tree s.notes (length s.place.net.pulses) s.lines line (Ok new) → Asked reporting tree (step_noted (standing s) (pin_time line) (Ok new)) (with_standing s (standing_with (standing s) (pin_time line) (Ok new))) reported
asked_late reporting tree s reported line new true e r going read =
    subst (λ (b : Bool). Asked reporting tree (if b then refuse 1 Past else step_by new.end) (with_standing s (if b then standing s else taken (standing s) new)) reported) (sym e)
    (subst (λ (t : Session). Asked reporting tree (refuse 1 Past) t reported) (sym (same_standing s)) (record { so_far = r; ended = going }))
asked_late reporting tree s reported line new false e r going read =
    subst (λ (b : Bool). Asked reporting tree (if b then refuse 1 Past else step_by new.end) (with_standing s (if b then standing s else taken (standing s) new)) reported) (sym e)
    (record { so_far = asked_taken reporting tree s reported line new r read e; ended = ended new.end refl })
  where
    ended : (end : Option ℕ) → new.end ≡ end → EndBy (step_by new.end) (with_standing s (taken (standing s) new))
    ended None h = subst (λ (end : Option ℕ). EndBy (step_by end) (with_standing s (record { notes = new; horizon = horizon_by s.horizon end; net = record s.place.net { pulses = s.place.net.pulses ++ new_pulses s.notes new } }))) (sym h) h
    ended (Some end) h = subst (λ (end : Option ℕ). EndBy (step_by end) (with_standing s (record { notes = new; horizon = horizon_by s.horizon end; net = record s.place.net { pulses = s.place.net.pulses ++ new_pulses s.notes new } }))) (sym h) h

asked_read : (reporting : Reporting) (tree : List Node) (s : Session) (reported line : List ℕ) (read : Result Notes (AtWord ScriptCause)) → SoFar reporting tree s reported → s.notes.end ≡ None
    → IsLineRead s.tree s.notes (length s.place.net.pulses) s.lines line read → Asked reporting tree (step_noted (standing s) (pin_time line) read) (with_standing s (standing_with (standing s) (pin_time line) read)) reported
asked_read reporting tree s reported line (Err fault) r going read =
    subst (λ (t : Session). Asked reporting tree (refuse fault.word (Script fault.cause)) t reported) (sym (same_standing s)) (record { so_far = r; ended = going })
asked_read reporting tree s reported line (Ok new) r going read = asked_late reporting tree s reported line new (is_late (standing s) (pin_time line) new) refl r going read

-- ---- its other lines

asked_to : (reporting : Reporting) (tree : List Node) (s : Session) (reported : List ℕ) (time : Option ℕ) → SoFar reporting tree s reported → s.notes.end ≡ None → Asked reporting tree (step_to s time) (after_to s time) reported
asked_to reporting tree s reported None r going = record { so_far = r; ended = going }
asked_to reporting tree s reported (Some time) r going = by_test (nat_lt time s.horizon) refl
  where
    by_test : (b : Bool) → nat_lt time s.horizon ≡ b → Asked reporting tree (step_to s (Some time)) (after_to s (Some time)) reported
    by_test true e =
        subst (λ (b : Bool). Asked reporting tree (if b then refuse 2 Past else Go) (if b then s else record s { horizon = time }) reported) (sym e) (record { so_far = r; ended = going })
    by_test false e =
        subst (λ (b : Bool). Asked reporting tree (if b then refuse 2 Past else Go) (if b then s else record s { horizon = time }) reported) (sym e)
        (record { so_far = raised reporting tree s reported time r (grind (arith, nat_tests)); ended = going })

asked_wait : (reporting : Reporting) (tree : List Node) (s : Session) (reported : List ℕ) (soon : Option ℕ) → SoFar reporting tree s reported → s.notes.end ≡ None → Asked reporting tree (step_wait soon) (after_wait s soon) reported
asked_wait reporting tree s reported None r going = record { so_far = r; ended = going }
asked_wait reporting tree s reported (Some time) r going = record { so_far = raised reporting tree s reported (max s.horizon time) r (omega arith); ended = going }

waited_later : (horizon until : ℕ) (soon : Option ℕ) → horizon ≤ until → horizon ≤ horizon_waited horizon until soon
waited_later horizon until None l = l
waited_later horizon until (Some time) l = omega arith

asked_wait_until : (reporting : Reporting) (tree : List Node) (s : Session) (reported : List ℕ) (time : Option ℕ) (step : Step) (t : Session) → SoFar reporting tree s reported → s.notes.end ≡ None → IsWaitStep s time step t
    → Asked reporting tree step t reported
asked_wait_until reporting tree s reported None step t r going (asks, stands) =
    subst (λ (step : Step). Asked reporting tree step t reported) (sym asks) (subst (λ (t : Session). Asked reporting tree (refuse 1 (Script Number)) t reported) (sym stands) (record { so_far = r; ended = going }))
asked_wait_until reporting tree s reported (Some until) step t r going is = by_test (nat_lt until s.horizon) refl is
  where
    by_test : (b : Bool) → nat_lt until s.horizon ≡ b → IsWaitStepBy b s until step t → Asked reporting tree step t reported
    by_test true e (asks, stands) =
        subst (λ (step : Step). Asked reporting tree step t reported) (sym asks) (subst (λ (t : Session). Asked reporting tree (refuse 1 Past) t reported) (sym stands) (record { so_far = r; ended = going }))
    by_test false e (asks, soon, is, stands) =
        let l : s.horizon ≤ until = grind (arith, nat_tests) in
        subst (λ (step : Step). Asked reporting tree step t reported) (sym asks) (subst (λ (t : Session). Asked reporting tree Go t reported) (sym stands)
        (record { so_far = raised reporting tree s reported (horizon_waited s.horizon until soon) r (waited_later s.horizon until soon l); ended = going }))

asked_show : (reporting : Reporting) (tree : List Node) (s : Session) (reported : List ℕ) (device : Option ℕ) → SoFar reporting tree s reported → s.notes.end ≡ None → Asked reporting tree (step_show device) s reported
asked_show reporting tree s reported None r going = record { so_far = r; ended = going }
asked_show reporting tree s reported (Some device) r going = record { so_far = r; ended = going }

asked_edge : (reporting : Reporting) (tree : List Node) (s : Session) (reported : List ℕ) (time : Option ℕ) (step : Step) (t : Session) → SoFar reporting tree s reported → s.notes.end ≡ None → IsEdgeStep s time step t
    → Asked reporting tree step t reported
asked_edge reporting tree s reported None step t r going (asks, stands) =
    subst (λ (step : Step). Asked reporting tree step t reported) (sym asks) (subst (λ (t : Session). Asked reporting tree (refuse 1 (Script Number)) t reported) (sym stands) (record { so_far = r; ended = going }))
asked_edge reporting tree s reported (Some until) step t r going is = by_test (nat_lt until s.horizon) is
  where
    by_test : (b : Bool) → IsEdgeStepBy b s until step t → Asked reporting tree step t reported
    by_test true (asks, stands) =
        subst (λ (step : Step). Asked reporting tree step t reported) (sym asks) (subst (λ (t : Session). Asked reporting tree (refuse 1 Past) t reported) (sym stands) (record { so_far = r; ended = going }))
    by_test false (asks, to, edge, stands) =
        subst (λ (step : Step). Asked reporting tree step t reported) (sym asks) (subst (λ (t : Session). Asked reporting tree Edge t reported) (sym stands)
        (record { so_far = raised reporting tree s reported (max s.horizon to) r (omega arith); ended = going }))

asked_edges : (reporting : Reporting) (tree : List Node) (s : Session) (reported : List ℕ) (edges : Bool) → SoFar reporting tree s reported → s.notes.end ≡ None → Asked reporting tree Go (record s { edges = edges }) reported
asked_edges reporting tree s reported edges r going = record { so_far = record { reporting_is = r.reporting_is; turns = r.turns; leads = r.leads; sound = r.sound }; ended = going }

asked_seats : (reporting : Reporting) (tree : List Node) (s : Session) (reported : List ℕ) (seats : Bool) → SoFar reporting tree s reported → s.notes.end ≡ None → Asked reporting tree Go (record s { seats = seats }) reported
asked_seats reporting tree s reported seats r going = record { so_far = record { reporting_is = r.reporting_is; turns = r.turns; leads = r.leads; sound = r.sound }; ended = going }

pub asked_by : (reporting : Reporting) (tree : List Node) (s : Session) (reported line : List ℕ) (command : SessionCommand) (step : Step) (t : Session) → SoFar reporting tree s reported → s.notes.end ≡ None
    → IsStepBy s command line step t → Asked reporting tree step t reported
asked_by reporting tree s reported line commands.Script step t r going (read, is, asks, stands) =
    subst (λ (step : Step). Asked reporting tree step t reported) (sym asks)
    (subst (λ (t : Session). Asked reporting tree (step_noted (standing s) (pin_time line) read) t reported) (sym stands) (asked_read reporting tree s reported line read r going is))
asked_by reporting tree s reported line commands.Wait step t r going (soon, is, asks, stands) =
    subst (λ (step : Step). Asked reporting tree step t reported) (sym asks)
    (subst (λ (t : Session). Asked reporting tree (step_wait soon) t reported) (sym stands) (asked_wait reporting tree s reported soon r going))
asked_by reporting tree s reported line (commands.WaitUntil time) step t r going is = asked_wait_until reporting tree s reported time step t r going is
asked_by reporting tree s reported line (commands.RunTo time) step t r going (asks, stands) =
    subst (λ (step : Step). Asked reporting tree step t reported) (sym asks)
    (subst (λ (t : Session). Asked reporting tree (step_to s time) t reported) (sym stands) (asked_to reporting tree s reported time r going))
asked_by reporting tree s reported line (commands.Show device) step t r going (asks, stands) =
    subst (λ (step : Step). Asked reporting tree step t reported) (sym asks)
    (subst (λ (t : Session). Asked reporting tree (step_show device) t reported) (sym stands) (asked_show reporting tree s reported device r going))
asked_by reporting tree s reported line (commands.Edge time) step t r going is = asked_edge reporting tree s reported time step t r going is
asked_by reporting tree s reported line (commands.Edges edges) step t r going (asks, stands) =
    subst (λ (step : Step). Asked reporting tree step t reported) (sym asks)
    (subst (λ (t : Session). Asked reporting tree Go t reported) (sym stands) (asked_edges reporting tree s reported edges r going))
asked_by reporting tree s reported line (commands.Seats seats) step t r going (asks, stands) =
    subst (λ (step : Step). Asked reporting tree step t reported) (sym asks)
    (subst (λ (t : Session). Asked reporting tree Go t reported) (sym stands) (asked_seats reporting tree s reported seats r going))

pub counted : (reporting : Reporting) (tree : List Node) (s : Session) (reported : List ℕ) → SoFar reporting tree s reported → SoFar reporting tree (with_line_counted s) reported
counted reporting tree s reported r = record { reporting_is = r.reporting_is; turns = r.turns; leads = r.leads; sound = r.sound }

-- ---- what is due of a step

-- the whole trace was told
pub record Over (reporting : Reporting) (tree : List Node) (s : Session) (reported : List ℕ) : Type 0 where
  pub run : IsRunTextFrom reporting s.horizon (start (first_net tree s.notes.pulses) s.notes.events) reported s.place.totals
  pub ended : s.notes.end ≡ Some s.horizon

abbrev pub Reached : Reporting → List Node → Session → List ℕ → Type 0
Reached reporting tree s reported = (SoFar reporting tree s reported × (s.notes.end ≡ None)) ⊎ Over reporting tree s reported

-- whatever the turns are
any_turns : (Holds : Turn → Config → Type 0) (reporting : Reporting) (until n : ℕ) (c d : Config) (text : List ℕ) → LeadsIf Holds reporting until n c text d → LeadsIf (IsReported true until) reporting until n c text d
any_turns Holds reporting until zero c d text l = l
any_turns Holds reporting until (suc n) c d text (mid, line, rest, turn, over, after, e) = (mid, line, rest, turn, tt, any_turns Holds reporting until n mid d rest after, e)

leads_of : (reporting : Reporting) (until n : ℕ) (c d : Config) (text : List ℕ) → LeadsIf (IsReported true until) reporting until n c text d → Leads reporting until n c text d
leads_of reporting until zero c d text l = l
leads_of reporting until (suc n) c d text (mid, line, rest, turn, over, after, e) = (mid, line, rest, turn, leads_of reporting until n mid d rest after, e)

still : (reporting : Reporting) (tree : List Node) (s t : Session) (reported : List ℕ) → SoFar reporting tree s reported → s.notes.end ≡ None → t ≡ s → Reached reporting tree t (reported ++ [])
still reporting tree s t reported r going same =
    subst (λ (t : Session). Reached reporting tree t (reported ++ [])) (sym same) (subst (λ (text : List ℕ). Reached reporting tree s text) (sym (append-nil reported)) (inl (r, going)))

gone_reached : (reporting : Reporting) (tree : List Node) (s t : Session) (reported : List ℕ) (edges : Bool) (first own : List ℕ) (place : Config) → SoFar reporting tree s reported → s.notes.end ≡ None
    → SessionGoes edges false s first own place → t ≡ record s { place = place } → Reached reporting tree t (reported ++ first)
gone_reached reporting tree s t reported edges first own place r going goes stands =
    let until = certain_until s.notes.pin s.horizon in
    let here : Goes reporting false until s.place first place =
    subst (λ (e : Reporting). Goes e false until s.place first place) r.reporting_is (goes_of s.reporting false s.seats s.notes.pin (span_of edges false s) until s.place place first own goes) in
    let all = all_on (IsReported false until) reporting until r.turns here.turns (start (first_net tree s.notes.pulses) s.notes.events) s.place place reported first r.leads here.leads in
    subst (λ (t : Session). Reached reporting tree t (reported ++ first)) (sym stands) (inl (record { reporting_is = r.reporting_is; turns = all.0; leads = all.1; sound = r.sound }, going))

pub due_reached : (reporting : Reporting) (tree : List Node) (s t : Session) (reported text : List ℕ) (step : Step) → Asked reporting tree step s reported → (due : IsDue step s text t) → Reached reporting tree t (reported ++ reported_of step s text t due)
due_reached reporting tree s t reported text (Refuse refusal) a due = still reporting tree s t reported a.so_far a.ended due.1
due_reached reporting tree s t reported text Idle a due = still reporting tree s t reported a.so_far a.ended due.1
due_reached reporting tree s t reported text (Show device) a due = still reporting tree s t reported a.so_far a.ended due.3
due_reached reporting tree s t reported text Go a (first, own, place, goes, is, stands) = gone_reached reporting tree s t reported s.edges first own place a.so_far a.ended goes stands
due_reached reporting tree s t reported text Edge a (first, own, place, goes, is, stands) = gone_reached reporting tree s t reported true first own place a.so_far a.ended goes stands
due_reached reporting tree s t reported text Finish a (first, own, place, goes, is, stands) =
    let r = a.so_far in
    let until = certain_until s.notes.pin s.horizon in
    let gone : until ≡ s.horizon = ap (λ (pin : Option ℕ). certain_until pin s.horizon) (r.sound.let_go s.horizon a.ended) in
    let here : Goes reporting true s.horizon s.place first place =
    subst (λ (e : Reporting). Goes e true s.horizon s.place first place) r.reporting_is
    (goes_of s.reporting true s.seats s.notes.pin (span_of s.edges true s) s.horizon s.place place first own
    (subst (λ (n : ℕ). GoesWith s.reporting true s.seats s.notes.pin (span_of s.edges true s) n s.place first own place) gone goes)) in
    let before = any_turns (IsReported false s.horizon) reporting s.horizon r.turns (start (first_net tree s.notes.pulses) s.notes.events) s.place reported
    (subst (λ (n : ℕ). LeadsBy reporting n r.turns (start (first_net tree s.notes.pulses) s.notes.events) reported s.place) gone r.leads) in
    let all = all_on (IsReported true s.horizon) reporting s.horizon r.turns here.turns (start (first_net tree s.notes.pulses) s.notes.events) s.place place reported first before here.leads in
    let last = end_reported s.reporting s.horizon place.net in
    let run : IsRunTextFrom reporting s.horizon (start (first_net tree s.notes.pulses) s.notes.events) (reported ++ (first ++ last)) place.totals = record {
      turns = all.0;
      last = place;
      body = reported ++ first;
      leads = leads_of reporting s.horizon all.0 (start (first_net tree s.notes.pulses) s.notes.events) place (reported ++ first) all.1;
      stops = here.last;
      whole = sym (append_assoc reported first last) ∙ ap (λ (x : Reporting). (reported ++ first) ++ end_reported x s.horizon place.net) r.reporting_is;
      counts = refl;
    } in
    subst (λ (t : Session). Reached reporting tree t (reported ++ (first ++ last))) (sym stands) (inr (record { run = run; ended = a.ended }))

-- ---- all lines

pub not_both : (end : Option ℕ) (at : ℕ) → end ≡ None → end ≡ Some at → ⊥
not_both end at e f = cc

some_same : (end : Option ℕ) (a b : ℕ) → end ≡ Some a → end ≡ Some b → a ≡ b
some_same end a b e f = cc

pub all_lines : (reporting : Reporting) (tree : List Node) (lines kept : List (List ℕ)) (s t : Session) (before reported text : List ℕ) → Reached reporting tree s before → AreLines lines s kept reported text t
    → Reached reporting tree t (before ++ reported)
all_lines reporting tree [] kept s t before reported text r (nothing, none, empty, same) =
    subst (λ (t : Session). Reached reporting tree t (before ++ reported)) (sym same)
    (subst (λ (reported : List ℕ). Reached reporting tree s (before ++ reported)) (sym none) (subst (λ (text : List ℕ). Reached reporting tree s text) (sym (append-nil before)) r))
all_lines reporting tree (line ∷ lines) kept s t before reported text (inr over) (mid, here, there, first, second, more, rest, is, after, kept_is, reported_is, text_is) = absurd (not_both s.notes.end s.horizon is.goes_on over.ended)
all_lines reporting tree (line ∷ lines) kept s t before reported text (inl (so_far, going)) (mid, own, others, first, second, more, rest, is, after, kept_is, reported_is, text_is) =
    let asked = asked_by reporting tree (with_line_counted s) before line (command_of s.tree line) is.step is.asked (counted reporting tree s before so_far) going is.asks in
    let here : Reached reporting tree mid (before ++ first) =
    subst (λ (reported : List ℕ). Reached reporting tree mid (before ++ reported)) (sym is.reported_is) (due_reached reporting tree is.asked mid before second is.step asked is.due) in
    let there = all_lines reporting tree lines others mid t (before ++ first) more rest here after in
    subst (λ (text : List ℕ). Reached reporting tree t text) (append_assoc before first more ∙ ap (λ (text : List ℕ). before ++ text) (sym reported_is)) there

pub reached : (reporting : Reporting) (tree : List Node) (lines kept : List (List ℕ)) (reported text : List ℕ) (t : Session) → AreLines lines (first_session reporting tree) kept reported text t → Reached reporting tree t reported
reached reporting tree lines kept reported text t l = all_lines reporting tree lines kept (first_session reporting tree) t [] reported text (inl (so_far_start reporting tree, refl)) l

-- whatever may still come comes when nothing is certain yet
pub comes_from : (pin : Option ℕ) (horizon end : ℕ) (events : List TimedEvent) (later : List Stretch) → MayCome pin horizon events later end → ComesFrom (certain_until pin horizon) events later end
comes_from None horizon end events later comes = comes
comes_from (Some low) horizon end events [] comes = absurd comes
comes_from (Some low) horizon end events (pull ∷ later) (begins, ends, comes) = record {
  scheduled = λ k e l. (let x = comes.scheduled k e l in omega (arith, x));
  begun = All-cons (λ p. min horizon low ≤ p.from) pull later (omega (arith, begins)) (λ k p l. (let x = comes.begun k p l in omega (arith, x)));
  over = (let x = comes.over in omega (arith, x));
}

-- what a run reports at its start knows of no pulse
pub starts_same : (reporting : Reporting) (tree : List Node) (pulses : List Stretch) → start_reported reporting (first_net tree pulses) ≡ start_reported reporting (first_net tree [])
starts_same (Trace edid) tree pulses = refl
starts_same (Objects edid room) tree pulses = refl
starts_same (Line format) tree pulses = refl

pub sessions_report_fronts : SessionsReportFronts
sessions_report_fronts reporting tree lines kept reported text t l going events later end whole totals comes run =
    by_case (reached reporting tree lines kept reported text t l)
  where
    by_case : Reached reporting tree t reported → (more : List ℕ) × (whole ≡ (start_reported reporting (first_net tree t.notes.pulses) ++ reported) ++ more)
    by_case (inl (r, none)) =
        reported_is_front reporting tree t.notes.pulses later t.notes.events events (certain_until t.notes.pin t.horizon) end r.turns t.place reported whole totals
        r.sound.order r.sound.framed (comes_from t.notes.pin t.horizon end events later comes) r.leads run
    by_case (inr over) = absurd (not_both t.notes.end t.horizon going over.ended)

pub sessions_report_traces : SessionsReportTraces
sessions_report_traces reporting tree lines kept reported text t end l ended = by_case (reached reporting tree lines kept reported text t l)
  where
    by_case : Reached reporting tree t reported
        → IsRunText reporting end (start (first_net tree t.notes.pulses) t.notes.events) (start_reported reporting (first_net tree t.notes.pulses) ++ reported) t.place.totals
    by_case (inl (r, none)) = absurd (not_both t.notes.end end none ended)
    by_case (inr over) =
        subst (λ (end : ℕ). IsRunText reporting end (start (first_net tree t.notes.pulses) t.notes.events)
        (start_reported reporting (first_net tree t.notes.pulses) ++ reported) t.place.totals) (some_same t.notes.end t.horizon end over.ended ended)
        (record { rest = reported; run = over.run; whole = refl })
