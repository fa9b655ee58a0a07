-- A whole session, from its parts.
use Rattle.std.proofs.Common.{◌≡◌, ℕ, false, List, [], ◌++◌, Option, Some, Result, Ok, Err, inl, inr, length, ◌≤◌, refl, sym, subst}
use Rattle.line_wave.specs.declared.Stretch.{Stretch}
use Rattle.edid_core.specs.declared.edid.Edid.{Edid as EdidValue}
use Rattle.edid_tree.specs.Node.{Node}
use Rattle.room_net.specs.State.{first_net}
use Rattle.live_incoming.specs.Incoming.{text_of_lines}
use Rattle.record_core.specs.declared.cell.Form.{Form}
use Rattle.record_core.specs.declared.cell.Form.TheVariants.{Text, Json}
use Rattle.room_run.specs.Run.{IsRunText, start, start_reported}
use Rattle.live_session.specs.Session.{Session, first_session}
use Rattle.live_session.specs.Turns.{reporting_of}
use Rattle.live_session.specs.Whole.{AreLines, IsReportOf}
use Rattle.live_session.proofs.Wholly.{sessions_report_traces}
use Rattle.live_session.proofs.Kept.{sessions_report_traces_of}
use Rattle.live_dialogue.specs.declared.error.SessionError.{SessionError}
use Rattle.live_dialogue.specs.declared.error.SessionError.TheVariants.{Read, TooLong, NoScriptLine, Topology, Edid, Script, Write, Memory}
use Rattle.live_dialogue.specs.Dialogue.{HasBegun, HasRoom, HasRun, HaveAnswers, IsAnswering, IsFirstPut, IsInLimits, IsOpened, IsOpening, IsSession, IsTopologyFault, first_reported, is_write}
use Rattle.line_wave.specs.Bounds.{most_pulses}

-- ---- the trace

-- what a run reports at its start knows of no pulse
starts_same : (form : Form) (edid : Option EdidValue) (tree : List Node) (pulses : List Stretch) → start_reported (reporting_of form edid) (first_net tree pulses) ≡ start_reported (reporting_of form edid) (first_net tree [])
starts_same Text edid tree pulses = refl
starts_same Json edid tree pulses = refl

trace_of : (form : Form) (topology : List ℕ) (s : Session) (b : HasBegun form topology s) (lines kept : List (List ℕ)) (reported text : List ℕ) (t : Session) (end : ℕ) (before after old new : Option (List ℕ)) (a : HaveAnswers before after s old new t)
    → t.notes.end ≡ Some end → length t.notes.pulses ≤ most_pulses → IsReportOf form topology (text_of_lines a.kept) (first_reported s ++ a.reported) t.place.totals
trace_of form topology s b lines kept reported text t end before after old new a ended sparse =
    let are : AreLines a.lines (first_session (reporting_of form b.edid) b.plan.tree) a.kept a.reported a.text t = subst (λ (s : Session). AreLines a.lines s a.kept a.reported a.text t) b.is a.are in
    subst (λ (s : Session). IsReportOf form topology (text_of_lines a.kept) (first_reported s ++ a.reported) t.place.totals) (sym b.is)
    (sessions_report_traces_of topology b.plan form b.edid a.lines a.kept a.reported a.text t end b.plan_is b.root a.whole a.few sparse are ended)

run_of : (form : Form) (topology : List ℕ) (s : Session) (b : HasBegun form topology s) (t : Session) (end : ℕ) (before after old new : Option (List ℕ)) (a : HaveAnswers before after s old new t)
    → t.notes.end ≡ Some end → IsRunText (reporting_of form b.edid) end (start (first_net b.plan.tree t.notes.pulses) t.notes.events) (first_reported s ++ a.reported) t.place.totals
run_of form topology s b t end before after old new a ended =
    let are : AreLines a.lines (first_session (reporting_of form b.edid) b.plan.tree) a.kept a.reported a.text t = subst (λ (s : Session). AreLines a.lines s a.kept a.reported a.text t) b.is a.are in
    subst (λ (s : Session). IsRunText (reporting_of form b.edid) end (start (first_net b.plan.tree t.notes.pulses) t.notes.events) (first_reported s ++ a.reported) t.place.totals) (sym b.is)
    (subst (λ (first : List ℕ). IsRunText (reporting_of form b.edid) end (start (first_net b.plan.tree t.notes.pulses) t.notes.events) (first ++ a.reported) t.place.totals) (starts_same form b.edid b.plan.tree t.notes.pulses)
    (sessions_report_traces (reporting_of form b.edid) b.plan.tree a.lines a.kept a.reported a.text t end are ended))

-- ---- the session

answered_is : (form : Form) (before mid after : Option (List ℕ)) (s : Session) (old put new : Option (List ℕ)) (topology : List ℕ) (result : Result Unit SessionError) → (run : HasRun form before after old new)
    → IsAnswering run.mid after run.first run.so_far new result → IsSession form before after old new result
answered_is form before mid after s old put new topology (Ok done) run a = record {
  run = run;
  over = a;
  reported = run_of form run.topology run.first run.begins a.last a.end run.mid after run.so_far new a.answers a.ended;
  trace = trace_of form run.topology run.first run.begins a.answers.lines a.answers.kept a.answers.reported a.answers.text a.last a.end run.mid after run.so_far new a.answers a.ended;
}
answered_is form before mid after s old put new topology (Err (Script line cause)) run a = (run, a)
answered_is form before mid after s old put new topology (Err (Write count)) run a = inl (run, a)
answered_is form before mid after s old put new topology (Err Read) run a = inr (run, a)
answered_is form before mid after s old put new topology (Err TooLong) run a = inr (run, a)
answered_is form before mid after s old put new topology (Err Memory) run a = inr (run, a)
answered_is form before mid after s old put new topology (Err NoScriptLine) run a = absurd a
answered_is form before mid after s old put new topology (Err (Topology line cause word)) run a = absurd a
answered_is form before mid after s old put new topology (Err (Edid cause)) run a = absurd a

pub session_is : (form : Form) (before mid after : Option (List ℕ)) (s : Session) (old put new : Option (List ℕ)) (topology : List ℕ) (result : Result Unit SessionError) → IsOpened before mid topology → HasBegun form topology s
    → IsFirstPut s old put (Ok tt) → IsAnswering mid after s put new result → IsSession form before after old new result
session_is form before mid after s old put new topology result opened begins first answered =
    answered_is form before mid after s old put new topology result (record { topology = topology; first = s; mid = mid; so_far = put; opened = opened; begins = begins; put = first }) answered

-- what stands first is cut short
pub unput_is : (form : Form) (before mid after : Option (List ℕ)) (s : Session) (old new : Option (List ℕ)) (topology : List ℕ) (error : SessionError) → IsOpened before mid topology → HasBegun form topology s
    → IsFirstPut s old new (Err error) → IsSession form before after old new (Err error)
unput_is form before mid after s old new topology (Write count) opened begins first = inr (topology, s, mid, opened, begins, first)
unput_is form before mid after s old new topology Read opened begins first = absurd first
unput_is form before mid after s old new topology TooLong opened begins first = absurd first
unput_is form before mid after s old new topology NoScriptLine opened begins first = absurd first
unput_is form before mid after s old new topology (Topology line cause word) opened begins first = absurd first
unput_is form before mid after s old new topology (Edid cause) opened begins first = absurd first
unput_is form before mid after s old new topology (Script line cause) opened begins first = absurd first
unput_is form before mid after s old new topology Memory opened begins first = absurd first

-- the topology is refused
pub refused_is : (form : Form) (before mid after old : Option (List ℕ)) (topology : List ℕ) (error : SessionError) → IsOpened before mid topology → IsTopologyFault topology error → IsSession form before after old old (Err error)
refused_is form before mid after old topology (Topology line cause word) opened fault = ((topology, mid, opened, fault), refl)
refused_is form before mid after old topology (Edid cause) opened fault = ((topology, mid, opened, fault), refl)
refused_is form before mid after old topology Memory opened fault = inl refl
refused_is form before mid after old topology Read opened fault = absurd fault
refused_is form before mid after old topology TooLong opened fault = absurd fault
refused_is form before mid after old topology NoScriptLine opened fault = absurd fault
refused_is form before mid after old topology (Script line cause) opened fault = absurd fault
refused_is form before mid after old topology (Write count) opened fault = absurd fault

pub refused_quiet : (topology : List ℕ) (error : SessionError) → IsTopologyFault topology error → (let r : Result Unit SessionError = Err error in is_write r) ≡ false
refused_quiet topology (Topology line cause word) fault = refl
refused_quiet topology (Edid cause) fault = refl
refused_quiet topology Memory fault = refl
refused_quiet topology Read fault = absurd fault
refused_quiet topology TooLong fault = absurd fault
refused_quiet topology NoScriptLine fault = absurd fault
refused_quiet topology (Script line cause) fault = absurd fault
refused_quiet topology (Write count) fault = absurd fault

-- there is none
pub unopened_is : (form : Form) (before after old : Option (List ℕ)) (error : SessionError) → IsOpening before after (Err error) → IsSession form before after old old (Err error)
unopened_is form before after old NoScriptLine none = (none.0, refl)
unopened_is form before after old Read none = inl refl
unopened_is form before after old TooLong long = inl (long, refl)
unopened_is form before after old Memory none = inl refl
unopened_is form before after old (Topology line cause word) none = absurd none
unopened_is form before after old (Edid cause) none = absurd none
unopened_is form before after old (Script line cause) none = absurd none
unopened_is form before after old (Write count) none = absurd none

-- it goes on within the limits alone
pub in_limits : (before : Option (List ℕ)) (result : Result Unit SessionError) → HasRoom before → IsInLimits before result
in_limits before (Ok done) room = room
in_limits before (Err NoScriptLine) room = room
in_limits before (Err (Topology line cause word)) room = room
in_limits before (Err (Edid cause)) room = room
in_limits before (Err (Script line cause)) room = room
in_limits before (Err (Write count)) room = room
in_limits before (Err TooLong) room = tt
in_limits before (Err Read) room = tt
in_limits before (Err Memory) room = tt

pub unopened_limits : (before mid : Option (List ℕ)) (error : SessionError) → IsOpening before mid (Err error) → IsInLimits before (Err error)
unopened_limits before mid NoScriptLine none = none.1
unopened_limits before mid Read none = tt
unopened_limits before mid TooLong long = tt
unopened_limits before mid Memory none = tt
unopened_limits before mid (Topology line cause word) none = absurd none
unopened_limits before mid (Edid cause) none = absurd none
unopened_limits before mid (Script line cause) none = absurd none
unopened_limits before mid (Write count) none = absurd none
