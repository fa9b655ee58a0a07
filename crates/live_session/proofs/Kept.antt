-- The script of a session is read as its lines were.
use Rattle.std.proofs.Common.{◌≡◌, ◌≢◌, ℕ, ◌+◌, ◌≤◌, min, Bool, true, false, nat_lt, if◌then◌else◌, List, [], ◌∷◌, ◌++◌, length, length-append, Option, Some, None, Result, Ok, Err, All, refl, sym, ap, subst, ◌∙◌, arith}
use Rattle.live_session.specs.Session.{IsWaitStep, IsWaitStepBy}
use Rattle.std.proofs.lemmas.List.Elements.{All-cons, All-head, All-nil, All-tail}
use Rattle.edid_tree.specs.Node.{Node}
use Rattle.live_incoming.specs.Incoming.{IsWhole, text_of_lines}
use Rattle.live_incoming.proofs.Coming.{lines_again}
use Rattle.room_script.proofs.Adding.{read_again}
use Rattle.room_script.specs.Script.{Course, Notes, IsLineRead, AreLinesRead, course_at_end, no_notes}
use Rattle.text_core.specs.declared.at.At.{At}
use Rattle.room_script.specs.declared.script.ScriptCause.{ScriptCause}
use Rattle.text_core.specs.declared.at.AtWord.{AtWord}
use Rattle.record_core.specs.declared.cell.Form.{Form}
use Rattle.record_core.specs.declared.cell.Form.TheVariants.{Text, Json}
use Rattle.edid_core.specs.declared.edid.Edid.{Edid}
use Rattle.edid_core.specs.Root.{IsRoot}
use Rattle.room_net.specs.State.{first_net}
use Rattle.room_script.specs.Topology.{Plan}
use Rattle.room_run.specs.declared.run.Reporting.TheVariants.{Objects, Trace}
use Rattle.room_run.specs.Causal.{before_reported}
use Rattle.room_run.specs.Emulate.{IsAccepted}
use Rattle.room_run.specs.Run.{Config, IsRunText, start}
use Rattle.live_session.specs.declared.answer.RefusalCause.TheVariants.{Past}
use Rattle.live_session.specs.declared.command.SessionCommand.{SessionCommand}
use Rattle.live_session.specs.declared.command.SessionCommand.TheVariants as commands
use Rattle.live_session.specs.declared.live.Step.{Step}
use Rattle.live_session.specs.declared.live.Step.TheVariants.{Refuse, Idle, Show, Go, Edge, Finish}
use Rattle.live_session.specs.Command.{command_of, pin_time}
use Rattle.live_session.specs.Session.{Session, first_session, refuse, with_line_counted, standing, with_standing, standing_with, step_noted, step_by, is_late, after_to, after_wait, IsEdgeStep, IsEdgeStepBy, IsStepBy, IsDue}
use Rattle.live_session.specs.Turns.{reporting_of}
use Rattle.live_session.specs.Whole.{kept_line, IsLine, AreLines, IsReportOf, SessionsReportTracesOf}
use Rattle.live_session.proofs.Extends.{line_extends}
use Rattle.live_session.proofs.Noting.{taken}
use Rattle.live_session.proofs.Wholly.{sessions_report_traces, starts_same}
use Rattle.line_wave.specs.Bounds.{most_pulses}

-- ---- what a line leaves

record Stays (s t : Session) : Type 0 where
  tree : t.tree ≡ s.tree
  lines : t.lines ≡ s.lines
  notes : t.notes ≡ s.notes

all_stays : (s : Session) → Stays s s
all_stays s = record { tree = refl; lines = refl; notes = refl }

same_stays : (s t : Session) → t ≡ s → Stays s t
same_stays s t e = subst (λ (t : Session). Stays s t) (sym e) (all_stays s)

placed_stays : (s t : Session) (place : Config) → t ≡ record s { place = place } → Stays s t
placed_stays s t place e = subst (λ (t : Session). Stays s t) (sym e) (record { tree = refl; lines = refl; notes = refl })

due_stays : (step : Step) (s t : Session) (text : List ℕ) → IsDue step s text t → Stays s t
due_stays (Refuse refusal) s t text due = same_stays s t due.1
due_stays Idle s t text due = same_stays s t due.1
due_stays (Show device) s t text due = same_stays s t due.3
due_stays Go s t text due = placed_stays s t due.2 due.5
due_stays Edge s t text due = placed_stays s t due.2 due.5
due_stays Finish s t text due = placed_stays s t due.2 due.5

wait_stays : (s : Session) (soon : Option ℕ) → Stays s (after_wait s soon)
wait_stays s None = all_stays s
wait_stays s (Some time) = record { tree = refl; lines = refl; notes = refl }

to_stays : (s : Session) (time : Option ℕ) → Stays s (after_to s time)
to_stays s None = all_stays s
to_stays s (Some time) = by_test (nat_lt time s.horizon)
  where
    by_test : (b : Bool) → Stays s (if b then s else record s { horizon = time })
    by_test true = all_stays s
    by_test false = record { tree = refl; lines = refl; notes = refl }

wait_until_stays : (s : Session) (time : Option ℕ) (step : Step) (t : Session) → IsWaitStep s time step t → Stays s t
wait_until_stays s None step t (asks, stands) = same_stays s t stands
wait_until_stays s (Some until) step t is = by_test (nat_lt until s.horizon) is
  where
    by_test : (b : Bool) → IsWaitStepBy b s until step t → Stays s t
    by_test true (asks, stands) = same_stays s t stands
    by_test false (asks, soon, is, stands) = subst (λ (t : Session). Stays s t) (sym stands) (record { tree = refl; lines = refl; notes = refl })

edge_stays : (s : Session) (time : Option ℕ) (step : Step) (t : Session) → IsEdgeStep s time step t → Stays s t
edge_stays s None step t (asks, stands) = same_stays s t stands
edge_stays s (Some until) step t is = by_test (nat_lt until s.horizon) is
  where
    by_test : (b : Bool) → IsEdgeStepBy b s until step t → Stays s t
    by_test true (asks, stands) = same_stays s t stands
    by_test false (asks, to, edge, stands) = subst (λ (t : Session). Stays s t) (sym stands) (record { tree = refl; lines = refl; notes = refl })

-- ---- how a line is read

-- the line that is kept is read as the line was taken
record Reads (s : Session) (kept : List ℕ) (t : Session) : Type 0 where
  tree : t.tree ≡ s.tree
  lines : t.lines ≡ s.lines
  read : IsLineRead s.tree s.notes (length s.place.net.pulses) s.lines kept (Ok t.notes)

empty_reads : (s t : Session) → Stays s t → Reads s [] t
empty_reads s t same = record { tree = same.tree; lines = same.lines; read = ap Ok same.notes }

refused_reads : (s t : Session) → t ≡ with_standing s (standing s) → Reads s [] t
refused_reads s t e = empty_reads s t (subst (λ (t : Session). Stays s t) (sym e) (record { tree = refl; lines = refl; notes = refl }))

taken_reads : (s : Session) (line : List ℕ) (new : Notes) (late : Bool) (t : Session) → IsLineRead s.tree s.notes (length s.place.net.pulses) s.lines line (Ok new) → is_late (standing s) (pin_time line) new ≡ late
    → t ≡ with_standing s (standing_with (standing s) (pin_time line) (Ok new)) → Reads s (kept_line commands.Script (step_noted (standing s) (pin_time line) (Ok new)) line) t
taken_reads s line new true t read e stands =
    let step : step_noted (standing s) (pin_time line) (Ok new) ≡ refuse 1 Past = ap (λ b. if b then refuse 1 Past else step_by new.end) e in
    let same : standing_with (standing s) (pin_time line) (Ok new) ≡ standing s = ap (λ b. if b then standing s else taken (standing s) new) e in
    subst (λ (step : Step). Reads s (kept_line commands.Script step line) t) (sym step)
    (refused_reads s t (stands ∙ ap (with_standing s) same))
taken_reads s line new false t read e stands =
    let step : step_noted (standing s) (pin_time line) (Ok new) ≡ step_by new.end = ap (λ b. if b then refuse 1 Past else step_by new.end) e in
    let same : standing_with (standing s) (pin_time line) (Ok new) ≡ taken (standing s) new = ap (λ b. if b then standing s else taken (standing s) new) e in
    subst (λ (step : Step). Reads s (kept_line commands.Script step line) t) (sym step) (subst (λ (kept : List ℕ). Reads s kept t) (sym (keeps new.end))
    (subst (λ (t : Session). Reads s line t) (sym (stands ∙ ap (with_standing s) same)) (record { tree = refl; lines = refl; read = read })))
  where
    keeps : (end : Option ℕ) → kept_line commands.Script (step_by end) line ≡ line
    keeps None = refl
    keeps (Some end) = refl

noted_reads : (s : Session) (line : List ℕ) (read : Result Notes (AtWord ScriptCause)) (t : Session) → IsLineRead s.tree s.notes (length s.place.net.pulses) s.lines line read → t ≡ with_standing s (standing_with (standing s) (pin_time line) read)
    → Reads s (kept_line commands.Script (step_noted (standing s) (pin_time line) read) line) t
noted_reads s line (Err fault) t is stands = refused_reads s t stands
noted_reads s line (Ok new) t is stands = taken_reads s line new (is_late (standing s) (pin_time line) new) t is refl stands

step_reads : (s : Session) (command : SessionCommand) (line : List ℕ) (step : Step) (t : Session) → IsStepBy s command line step t → Reads s (kept_line command step line) t
step_reads s commands.Script line step t (read, is, asks, stands) = subst (λ (step : Step). Reads s (kept_line commands.Script step line) t) (sym asks) (noted_reads s line read t is stands)
step_reads s commands.Wait line step t (soon, is, asks, stands) = empty_reads s t (subst (λ (t : Session). Stays s t) (sym stands) (wait_stays s soon))
step_reads s (commands.WaitUntil time) line step t is = empty_reads s t (wait_until_stays s time step t is)
step_reads s (commands.RunTo time) line step t (asks, stands) = empty_reads s t (subst (λ (t : Session). Stays s t) (sym stands) (to_stays s time))
step_reads s (commands.Show device) line step t (asks, stands) = empty_reads s t (same_stays s t stands)
step_reads s (commands.Edge time) line step t is = empty_reads s t (edge_stays s time step t is)
step_reads s (commands.Edges edges) line step t (asks, stands) = empty_reads s t (subst (λ (t : Session). Stays s t) (sym stands) (record { tree = refl; lines = refl; notes = refl }))
step_reads s (commands.Seats seats) line step t (asks, stands) = empty_reads s t (subst (λ (t : Session). Stays s t) (sym stands) (record { tree = refl; lines = refl; notes = refl }))

-- ---- all lines

-- the session after a line whose number is still a count
record Onwards (s : Session) (kept : List ℕ) (t : Session) : Type 0 where
  tree : t.tree ≡ s.tree
  lines : t.lines ≡ s.lines + 1
  read : IsLineRead s.tree s.notes (length s.place.net.pulses) (s.lines + 1) kept (Ok t.notes)

line_reads : (s t : Session) (line kept reported text : List ℕ) → IsLine s line kept reported text t → s.lines + 1 ≤ 18446744073709551615 → Onwards s kept t
line_reads s t line kept reported text is few =
    let r = step_reads (with_line_counted s) (command_of s.tree line) line is.step is.asked is.asks in
    let after = due_stays is.step is.asked t text is.due in
    let count : min (s.lines + 1) 18446744073709551615 ≡ s.lines + 1 = omega arith in
    record {
      tree = after.tree ∙ r.tree;
      lines = after.lines ∙ r.lines ∙ count;
      read = subst (λ (notes : Notes). IsLineRead s.tree s.notes (length s.place.net.pulses) (s.lines + 1) kept (Ok notes)) (sym after.notes)
          (subst (λ (kept : List ℕ). IsLineRead s.tree s.notes (length s.place.net.pulses) (s.lines + 1) kept (Ok is.asked.notes)) (sym is.kept_is)
          (subst (λ (n : ℕ). IsLineRead s.tree s.notes (length s.place.net.pulses) n (kept_line (command_of s.tree line) is.step line) (Ok is.asked.notes)) count r.read));
    }

-- pulses are taken, and none is taken back
line_adds : (s t : Session) (line kept reported text : List ℕ) → IsLine s line kept reported text t → s.lines + 1 ≤ 18446744073709551615 → length s.notes.pulses ≤ length t.notes.pulses
line_adds s t line kept reported text is few =
    let e = line_extends s.tree s.notes (length s.place.net.pulses) (s.lines + 1) kept t.notes (line_reads s t line kept reported text is few).read in
    let long : length t.notes.pulses ≡ length s.notes.pulses + length e.pulses = ap length e.pulses_are ∙ length-append s.notes.pulses e.pulses in
    omega (arith, long)

lines_add : (lines kept : List (List ℕ)) (n : ℕ) (s t : Session) (reported text : List ℕ) → AreLines lines s kept reported text t → s.lines ≡ n → n + length lines ≤ 18446744073709551615
    → length s.notes.pulses ≤ length t.notes.pulses
lines_add [] kept n s t reported text (nothing, none, empty, same) number few = let long : length t.notes.pulses ≡ length s.notes.pulses = ap (λ (t : Session). length t.notes.pulses) same in omega (arith, long)
lines_add (line ∷ lines) kept n s t reported text (mid, own, others, first, second, more, rest, is, after, kept_is, reported_is, text_is) number few =
    let low : s.lines + 1 ≤ 18446744073709551615 = omega (arith, number, few) in
    let here = line_adds s mid line own first second is low in
    let r = line_reads s mid line own first second is low in
    let there = lines_add lines others (n + 1) mid t more rest after (r.lines ∙ ap (λ k. k + 1) number) (omega (arith, few)) in
    omega (arith, here, there)

lines_read : (tree : List Node) (lines kept : List (List ℕ)) (n : ℕ) (s t : Session) (reported text : List ℕ) (read : Result Course (At ScriptCause)) → AreLines lines s kept reported text t → s.tree ≡ tree → s.lines ≡ n
    → n + length lines ≤ 18446744073709551615 → length t.notes.pulses ≤ most_pulses → ((m : ℕ) → AreLinesRead tree [] m t.notes read) → AreLinesRead tree kept (n + 1) s.notes read
lines_read tree [] kept n s t reported text read (nothing, none, empty, same) at number few sparse last =
    subst (λ (kept : List (List ℕ)). AreLinesRead tree kept (n + 1) s.notes read) (sym nothing)
    (subst (λ (notes : Notes). AreLinesRead tree [] (n + 1) notes read) (ap (λ (t : Session). t.notes) same) (last (n + 1)))
lines_read tree (line ∷ lines) kept n s t reported text read (mid, own, others, first, second, more, rest, is, after, kept_is, reported_is, text_is) at number few sparse last =
    let r = line_reads s mid line own first second is (omega (arith, number, few)) in
    let there = lines_read tree lines others (n + 1) mid t more rest read after (r.tree ∙ at) (r.lines ∙ ap (λ k. k + 1) number) (omega (arith, few)) sparse last in
    let most : length mid.notes.pulses ≤ most_pulses = (let more = lines_add lines others (n + 1) mid t more rest after (r.lines ∙ ap (λ k. k + 1) number) (omega (arith, few)) in omega (arith, more, sparse)) in
    let here : IsLineRead tree s.notes (length s.notes.pulses) (n + 1) own (Ok mid.notes) =
    subst (λ (tree : List Node). IsLineRead tree s.notes (length s.notes.pulses) (n + 1) own (Ok mid.notes)) at
    (subst (λ (k : ℕ). IsLineRead s.tree s.notes (length s.notes.pulses) (k + 1) own (Ok mid.notes)) number
    (read_again s.tree s.notes mid.notes (length s.place.net.pulses) (s.lines + 1) own most r.read)) in
    subst (λ (kept : List (List ℕ)). AreLinesRead tree kept (n + 1) s.notes read) (sym kept_is) (Ok mid.notes, here, there)

kept_whole : (step : Step) (line : List ℕ) → IsWhole line → IsWhole (kept_line commands.Script step line)
kept_whole (Refuse refusal) line whole = All-nil (λ byte. byte ≢ 10)
kept_whole Idle line whole = All-nil (λ byte. byte ≢ 10)
kept_whole (Show device) line whole = All-nil (λ byte. byte ≢ 10)
kept_whole Go line whole = whole
kept_whole Edge line whole = whole
kept_whole Finish line whole = whole

line_whole : (command : SessionCommand) (step : Step) (line : List ℕ) → IsWhole line → IsWhole (kept_line command step line)
line_whole commands.Script step line whole = kept_whole step line whole
line_whole commands.Wait step line whole = All-nil (λ byte. byte ≢ 10)
line_whole (commands.WaitUntil time) step line whole = All-nil (λ byte. byte ≢ 10)
line_whole (commands.RunTo time) step line whole = All-nil (λ byte. byte ≢ 10)
line_whole (commands.Show device) step line whole = All-nil (λ byte. byte ≢ 10)
line_whole (commands.Edge time) step line whole = All-nil (λ byte. byte ≢ 10)
line_whole (commands.Edges edges) step line whole = All-nil (λ byte. byte ≢ 10)
line_whole (commands.Seats seats) step line whole = All-nil (λ byte. byte ≢ 10)

all_whole : (lines kept : List (List ℕ)) (s t : Session) (reported text : List ℕ) → AreLines lines s kept reported text t → All IsWhole lines → All IsWhole kept
all_whole [] kept s t reported text (nothing, none, empty, same) whole = subst (λ (kept : List (List ℕ)). All IsWhole kept) (sym nothing) (All-nil IsWhole)
all_whole (line ∷ lines) kept s t reported text (mid, own, others, first, second, more, rest, is, after, kept_is, reported_is, text_is) whole =
    let here : IsWhole own = subst IsWhole (sym is.kept_is) (line_whole (command_of s.tree line) is.step line (All-head IsWhole line lines whole)) in
    let there = all_whole lines others mid t more rest after (All-tail IsWhole line lines whole) in
    subst (λ (kept : List (List ℕ)). All IsWhole kept) (sym kept_is) (All-cons IsWhole own others here there)

-- the script that was taken, and that a trace, or its objects, are of it
record Scripted (topology : List ℕ) (plan : Plan) (edid : Option Edid) (kept : List (List ℕ)) (t : Session) (end : ℕ) : Type 0 where
  course : Course
  course_is : course ≡ record { events = t.notes.events; pulses = t.notes.pulses; end = end }
  accepted : IsAccepted topology (text_of_lines kept) plan course
  root : IsRoot plan.edid edid

report_of : (form : Form) (topology : List ℕ) (plan : Plan) (edid : Option Edid) (kept : List (List ℕ)) (text : List ℕ) (t : Session) (end : ℕ) → Scripted topology plan edid kept t end
    → IsRunText (reporting_of form edid) end (start (first_net plan.tree t.notes.pulses) t.notes.events) text t.place.totals → IsReportOf form topology (text_of_lines kept) text t.place.totals
report_of Text topology plan edid kept text t end k run = record {
  plan = plan;
  course = k.course;
  edid = edid;
  accepted = k.accepted;
  root = k.root;
  trace = subst (λ (c : Course). IsRunText (Trace edid) c.end (start (first_net plan.tree c.pulses) c.events) text t.place.totals) (sym k.course_is) run;
}
report_of Json topology plan edid kept text t end k run = record {
  plan = plan;
  course = k.course;
  edid = edid;
  accepted = k.accepted;
  root = k.root;
  objects = subst (λ (c : Course). IsRunText (Objects edid None) c.end (start (first_net plan.tree c.pulses) c.events) text t.place.totals) (sym k.course_is) run;
}

pub sessions_report_traces_of : SessionsReportTracesOf
sessions_report_traces_of topology plan form edid lines kept reported text t end plan_is root whole few sparse l over =
    let reporting = reporting_of form edid in
    let course : Course = record { events = t.notes.events; pulses = t.notes.pulses; end = end } in
    let last : (m : ℕ) → Ok course ≡ course_at_end t.notes m t.notes.end = λ m. sym (ap (course_at_end t.notes m) over) in
    let read = lines_read plan.tree lines kept 0 (first_session reporting plan.tree) t reported text (Ok course) l refl refl (omega (arith, few)) sparse last in
    let taken : Scripted topology plan edid kept t end = record {
      course = course;
      course_is = refl;
      accepted = record {
        plan_is = plan_is;
        course_is = subst (λ (kept : List (List ℕ)). AreLinesRead plan.tree kept 1 no_notes (Ok course)) (sym (lines_again kept (all_whole lines kept (first_session reporting plan.tree) t reported text l whole))) read;
      };
      root = root;
    } in
    let run = sessions_report_traces reporting plan.tree lines kept reported text t end l over in
    report_of form topology plan edid kept (before_reported reporting plan.tree [] reported) t end taken
    (subst (λ (first : List ℕ). IsRunText reporting end (start (first_net plan.tree t.notes.pulses) t.notes.events) (first ++ reported) t.place.totals) (starts_same reporting plan.tree t.notes.pulses) run)
