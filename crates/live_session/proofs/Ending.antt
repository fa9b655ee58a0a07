-- What a session tells of edges once its script has ended.
use Rattle.std.proofs.Common.{◌≡◌, ℕ, zero, suc, ◌≤◌, Bool, true, false, List, [], ◌∷◌, ◌++◌, length, inl, inr, Option, Some, None, refl, sym, ap, ap₂, subst, ◌∙◌, arith, append-nil}
use Rattle.line_wave.specs.declared.Stretch.{Stretch}
use Rattle.line_wave.specs.Bounds.{latest_event}
use Rattle.line_rounds.specs.declared.Outcome.{Outcome}
use Rattle.edid_tree.specs.Node.{Node}
use Rattle.room_net.specs.Line.{run_wave}
use Rattle.room_net.specs.Step.{seats_of}
use Rattle.room_net.specs.State.{NetState}
use Rattle.room_script.specs.Script.{Notes}
use Rattle.room_script.specs.declared.script.TimedEvent.{TimedEvent}
use Rattle.room_run.specs.declared.run.Reporting.{Reporting}
use Rattle.room_run.specs.declared.run.Turn.{Turn}
use Rattle.room_run.specs.declared.run.Turn.TheVariants.{Stop, Apply, Round}
use Rattle.room_run.specs.Run.{Config, turn_at, IsTurnBy}
use Rattle.room_run.specs.RunLine.{EdgesAreTheLine, rounds_by}
use Rattle.room_run.specs.OneRun.{OneRun}
use Rattle.room_run.specs.HasRun.{RunsHaveTexts}
use Rattle.record_core.specs.declared.cell.Form.{Form}
use Rattle.live_session.specs.declared.edges.InstantRange.{InstantRange}
use Rattle.live_session.specs.declared.live.Step.{Step}
use Rattle.live_session.specs.declared.live.Step.TheVariants.{Refuse, Idle, Show, Go, Edge, Finish}
use Rattle.live_session.specs.Command.{command_of}
use Rattle.live_session.specs.Edges.{edges_reported}
use Rattle.live_session.specs.Turns.{AreEdgesOf, LeadsWith, certain_until, form_of}
use Rattle.live_session.specs.Session.{Session, SessionGoes, with_line_counted, IsDue}
use Rattle.live_session.specs.Told.{AreOn, EdgesAreTold, edges_gone, edges_in, told_in, told_of}
use Rattle.live_session.specs.Whole.{AreLines}
use Rattle.live_session.proofs.Below.{no_turn, one_outcome, one_turn, same_outcome}
use Rattle.live_session.proofs.Coming.{Laws, waves_append}
use Rattle.live_session.proofs.Moving.{AreLone, RunsTo}
use Rattle.live_session.proofs.Telling.{Future, IsLeft, IsWhole, due_keeps, filed, future_of, has_come, left, line_reached, line_told, lone_front, none_past, nothing, spans, still_going}
use Rattle.live_session.proofs.Wholly.{AreSound, Asked, Reached, SoFar, all_lines, asked_by, certain_by, counted, reached, same_place}

-- ---- all turns that are left

own_edges : (reporting : Reporting) (span : InstantRange) (turn : Turn) (c d : Config) (line edges : List ℕ) (t : IsTurnBy reporting turn c line d) → AreEdgesOf (form_of reporting) span None c.net turn edges
    → edges ≡ edges_reported (form_of reporting) span (run_wave (rounds_by reporting turn c line d t))
own_edges reporting span Stop c d line edges t e = absurd t
own_edges reporting span (Apply at) c d line edges t e = e
own_edges reporting span (Round begin) c d line edges t (o, after, wave, next, e) =
    let same : o ≡ t.0.outcome = same_outcome o t.0.outcome (one_outcome (seats_of c.net begin) begin c.net.pulses o t.0.outcome wave t.0.wave next.round t.0.next.round) in
    e ∙ ap (λ (p : Outcome). edges_reported (form_of reporting) span p.wave) same ∙ ap (λ (w : List Stretch). edges_reported (form_of reporting) span w) (sym (append-nil t.0.outcome.wave))

all_told : (reporting : Reporting) (seats : Bool) (span : InstantRange) (end n m : ℕ) (c d last : Config) (reported text : List ℕ) (os : List Outcome) → (l : LeadsWith reporting true seats span end n c reported text d) → turn_at end d ≡ Stop
    → RunsTo reporting end m c os last → turn_at end last ≡ Stop → edges_in reporting true seats span end n c reported text d l ≡ edges_reported (form_of reporting) span (run_wave os)
all_told reporting seats span end zero zero c d last reported text os l stops runs ends = ap (λ (xs : List Outcome). edges_reported (form_of reporting) span (run_wave xs)) (sym runs.0)
all_told reporting seats span end zero (suc m) c d last reported text os l stops (mid, line, rest, turn, after, e) ends = absurd (no_turn reporting end c line mid (ap (turn_at end) (sym l.2) ∙ stops) turn)
all_told reporting seats span end (suc n) zero c d last reported text os (mid, line, edges, others, more, turn, is, own, after, e, f) stops runs ends =
    absurd (no_turn reporting end c line mid (ap (turn_at end) (sym runs.1) ∙ ends) turn)
all_told reporting seats span end (suc n) (suc m) c d last reported text os (mid, line, edges, others, more, turn, is, own, after, e, f) stops (there, words, rest, next, following, whole) ends =
    let one = one_turn reporting (turn_at end c) c words line there mid next turn in
    let go = all_told reporting seats span end n m mid d last others more rest after stops (subst (λ (x : Config). RunsTo reporting end m x rest last) one.1 following) ends in
    ap₂ (λ x y. x ++ y) (own_edges reporting span (turn_at end c) c there words edges next own) go
    ∙ sym (waves_append (form_of reporting) span (rounds_by reporting (turn_at end c) c words there next) rest)
    ∙ ap (λ (xs : List Outcome). edges_reported (form_of reporting) span (run_wave xs)) (sym whole)

-- ---- the line that ends the script

no_pin : (form : Form) (span : InstantRange) (pin : Option ℕ) (net : NetState) (turn : Turn) (on : List ℕ) → pin ≡ None → turn ≡ Stop → AreEdgesOf form span pin net turn on → on ≡ []
no_pin form span pin net turn on high stops e = subst (λ (p : Option ℕ). AreEdgesOf form span p net Stop on) high (subst (λ (t : Turn). AreEdgesOf form span pin net t on) stops e)

ended_told : (reporting : Reporting) (end : ℕ) (os : List Outcome) (s asked : Session) (last : Config) (edges : Bool) (first own : List ℕ) (place : Config) → IsLeft reporting end s asked [] [] last os → turn_at end last ≡ Stop
    → AreLone os → asked.since ≡ s.horizon → asked.notes.pin ≡ None → asked.horizon ≡ end → edges ≡ true → (goes : SessionGoes edges true asked first own place)
    → edges_gone edges true asked first own place goes ≡ edges_reported (form_of asked.reporting) (record { from = s.horizon; until = 18446744073709551615 }) (run_wave os)
ended_told reporting end os s asked last false first own place w stops lone since high over on goes = cc
ended_told reporting end os s asked last true first own place w stops lone since high over on goes =
    let span : InstantRange = record { from = asked.since; until = 18446744073709551615 } in
    let until = certain_until asked.notes.pin asked.horizon in
    let certain : until ≡ end = ap (λ (p : Option ℕ). certain_until p asked.horizon) high ∙ over in
    let runs : RunsTo asked.reporting until w.turns asked.place w.rest last =
    subst (λ (x : ℕ). RunsTo asked.reporting x w.turns asked.place w.rest last) (sym certain) (subst (λ (x : Config). RunsTo asked.reporting end w.turns x w.rest last) (same_place asked.place) w.runs) in
    let rest = all_told asked.reporting asked.seats span until goes.turns w.turns asked.place place last first goes.over w.rest goes.leads goes.last runs (ap (λ (x : ℕ). turn_at x last) certain ∙ stops) in
    let past : edges_reported (form_of asked.reporting) span (run_wave w.past) ≡ [] =
    none_past (form_of asked.reporting) span (certain_until s.notes.pin s.horizon) w.past (let x = certain_by s.notes.pin s.horizon in omega (arith, x, since)) w.over (lone_front w.past w.rest (subst AreLone w.whole lone)) in
    ap₂ (λ x y. x ++ y) rest (no_pin (form_of asked.reporting) span asked.notes.pin place.net (turn_at until place) goes.on high goes.last goes.on_is)
    ∙ append-nil (edges_reported (form_of asked.reporting) span (run_wave w.rest))
    ∙ ap (λ (x : List ℕ). x ++ edges_reported (form_of asked.reporting) span (run_wave w.rest)) (sym past)
    ∙ sym (waves_append (form_of asked.reporting) span w.past w.rest)
    ∙ ap (λ (xs : List Outcome). edges_reported (form_of asked.reporting) span (run_wave xs)) (sym w.whole)
    ∙ ap (λ (h : ℕ). edges_reported (form_of asked.reporting) (record { from = h; until = 18446744073709551615 }) (run_wave os)) since

-- ---- all lines

none_some : (end : Option ℕ) (at : ℕ) → end ≡ None → end ≡ Some at → ⊥
none_some end at e f = cc

same_end : (end : Option ℕ) (a b : ℕ) → end ≡ Some a → end ≡ Some b → a ≡ b
same_end end a b e f = cc

-- no line comes after the end
over_by : (lines : List (List ℕ)) (s : Session) (kept : List (List ℕ)) (reported text : List ℕ) (t : Session) (end : ℕ) → AreLines lines s kept reported text t → s.notes.end ≡ Some end
    → (l : AreLines lines s kept reported text t) → (told_in lines s kept reported text t l ≡ []) × (t ≡ s)
over_by [] s kept reported text t end k over (nothing, none, empty, same) = (refl, same)
over_by (line ∷ lines) s kept reported text t end k over (mid, own, others, first, second, more, rest, is, after, kept_is, reported_is, text_is) = absurd (none_some s.notes.end end is.goes_on over)

-- what a script that has ended says is sound
sound_after : (reporting : Reporting) (tree : List Node) (lines : List (List ℕ)) (s : Session) (kept : List (List ℕ)) (reported text : List ℕ) (t : Session) (before : List ℕ) → SoFar reporting tree s before → s.notes.end ≡ None
    → AreLines lines s kept reported text t → (count : ℕ) × AreSound count t.notes
sound_after reporting tree [] s kept reported text t before r going (nothing, none, empty, same) = (length s.tree, subst (λ (x : Session). AreSound (length s.tree) x.notes) (sym same) r.sound)
sound_after reporting tree (line ∷ lines) s kept reported text t before r going (mid, own, others, first, second, more, rest, is, after, kept_is, reported_is, text_is) =
    by_end mid.notes.end refl (λ none. (let now = line_reached reporting tree s mid line own first second before r going is none in sound_after reporting tree lines mid others more rest t now.0 now.1 none after))
  where
    asked : Asked reporting tree is.step is.asked before
    asked = asked_by reporting tree (with_line_counted s) before line (command_of s.tree line) is.step is.asked (counted reporting tree s before r) going is.asks

    by_end : (end : Option ℕ) → mid.notes.end ≡ end → (mid.notes.end ≡ None → (count : ℕ) × AreSound count t.notes) → (count : ℕ) × AreSound count t.notes
    by_end None e go = go e
    by_end (Some end) e go =
        let same : t.notes ≡ is.asked.notes = ap (λ (x : Session). x.notes) (over_by lines mid others more rest t end after e after).1 ∙ (due_keeps is.step is.asked mid second is.due).notes in
        (length is.asked.tree, subst (λ (n : Notes). AreSound (length is.asked.tree) n) (sym same) asked.so_far.sound)

-- the line by which a script ends
last_told : Laws → (reporting : Reporting) (tree : List Node) (events : List TimedEvent) (pulses : List Stretch) (end : ℕ) (os : List Outcome) → IsWhole reporting tree events pulses end os
    → (step : Step) (s asked mid : Session) (reported text : List ℕ) → Asked reporting tree step asked reported → asked.notes.end ≡ Some end → asked.since ≡ s.horizon → s.horizon ≤ asked.horizon → asked.edges ≡ true → (last : Config)
    → IsLeft reporting end s asked [] [] last os → turn_at end last ≡ Stop → AreLone os → (due : IsDue step asked text mid)
    → (told_of step asked text mid due ≡ edges_reported (form_of asked.reporting) (record { from = s.horizon; until = 18446744073709551615 }) (run_wave os)) × (s.horizon ≤ 18446744073709551615)
last_told laws reporting tree events pulses end os run (Refuse refusal) s asked mid reported text a ended since later on last w stops lone due = absurd (none_some asked.notes.end end a.ended ended)
last_told laws reporting tree events pulses end os run Idle s asked mid reported text a ended since later on last w stops lone due = absurd (none_some asked.notes.end end a.ended ended)
last_told laws reporting tree events pulses end os run (Show device) s asked mid reported text a ended since later on last w stops lone due = absurd (none_some asked.notes.end end a.ended ended)
last_told laws reporting tree events pulses end os run Go s asked mid reported text a ended since later on last w stops lone due = absurd (none_some asked.notes.end end a.ended ended)
last_told laws reporting tree events pulses end os run Edge s asked mid reported text a ended since later on last w stops lone due = absurd (none_some asked.notes.end end a.ended ended)
last_told laws reporting tree events pulses end os run Finish s asked mid reported text a ended since later on last w stops lone due =
    let sound = a.so_far.sound in
    let limit : asked.horizon ≤ latest_event = (sound.ended asked.horizon a.ended).1 in (
      ended_told reporting end os s asked last asked.edges due.0 due.1 due.2 w stops lone since (sound.let_go asked.horizon a.ended) (same_end asked.notes.end asked.horizon end a.ended ended) on due.3,
      omega (arith, later, limit),
    )

lines_ended : Laws → (reporting : Reporting) (tree : List Node) (events : List TimedEvent) (pulses : List Stretch) (end : ℕ) (os : List Outcome) → IsWhole reporting tree events pulses end os
    → (lines : List (List ℕ)) (s : Session) (kept : List (List ℕ)) (reported text : List ℕ) (t : Session) (before : List ℕ) → SoFar reporting tree s before → s.notes.end ≡ None
    → (l : AreLines lines s kept reported text t) → AreOn lines s kept reported text t l → t.notes.end ≡ Some end → t.notes.events ≡ events → t.notes.pulses ≡ pulses → t.horizon ≡ end
    → (told_in lines s kept reported text t l ≡ edges_reported (form_of reporting) (record { from = s.horizon; until = 18446744073709551615 }) (run_wave os)) × (s.horizon ≤ 18446744073709551615)
lines_ended laws reporting tree events pulses end os run [] s kept reported text t before r going (nothing, none, empty, same) on over known pulled at =
    absurd (none_some t.notes.end end (ap (λ (x : Session). x.notes.end) same ∙ going) over)
lines_ended laws reporting tree events pulses end os run (line ∷ lines) s kept reported text t before r going (mid, own, others, first, second, more, rest, is, after, kept_is, reported_is, text_is) on over known pulled at =
    by_end mid.notes.end refl (λ none. (
    let now = line_reached reporting tree s mid line own first second before r going is none in
    lines_ended laws reporting tree events pulses end os run lines mid others more rest t now.0 now.1 none after on.2 over known pulled at
    ))
  where
    future : Future events pulses end t.notes t.horizon
    future = record {
      more = [];
      later = [];
      events_are = sym known ∙ sym (append-nil t.notes.events);
      pulses_are = sym pulled ∙ sym (append-nil t.notes.pulses);
      comes = nothing (certain_until t.notes.pin t.horizon) end (let x = certain_by t.notes.pin t.horizon in omega (arith, x, at));
    }

    by_end : (e : Option ℕ) → mid.notes.end ≡ e
        → (mid.notes.end ≡ None → (told_in lines mid others more rest t after ≡ edges_reported (form_of reporting) (record { from = mid.horizon; until = 18446744073709551615 }) (run_wave os)) × (mid.horizon ≤ 18446744073709551615))
        → (told_of is.step is.asked second mid is.due ++ told_in lines mid others more rest t after ≡ edges_reported (form_of reporting) (record { from = s.horizon; until = 18446744073709551615 }) (run_wave os)) × (s.horizon ≤ 18446744073709551615)
    by_end None none go =
        let here = line_told laws reporting tree events pulses end os run s mid line own first second before r going is on.0 on.1 none (future_of events pulses end lines mid others more rest t after future) in
        let there = go none in (
          ap₂ (λ x y. x ++ y) here.0 there.0 ∙ spans (form_of reporting) s.horizon mid.horizon 18446744073709551615 0 (run_wave os) run.wave here.1 there.1,
          (let x = here.1 in let y = there.1 in omega (arith, x, y)),
        )
    by_end (Some e) some go =
        let last = over_by lines mid others more rest t e after some after in
        let counted_s = with_line_counted s in
        let so = counted reporting tree s before r in
        let come = has_come counted_s (command_of s.tree line) line is.step is.asked is.asks in
        let asked = asked_by reporting tree counted_s before line (command_of s.tree line) is.step is.asked so going is.asks in
        let keep = due_keeps is.step is.asked mid second is.due in
        let notes : is.asked.notes ≡ t.notes = sym keep.notes ∙ ap (λ (x : Session). x.notes) (sym last.1) in
        let horizon : is.asked.horizon ≡ end = sym keep.horizon ∙ ap (λ (x : Session). x.horizon) (sym last.1) ∙ at in
        let left_to : Future events pulses end is.asked.notes is.asked.horizon = record {
          more = [];
          later = [];
          events_are = sym known ∙ ap (λ (n : Notes). n.events) (sym notes) ∙ sym (append-nil is.asked.notes.events);
          pulses_are = sym pulled ∙ ap (λ (n : Notes). n.pulses) (sym notes) ∙ sym (append-nil is.asked.notes.pulses);
          comes = nothing (certain_until is.asked.notes.pin is.asked.horizon) end (let x = certain_by is.asked.notes.pin is.asked.horizon in omega (arith, x, horizon));
        } in
        let w = left laws reporting tree events pulses end os counted_s is.asked before run so come.came left_to in
        let told = last_told laws reporting tree events pulses end os run is.step counted_s is.asked mid before second asked (ap (λ (n : Notes). n.end) notes ∙ over) come.came.since_is come.came.later
        (sym keep.edges ∙ on.0) run.last w run.stops run.lone is.due in (
          ap₂ (λ x y. x ++ y) (told.0 ∙ ap (λ (r : Reporting). edges_reported (form_of r) (record { from = s.horizon; until = 18446744073709551615 }) (run_wave os)) asked.so_far.reporting_is) last.0
              ∙ append-nil (edges_reported (form_of reporting) (record { from = s.horizon; until = 18446744073709551615 }) (run_wave os)),
          told.1,
        )

pub edges_are_told : Laws → OneRun → RunsHaveTexts → EdgesAreTheLine → EdgesAreTold
edges_are_told laws one has line reporting tree before lines kept more x y text told s t end b l on none over file totals run =
    let r = still_going reporting tree s x none (reached reporting tree before kept x text s b) in
    let sound = (sound_after reporting tree lines s more y told t x r none l).1 in
    let is = filed laws one has line reporting tree t.notes.events t.notes.pulses end file totals sound.order sound.framed run in
    record {
      wave = run_wave is.rounds;
      order = is.whole.wave;
      end = is.last;
      file_is = is.file_is;
      told_is = (lines_ended laws reporting tree t.notes.events t.notes.pulses end is.rounds is.whole lines s more y told t x r none l on over refl refl (at (all_lines reporting tree lines more s t x y told (inl (r, none)) l))).0;
    }
  where
    at : Reached reporting tree t (x ++ y) → t.horizon ≡ end
    at (inl (so_far, going)) = absurd (none_some t.notes.end end going over)
    at (inr whole) = same_end t.notes.end t.horizon end whole.ended over
