-- What a text has heard of a run is the run's text, or its front.
use Rattle.std.proofs.Common.{◌≡◌, ◌∙◌, ℕ, Bool, true, false, not, List, [], ◌∷◌, ◌++◌, length, get_or, Option, Result, Ok, Err, IfOk, IfErr, OnOk, OnErr, MatchResult, is_err, refl, sym, ap, ap₂, subst, append_assoc}
use Rattle.std.specs.Borrow.{GName}
use Rattle.std.specs.Io.KnownBytes.{Appends}
use Rattle.std.specs.List.{flat_map}
use Rattle.text_core.specs.Cut.{CutOff, WrittenText}
use Rattle.text_core.specs.declared.sink.WriteFault.{WriteFault}
use Rattle.text_core.specs.Adds.{Adds, Tally, begun}
use Rattle.text_core.proofs.Adding.{after_failure, cut_short, text_ended, not_yet, nothing, then}
use Rattle.edid_tree.specs.Node.{Node}
use Rattle.edid_core.specs.declared.edid.Edid.{Edid}
use Rattle.room_script.specs.declared.script.TimedEvent.{TimedEvent}
use Rattle.room_event.specs.declared.event.EventError.{EventError}
use Rattle.room_net.specs.State.{NetState}
use Rattle.record_core.specs.declared.cell.Form.TheVariants.{Json}
use Rattle.room_trace.specs.PortText.{port_lines, port_texts}
use Rattle.room_trace.specs.Records.{round_text}
use Rattle.room_trace.specs.Room.{Room, event_object}
use Rattle.room_trace.specs.TraceText.{event_line, round_line}
use Rattle.capture_forms.specs.declared.form.CaptureForm.{CaptureForm}
use Rattle.room_run.specs.declared.run.Totals.{Totals}
use Rattle.room_run.specs.declared.run.Reporting.{Reporting}
use Rattle.room_run.specs.declared.run.Reporting.TheVariants.{Line, Objects, Trace}
use Rattle.room_run.specs.declared.run.Turn.TheVariants.{Stop, Apply, Round}
use Rattle.room_run.specs.Turns.{IsTold, ObjectsSay, RunsAreTold, SaysOf, TracesSay}
use Rattle.room_run.specs.Run.{Config, turn_at, start_reported, end_reported, event_objects, event_text, IsEventTurn, Leads}
use Rattle.room_run.specs.Happening.{Happening, Goes, IsApplied, line_of_turn, objects_of, text_of}
use Rattle.room_run.specs.Heard.{AddsEach, Hears, IsRunWritten}
use Rattle.room_run.proofs.Names.{line_before, object_before}
use Rattle.room_run.proofs.Ports.{event_port_texts, event_ports}
use Rattle.room_run.proofs.Turns.{front_of_text, whole_text}

-- ---- what a text has heard of, turn by turn, is one text

pub heard_text : {R K : Type 0} (tally : R → Tally) (kept : R → K) (said : K → Happening → List ℕ) (xs : List Happening) (r s : R) → Hears (AddsEach tally kept said) r xs s
    → Adds (tally r) (tally s) (flat_map (said (kept r)) xs)
heard_text tally kept said [] r s heard = subst (λ k. Adds (tally r) (tally k) []) (sym heard) (nothing (tally r))
heard_text {R} {K} tally kept said (x ∷ xs) r s (mid, first, rest) =
    let there : Adds (tally mid) (tally s) (flat_map (said (kept r)) xs) =
    subst (λ (k : K). Adds (tally mid) (tally s) (flat_map (said k) xs)) first.1 (heard_text tally kept said xs mid s rest) in
    then (tally r) (tally mid) (tally s) (said (kept r) x) (flat_map (said (kept r)) xs) first.0 there

-- ---- what is said of each turn is what is reported of it

pub trace_by : TracesSay
trace_by edid Stop c x d h = absurd h
trace_by edid (Apply at) c x d h =
    subst (λ (es : List TimedEvent). IsEventTurn (Trace edid) at es c (text_of edid x) d) (sym h.next) (ap (text_of edid) h.is, h.after)
trace_by edid (Round begin) c x d h = (
  record {
    outcome = h.outcome;
    wave = h.wave;
    next = h.next;
    reported = ap (text_of edid) h.is ∙ line_before c.net begin h.outcome ∙ ap (λ (s : NetState). round_line s.devices h.outcome) (sym h.next.after_is);
    totals = h.totals;
  },
  h.events,
)

pub objects_by : ObjectsSay
objects_by edid room Stop c x d h = absurd h
objects_by edid room (Apply at) c x d h =
    subst (λ (es : List TimedEvent). IsEventTurn (Objects edid room) at es c (objects_of edid room x) d) (sym h.next) (ap (objects_of edid room) h.is, h.after)
objects_by edid room (Round begin) c x d h = (
  record {
    outcome = h.outcome;
    wave = h.wave;
    next = h.next;
    reported = ap (objects_of edid room) h.is ∙ object_before c.net begin h.outcome ∙ ap (λ (s : NetState). round_text Json s.devices h.outcome) (sym h.next.after_is);
    totals = h.totals;
  },
  h.events,
)

pub line_by : (format : CaptureForm) → SaysOf (Line format) (line_of_turn format)
line_by format Stop c x d h = absurd h
line_by format (Apply at) c x d h =
    subst (λ (es : List TimedEvent). IsEventTurn (Line format) at es c (line_of_turn format x) d) (sym h.next) (ap (line_of_turn format) h.is, h.after)
line_by format (Round begin) c x d h =
    (record { outcome = h.outcome; wave = h.wave; next = h.next; reported = ap (line_of_turn format) h.is; totals = h.totals }, h.events)

pub leads_of : (reporting : Reporting) (said : Happening → List ℕ) (turn : SaysOf reporting said) (end : ℕ) (xs : List Happening) (c d : Config) → Goes end c xs d → Leads reporting end (length xs) c (flat_map said xs) d
leads_of reporting said turn end [] c d goes = (refl, goes)
leads_of reporting said turn end (x ∷ xs) c d (mid, step, goes) =
    (mid, said x, flat_map said xs, turn (turn_at end c) c x mid step, leads_of reporting said turn end xs mid d goes, refl)

-- ---- the whole text

pub run_told : RunsAreTold
run_told reporting said turn end c last xs totals goes_on stops goes same =
    let first = start_reported reporting c.net in
    let body = flat_map said xs in
    let tail = end_reported reporting end last.net in
    let leads = leads_of reporting said turn end xs c last goes in
    record {
      whole = λ on. record {
        rest = body ++ tail;
        run = record { turns = length xs; last = last; body = body; leads = leads; stops = stops on; whole = refl; counts = same };
        whole = refl;
      };
      front = λ text t w. (
          let go = front_of_text reporting end (length xs) c last body w.rest t leads w.run in
          (go.0, w.whole ∙ ap (λ (r : List ℕ). first ++ r) go.1 ∙ sym (append_assoc first body go.0))
          );
      same = λ on text t w. (
          let go = whole_text reporting end (length xs) c last body w.rest t leads (stops on) w.run in
          w.whole ∙ ap (λ (r : List ℕ). first ++ r) go.0 ∙ sym (append_assoc first body tail)
          );
    }

-- whether or not it was told to its end, each text of the run is what was added
each_added : (p : Bool) (IsText : List ℕ → Totals → Type 0) (first body tail : List ℕ) (totals : Totals) (a m n : Tally) → m.failed ≡ p → IsTold IsText first body tail totals (not p)
    → Adds a m (first ++ body) → Adds m n tail → (text : List ℕ) (t : Totals) → IsText text t → Adds a n text
each_added true IsText first body tail totals a m n f told before after text t w =
    let go = told.front text t w in
    let cut : Adds a m text = subst (λ (x : List ℕ). Adds a m x) (sym go.1) (cut_short a m (first ++ body) go.0 f before) in
    subst (λ (x : Tally). Adds a x text) (sym (after_failure m n tail f after)) cut
each_added false IsText first body tail totals a m n f told before after text t w =
    subst (λ (x : List ℕ). Adds a n x) (sym (told.same refl text t w)) (then a m n (first ++ body) tail before after)

ended_by : (IsText : List ℕ → Totals → Type 0) (first body tail : List ℕ) (totals : Totals) (a b m n : Tally) (old new : Option (List ℕ)) (was is : Bool) (written : Result ℕ WriteFault) (result : Result Totals WriteFault)
    → IsTold IsText first body tail totals (not m.failed) → Adds a b first → Adds b m body → Adds m n tail
    → is_err written ≡ n.failed → ((text : List ℕ) → Adds a n text → WrittenText old new was is text written)
    → MatchResult written (λ _. result ≡ Ok totals) (λ fault. result ≡ Err fault) → IsRunWritten IsText old new was is result
ended_by IsText first body tail totals a b m n old new was is (Ok count) result told before heard after failed holds same =
    let text = first ++ (body ++ tail) in
    let whole = holds text (then a b n first (body ++ tail) before (then b m n body tail heard after)) in
    let well : m.failed ≡ false = not_yet m n tail (sym failed) after in
    subst (IsRunWritten IsText old new was is) (sym same) (text, told.whole (ap not well), whole.1, whole.2)
ended_by IsText first body tail totals a b m n old new was is (Err fault) result told before heard after failed holds same =
    let text = first ++ (body ++ tail) in
    let added = each_added m.failed IsText first body tail totals a m n refl told (then a b m first body before heard) after in
    subst (IsRunWritten IsText old new was is) (sym same) (
      λ t totals w. (holds t (added t totals w)).0,
      (holds text (then a b n first (body ++ tail) before (then b m n body tail heard after))).1,
    )

-- what a run says of its sink, when the loan is over
pub run_ended : {V : Type 0} (contents : V → Option (List ℕ)) (is_stuck : V → Bool) (old new below : V) (loan back : GName)
    (IsText : List ℕ → Totals → Type 0) (first body tail : List ℕ) (totals : Totals) (a b m n : Tally) (written : Result ℕ WriteFault) (result : Result Totals WriteFault)
    → a ≡ begun (contents old) (is_stuck old) loan → IsTold IsText first body tail totals (not m.failed) → Adds a b first → Adds b m body → Adds m n tail
    → is_err written ≡ n.failed
    → ((known : Option (List ℕ)) (was : Bool) (name : GName) (t : List ℕ) → Adds (begun known was name) n t → WrittenText known n.known was n.stuck t written)
    → MatchResult written (λ _. result ≡ Ok totals) (λ fault. result ≡ Err fault)
    → back ≡ n.loan → contents below ≡ n.known → is_stuck below ≡ n.stuck → (back ≡ loan → new ≡ below)
    → IsRunWritten IsText (contents old) (contents new) (is_stuck old) (is_stuck new) result
run_ended contents is_stuck old new below loan back IsText first body tail totals a b m n written result begins told before heard after failed holds same name known stuck over =
    ended_by IsText first body tail totals a b m n (contents old) (contents new) (is_stuck old) (is_stuck new) written result told before heard after failed
    (λ t adds. text_ended contents is_stuck old new below loan back a n t written begins adds holds name known stuck over) same

-- its four clauses
pub written_ok : (IsText : List ℕ → Totals → Type 0) (old new : Option (List ℕ)) (was is : Bool) (result : Result Totals WriteFault) → IsRunWritten IsText old new was is result
    → IfOk result (λ totals. (text : List ℕ) × IsText text totals × Appends old new text)
written_ok IsText old new was is (Ok totals) w = (w.0, w.1, w.2)
written_ok IsText old new was is (Err fault) w = tt

pub written_same : (IsText : List ℕ → Totals → Type 0) (old new : Option (List ℕ)) (was is : Bool) (result : Result Totals WriteFault) → IsRunWritten IsText old new was is result → OnOk result (is ≡ was)
written_same IsText old new was is (Ok totals) w = w.3
written_same IsText old new was is (Err fault) w = tt

pub written_cut : (IsText : List ℕ → Totals → Type 0) (old new : Option (List ℕ)) (was is : Bool) (result : Result Totals WriteFault) → IsRunWritten IsText old new was is result
    → IfErr result (λ fault. (text : List ℕ) (totals : Totals) → IsText text totals → CutOff old new text fault)
written_cut IsText old new was is (Ok totals) w = tt
written_cut IsText old new was is (Err fault) w = w.0

pub written_stuck : (IsText : List ℕ → Totals → Type 0) (old new : Option (List ℕ)) (was is : Bool) (result : Result Totals WriteFault) → IsRunWritten IsText old new was is result → OnErr result (is ≡ true)
written_stuck IsText old new was is (Ok totals) w = tt
written_stuck IsText old new was is (Err fault) w = w.1

-- ---- an event: its line, and the ports that came onto the wire by it

pub event_added : (at : ℕ) (edid : Option Edid) (e : TimedEvent) (before after : NetState) (refused : Option EventError) (was : List Bool) (tree : List Node) (a b c : Tally)
    → IsApplied at e before refused was after → tree ≡ after.tree → Adds a b (event_line at e.line refused) → Adds b c (port_lines at edid (λ device. get_or was device false) tree)
    → Adds a c (event_text edid at e before)
event_added at edid e before after refused was tree a b c applied tree_is line ports =
    let lines = port_lines at edid (λ device. get_or was device false) tree in
    let same = event_ports at edid e before after before.tree tree was applied.after_is refl tree_is applied.was_is in
    subst (λ (t : List ℕ). Adds a c t) (ap₂ (λ (x y : List ℕ). x ++ y) (ap (event_line at e.line) applied.refused_is) same) (then a b c (event_line at e.line refused) lines line ports)

-- the same as objects
pub event_objects_added : (at : ℕ) (edid : Option Edid) (room : Option Room) (e : TimedEvent) (before after : NetState) (refused : Option EventError) (was : List Bool) (tree : List Node) (a b c : Tally)
    → IsApplied at e before refused was after → tree ≡ after.tree → Adds a b (event_object room at e.line refused) → Adds b c (port_texts Json at edid (λ device. get_or was device false) tree)
    → Adds a c (event_objects edid room at e before)
event_objects_added at edid room e before after refused was tree a b c applied tree_is object ports =
    let objects = port_texts Json at edid (λ device. get_or was device false) tree in
    let same = event_port_texts Json at edid e before after before.tree tree was applied.after_is refl tree_is applied.was_is in
    subst (λ (t : List ℕ). Adds a c t) (ap₂ (λ (x y : List ℕ). x ++ y) (ap (event_object room at e.line) applied.refused_is) same) (then a b c (event_object room at e.line refused) objects object ports)
