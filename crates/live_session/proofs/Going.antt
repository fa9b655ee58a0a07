-- A session that goes on: the turns that were heard of so far, and what was added of them.
use Rattle.std.proofs.Common.{◌≡◌, ℕ, zero, suc, ◌+◌, ◌-◌, ◌<◌, Bool, true, false, not, List, [], ◌∷◌, ◌++◌, length, drop, length-drop, drop-cons, get_or, true≢false, Option, Some, None, ap, ap₂, ◌∙◌, sym, refl, subst, arith, append-nil, append_assoc}
use Rattle.std.specs.List.{flat_map}
use Rattle.text_core.specs.Adds.{Adds, Tally}
use Rattle.text_core.proofs.Adding.{after_failure, cut_short, not_yet, then}
use Rattle.room_script.specs.Script.{IsSchedule}
use Rattle.room_script.specs.declared.script.TimedEvent.{TimedEvent}
use Rattle.room_net.specs.State.{NetState}
use Rattle.room_net.specs.Step.{IsNextRound, seats_of}
use Rattle.line_wave.specs.Line.{IsWave}
use Rattle.line_rounds.specs.declared.Outcome.{Outcome}
use Rattle.room_run.specs.declared.run.Reporting.{Reporting}
use Rattle.room_run.specs.declared.run.Totals.{Totals}
use Rattle.room_run.specs.declared.run.Turn.{Turn}
use Rattle.room_run.specs.declared.run.Turn.TheVariants.{Stop, Apply, Round}
use Rattle.room_run.specs.Run.{Config, turn_at, turn_of, first_time}
use Rattle.room_run.specs.Happening.{Happening, Happens, HappensBy}
use Rattle.room_run.specs.Heard.{Hears}
use Rattle.room_run.specs.Turns.{SaysOf}
use Rattle.room_run.proofs.Whole.{objects_by, trace_by}
use Rattle.room_run.specs.Certain.{LeadsIf, IsHeldBy}
use Rattle.room_trace.specs.Notes.{sent_notes}
use Rattle.record_core.specs.declared.cell.Form.{Form}
use Rattle.record_core.specs.declared.cell.Form.TheVariants.{Text, Json}
use Rattle.edid_core.specs.declared.edid.Edid.{Edid}
use Rattle.live_session.specs.declared.edges.InstantRange.{InstantRange}
use Rattle.live_session.specs.Edges.{edges_reported, pinned_by}
use Rattle.live_session.specs.Session.{Session, span_of}
use Rattle.live_session.specs.Taken.{IsGone}
use Rattle.live_session.specs.Turns.{AreEdgesOf, AreEdgesOn, AreHeard, AreNotesOf, ComesLast, Goes, GoesIf, GoesWith, IsLast, IsOn, IsReported, IsSoon, LeadsWith, certain_until, edges_of, form_of, moved_by, turn_notes, reporting_of, said_of, text_with}
use Rattle.live_session.proofs.Below.{NoTurn, held_ends, no_turn, one_outcome, one_turn, same_outcome}

-- ---- no turn is reported after the last

pub no_more : (reporting : Reporting) (ended : Bool) (until : ℕ) (c : Config) → IsLast ended until c → NoTurn (IsReported ended until) reporting until c
no_more reporting false until c last = held_ends reporting until c last
no_more reporting true until c last = λ line d turn over. no_turn reporting until c line d last turn

-- the edges of a turn are one text
edges_one : (form : Form) (span : InstantRange) (pin : Option ℕ) (net : NetState) (turn : Turn) (a b : List ℕ) → AreEdgesOf form span pin net turn a → AreEdgesOf form span pin net turn b → a ≡ b
edges_one form span pin net Stop a b e f = e ∙ sym f
edges_one form span pin net (Apply at) a b e f = e ∙ sym f
edges_one form span pin net (Round begin) a b (o, after, wave, next, e) (p, other, wave', next', f) =
    let same : o ≡ p = same_outcome o p (one_outcome (seats_of net begin) begin net.pulses o p wave wave' next.round next'.round) in
    e ∙ ap (λ (x : Outcome). edges_reported form span (pinned_by pin x.wave)) same ∙ sym f

-- and its notes are
notes_one : (seats : Bool) (form : Form) (c : Config) (turn : Turn) (a b : List ℕ) → AreNotesOf seats form c turn a → AreNotesOf seats form c turn b → a ≡ b
notes_one false form c turn a b e f = e ∙ sym f
notes_one true form c Stop a b e f = e ∙ sym f
notes_one true form c (Apply at) a b e f = e ∙ sym f
notes_one true form c (Round begin) a b (o, after, wave, next, e) (p, other, wave', next', f) =
    let same : o ≡ p = same_outcome o p (one_outcome (seats_of c.net begin) begin c.net.pulses o p wave wave' next.round next'.round) in
    e ∙ ap (λ (x : Outcome). sent_notes form x 0 c.net.devices) same ∙ sym f

-- some turns that are reported come first in all of them
begin_with : (reporting : Reporting) (ended seats : Bool) (span : InstantRange) (until n m : ℕ) (c d last : Config) (reported over whole text : List ℕ) → LeadsWith reporting ended seats span until n c reported over d
    → LeadsWith reporting ended seats span until m c whole text last → NoTurn (IsReported ended until) reporting until last
    → (more : ℕ) × (others : List ℕ) × (rest : List ℕ) × LeadsWith reporting ended seats span until more d others rest last × (whole ≡ reported ++ others) × (text ≡ over ++ rest)
begin_with reporting ended seats span until zero m c d last reported over whole text l w none =
    (m, whole, text, subst (λ x. LeadsWith reporting ended seats span until m x whole text last) (sym l.2) w, ap (λ t. t ++ whole) (sym l.0), ap (λ t. t ++ text) (sym l.1))
begin_with reporting ended seats span until (suc n) zero c d last reported over whole text (mid, line, edges, others, rest, turn, is, own, after, e, f) w none =
    absurd (subst (NoTurn (IsReported ended until) reporting until) w.2 none line mid turn is)
begin_with reporting ended seats span until (suc n) (suc m) c d last reported over whole text (mid, line, edges, others, rest, turn, is, own, after, e, f) (mid', line', edges', others', rest', turn', is', own', after', e', f') none =
    let one = one_turn reporting (turn_at until c) c line line' mid mid' turn turn' in
    let same : edges ≡ edges' = edges_one (form_of reporting) span None c.net (turn_at until c) edges edges' own own' in
    let alike : f.notes ≡ f'.notes = notes_one seats (form_of reporting) c (turn_at until c) f.notes f'.notes f.are f'.are in
    let there : LeadsWith reporting ended seats span until m mid others' rest' last = subst (λ x. LeadsWith reporting ended seats span until m x others' rest' last) (sym one.1) after' in
    let go = begin_with reporting ended seats span until n m mid d last others rest others' rest' after there none in (
      go.0,
      go.1,
      go.2,
      go.3,
      e' ∙ ap₂ (λ a b. a ++ b) (sym one.0) go.4 ∙ sym (append_assoc line others go.1) ∙ ap (λ t. t ++ go.1) (sym e),
      f'.is ∙ ap₂ (λ a b. a ++ b) (ap₂ (λ a b. a ++ b) (sym same) (ap₂ (λ a b. a ++ b) (sym one.0) (sym alike))) go.5 ∙ sym (append_assoc (edges ++ (line ++ f.notes)) rest go.2)
          ∙ ap (λ t. t ++ go.2) (sym f.is),
    )

-- none of them comes after the last
end_with : (reporting : Reporting) (ended seats : Bool) (span : InstantRange) (until more : ℕ) (d last : Config) (others rest : List ℕ) → NoTurn (IsReported ended until) reporting until d → LeadsWith reporting ended seats span until more d others rest last
    → (others ≡ []) × (rest ≡ []) × (last ≡ d)
end_with reporting ended seats span until zero d last others rest none l = l
end_with reporting ended seats span until (suc more) d last others rest none (mid, line, edges, others', rest', turn, is, own, after, e, f) = absurd (none line mid turn is)

-- what is reported of the trace alone
leads_of : (reporting : Reporting) (ended seats : Bool) (span : InstantRange) (until n : ℕ) (c d : Config) (reported text : List ℕ) → LeadsWith reporting ended seats span until n c reported text d
    → LeadsIf (IsReported ended until) reporting until n c reported d
leads_of reporting ended seats span until zero c d reported text l = (l.0, l.2)
leads_of reporting ended seats span until (suc n) c d reported text (mid, line, edges, others, rest, turn, is, own, after, e, f) =
    (mid, line, others, turn, is, leads_of reporting ended seats span until n mid d others rest after, e)

pub goes_of : (reporting : Reporting) (ended seats : Bool) (pin : Option ℕ) (span : InstantRange) (until : ℕ) (c d : Config) (reported text : List ℕ) → GoesWith reporting ended seats pin span until c reported text d
    → Goes reporting ended until c reported d
goes_of reporting ended seats pin span until c d reported text g = record { turns = g.turns; leads = leads_of reporting ended seats span until g.turns c d reported g.over g.leads; last = g.last }

-- so what is written is one text
pub goes_one : (reporting : Reporting) (ended seats : Bool) (pin : Option ℕ) (span : InstantRange) (until : ℕ) (c d e : Config) (reported text other words : List ℕ) → GoesWith reporting ended seats pin span until c reported text d
    → GoesWith reporting ended seats pin span until c other words e → (text ≡ words) × (d ≡ e)
goes_one reporting ended seats pin span until c d e reported text other words a b =
    let go = begin_with reporting ended seats span until a.turns b.turns c d e reported a.over other b.over a.leads b.leads (no_more reporting ended until e b.last) in
    let end = end_with reporting ended seats span until go.0 d e go.1 go.2 (no_more reporting ended until d a.last) go.3 in
    let over : b.over ≡ a.over = go.5 ∙ ap (λ t. a.over ++ t) end.1 ∙ append-nil a.over in
    let on : a.on ≡ b.on = edges_one (form_of reporting) span pin d.net (turn_at until d) a.on b.on a.on_is (subst (λ (x : Config). AreEdgesOf (form_of reporting) span pin x.net (turn_at until x) b.on) end.2 b.on_is) in
    (a.text_is ∙ ap₂ (λ x y. x ++ y) (sym over) on ∙ sym b.text_is, sym end.2)

-- ---- what was heard of so far

pub record Reached {R : Type 0} (hears : R → Happening → R → Type 0) (ended : Bool) (until : ℕ) (c d : Config) (old new : R) : Type 0 where
  pub happened : List Happening
  pub goes : GoesIf (IsReported ended until) until c happened d
  pub heard : Hears hears old happened new

goes_more : (Holds : Turn → Config → Type 0) (until : ℕ) (xs : List Happening) (c mid d : Config) (x : Happening) → GoesIf Holds until c xs mid → Happens until mid x d → Holds (turn_at until mid) d
    → GoesIf Holds until c (xs ++ x ∷ []) d
goes_more Holds until [] c mid d x goes turn holds =
    (d, subst (λ (e : Config). Happens until e x d) goes turn, subst (λ (e : Config). Holds (turn_at until e) d) goes holds, refl)
goes_more Holds until (y ∷ ys) c mid d x (first, step, held, goes) turn holds = (first, step, held, goes_more Holds until ys first mid d x goes turn holds)

hears_more : {R : Type 0} (hears : R → Happening → R → Type 0) (xs : List Happening) (r m s : R) (x : Happening) → Hears hears r xs m → hears m x s → Hears hears r (xs ++ x ∷ []) s
hears_more hears [] r m s x heard next = (s, subst (λ k. hears k x s) heard next, refl)
hears_more hears (y ∷ ys) r m s x (first, step, heard) next = (first, step, hears_more hears ys first m s x heard next)

-- one turn more
pub reached_more : {R : Type 0} (hears : R → Happening → R → Type 0) (ended : Bool) (until : ℕ) (c d e : Config) (old mid new : R) (x : Happening) → Reached hears ended until c d old mid
    → Happens until d x e → IsReported ended until (turn_at until d) e → hears mid x new → Reached hears ended until c e old new
reached_more hears ended until c d e old mid new x r turn reported next = record {
  happened = r.happened ++ x ∷ [];
  goes = goes_more (IsReported ended until) until r.happened c d e x r.goes turn reported;
  heard = hears_more hears r.happened old mid new x r.heard next;
}

pub reported_event : (ended : Bool) (until at : ℕ) (e : Config) → IsReported ended until (Apply at) e
reported_event false until at e = tt
reported_event true until at e = tt

-- a round that is not on
pub reported_round : (ended : Bool) (until begin : ℕ) (net : NetState) (e : Config) (o : Outcome) → IsOn false ended until begin net → IsWave o.wave → IsNextRound net begin o e.net
    → IsReported ended until (Round begin) e
reported_round ended until begin net e o soon wave next = by_end ended (soon o e.net wave next)
  where
    by_end : (b : Bool) → IsSoon b until e.net → IsReported b until (Round begin) e
    by_end false s = s
    by_end true s = tt

-- the same of the turn that comes next
pub next_event : (ended : Bool) (until at : ℕ) (net : NetState) (rest : List TimedEvent) (e : Config) → turn_of until net (first_time rest) ≡ Apply at → IsReported ended until (turn_of until net (first_time rest)) e
next_event ended until at net rest e turn = subst (λ t. IsReported ended until t e) (sym turn) (reported_event ended until at e)

pub next_round : (ended : Bool) (until begin : ℕ) (net new : NetState) (rest : List TimedEvent) (totals : Totals) (o : Outcome) → turn_of until net (first_time rest) ≡ Round begin
    → IsOn false ended until begin net → IsWave o.wave → IsNextRound net begin o new → IsReported ended until (turn_of until net (first_time rest)) (record { net = new; events = rest; totals = totals })
next_round ended until begin net new rest totals o turn soon wave next =
    subst (λ t. IsReported ended until t (record { net = new; events = rest; totals = totals })) (sym turn) (reported_round ended until begin net (record { net = new; events = rest; totals = totals }) o soon wave next)

-- at the end the events that are left are those after the ones that were applied
pub heard_is : {R : Type 0} (hears : R → Happening → R → Type 0) (ended : Bool) (until : ℕ) (c : Config) (net : NetState) (rest left : List TimedEvent) (totals : Totals) (old new : R) (goes_on : Bool) (on : Option ℕ)
    → Reached hears ended until c (record { net = net; events = rest; totals = totals }) old new → rest ≡ left
    → (goes_on ≡ true → ComesLast ended until (record { net = net; events = rest; totals = totals }) on)
    → AreHeard hears ended until c (record { net = net; events = left; totals = totals }) old new goes_on on
heard_is hears ended until c net rest left totals old new goes_on on r split last =
    subst (λ (es : List TimedEvent). AreHeard hears ended until c (record { net = net; events = es; totals = totals }) old new goes_on on) split
    (record { happened = r.happened; goes = r.goes; heard = r.heard; last = last })

-- ---- what is added of them

edges_by : (form : Form) (span : InstantRange) (turn : Turn) (c : Config) (x : Happening) (d : Config) → HappensBy turn c x d → AreEdgesOf form span None c.net turn (edges_of form span x)
edges_by form span Stop c x d h = absurd h
edges_by form span (Apply at) c x d h = ap (edges_of form span) h.is
edges_by form span (Round begin) c x d h = (h.outcome, d.net, h.wave, h.next, ap (edges_of form span) h.is)

notes_by : (seats : Bool) (form : Form) (turn : Turn) (c : Config) (x : Happening) (d : Config) → HappensBy turn c x d → AreNotesOf seats form c turn (turn_notes seats form x)
notes_by seats form Stop c x d h = absurd h
notes_by false form (Apply at) c x d h = ap (turn_notes false form) h.is
notes_by true form (Apply at) c x d h = ap (turn_notes true form) h.is ∙ ap (λ (events : List TimedEvent). moved_by form at events c.net) (sym h.next)
notes_by false form (Round begin) c x d h = ap (turn_notes false form) h.is
notes_by true form (Round begin) c x d h = (h.outcome, d.net, h.wave, h.next, ap (turn_notes true form) h.is)

-- a session says lines where it reports a trace, and objects where it reports these
pub form_back : (form : Form) (edid : Option Edid) → form_of (reporting_of form edid) ≡ form
form_back Text edid = refl
form_back Json edid = refl

said_by : (form : Form) (edid : Option Edid) → SaysOf (reporting_of form edid) (said_of form edid)
said_by Text edid turn c x d h = trace_by edid turn c x d h
said_by Json edid turn c x d h = objects_by edid None turn c x d h

pub told_from : (old now mid : Tally) (seats told : Bool) (form says : Form) (edid passed : Option Edid) (span wide : InstantRange) (xs : List Happening) → now ≡ old → told ≡ seats → says ≡ form → passed ≡ edid → wide ≡ span
    → Adds now mid (flat_map (text_with told says passed wide) xs) → Adds old mid (flat_map (text_with seats form edid span) xs)
told_from old now mid seats told form says edid passed span wide xs same n e f g added =
    subst (λ (t : Tally). Adds t mid (flat_map (text_with seats form edid span) xs)) same
    (subst (λ (b : Bool). Adds now mid (flat_map (text_with b form edid span) xs)) n
    (subst (λ (s : Form). Adds now mid (flat_map (text_with told s edid span) xs)) e
    (subst (λ (w : InstantRange). Adds now mid (flat_map (text_with told says edid w) xs)) g (subst (λ (p : Option Edid). Adds now mid (flat_map (text_with told says p wide) xs)) f added))))

leads_by : (form : Form) (edid : Option Edid) (ended seats : Bool) (span : InstantRange) (until : ℕ) (xs : List Happening) (c d : Config) → GoesIf (IsReported ended until) until c xs d
    → LeadsWith (reporting_of form edid) ended seats span until (length xs) c (flat_map (said_of form edid) xs) (flat_map (text_with seats form edid span) xs) d
leads_by form edid ended seats span until [] c d goes = (refl, refl, goes)
leads_by form edid ended seats span until (x ∷ xs) c d (mid, step, held, goes) = (
  mid,
  said_of form edid x,
  edges_of form span x,
  flat_map (said_of form edid) xs,
  flat_map (text_with seats form edid span) xs,
  said_by form edid (turn_at until c) c x mid step,
  held,
  subst (λ (f : Form). AreEdgesOf f span None c.net (turn_at until c) (edges_of form span x)) (sym (form_back form edid)) (edges_by form span (turn_at until c) c x mid step),
  leads_by form edid ended seats span until xs mid d goes,
  refl,
  record {
    notes = turn_notes seats form x;
    are = subst (λ (f : Form). AreNotesOf seats f c (turn_at until c) (turn_notes seats form x)) (sym (form_back form edid)) (notes_by seats form (turn_at until c) c x mid step);
    is = refl;
  },
)

-- ---- the last

pub last_stop : (ended : Bool) (until : ℕ) (net : NetState) (rest : List TimedEvent) (totals : Totals) → turn_of until net (first_time rest) ≡ Stop
    → IsLast ended until (record { net = net; events = rest; totals = totals })
last_stop false until net rest totals stops = subst (IsHeldBy until net) (sym stops) tt
last_stop true until net rest totals stops = stops

comes_last : (ended : Bool) (until : ℕ) (d : Config) (on : Option ℕ) → ComesLast ended until d on → IsLast ended until d
comes_last ended until d None stops = last_stop ended until d.net d.events d.totals stops
comes_last false until d (Some begin) (turn, late) = subst (IsHeldBy until d.net) (sym turn) late.1
comes_last true until d (Some begin) (turn, late) = absurd (true≢false late.0)

edges_last : (form : Form) (ended : Bool) (pin : Option ℕ) (span : InstantRange) (until : ℕ) (d : Config) (on : Option ℕ) (edges : List ℕ) → ComesLast ended until d on → AreEdgesOn form span pin d.net on edges
    → AreEdgesOf form span pin d.net (turn_at until d) edges
edges_last form ended pin span until d None edges stops own = subst (λ t. AreEdgesOf form span pin d.net t edges) (sym stops) own
edges_last form ended pin span until d (Some begin) edges (turn, late) own = subst (λ t. AreEdgesOf form span pin d.net t edges) (sym turn) own

-- what was added of the turns and of the round that is on is what is due, whole or up to a fault
pub record Added (reporting : Reporting) (ended seats : Bool) (pin : Option ℕ) (span : InstantRange) (until : ℕ) (c d : Config) (old new : Tally) : Type 0 where
  pub reported : List ℕ
  pub text : List ℕ
  pub place : Config
  pub goes : GoesWith reporting ended seats pin span until c reported text place
  pub added : Adds old new text
  pub stands : new.failed ≡ false → d ≡ place

pub all_added : (form : Form) (edid : Option Edid) (ended seats : Bool) (pin : Option ℕ) (span : InstantRange) (until : ℕ) (c d : Config) (xs : List Happening) (on : Option ℕ) (edges : List ℕ) (old mid new : Tally)
    → GoesIf (IsReported ended until) until c xs d → (not mid.failed ≡ true → ComesLast ended until d on) → AreEdgesOn form span pin d.net on edges
    → (reported : List ℕ) × (text : List ℕ) × (place : Config) × GoesWith (reporting_of form edid) ended seats pin span until c reported text place
    → Adds old mid (flat_map (text_with seats form edid span) xs) → Adds mid new edges → Added (reporting_of form edid) ended seats pin span until c d old new
all_added form edid ended seats pin span until c d xs on edges old mid new goes last own due first second = by_fault mid.failed refl
  where
    over : List ℕ
    over = flat_map (text_with seats form edid span) xs

    by_fault : (b : Bool) → mid.failed ≡ b → Added (reporting_of form edid) ended seats pin span until c d old new
    by_fault true e =
        let all = due.3 in
        let go = begin_with (reporting_of form edid) ended seats span until (length xs) all.turns c d due.2 (flat_map (said_of form edid) xs) over due.0 all.over (leads_by form edid ended seats span until xs c d goes) all.leads (no_more (reporting_of form edid) ended until due.2 all.last) in
        let is : due.1 ≡ over ++ (go.2 ++ all.on) = all.text_is ∙ ap (λ t. t ++ all.on) go.5 ∙ append_assoc over go.2 all.on in
        let none : new ≡ mid = after_failure mid new edges e second in
        record {
          reported = due.0;
          text = due.1;
          place = due.2;
          goes = all;
          added = subst (λ (t : Tally). Adds old t due.1) (sym none) (subst (λ t. Adds old mid t) (sym is) (cut_short old mid over (go.2 ++ all.on) e first));
          stands = λ f. absurd (true≢false (sym e ∙ not_yet mid new edges f second));
        }
    by_fault false e =
        let end = last (ap not e) in
        record {
          reported = flat_map (said_of form edid) xs;
          text = over ++ edges;
          place = d;
          goes = record {
            turns = length xs;
            over = over;
            on = edges;
            leads = leads_by form edid ended seats span until xs c d goes;
            last = comes_last ended until d on end;
            on_is = subst (λ (f : Form). AreEdgesOf f span pin d.net (turn_at until d) edges) (sym (form_back form edid)) (edges_last form ended pin span until d on edges end own);
            text_is = refl;
          };
          added = then old mid new over edges first second;
          stands = λ f. refl;
        }

-- ---- the events that are left

pub drop_next : (n : ℕ) (es rest : List TimedEvent) (e : TimedEvent) (others : List TimedEvent) → rest ≡ drop n es → rest ≡ e ∷ others → (others ≡ drop (n + 1) es) × (n < length es)
drop_next n es rest e others h split =
    let here : drop n es ≡ e ∷ others = sym h ∙ split in
    let len : suc (length others) ≡ length es - n = sym (ap length here) ∙ length-drop n es in
    let low : n < length es = omega (arith, len) in
    let parts : get_or es n e ∷ drop (suc n) es ≡ e ∷ others = sym (drop-cons es n e low) ∙ here in
    let same : n + 1 ≡ suc n = omega arith in
    (sym (ap (λ k. drop k es) same ∙ tail (get_or es n e) e (drop (suc n) es) others parts), low)
  where
    tail : (x y : TimedEvent) (xs ys : List TimedEvent) → x ∷ xs ≡ y ∷ ys → xs ≡ ys
    tail x y xs ys k = cc

-- the events that are left name devices too
pub drop_schedule : (count end from n : ℕ) (events : List TimedEvent) → IsSchedule count end from events → (later : ℕ) × IsSchedule count end later (drop n events)
drop_schedule count end from zero events s = (from, s)
drop_schedule count end from (suc n) [] s = (from, tt)
drop_schedule count end from (suc n) (event ∷ events) s = drop_schedule count end event.at n events s.3

pub drop_drop : (n m : ℕ) (events : List TimedEvent) → drop (n + m) events ≡ drop m (drop n events)
drop_drop zero m events = let none : zero + m ≡ m = omega arith in ap (λ (k : ℕ). drop k events) none
drop_drop (suc n) m [] = empty (suc n + m) ∙ sym (empty m)
  where
    empty : (k : ℕ) → drop {A = TimedEvent} k [] ≡ []
    empty zero = refl
    empty (suc k) = refl
drop_drop (suc n) m (event ∷ events) = let more : suc n + m ≡ suc (n + m) = omega arith in ap (λ (k : ℕ). drop k (event ∷ events)) more ∙ drop_drop n m events

-- ---- a session that went on

pub gone_is : (edges ended : Bool) (span : InstantRange) (s t : Session) (d : Config) (old new : Tally) → span ≡ span_of edges ended s → t ≡ record s { place = d }
    → Added s.reporting ended s.seats s.notes.pin span (certain_until s.notes.pin s.horizon) s.place d old new → IsGone edges ended s t old new
gone_is edges ended span s t d old new known stands a = record {
  reported = a.reported;
  text = a.text;
  place = a.place;
  goes = subst (λ (span : InstantRange). GoesWith s.reporting ended s.seats s.notes.pin span (certain_until s.notes.pin s.horizon) s.place a.reported a.text a.place) known a.goes;
  added = a.added;
  stands = λ f. stands ∙ ap (λ (p : Config). let u : Session = record s { place = p } in u) (a.stands f);
  somewhere = (d, stands);
}
