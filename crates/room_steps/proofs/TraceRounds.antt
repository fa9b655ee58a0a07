-- The rounds of a stepper are turns of the run, and their texts are the front of its trace.
use Rattle.std.proofs.Common.{◌≡◌, ℕ, zero, suc, ◌+◌, Bool, true, false, List, [], ◌∷◌, ◌++◌, Option, Some, None, ap, ap₂, ◌∙◌, sym, refl, subst, arith, append_assoc, append-nil}
use Rattle.line_rounds.specs.declared.Outcome.{Outcome}
use Rattle.room_script.specs.declared.script.TimedEvent.{TimedEvent}
use Rattle.room_net.specs.State.{NetState}
use Rattle.room_net.specs.Apply.{net_after, event_fault}
use Rattle.room_event.specs.declared.event.EventError.{EventError}
use Rattle.message_text.specs.ReadingText.{is_complete}
use Rattle.edid_core.specs.declared.edid.Edid.{Edid}
use Rattle.record_core.specs.declared.cell.Form.{Form}
use Rattle.room_run.specs.declared.run.Reporting.{Reporting}
use Rattle.room_run.specs.declared.run.Totals.{Totals}
use Rattle.room_run.specs.declared.run.Turn.{Turn}
use Rattle.room_run.specs.declared.run.Turn.TheVariants.{Stop, Apply, Round}
use Rattle.room_run.specs.Run.{Config, IsRunText, IsRunTextFrom, IsTurn, Leads, counted_event, counted_round, end_reported, event_reported, round_reported, start, start_reported, turn_of}
use Rattle.room_run.proofs.Turns.{front_of_text}
use Rattle.room_run.proofs.Running.{event_turn_is, round_turn_is}
use Rattle.room_steps.specs.Steps.{IsOver, IsRoundStep, Point, Run, after_events, passed_by, passed_from, passed_text, passed_text_from, reporting_of, start_by, start_text, step_text, text_by}
use Rattle.room_steps.proofs.Told.{start_told}
use Rattle.room_steps.specs.Trace.{Rounds, RoundsAreTheTrace, first_point, rest_text}

-- turns after others
leads_then : (reporting : Reporting) (end n m : ℕ) (c mid d : Config) (text more : List ℕ) → Leads reporting end n c text mid → Leads reporting end m mid more d
    → (turns : ℕ) × Leads reporting end turns c (text ++ more) d
leads_then reporting end zero m c mid d text more l next =
    (m, subst (λ t. Leads reporting end m c (t ++ more) d) (sym l.0) (subst (λ x. Leads reporting end m x more d) l.1 next))
leads_then reporting end (suc n) m c mid d text more (first, head, rest, turn, after, e) next =
    let later = leads_then reporting end n m first mid d rest more after next in
    (suc later.0, (first, head, rest ++ more, turn, later.1, ap (λ t. t ++ more) e ∙ append_assoc head rest more))

-- ---- the events before a round

abbrev config : Point → Totals → Config
config p totals = record { net = p.net; events = p.events; totals = totals }

record Passing (reporting : Reporting) (end : ℕ) (c : Config) (text : List ℕ) (p : Point) : Type 0 where
  turns : ℕ
  totals : Totals
  leads : Leads reporting end turns c text (config p totals)
  counts : totals.rounds ≡ c.totals.rounds

same_rounds : (fault : Option EventError) (totals : Totals) → (counted_event fault totals).rounds ≡ totals.rounds
same_rounds None totals = refl
same_rounds (Some fault) totals = refl

passing_by : (reporting : Reporting) (end : ℕ) (s : NetState) (e : TimedEvent) (es : List TimedEvent) (first : Bool) (totals : Totals) (t : Turn) (reported : ℕ → List ℕ) (on : ℕ → Point)
    → turn_of end s (Some e.at) ≡ t
    → ((at : ℕ) → Passing reporting end (record { net = net_after at e.event s; events = es; totals = counted_event (event_fault s e.event) totals }) (reported at) (on at))
    → Passing reporting end (record { net = s; events = e ∷ es; totals = totals }) (text_by t (λ at. event_reported reporting at e s ++ reported at))
    (passed_by t (record { net = s; events = e ∷ es; is_first = first }) on)
passing_by reporting end s e es first totals (Apply at) reported on turn h =
    let r = h at in
    record {
      turns = suc r.turns;
      totals = r.totals;
      leads = (
        record { net = net_after at e.event s; events = es; totals = counted_event (event_fault s e.event) totals },
        event_reported reporting at e s,
        reported at,
        event_turn_is reporting end at s e es totals turn,
        r.leads,
        refl,
      );
      counts = r.counts ∙ same_rounds (event_fault s e.event) totals;
    }
passing_by reporting end s e es first totals Stop reported on turn h = record { turns = zero; totals = totals; leads = (refl, refl); counts = refl }
passing_by reporting end s e es first totals (Round begin) reported on turn h = record { turns = zero; totals = totals; leads = (refl, refl); counts = refl }

passing : (reporting : Reporting) (end : ℕ) (s : NetState) (es : List TimedEvent) (first : Bool) (totals : Totals)
    → Passing reporting end (record { net = s; events = es; totals = totals }) (passed_text_from reporting end s es) (passed_from end s es first)
unfolding passed_from passed_text_from
passing reporting end s [] first totals = record { turns = zero; totals = totals; leads = (refl, refl); counts = refl }
passing reporting end s (e ∷ es) first totals =
    passing_by reporting end s e es first totals (turn_of end s (Some e.at)) (λ at. passed_text_from reporting end (net_after at e.event s) es) (λ at. passed_from end (net_after at e.event s) es first) refl
    (λ at. passing reporting end (net_after at e.event s) es first (counted_event (event_fault s e.event) totals))

-- ---- a round

-- what is reported of a round with the events before it, but for the start
abbrev turn_text : Run → Point → Outcome → Point → List ℕ
turn_text run p o q = passed_text (reporting_of run) run.end p ++ round_reported (reporting_of run) q.net.devices o

one_round : (is : Bool) (totals : Totals) → (counted_round is totals).rounds ≡ totals.rounds + 1
one_round true totals = refl
one_round false totals = refl

record Turned (run : Run) (c : Config) (text : List ℕ) (q : Point) : Type 0 where
  turns : ℕ
  totals : Totals
  leads : Leads (reporting_of run) run.end turns c text (config q totals)
  counts : totals.rounds ≡ c.totals.rounds + 1

turned : (run : Run) (p q : Point) (o : Outcome) (totals : Totals) → IsRoundStep run.end p o q → Turned run (config p totals) (turn_text run p o q) q
turned run p q o totals step =
    let before = passing (reporting_of run) run.end p.net p.events p.is_first totals in
    let here = after_events run.end p in
    let line = round_reported (reporting_of run) q.net.devices o in
    let counted = counted_round (is_complete o.reading.ending) before.totals in
    let turn : IsTurn (reporting_of run) run.end (config here before.totals) line (record { net = q.net; events = here.events; totals = counted }) =
    round_turn_is (reporting_of run) run.end step.begin here.net q.net here.events before.totals counted line step.turn
    (record { outcome = o; wave = step.wave; next = step.next; reported = refl; totals = refl }) in
    let there : IsTurn (reporting_of run) run.end (config here before.totals) line (config q counted) =
    subst (λ es. IsTurn (reporting_of run) run.end (config here before.totals) line (record { net = q.net; events = es; totals = counted })) (sym step.left) turn in
    let all = leads_then (reporting_of run) run.end before.turns 1 (config p totals) (config here before.totals) (config q counted) (passed_text (reporting_of run) run.end p) line before.leads
    (config q counted, line, [], there, (refl, refl), sym (append-nil line)) in
    record {
      turns = all.0;
      totals = counted;
      leads = all.1;
      counts = one_round (is_complete o.reading.ending) before.totals ∙ ap (λ n. n + 1) before.counts;
    }

-- ---- rounds

-- After the rounds of a stepper the run stands where the stepper does. What is due at the start is reported before the first one.
record Led (run : Run) (net : NetState) (rounds : ℕ) (text : List ℕ) (q : Point) : Type 0 where
  turns : ℕ
  body : List ℕ
  totals : Totals
  leads : Leads (reporting_of run) run.end turns (start net run.events) body (config q totals)
  whole : text ++ start_text run q ≡ start_reported (reporting_of run) net ++ body
  counts : totals.rounds ≡ rounds

none_due : (form : Form) (edid : Option Edid) (net : NetState) (first : Bool) → first ≡ false → start_by first form edid net ≡ []
none_due form edid net first h = ap (λ b. start_by b form edid net) h

-- parts of a text, put together in another way
parts : (text begin passed line reported body : List ℕ) → text ++ begin ≡ reported ++ body → text ++ ((begin ++ passed) ++ line) ≡ reported ++ (body ++ (passed ++ line))
parts text begin passed line reported body h =
    ap (λ t. text ++ t) (append_assoc begin passed line) ∙ sym (append_assoc text begin (passed ++ line)) ∙ ap (λ t. t ++ (passed ++ line)) h ∙ append_assoc reported body (passed ++ line)

led : (run : Run) (net : NetState) (rounds : ℕ) (text : List ℕ) (q : Point) → Rounds run rounds (first_point run net) text q → Led run net rounds text q
led run net zero text q h = record {
  turns = zero;
  body = [];
  totals = (start net run.events).totals;
  leads = (refl, ap (λ (p : Point). config p (start net run.events).totals) h.1);
  whole = ap₂ (λ t (p : Point). t ++ start_text run p) h.0 h.1 ∙ start_told run.form run.edid net ∙ sym (append-nil (start_reported (reporting_of run) net));
  counts = refl;
}
led run net (suc rounds) text q (mid, o, front, before, step, reported) =
    let r = led run net rounds front mid before in
    let next = turned run mid q o r.totals step in
    let line = round_reported (reporting_of run) q.net.devices o in
    let all = leads_then (reporting_of run) run.end r.turns next.turns (start net run.events) (config mid r.totals) (config q next.totals) r.body (turn_text run mid o q) r.leads next.leads in
    record {
      turns = all.0;
      body = r.body ++ turn_text run mid o q;
      totals = next.totals;
      leads = all.1;
      whole = ap₂ (λ t u. t ++ u) reported (none_due run.form run.edid q.net q.is_first step.later) ∙ append-nil (front ++ step_text run mid o q)
          ∙ parts front (start_text run mid) (passed_text (reporting_of run) run.end mid) line (start_reported (reporting_of run) net) r.body r.whole;
      counts = next.counts ∙ ap (λ n. n + 1) r.counts ∙ suc_is rounds;
    }
  where
    suc_is : (n : ℕ) → n + 1 ≡ suc n
    suc_is n = omega arith

begins : (run : Run) (net : NetState) (rounds : ℕ) (text : List ℕ) (last : Point) → Rounds run rounds (first_point run net) text last
    → (whole : List ℕ) (totals : Totals) → IsRunText (reporting_of run) run.end (start net run.events) whole totals → (more : List ℕ) × (whole ≡ text ++ more)
begins run net rounds text last h whole totals trace =
    let r = led run net rounds text last h in
    let begin = start_text run last in
    let reported = start_reported (reporting_of run) net in
    let front = front_of_text (reporting_of run) run.end r.turns (start net run.events) (config last r.totals) r.body trace.rest totals r.leads trace.run in (
      begin ++ front.0,
      trace.whole ∙ ap (λ t. reported ++ t) front.1 ∙ sym (append_assoc reported r.body front.0) ∙ ap (λ t. t ++ front.0) (sym r.whole) ∙ append_assoc text begin front.0,
    )

ends : (run : Run) (net : NetState) (rounds : ℕ) (text : List ℕ) (last : Point) → Rounds run rounds (first_point run net) text last → IsOver run.end last
    → (totals : Totals) × IsRunText (reporting_of run) run.end (start net run.events) (text ++ rest_text run last) totals × (totals.rounds ≡ rounds)
ends run net rounds text last h over =
    let r = led run net rounds text last h in
    let here = after_events run.end last in
    let before = passing (reporting_of run) run.end last.net last.events last.is_first r.totals in
    let reported = start_reported (reporting_of run) net in
    let events = passed_text (reporting_of run) run.end last in
    let end = end_reported (reporting_of run) run.end here.net in
    let all = leads_then (reporting_of run) run.end r.turns before.turns (start net run.events) (config last r.totals) (config here before.totals) r.body events r.leads before.leads in
    let rest : IsRunTextFrom (reporting_of run) run.end (start net run.events) ((r.body ++ events) ++ end) before.totals =
    record { turns = all.0; last = config here before.totals; body = r.body ++ events; leads = all.1; stops = over; whole = refl; counts = refl } in (
      before.totals,
      record {
        rest = (r.body ++ events) ++ end;
        run = rest;
        whole = parts text (start_text run last) events end reported r.body r.whole ∙ ap (λ t. reported ++ t) (sym (append_assoc r.body events end));
      },
      before.counts ∙ r.counts,
    )

pub rounds_are_the_trace : RoundsAreTheTrace
rounds_are_the_trace = record { front = begins; whole = ends }
