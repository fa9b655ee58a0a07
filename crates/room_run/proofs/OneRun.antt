-- The trace of a run and the texts of its line tell one run, which is over soon after the script's end.
use Rattle.std.proofs.Common.{◌≡◌, ℕ, zero, suc, ◌+◌, ◌≤◌, nat_lt, List, [], ◌∷◌, ◌++◌, refl, sym, ap, ap₂, ◌∙◌, subst, arith, append-nil, Option}
use Rattle.std.specs.List.{flat_map}
use Rattle.std.proofs.lemmas.Grind.{flat_map-append}
use Rattle.std.proofs.lemmas.List.Elements.{All-filter}
use Rattle.edid_core.specs.declared.edid.Edid.{Edid}
use Rattle.room_trace.specs.TraceText.{round_line}
use Rattle.line_wave.specs.declared.Stretch.{Stretch}
use Rattle.line_wave.specs.Line.{line_of}
use Rattle.line_rounds.specs.declared.Outcome.{Outcome}
use Rattle.line_rounds.specs.Round.{close_in}
use Rattle.line_rounds.proofs.Bounds.{rounds_are_short}
use Rattle.line_rounds.proofs.OneOutcome.{one_outcome}
use Rattle.room_net.specs.State.{NetState, first_net}
use Rattle.room_net.specs.Step.{after_round, seats_of}
use Rattle.room_script.specs.declared.script.TimedEvent.{TimedEvent}
use Rattle.room_script.specs.Topology.{Plan}
use Rattle.room_script.specs.Script.{Course}
use Rattle.message_text.specs.ReadingText.{is_complete}
use Rattle.room_run.specs.declared.run.Reporting.{Reporting}
use Rattle.room_run.specs.declared.run.Reporting.TheVariants.{Trace, Line}
use Rattle.room_run.specs.declared.run.Turn.{Turn}
use Rattle.room_run.specs.declared.run.Turn.TheVariants.{Stop, Apply, Round}
use Rattle.room_run.specs.Run.{Config, start, turn_at, first_time, counted_round, IsEventTurn, IsTurnBy, Leads, IsRunText, start_reported, end_reported, event_text}
use Rattle.room_run.specs.RunLine.{rounds_by, rounds_in}
use Rattle.room_run.specs.OneRun.{rounds_reported, OneRun, rounds_of_trace, TextsHaveOneRun, Part, OfEvent, OfRound, part_text, part_rounds, TracesHaveParts, AreOverBy, RunsCloseSoon}
use Rattle.room_run.proofs.Turns.{same_outcome, no_turn}
use Rattle.room_net.proofs.Kept.{event_keeps}
use Rattle.room_run.proofs.Advance.{left_in_order, round_begins}
use Rattle.room_run.proofs.Accepted.{one_plan, one_course}

-- ---- one turn, whatever is told of it

record IsOneTurn (d e : Config) (os ps : List Outcome) : Type 0 where
  there : d ≡ e
  rounds : os ≡ ps

round_too : (reporting other : Reporting) (begin : ℕ) (c d e : Config) (line text : List ℕ) (r : IsTurnBy reporting (Round begin) c line d) (s : IsTurnBy other (Round begin) c text e)
    → IsOneTurn d e (rounds_by reporting (Round begin) c line d r) (rounds_by other (Round begin) c text e s)
round_too reporting other begin c d e line text r s =
    let same : r.0.outcome ≡ s.0.outcome =
    same_outcome r.0.outcome s.0.outcome (one_outcome (seats_of c.net begin) begin c.net.pulses r.0.outcome s.0.outcome r.0.wave s.0.wave r.0.next.round s.0.next.round) in
    let net : d.net ≡ e.net = r.0.next.after_is ∙ ap (after_round c.net begin) same ∙ sym s.0.next.after_is in
    let totals : d.totals ≡ e.totals = r.0.totals ∙ ap (λ (o : Outcome). counted_round (is_complete o.reading.ending) c.totals) same ∙ sym s.0.totals in
    let events : d.events ≡ e.events = r.1 ∙ sym s.1 in
    record { there = λ i. record { net = net i; events = events i; totals = totals i }; rounds = ap (λ (o : Outcome). o ∷ []) same }

event_too : (reporting other : Reporting) (at : ℕ) (events : List TimedEvent) (c d e : Config) (line text : List ℕ) → IsEventTurn reporting at events c line d → IsEventTurn other at events c text e → d ≡ e
event_too reporting other at [] c d e line text r s = r.1 ∙ sym s.1
event_too reporting other at (x ∷ xs) c d e line text r s = r.1 ∙ sym s.1

turn_too : (reporting other : Reporting) (turn : Turn) (c d e : Config) (line text : List ℕ) (r : IsTurnBy reporting turn c line d) (s : IsTurnBy other turn c text e)
    → IsOneTurn d e (rounds_by reporting turn c line d r) (rounds_by other turn c text e s)
turn_too reporting other Stop c d e line text r s = absurd r
turn_too reporting other (Apply at) c d e line text r s = record { there = event_too reporting other at c.events c d e line text r s; rounds = refl }
turn_too reporting other (Round begin) c d e line text r s = round_too reporting other begin c d e line text r s

-- ---- all turns

record IsOneWay (n m : ℕ) (d e : Config) (os ps : List Outcome) : Type 0 where
  turns : n ≡ m
  last : d ≡ e
  rounds : os ≡ ps

one_way : (reporting other : Reporting) (end n m : ℕ) (c d e : Config) (text whole : List ℕ) (p : Leads reporting end n c text d) → turn_at end d ≡ Stop
    → (q : Leads other end m c whole e) → turn_at end e ≡ Stop → IsOneWay n m d e (rounds_in reporting end n c text d p) (rounds_in other end m c whole e q)
one_way reporting other end zero zero c d e text whole p stops q ends = record { turns = refl; last = p.1 ∙ sym q.1; rounds = refl }
one_way reporting other end zero (suc m) c d e text whole p stops q ends = absurd (no_turn other end c q.1 q.0 (ap (turn_at end) (sym p.1) ∙ stops) q.3)
one_way reporting other end (suc n) zero c d e text whole p stops q ends = absurd (no_turn reporting end c p.1 p.0 (ap (turn_at end) (sym q.1) ∙ ends) p.3)
one_way reporting other end (suc n) (suc m) c d e text whole p stops q ends =
    let one = turn_too reporting other (turn_at end c) c p.0 q.0 p.1 q.1 p.3 q.3 in
    let on = subst (λ (x : Config). (rest : List ℕ) (last : Config) (l : Leads other end m x rest last) → turn_at end last ≡ Stop
    → IsOneWay n m d last (rounds_in reporting end n p.0 p.2 d p.4) (rounds_in other end m x rest last l)) one.there
    (λ rest last l s. one_way reporting other end n m p.0 d last p.2 rest p.4 stops l s) in
    let go = on q.2 e q.4 ends in
    record { turns = ap suc go.turns; last = go.last; rounds = ap₂ (λ (a b : List Outcome). a ++ b) one.rounds go.rounds }

pub one_run : OneRun
one_run reporting other end c x y s t p q =
    let way = one_way reporting other end p.run.turns q.run.turns c p.run.last q.run.last p.run.body q.run.body p.run.leads p.run.stops q.run.leads q.run.stops in
    record {
      totals = p.run.counts ∙ ap (λ (d : Config). d.totals) way.last ∙ sym q.run.counts;
      turns = way.turns;
      last = way.last;
      rounds = way.rounds;
    }

pub texts_have_one_run : TextsHaveOneRun
texts_have_one_run format topology script x y s t p q =
    let plan : p.plan ≡ q.plan = sym (one_plan topology p.plan q.plan p.accepted.plan_is q.accepted.plan_is) in
    let course : p.course ≡ q.course = one_course topology script p.plan q.plan p.course q.course p.accepted q.accepted in
    let here : (reported : IsRunText (Line format) p.course.end (start (first_net p.plan.tree p.course.pulses) p.course.events) y t)
    → (s ≡ t) × (rounds_of_trace topology script x s p ≡ rounds_reported (Line format) p.course.end (start (first_net p.plan.tree p.course.pulses) p.course.events) y t reported) = λ reported. (
    let one = one_run (Trace p.edid) (Line format) p.course.end (start (first_net p.plan.tree p.course.pulses) p.course.events) x y s t p.trace reported in (one.totals, one.rounds)
    ) in
    let there = subst (λ (c : Course). (reported : IsRunText (Line format) c.end (start (first_net p.plan.tree c.pulses) c.events) y t)
    → (s ≡ t) × (rounds_of_trace topology script x s p ≡ rounds_reported (Line format) c.end (start (first_net p.plan.tree c.pulses) c.events) y t reported)) course here in
    subst (λ (a : Plan). (reported : IsRunText (Line format) q.course.end (start (first_net a.tree q.course.pulses) q.course.events) y t)
    → (s ≡ t) × (rounds_of_trace topology script x s p ≡ rounds_reported (Line format) q.course.end (start (first_net a.tree q.course.pulses) q.course.events) y t reported)) plan there q.line

-- ---- the parts of a trace

record IsMade (edid : Option Edid) (text : List ℕ) (os : List Outcome) : Type 0 where
  parts : List Part
  whole : text ≡ flat_map (part_text edid) parts
  rounds : os ≡ flat_map part_rounds parts

made_event : (edid : Option Edid) (at : ℕ) (events : List TimedEvent) (c d : Config) (text : List ℕ) → IsEventTurn (Trace edid) at events c text d → IsMade edid text []
made_event edid at [] c d text t = record { parts = []; whole = t.0; rounds = refl }
made_event edid at (e ∷ events) c d text t =
    record { parts = OfEvent at e c.net ∷ []; whole = t.0 ∙ sym (append-nil (event_text edid at e c.net)); rounds = refl }

made_by : (edid : Option Edid) (turn : Turn) (c d : Config) (text : List ℕ) (t : IsTurnBy (Trace edid) turn c text d) → IsMade edid text (rounds_by (Trace edid) turn c text d t)
made_by edid Stop c d text t = absurd t
made_by edid (Apply at) c d text t = made_event edid at c.events c d text t
made_by edid (Round begin) c d text t = record {
  parts = OfRound d.net.devices t.0.outcome ∷ [];
  whole = t.0.reported ∙ sym (append-nil (round_line d.net.devices t.0.outcome));
  rounds = refl;
}

made_in : (edid : Option Edid) (end turns : ℕ) (c d : Config) (text : List ℕ) (l : Leads (Trace edid) end turns c text d) → IsMade edid text (rounds_in (Trace edid) end turns c text d l)
made_in edid end zero c d text l = record { parts = []; whole = l.0; rounds = refl }
made_in edid end (suc turns) c d text l =
    let first = made_by edid (turn_at end c) c l.0 l.1 l.3 in
    let rest = made_in edid end turns l.0 d l.2 l.4 in
    record {
      parts = first.parts ++ rest.parts;
      whole = l.5 ∙ ap₂ (λ (a b : List ℕ). a ++ b) first.whole rest.whole ∙ sym (flat_map-append (part_text edid) first.parts rest.parts);
      rounds = ap₂ (λ (a b : List Outcome). a ++ b) first.rounds rest.rounds ∙ sym (flat_map-append part_rounds first.parts rest.parts);
    }

pub traces_have_parts : TracesHaveParts
traces_have_parts edid end c text totals p =
    let made = made_in edid end p.run.turns c p.run.last p.run.body p.run.leads in
    record {
      parts = made.parts;
      whole = p.whole ∙ ap (λ (t : List ℕ). start_reported (Trace edid) c.net ++ t) (p.run.whole ∙ ap (λ (t : List ℕ). t ++ end_reported (Trace edid) end p.run.last.net) made.whole);
      rounds = made.rounds;
    }

-- ---- the last close

record Soon (bound end : ℕ) (s : NetState) : Type 0 where
  over : AreOverBy bound end s.pulses
  close : s.close ≤ bound

soon_event : (reporting : Reporting) (bound end at : ℕ) (events : List TimedEvent) (c d : Config) (text : List ℕ) → IsEventTurn reporting at events c text d → Soon bound end c.net → Soon bound end d.net
soon_event reporting bound end at [] c d text t h = subst (λ (x : Config). Soon bound end x.net) (sym t.1) h
soon_event reporting bound end at (e ∷ events) c d text t h =
    let kept = event_keeps at e.event c.net d.net (ap (λ (x : Config). x.net) t.1) in
    record { over = subst (λ (ps : List Stretch). AreOverBy bound end ps) (sym kept.pulses) h.over; close = omega (arith, kept.close, h.close) }

soon_turn : (reporting : Reporting) (bound end : ℕ) (turn : Turn) (c d : Config) (text : List ℕ) → end + 448461 ≤ bound → turn_at end c ≡ turn → IsTurnBy reporting turn c text d → Soon bound end c.net → Soon bound end d.net
soon_turn reporting bound end Stop c d text late same t h = absurd t
soon_turn reporting bound end (Apply at) c d text late same t h = soon_event reporting bound end at c.events c d text t h
soon_turn reporting bound end (Round begin) c d text late same t h =
    let o = t.0.outcome in
    let begins = round_begins end c.net (first_time c.events) begin same in
    let at : o.reading.at ≤ begin + 444861 = omega (arith, t.0.next.round.ends, rounds_are_short.ends (line_of o.wave) begin) in
    let rest : o.rest ≤ bound = rounds_are_short.rests (seats_of c.net begin) begin c.net.pulses o bound h.over.order t.0.wave t.0.next.round (omega (arith, late, begins.1))
    (λ k p l e. h.over.ends k p l (omega (arith, e, begins.1))) in
    let close : close_in o ≤ bound = omega (arith, at, rest, begins.1, late) in
    subst (Soon bound end) (sym t.0.next.after_is)
    (record { over = record { order = left_in_order o.rest c.net.pulses h.over.order; ends = All-filter (λ (q : Stretch). nat_lt o.rest q.from) (λ (p : Stretch). p.from ≤ end + 448461 → p.to ≤ bound) c.net.pulses h.over.ends }; close = close })

soon_after : (reporting : Reporting) (bound end turns : ℕ) (c d : Config) (text : List ℕ) → end + 448461 ≤ bound → Leads reporting end turns c text d → Soon bound end c.net → Soon bound end d.net
soon_after reporting bound end zero c d text late l h = subst (λ (x : Config). Soon bound end x.net) (sym l.1) h
soon_after reporting bound end (suc turns) c d text late l h = soon_after reporting bound end turns l.0 d l.2 late l.4 (soon_turn reporting bound end (turn_at end c) c l.0 l.1 late refl l.3 h)

pub runs_close_soon : RunsCloseSoon
runs_close_soon reporting tree pulses events bound end turns text d late over leads =
    (soon_after reporting bound end turns (start (first_net tree pulses) events) d text late leads (record { over = over; close = omega arith })).close
