-- A session that goes on has a text: each round has an outcome, and the turns come to an end.
use Rattle.std.proofs.Common.{◌≡◌, ℕ, zero, suc, ◌+◌, ◌-◌, ◌<◌, ◌≤◌, Bool, true, false, nat_lt, if◌then◌else◌, List, [], ◌∷◌, ◌++◌, length, filter, inl, inr, All, Option, Some, None, Result, Ok, Err, MatchResult, refl, sym, ap, ◌∙◌, subst, arith, append_assoc}
use Rattle.std.proofs.lemmas.Bool.{cases_lt}
use Rattle.std.proofs.lemmas.Bool.Decides.{nat_tests}
use Rattle.std.proofs.lemmas.List.Elements.{All-append, All-cons, All-nil, filter_passes}
use Rattle.line_wave.specs.declared.Stretch.{Stretch}
use Rattle.line_wave.specs.Line.{IsWave}
use Rattle.line_wave.specs.Pulls.{are_timely}
use Rattle.line_rounds.specs.declared.Outcome.{Outcome}
use Rattle.line_rounds.proofs.HasOutcome.{rounds_have_outcomes}
use Rattle.room_event.specs.declared.event.Event.{Event}
use Rattle.room_script.specs.declared.script.TimedEvent.{TimedEvent}
use Rattle.room_net.specs.State.{NetState, next_start}
use Rattle.room_net.specs.Added.{between_rounds, is_late, pulse_fault, pulse_fault_by, with_pulse}
use Rattle.room_net.specs.Apply.{net_after, event_fault}
use Rattle.room_net.specs.Step.{IsNextRound, after_round, seats_of}
use Rattle.room_net.specs.declared.added.PulseError.{PulseError}
use Rattle.room_net.specs.declared.added.PulseError.TheVariants.{Past, Late, NotInOrder}
use Rattle.room_net.proofs.Progress.{going}
use Rattle.message_text.specs.ReadingText.{is_complete}
use Rattle.record_core.specs.declared.cell.Form.{Form}
use Rattle.room_trace.specs.Notes.{sent_notes}
use Rattle.room_run.specs.declared.run.Reporting.{Reporting}
use Rattle.room_run.specs.declared.run.Turn.{Turn}
use Rattle.room_run.specs.declared.run.Turn.TheVariants.{Stop, Apply, Round}
use Rattle.room_run.specs.Run.{Config, turn_at, turn_of, first_time, round_turn, counted_event, counted_round, event_reported, round_reported, IsEventTurn, IsTurnBy}
use Rattle.room_run.specs.Certain.{IsHeldBy}
use Rattle.live_session.specs.declared.edges.InstantRange.{InstantRange}
use Rattle.live_session.specs.Edges.{edges_reported, pinned_by}
use Rattle.live_session.specs.Turns.{AreAhead, AreEdgesOf, AreNotesBy, AreNotesOf, GoesWith, HasEdges, IsReported, form_of, moved_by}
use Rattle.live_session.proofs.Below.{event_keeps, round_begins, timely_tested, wave_filter}
use Rattle.live_session.proofs.Going.{last_stop, reported_event}

-- ---- what a network keeps of its pulses

pub ahead_first : (net : NetState) → net.pulses ≡ [] → AreAhead net
ahead_first net none = record { order = subst (λ (ps : List Stretch). IsWave ps) (sym none) tt; later = subst (λ (ps : List Stretch). All (λ p. net.rest ≤ p.from) ps) (sym none) (All-nil _) }

pub ahead_event : (at : ℕ) (event : Event) (s t : NetState) → t ≡ net_after at event s → AreAhead s → AreAhead t
ahead_event at event s t e a =
    let kept = event_keeps at event s t e in
    record {
      order = subst (λ (ps : List Stretch). IsWave ps) (sym kept.pulses) a.order;
      later = subst (λ (ps : List Stretch). All (λ p. t.rest ≤ p.from) ps) (sym kept.pulses) (subst (λ (rest : ℕ). All (λ p. rest ≤ p.from) s.pulses) (sym kept.rest) a.later);
    }

-- the pulses that are left come after the rest
later_after : (rest : ℕ) (pulses : List Stretch) → All (λ p. rest ≤ p.from) (filter (λ p. nat_lt rest p.from) pulses)
later_after rest pulses k p l = (let e = filter_passes (λ (q : Stretch). nat_lt rest q.from) pulses k p l in grind (arith, nat_tests))

pub ahead_round : (begin : ℕ) (s t : NetState) (o : Outcome) → t ≡ after_round s begin o → AreAhead s → AreAhead t
ahead_round begin s t o e a = subst AreAhead (sym e) (record { order = wave_filter (λ (q : Stretch). nat_lt o.rest q.from) s.pulses a.order; later = later_after o.rest s.pulses })

no_fault : (a b c : Bool) → (if a then Some Past else if b then Some Late else if c then None else Some NotInOrder) ≡ None → (a ≡ false) × (c ≡ true)
no_fault true b c e = cc
no_fault false true c e = cc
no_fault false false true e = (refl, refl)
no_fault false false false e = cc

ahead_between : (s : NetState) (pulse : Stretch) → between_rounds s pulse ≡ None → AreAhead s → AreAhead (with_pulse s pulse)
ahead_between s pulse e a =
    let none = no_fault (nat_lt pulse.from s.rest) (is_late pulse) (are_timely (s.pulses ++ pulse ∷ [])) e in
    let late : s.rest ≤ pulse.from = (let no = none.0 in grind (arith, nat_tests)) in
    record {
      order = ((timely_tested (s.pulses ++ pulse ∷ [])).0 none.1).order;
      later = All-append (λ p. s.rest ≤ p.from) s.pulses (pulse ∷ []) a.later (All-cons (λ p. s.rest ≤ p.from) pulse [] late (All-nil (λ p. s.rest ≤ p.from)));
    }

pub ahead_pulse : (s t : NetState) (pulse : Stretch) → pulse_fault s pulse ≡ None → t ≡ with_pulse s pulse → AreAhead s → AreAhead t
ahead_pulse s t pulse none e a = subst AreAhead (sym e) (by_heard s.heard none)
  where
    by_heard : (heard : Option ℕ) → pulse_fault_by heard s pulse ≡ None → AreAhead (with_pulse s pulse)
    by_heard None h = ahead_between s pulse h a
    by_heard (Some at) h = cc

-- what the call for a pulse gives
pub ahead_added : (s t : NetState) (pulse : Stretch) (result : Result (Unit {0}) PulseError) → MatchResult result (λ done. (pulse_fault s pulse ≡ None) × (t ≡ with_pulse s pulse)) (λ error. (pulse_fault s pulse ≡ Some error) × (t ≡ s))
    → AreAhead s → AreAhead t
ahead_added s t pulse (Ok done) h a = ahead_pulse s t pulse h.0 h.1 a
ahead_added s t pulse (Err error) h a = subst AreAhead (sym h.1) a

-- ---- one turn

pub begins_before : (until begin : ℕ) (c : Config) → turn_at until c ≡ Round begin → begin < until
begins_before until begin c turn = (round_begins until c.net (first_time c.events) begin turn).1

-- what is left
abbrev size : ℕ → Config → ℕ
size until c = length c.events + (until - c.net.rest)

abbrev pub HasText : Reporting → Bool → Bool → Option ℕ → InstantRange → ℕ → Config → Type 0
HasText reporting ended seats pin span until c = (reported : List ℕ) × (text : List ℕ) × (place : Config) × GoesWith reporting ended seats pin span until c reported text place

-- smaller ones have a text
abbrev HaveTexts : Reporting → Bool → Bool → Option ℕ → InstantRange → ℕ → Config → Type 0
HaveTexts reporting ended seats pin span until c = (d : Config) → size until d < size until c → AreAhead d.net → HasText reporting ended seats pin span until d

-- notes of a turn, where they are asked for
abbrev HasNotes : Form → Config → Turn → Type 0
HasNotes form c turn = (notes : List ℕ) × AreNotesBy form c turn notes

some_notes : (seats : Bool) (form : Form) (c : Config) (turn : Turn) → HasNotes form c turn → (notes : List ℕ) × AreNotesOf seats form c turn notes
some_notes false form c turn has = ([], refl)
some_notes true form c turn has = has

in_front : (reporting : Reporting) (ended seats : Bool) (pin : Option ℕ) (span : InstantRange) (until : ℕ) (c d : Config) (line edges : List ℕ) (turn : Turn) → turn_at until c ≡ turn → IsTurnBy reporting turn c line d → IsReported ended until turn d
    → AreEdgesOf (form_of reporting) span None c.net turn edges → HasNotes (form_of reporting) c turn → HasText reporting ended seats pin span until d
    → HasText reporting ended seats pin span until c
in_front reporting ended seats pin span until c d line edges turn e is over own noted (reported, text, place, goes) = let said = some_notes seats (form_of reporting) c turn noted in (
  line ++ reported,
  (edges ++ (line ++ said.0)) ++ text,
  place,
  record {
    turns = suc goes.turns;
    over = (edges ++ (line ++ said.0)) ++ goes.over;
    on = goes.on;
    leads = (
      d,
      line,
      edges,
      reported,
      goes.over,
      subst (λ t. IsTurnBy reporting t c line d) (sym e) is,
      subst (λ t. IsReported ended until t d) (sym e) over,
      subst (λ t. AreEdgesOf (form_of reporting) span None c.net t edges) (sym e) own,
      goes.leads,
      refl,
      record { notes = said.0; are = subst (λ t. AreNotesOf seats (form_of reporting) c t said.0) (sym e) said.1; is = refl },
    );
    last = goes.last;
    on_is = goes.on_is;
    text_is = ap (λ t. (edges ++ (line ++ said.0)) ++ t) goes.text_is ∙ sym (append_assoc (edges ++ (line ++ said.0)) goes.over goes.on);
  },
)

no_event : (end at : ℕ) (o : Option ℕ) → round_turn end o ≡ Apply at → ⊥
no_event end at None e = cc
no_event end at (Some begin) e = by_test (nat_lt begin end) e
  where
    by_test : (b : Bool) → (if b then Round begin else Stop) ≡ Apply at → ⊥
    by_test true k = cc
    by_test false k = cc

event_step : (reporting : Reporting) (ended seats : Bool) (pin : Option ℕ) (span : InstantRange) (until at : ℕ) (c : Config) (events : List TimedEvent) → c.events ≡ events → turn_at until c ≡ Apply at → AreAhead c.net → HaveTexts reporting ended seats pin span until c
    → HasText reporting ended seats pin span until c
event_step reporting ended seats pin span until at c [] same e ahead go = absurd (no_event until at (next_start c.net) (sym (ap (λ (xs : List TimedEvent). turn_of until c.net (first_time xs)) same) ∙ e))
event_step reporting ended seats pin span until at c (x ∷ xs) same e ahead go =
    let d : Config = record { net = net_after at x.event c.net; events = xs; totals = counted_event (event_fault c.net x.event) c.totals } in
    let line = event_reported reporting at x c.net in
    let kept = event_keeps at x.event c.net (net_after at x.event c.net) refl in
    let turn : IsTurnBy reporting (Apply at) c line d = subst (λ (es : List TimedEvent). IsEventTurn reporting at es c line d) (sym same) (refl, refl) in
    let count : length c.events ≡ suc (length xs) = ap length same in
    in_front reporting ended seats pin span until c d line [] (Apply at) e turn (reported_event ended until at d) refl (moved_by (form_of reporting) at c.events c.net, refl) (go d (omega (arith, count, kept.rest)) (ahead_event at x.event c.net (net_after at x.event c.net) refl ahead))

round_step : (reporting : Reporting) (ended seats : Bool) (pin : Option ℕ) (span : InstantRange) (until begin : ℕ) (c : Config) → turn_at until c ≡ Round begin → AreAhead c.net → HaveTexts reporting ended seats pin span until c → HasText reporting ended seats pin span until c
round_step reporting ended seats pin span until begin c e ahead go =
    let begins = round_begins until c.net (first_time c.events) begin e in
    let has = rounds_have_outcomes (seats_of c.net begin) begin c.net.pulses ahead.order in
    let o : Outcome = has.0 in
    let net = after_round c.net begin o in
    let next : IsNextRound c.net begin o net = record { round = has.2; after_is = refl } in
    let d : Config = record { net = net; events = c.events; totals = counted_round (is_complete o.reading.ending) c.totals } in
    let line = round_reported reporting net.devices o in
    let turn : IsTurnBy reporting (Round begin) c line d = (record { outcome = o; wave = has.1; next = next; reported = refl; totals = refl }, refl) in
    let p = going c.net begin o ahead.order ahead.later begins.0 has.1 has.2 in
    let rest = go d (omega (arith, begins.1, p.later, p.low)) (ahead_round begin c.net net o refl ahead) in
    by_end ended o has.1 net next d turn rest (o, net, has.1, next, refl) (sent_notes (form_of reporting) o 0 c.net.devices, (o, net, has.1, next, refl))
  where
    by_end : (b : Bool) (o : Outcome) → IsWave o.wave → (net : NetState) → IsNextRound c.net begin o net → (d : Config) → IsTurnBy reporting (Round begin) c (round_reported reporting net.devices o) d → HasText reporting b seats pin span until d
        → HasEdges (form_of reporting) span None begin c.net (edges_reported (form_of reporting) span o.wave) → HasNotes (form_of reporting) c (Round begin) → HasText reporting b seats pin span until c
    by_end true o wave net next d turn rest has noted = in_front reporting true seats pin span until c d (round_reported reporting net.devices o) (edges_reported (form_of reporting) span o.wave) (Round begin) e turn tt has noted rest
    by_end false o wave net next d turn rest has noted =
        elim (cases_lt d.net.close until) [
          | inl lt ↦ in_front reporting false seats pin span until c d (round_reported reporting net.devices o) (edges_reported (form_of reporting) span o.wave) (Round begin) e turn lt has noted rest
          | inr ge ↦ (
            [],
            edges_reported (form_of reporting) span (pinned_by pin o.wave),
            c,
            record {
              turns = zero;
              over = [];
              on = edges_reported (form_of reporting) span (pinned_by pin o.wave);
              leads = (refl, refl, refl);
              last = subst (IsHeldBy until c.net) (sym e) (turn.0.outcome, d.net, turn.0.wave, turn.0.next, ge);
              on_is = subst (λ t. AreEdgesOf (form_of reporting) span pin c.net t (edges_reported (form_of reporting) span (pinned_by pin o.wave))) (sym e) (o, net, wave, next, refl);
              text_is = refl;
            },
          )
        ]

some_step : (reporting : Reporting) (ended seats : Bool) (pin : Option ℕ) (span : InstantRange) (until : ℕ) (c : Config) (turn : Turn) → turn_at until c ≡ turn → AreAhead c.net → HaveTexts reporting ended seats pin span until c → HasText reporting ended seats pin span until c
some_step reporting ended seats pin span until c Stop e ahead go =
    let on : List ℕ = edges_reported (form_of reporting) span (pinned_by pin []) in
    ([], on, c, record { turns = zero; over = []; on = on; leads = (refl, refl, refl); last = last_stop ended until c.net c.events c.totals e; on_is = subst (λ t. AreEdgesOf (form_of reporting) span pin c.net t on) (sym e) refl; text_is = refl })
some_step reporting ended seats pin span until c (Apply at) e ahead go = event_step reporting ended seats pin span until at c c.events refl e ahead go
some_step reporting ended seats pin span until c (Round begin) e ahead go = round_step reporting ended seats pin span until begin c e ahead go

-- ---- all turns

has_some : (reporting : Reporting) (ended seats : Bool) (pin : Option ℕ) (span : InstantRange) (until n : ℕ) (c : Config) → size until c ≤ n → AreAhead c.net → HasText reporting ended seats pin span until c
has_some reporting ended seats pin span until zero c few ahead = some_step reporting ended seats pin span until c (turn_at until c) refl ahead (λ d l a. absurd (omega (arith, l, few)))
has_some reporting ended seats pin span until (suc n) c few ahead = some_step reporting ended seats pin span until c (turn_at until c) refl ahead (λ d l a. has_some reporting ended seats pin span until n d (omega (arith, l, few)) a)

pub has_text : (reporting : Reporting) (ended seats : Bool) (pin : Option ℕ) (span : InstantRange) (until : ℕ) (c : Config) → AreAhead c.net → HasText reporting ended seats pin span until c
has_text reporting ended seats pin span until c ahead = has_some reporting ended seats pin span until (size until c) c (omega arith) ahead
