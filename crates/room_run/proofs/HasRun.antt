-- A run has a text: each round has an outcome, and the run stops.
use Rattle.std.proofs.Common.{◌≡◌, ℕ, zero, suc, ◌+◌, ◌-◌, ◌<◌, ◌≤◌, Bool, true, false, nat_lt, if◌then◌else◌, List, [], ◌∷◌, ◌++◌, length, filter, Option, Some, None, refl, sym, ap, ◌∙◌, subst, arith, append_assoc}
use Rattle.std.proofs.lemmas.Bool.Decides.{nat_tests}
use Rattle.std.proofs.lemmas.List.Elements.{filter_passes}
use Rattle.line_wave.specs.declared.Stretch.{Stretch}
use Rattle.line_wave.specs.Line.{IsWave}
use Rattle.line_rounds.specs.declared.Outcome.{Outcome}
use Rattle.line_rounds.proofs.HasOutcome.{rounds_have_outcomes}
use Rattle.room_script.specs.declared.script.TimedEvent.{TimedEvent}
use Rattle.room_script.proofs.Sound.{scripts_are_sound}
use Rattle.room_net.specs.State.{NetState, next_start, first_net}
use Rattle.room_net.specs.Apply.{net_after, event_fault}
use Rattle.room_net.specs.Step.{after_round, seats_of}
use Rattle.room_net.specs.Progress.{ComeLater}
use Rattle.room_net.proofs.Kept.{event_keeps}
use Rattle.room_net.proofs.Progress.{going}
use Rattle.message_text.specs.ReadingText.{is_complete}
use Rattle.room_run.specs.declared.run.Reporting.{Reporting}
use Rattle.room_run.specs.declared.run.Reporting.TheVariants.{Trace, Objects, Line}
use Rattle.room_run.specs.declared.run.Totals.{Totals}
use Rattle.room_run.specs.declared.run.Turn.{Turn}
use Rattle.room_run.specs.declared.run.Turn.TheVariants.{Stop, Apply, Round}
use Rattle.room_run.specs.Run.{Config, start, turn_at, turn_of, first_time, round_turn, counted_event, counted_round, IsEventTurn, IsTurnBy, IsTurn, IsRunTextFrom, event_reported, round_reported, start_reported, end_reported}
use Rattle.room_run.specs.HasRun.{RunsHaveTexts, TextsHaveObjects, TextsHaveTraces}
use Rattle.room_run.proofs.Advance.{left_in_order, round_begins}
use Rattle.room_trace.specs.Room.{room_if}

-- ---- one turn

-- what a run keeps
record Fit (s : NetState) : Type 0 where
  order : IsWave s.pulses
  later : ComeLater s.rest s.pulses

-- what is left of it
abbrev size : ℕ → Config → ℕ
size end c = length c.events + (end - c.net.rest)

abbrev HasRest : Reporting → ℕ → Config → Type 0
HasRest reporting end c = (text : List ℕ) × (totals : Totals) × IsRunTextFrom reporting end c text totals

-- smaller runs have a rest
abbrev HaveRests : Reporting → ℕ → Config → Type 0
HaveRests reporting end c = (d : Config) → size end d < size end c → Fit d.net → HasRest reporting end d

in_front : (reporting : Reporting) (end : ℕ) (c d : Config) (line : List ℕ) → IsTurn reporting end c line d → HasRest reporting end d → HasRest reporting end c
in_front reporting end c d line turn (text, totals, w) = (
  line ++ text,
  totals,
  record {
    turns = suc w.turns;
    last = w.last;
    body = line ++ w.body;
    leads = (d, line, w.body, turn, w.leads, refl);
    stops = w.stops;
    whole = ap (λ t. line ++ t) w.whole ∙ sym (append_assoc line w.body (end_reported reporting end w.last.net));
    counts = w.counts;
  },
)

no_event : (end at : ℕ) (o : Option ℕ) → round_turn end o ≡ Apply at → ⊥
no_event end at None e = cc
no_event end at (Some begin) e = by_test (nat_lt begin end) e
  where
    by_test : (b : Bool) → (if b then Round begin else Stop) ≡ Apply at → ⊥
    by_test true k = cc
    by_test false k = cc

event_step : (reporting : Reporting) (end at : ℕ) (c : Config) (events : List TimedEvent) → c.events ≡ events → turn_at end c ≡ Apply at → Fit c.net → HaveRests reporting end c → HasRest reporting end c
event_step reporting end at c [] same e fit go = absurd (no_event end at (next_start c.net) (sym (ap (λ (xs : List TimedEvent). turn_of end c.net (first_time xs)) same) ∙ e))
event_step reporting end at c (x ∷ xs) same e fit go =
    let d : Config = record { net = net_after at x.event c.net; events = xs; totals = counted_event (event_fault c.net x.event) c.totals } in
    let line = event_reported reporting at x c.net in
    let kept = event_keeps at x.event c.net (net_after at x.event c.net) refl in
    let turn : IsTurnBy reporting (Apply at) c line d = subst (λ (es : List TimedEvent). IsEventTurn reporting at es c line d) (sym same) (refl, refl) in
    let count : length c.events ≡ suc (length xs) = ap length same in
    let rested : ComeLater (net_after at x.event c.net).rest c.net.pulses = subst (λ rest. ComeLater rest c.net.pulses) (sym kept.rest) fit.later in
    in_front reporting end c d line (subst (λ t. IsTurnBy reporting t c line d) (sym e) turn)
    (go d (omega (arith, count, kept.rest))
    (record { order = subst (λ (ps : List Stretch). IsWave ps) (sym kept.pulses) fit.order; later = subst (λ (ps : List Stretch). ComeLater (net_after at x.event c.net).rest ps) (sym kept.pulses) rested }))

-- the pulses that are left come after the rest
later_after : (rest : ℕ) (pulses : List Stretch) → ComeLater rest (filter (λ p. nat_lt rest p.from) pulses)
later_after rest pulses k p l = (let e = filter_passes (λ (q : Stretch). nat_lt rest q.from) pulses k p l in grind (arith, nat_tests))

round_step : (reporting : Reporting) (end begin : ℕ) (c : Config) → turn_at end c ≡ Round begin → Fit c.net → HaveRests reporting end c → HasRest reporting end c
round_step reporting end begin c e fit go =
    let begins = round_begins end c.net (first_time c.events) begin e in
    let has = rounds_have_outcomes (seats_of c.net begin) begin c.net.pulses fit.order in
    let o : Outcome = has.0 in
    let d : Config = record { net = after_round c.net begin o; events = c.events; totals = counted_round (is_complete o.reading.ending) c.totals } in
    let line = round_reported reporting d.net.devices o in
    let p = going c.net begin o fit.order fit.later begins.0 has.1 has.2 in
    let turn : IsTurnBy reporting (Round begin) c line d =
    (record { outcome = o; wave = has.1; next = record { round = has.2; after_is = refl }; reported = refl; totals = refl }, refl) in
    in_front reporting end c d line (subst (λ t. IsTurnBy reporting t c line d) (sym e) turn)
    (go d (omega (arith, begins.1, p.later, p.low)) (record { order = left_in_order o.rest c.net.pulses fit.order; later = later_after o.rest c.net.pulses }))

some_step : (reporting : Reporting) (end : ℕ) (c : Config) (turn : Turn) → turn_at end c ≡ turn → Fit c.net → HaveRests reporting end c → HasRest reporting end c
some_step reporting end c Stop e fit go =
    (end_reported reporting end c.net, c.totals, record { turns = zero; last = c; body = []; leads = (refl, refl); stops = e; whole = refl; counts = refl })
some_step reporting end c (Apply at) e fit go = event_step reporting end at c c.events refl e fit go
some_step reporting end c (Round begin) e fit go = round_step reporting end begin c e fit go

-- ---- all turns

has_rest : (reporting : Reporting) (end n : ℕ) (c : Config) → size end c ≤ n → Fit c.net → HasRest reporting end c
has_rest reporting end zero c few fit = some_step reporting end c (turn_at end c) refl fit (λ d l f. absurd (omega (arith, l, few)))
has_rest reporting end (suc n) c few fit = some_step reporting end c (turn_at end c) refl fit (λ d l f. has_rest reporting end n d (omega (arith, l, few)) f)

pub runs_have_texts : RunsHaveTexts
runs_have_texts reporting tree pulses events end order =
    let c = start (first_net tree pulses) events in
    let rest = has_rest reporting end (size end c) c (omega arith) (record { order = order; later = λ k p l. omega arith }) in
    (start_reported reporting c.net ++ rest.0, rest.1, record { rest = rest.0; run = rest.2; whole = refl })

pub texts_have_traces : TextsHaveTraces
texts_have_traces topology script plan course edid accepted root =
    let order = (scripts_are_sound plan.tree script course accepted.course_is).timely.order in
    let trace = runs_have_texts (Trace edid) plan.tree course.pulses course.events course.end order in (
      (trace.0, trace.1, record { plan = plan; course = course; edid = edid; accepted = accepted; root = root; trace = trace.2 }),
      λ format.
          let line = runs_have_texts (Line format) plan.tree course.pulses course.events course.end order in
          (line.0, line.1, record { plan = plan; course = course; edid = edid; accepted = accepted; root = root; line = line.2 }),
    )

pub texts_have_objects : TextsHaveObjects
texts_have_objects with_room topology script plan course edid accepted root =
    let order = (scripts_are_sound plan.tree script course accepted.course_is).timely.order in
    let text = runs_have_texts (Objects edid (room_if with_room topology script)) plan.tree course.pulses course.events course.end order in
    (text.0, text.1, record { plan = plan; course = course; edid = edid; accepted = accepted; root = root; objects = text.2 })
