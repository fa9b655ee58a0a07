-- A run, turn by turn: its rounds, and the spans that its dump reports.
use Rattle.std.proofs.Common.{◌≡◌, ℕ, zero, suc, ◌+◌, ◌-◌, ◌<◌, ◌≤◌, Bool, true, false, ◌||◌, nat_lt, min, max, List, [], ◌∷◌, ◌++◌, length, map, Option, Some, None, refl, sym, ap, ap₂, ◌∙◌, subst, arith}
use Rattle.std.specs.List.{All, filter, list_any}
use Rattle.std.proofs.lemmas.Bool.Decides.{nat_tests}
use Rattle.std.proofs.lemmas.List.Elements.{All-cons, All-nil, filter_passes}
use Rattle.line_wave.specs.declared.Stretch.{Stretch}
use Rattle.line_wave.specs.Line.{IsWave, line_of}
use Rattle.line_wave.proofs.Kept.{wave_filter}
use Rattle.line_reading.specs.Readings.{IsLone}
use Rattle.line_rounds.specs.declared.Outcome.{Outcome}
use Rattle.line_rounds.specs.Alone.{part_of}
use Rattle.line_rounds.specs.Round.{close_in}
use Rattle.line_rounds.proofs.Alone.{rounds_are_lone}
use Rattle.line_rounds.proofs.Lasting.{rounds_last}
use Rattle.room_drives.proofs.Whole.{drives_are_ruled, drives_are_the_line}
use Rattle.capture_laws.specs.WireDumps.{AreSpans, IsWithin, Span, spans_text, wire_at}
use Rattle.room_net.specs.Start.{first_onset, least_start, sooner}
use Rattle.room_net.specs.State.{NetState, next_start}
use Rattle.room_net.specs.Apply.{net_after}
use Rattle.room_net.specs.Step.{after_round, seats_of}
use Rattle.room_net.specs.Framed.{AreFramed}
use Rattle.room_net.proofs.Framed.{framed-applied, framed-round, seats_fit}
use Rattle.room_net.proofs.Kept.{event_keeps, round_count}
use Rattle.room_net.proofs.Lines.{begun, least_led}
use Rattle.room_script.specs.Script.{AreFramedEvents}
use Rattle.room_script.specs.declared.script.TimedEvent.{TimedEvent}
use Rattle.capture_forms.specs.declared.form.CaptureForm.TheVariants.{Vcd}
use Rattle.room_run.specs.declared.run.Reporting.TheVariants.{Line}
use Rattle.room_run.specs.declared.run.Turn.{Turn}
use Rattle.room_run.specs.declared.run.Turn.TheVariants.{Stop, Apply, Round}
use Rattle.room_run.specs.declared.run.Totals.{Totals}
use Rattle.room_run.specs.Run.{Config, turn_at, first_time, IsEventTurn, IsRoundTurn}
use Rattle.room_run.proofs.Advance.{round_begins}
use Rattle.room_driven.specs.Driven.{Drives, IsDrivenBy}
use Rattle.capture_laws.specs.Rounds.{IsRuled, Laid, drives, pulls, rounds_by, rounds_in}

-- ---- where a run stands

-- no round begins before `from`, and there are so many devices
pub record Stands (count from : ℕ) (s : NetState) : Type 0 where
  pub order : IsWave s.pulses
  pub framed : AreFramed s
  pub later : All (λ p. from ≤ p.from) s.pulses
  pub rested : from ≤ s.rest + 1
  pub closed : s.rest ≤ s.close
  pub seats : length s.devices ≡ count

stands_applied : (count from at : ℕ) (e : TimedEvent) (events : List TimedEvent) (s : NetState) → AreFramedEvents (e ∷ events) → Stands count from s → Stands count from (net_after at e.event s)
stands_applied count from at e events s framed h =
    let k = event_keeps at e.event s (net_after at e.event s) refl in
    record {
      order = subst IsWave (sym k.pulses) h.order;
      framed = framed-applied at e.event s framed.0 h.framed;
      later = subst (λ (ps : List Stretch). All (λ p. from ≤ p.from) ps) (sym k.pulses) h.later;
      rested = omega (arith, k.rest, h.rested);
      closed = omega (arith, k.rest, k.close, h.closed);
      seats = k.devices ∙ h.seats;
    }

stands_event : (count from at : ℕ) (events : List TimedEvent) (c d : Config) (line : List ℕ) → IsEventTurn (Line Vcd) at events c line d → c.events ≡ events
    → Stands count from c.net → AreFramedEvents events → Stands count from d.net × AreFramedEvents d.events
stands_event count from at [] c d line t same h f =
    (subst (λ (x : Config). Stands count from x.net) (sym t.1) h, subst (λ (es : List TimedEvent). AreFramedEvents es) (sym (ap (λ (x : Config). x.events) t.1 ∙ same)) f)
stands_event count from at (e ∷ events) c d line t same h f = (
  subst (λ (x : Config). Stands count from x.net) (sym t.1) (stands_applied count from at e events c.net f h),
  subst (λ (es : List TimedEvent). AreFramedEvents es) (sym (ap (λ (x : Config). x.events) t.1)) f.1,
)

-- the next round does not begin before it
from_next : (from begin : ℕ) (s : NetState) → All (λ p. from ≤ p.from) s.pulses → from ≤ s.rest + 1 → next_start s ≡ Some begin → from ≤ begin
from_next from begin s later rested next = by_cause (least_start s.rest s.devices) s.pulses refl later next
  where
    device : (t : ℕ) → least_start s.rest s.devices ≡ Some t → from ≤ t
    device t e = let l = least_led s.rest t s.devices e in omega (arith, l.late, rested)

    by_cause : (least : Option ℕ) (ps : List Stretch) → least_start s.rest s.devices ≡ least → All (λ p. from ≤ p.from) ps → sooner least (first_onset ps) ≡ Some begin → from ≤ begin
    by_cause None [] a h k = cc
    by_cause None (p ∷ ps) a h k = let e : p.from ≡ begin = cc in let l : from ≤ p.from = h 0 p (omega arith) in omega (arith, e, l)
    by_cause (Some t) [] a h k = let e : t ≡ begin = cc in let l = device t a in omega (arith, e, l)
    by_cause (Some t) (p ∷ ps) a h k =
        let e : min t p.from ≡ begin = cc in
        let l : from ≤ p.from = h 0 p (omega arith) in
        let m = device t a in
        omega (arith, e, l, m)

-- ---- a round

laid : NetState → ℕ → Outcome → Laid
laid s begin o = record { seats = seats_of s begin; begin = begin; pulses = s.pulses; outcome = o }

ruled : (count from begin : ℕ) (s t : NetState) (x y : Totals) (line : List ℕ) → next_start s ≡ Some begin → (turn : IsRoundTurn (Line Vcd) begin s x line t y) → Stands count from s
    → IsRuled (laid s begin turn.outcome)
unfolding laid
ruled count from begin s t x y line begins turn h = record {
  frames = seats_fit s begin h.framed;
  order = h.order;
  wave = turn.wave;
  round = turn.next.round;
  begun = begun s begin begins;
}

later_than : (rest : ℕ) (pulses : List Stretch) → All (λ p. rest + 1 ≤ p.from) (filter (λ p. nat_lt rest p.from) pulses)
later_than rest pulses k p l = (let e = filter_passes (λ (q : Stretch). nat_lt rest q.from) pulses k p l in grind (arith, nat_tests))

stands_round : (count from begin : ℕ) (s : NetState) (o : Outcome) → Stands count from s → Stands count (o.rest + 1) (after_round s begin o)
stands_round count from begin s o h = record {
  order = wave_filter (λ p. nat_lt o.rest p.from) s.pulses h.order;
  framed = framed-round s begin o h.framed;
  later = later_than o.rest s.pulses;
  rested = omega arith;
  closed = rests o;
  seats = round_count s begin o ∙ h.seats;
}
  where
    rests : (o : Outcome) → o.rest ≤ close_in o
    rests o = omega arith

-- ---- the span that it is told in

abbrev pub span_of : Laid → Span
span_of r = record { wires = r.outcome.wave ∷ drives r; from = r.begin; count = r.outcome.rest + 1 - r.begin }

none_low : (u place : ℕ) (wires : List (List Stretch)) → list_any (λ ss. line_of ss u) wires ≡ false → line_of (wire_at place wires) u ≡ false
none_low u place [] h = refl
none_low u place (wire ∷ wires) h = by (line_of wire u) refl h place (λ rest place. none_low u place wires rest)
  where
    by : (b : Bool) → line_of wire u ≡ b → (b || list_any (λ ss. line_of ss u) wires) ≡ false → (place : ℕ)
        → (list_any (λ ss. line_of ss u) wires ≡ false → (place : ℕ) → line_of (wire_at place wires) u ≡ false) → line_of (wire_at place (wire ∷ wires)) u ≡ false
    by true e k place more = cc
    by false e k zero more = e
    by false e k (suc place) more = more k place

pub driven_line : (r : Laid) → IsRuled r → (u : ℕ) → line_of r.outcome.wave u ≡ list_any (λ ss. line_of ss u) (drives r)
driven_line r h u = drives_are_the_line r.seats r.begin r.pulses r.outcome h.wave h.round u

-- each of its drives is low exactly where its seat, or a pulse, pulls
pub pulled : (r : Laid) → IsRuled r → (u : ℕ) → map (λ ss. line_of ss u) (drives r) ≡ pulls r u
pulled r h u = drives_are_ruled r.seats r.begin r.pulses r.outcome h.wave h.round u

pub begins_low : (r : Laid) → IsRuled r → r.begin < r.outcome.rest
begins_low r h = (rounds_last r.seats r.begin r.pulses r.outcome h.order h.wave h.round h.begun).0

within : (r : Laid) → IsRuled r → IsWithin (span_of r)
within r h = record { some = omega (arith, low); before = early; after = late }
  where
    low : r.begin < r.outcome.rest
    low = begins_low r h

    lone : IsLone (part_of r.outcome)
    lone = rounds_are_lone.lone r.seats r.begin r.pulses r.outcome h.frames h.order h.wave h.round h.begun

    starts : r.outcome.reading.begin ≡ r.begin
    starts = h.round.starts

    each : (number u : ℕ) → line_of r.outcome.wave u ≡ false → line_of (wire_at number (r.outcome.wave ∷ drives r)) u ≡ false
    each zero u e = e
    each (suc place) u e = none_low u place (drives r) (sym (driven_line r h u) ∙ e)

    early : (number u : ℕ) → u < r.begin → line_of (wire_at number (r.outcome.wave ∷ drives r)) u ≡ false
    early number u l = each number u (lone.before u (omega (arith, l, starts)))

    late : (number u : ℕ) → r.begin + (r.outcome.rest + 1 - r.begin) ≤ u + 1 → line_of (wire_at number (r.outcome.wave ∷ drives r)) u ≡ false
    late number u l = each number u (lone.after u (omega (arith, l, low)))

-- ---- the whole run

-- what is reported from where a run stands
pub record Told (count end from : ℕ) (rs : List Laid) (text : List ℕ) (last : Config) : Type 0 where
  pub ruled : All IsRuled rs
  pub seated : All (λ r. length r.seats ≡ count) rs
  pub whole : text ≡ spans_text (map span_of rs)
  pub spans : AreSpans from (max end last.net.close) (map span_of rs)

length-map : {X Y : Type 0} (f : X → Y) (xs : List X) → length (map f xs) ≡ length xs
length-map f [] = refl
length-map f (x ∷ xs) = ap suc (length-map f xs)

reported_turn : (count end from : ℕ) (turn : Turn) (c mid last : Config) (line driven left text : List ℕ) (rs : List Laid) → turn_at end c ≡ turn → (t : IsDrivenBy turn c line driven mid)
    → Stands count from c.net → AreFramedEvents c.events → text ≡ driven ++ left
    → ((next : ℕ) → Stands count next mid.net → AreFramedEvents mid.events → Told count end next rs left last)
    → Told count end from (rounds_by turn c line driven mid t ++ rs) text last
unfolding laid
reported_turn count end from Stop c mid last line driven left text rs same t h f e more = absurd t
reported_turn count end from (Apply at) c mid last line driven left text rs same t h f e more =
    let next = stands_event count from at c.events c mid line t.0 refl h f in
    let rest = more from next.0 next.1 in
    record { ruled = rest.ruled; seated = rest.seated; whole = e ∙ ap (λ d. d ++ left) t.1 ∙ rest.whole; spans = rest.spans }
reported_turn count end from (Round begin) c mid last line driven left text rs same t h f e more =
    let begins = round_begins end c.net (first_time c.events) begin same in
    let o = t.0.outcome in
    let r : Laid = laid c.net begin o in
    let is : IsRuled r = ruled count from begin c.net mid.net c.totals mid.totals line begins.0 t.0 h in
    let next : Stands count (o.rest + 1) mid.net = subst (Stands count (o.rest + 1)) (sym t.0.next.after_is) (stands_round count from begin c.net o h) in
    let rest = more (o.rest + 1) next (subst (λ (es : List TimedEvent). AreFramedEvents es) (sym t.1) f) in
    let low : begin < o.rest = begins_low r is in
    let ends : begin + (o.rest + 1 - begin) ≡ o.rest + 1 = omega (arith, low) in
    record {
      ruled = All-cons IsRuled r rs is rest.ruled;
      seated = All-cons (λ (x : Laid). length x.seats ≡ count) r rs (length-map _ c.net.devices ∙ h.seats) rest.seated;
      whole = e ∙ ap₂ (λ a b. a ++ b) t.2 rest.whole;
      spans = (from_next from begin c.net h.later h.rested begins.0, within r is, subst (λ n. AreSpans n (max end last.net.close) (map span_of rs)) (sym ends) rest.spans);
    }

pub all_reported : (count end turns from : ℕ) (c d : Config) (line text : List ℕ) (l : Drives end turns c line text d) → Stands count from c.net → AreFramedEvents c.events
    → Told count end from (rounds_in end turns c line text d l) text d
all_reported count end zero from c d line text l h f =
    let same : d.net ≡ c.net = ap (λ (x : Config). x.net) l.2 in
    let rest : d.net.rest ≡ c.net.rest = ap (λ (s : NetState). s.rest) same in
    let close : d.net.close ≡ c.net.close = ap (λ (s : NetState). s.close) same in
    record { ruled = All-nil IsRuled; seated = All-nil (λ (x : Laid). length x.seats ≡ count); whole = l.1; spans = omega (arith, h.rested, h.closed, rest, close) }
all_reported count end (suc turns) from c d line text l h f =
    reported_turn count end from (turn_at end c) c l.0 d l.1 l.3 l.4 text (rounds_in end turns l.0 l.2 l.4 d l.6) refl l.5 h f l.8
    (λ next stands framed. all_reported count end turns next l.0 d l.2 l.4 l.6 stands framed)
