-- What events, a round and its first edge make of where a run stands.
use Rattle.std.proofs.Common.{◌≡◌, ℕ, ◌+◌, ◌<◌, Bool, false, nat_lt, List, [], drop, length, MatchOption, IfSome, Option, Some, None, ap, ◌∙◌, sym, refl, subst, arith}
use Rattle.std.specs.List.{filter}
use Rattle.line_wave.specs.declared.Edge.{Edge}
use Rattle.line_wave.specs.declared.Stretch.{Stretch}
use Rattle.line_wave.specs.Line.{IsWave}
use Rattle.line_rounds.specs.declared.Outcome.{Outcome}
use Rattle.line_rounds.specs.Edges.{IsNextEdge}
use Rattle.line_rounds.proofs.Exists.{has_line}
use Rattle.room_net.specs.State.{NetState, next_start}
use Rattle.room_net.specs.Step.{IsNextRound, seats_of}
use Rattle.room_net.specs.Progress.{IsProgress}
use Rattle.room_net.specs.Underway.{OfRound}
use Rattle.room_script.specs.declared.script.TimedEvent.{TimedEvent}
use Rattle.room_run.specs.declared.run.Turn.TheVariants.{Stop, Apply, Round}
use Rattle.room_run.specs.Run.{first_time}
use Rattle.room_run.specs.Happening.{Happening, OfEvent}
use Rattle.room_run.specs.Heard.{Hears}
use Rattle.room_net.proofs.Kept.{event_keeps, round_count}
use Rattle.room_run.proofs.Advance.{round_begins}
use Rattle.room_steps.specs.declared.position.Position.{Position}
use Rattle.room_steps.specs.Steps.{Point, IsOver, turn_at, after_events, passed_from}
use Rattle.room_steps.specs.Ready.{AreAlike, Begins, HearsFirst, IsReady, Passes, happened, point_of}
use Rattle.room_steps.proofs.Passing.{HearsOn, happened_event, happened_none, passed_event, passed_round, passed_stop}
use Rattle.room_steps.proofs.Edges.{has_edge, left_in_order}

-- positions that stand alike
pub alike_point : (es : List TimedEvent) (p q : Position) → AreAlike p q → point_of es p ≡ point_of es q
alike_point es p q alike =
    let by_net : NetState → Point = λ n. record { net = n; events = drop p.applied es; is_first = p.is_first } in
    let by_count : ℕ → Point = λ k. record { net = q.net.value; events = drop k es; is_first = p.is_first } in
    let by_flag : Bool → Point = λ f. record { net = q.net.value; events = drop q.applied es; is_first = f } in
    ap by_net alike.net ∙ ap by_count alike.applied ∙ ap by_flag alike.first

-- one event more
pub pass_more : (end at : ℕ) (es : List TimedEvent) (p q : Position) → turn_at end (point_of es p) ≡ Apply at → Passes at es p q → after_events end (point_of es q) ≡ after_events end (point_of es p)
pass_more end at es p q turn m =
    sym (passed_event end at p.net.value q.net.value (drop p.applied es) p.is_first m.event (drop q.applied es) m.split turn m.step ∙ ap (λ f. passed_from end q.net.value (drop q.applied es) f) (sym m.first))

pub rest_more : (at : ℕ) (es : List TimedEvent) (p q : Position) → Passes at es p q → q.net.value.rest ≡ p.net.value.rest
rest_more at es p q m = (event_keeps at m.event.event p.net.value q.net.value m.step).rest

pub heard_more : {R : Type 0} (hears : R → Happening → R → Type 0) (end at : ℕ) (es : List TimedEvent) (p q : Position) (whole : List Happening) (old here next : R) → turn_at end (point_of es p) ≡ Apply at → Passes at es p q
    → HearsFirst hears at p.net.value (drop p.applied es) here next → HearsOn hears whole old here (happened end (point_of es p)) → HearsOn hears whole old next (happened end (point_of es q))
heard_more hears end at es p q whole old here next turn m first on = λ s heard.
    let event : hears here (OfEvent at m.event p.net.value) next = subst (λ (xs : List TimedEvent). HearsFirst hears at p.net.value xs here next) m.split first in
    let all = happened_event end at p.net.value q.net.value (drop p.applied es) m.event (drop q.applied es) m.split turn m.step in
    on s (subst (λ xs. Hears hears here xs s) (sym all) (next, event, heard))

-- no event comes any more
pub over_round : (end begin : ℕ) (es : List TimedEvent) (p : Position) → turn_at end (point_of es p) ≡ Round begin → point_of es p ≡ after_events end (point_of es p)
over_round end begin es p turn = sym (passed_round end begin p.net.value (drop p.applied es) p.is_first turn)

pub over_stop : (end : ℕ) (es : List TimedEvent) (p : Position) → turn_at end (point_of es p) ≡ Stop → point_of es p ≡ after_events end (point_of es p)
over_stop end es p turn = sym (passed_stop end p.net.value (drop p.applied es) p.is_first turn)

pub none_at_round : (end begin : ℕ) (es : List TimedEvent) (p : Position) → turn_at end (point_of es p) ≡ Round begin → happened end (point_of es p) ≡ []
none_at_round end begin es p turn = happened_none end p.net.value (drop p.applied es) (Round begin) turn tt

pub none_at_stop : (end : ℕ) (es : List TimedEvent) (p : Position) → turn_at end (point_of es p) ≡ Stop → happened end (point_of es p) ≡ []
none_at_stop end es p turn = happened_none end p.net.value (drop p.applied es) Stop turn tt

-- after a round a run is ready still
pub ready_round : (end begin : ℕ) (p : Point) (o : Outcome) (t : NetState) → IsReady end p → begin < end → IsNextRound p.net begin o t → IsProgress p.net begin t
    → IsReady end (record { net = t; events = p.events; is_first = false })
ready_round end begin p o t r soon next progress =
    let tree : t.tree ≡ p.net.tree = ap (λ (s : NetState). s.tree) next.after_is in
    let pulses : t.pulses ≡ filter (λ (q : Stretch). nat_lt o.rest q.from) p.net.pulses = ap (λ (s : NetState). s.pulses) next.after_is in
    let devices : length t.devices ≡ length p.net.devices = ap (λ (s : NetState). length s.devices) next.after_is ∙ round_count p.net begin o in
    record {
      some = rw tree r.some;
      few = omega (arith, devices, r.few);
      early = r.early;
      order = subst (λ (ps : List Stretch). IsWave ps) (sym pulses) (left_in_order o.rest p.net.pulses r.order);
      closed = omega (arith, progress.closed, r.early, soon);
      schedule = (r.schedule.0, rw tree r.schedule.1);
    }

same_number : (x y : ℕ) → Some x ≡ Some y → x ≡ y
same_number x y e = cc

-- the first edge of the round that was begun
pub begins_at : (end begin : ℕ) (p q : Point) (s t u : NetState) (edge : Option Edge) → turn_at end (after_events end p) ≡ Round begin → (after_events end p).net ≡ s → IsWave s.pulses
    → (x : ℕ) → next_start s ≡ Some x → t ≡ record s { heard = Some x } → OfRound t (λ b heard low. IsNextEdge low heard edge)
    → (heard : ℕ) → u ≡ record t { heard = Some heard } → IfSome edge (λ e. e.at + 1 ≡ heard)
    → q ≡ record (after_events end p) { net = u } → MatchOption edge (IsOver end p) (λ e. Begins end p e q)
begins_at end begin p q s t u None turn same order x next begun edge heard reported at is =
    let line = has_line (seats_of s x) x s.pulses in
    let here : OfRound (record s { heard = Some x }) (λ b heard low. IsNextEdge low heard None) = subst (λ y. OfRound y (λ b heard low. IsNextEdge low heard None)) begun edge in
    absurd (has_edge s x line.0 next order line.1 (here x x line.0 next refl line.1))
begins_at end begin p q s t u (Some e) turn same order x next begun edge heard reported at is =
    let first : (next_start (after_events end p).net ≡ Some begin) × (begin < end) = round_begins end (after_events end p).net (first_time (after_events end p).events) begin turn in
    let one : x ≡ begin = same_number x begin (sym next ∙ ap next_start (sym same) ∙ first.0) in
    let in_round : t ≡ record (after_events end p).net { heard = Some begin } =
    begun ∙ ap (λ (y : ℕ). record s { heard = Some y }) one ∙ ap (λ (y : NetState). record y { heard = Some begin }) (sym same) in
    let last : u ≡ record (after_events end p).net { heard = Some (e.at + 1) } =
    reported ∙ ap (λ (y : NetState). record y { heard = Some heard }) in_round ∙ ap (λ (h : ℕ). record (after_events end p).net { heard = Some h }) (sym at) in
    record {
      begin = begin;
      turn = turn;
      first = subst (λ y. OfRound y (λ b heard low. IsNextEdge low heard (Some e))) in_round edge;
      reported = is ∙ ap (λ (y : NetState). record (after_events end p) { net = y }) last;
    }
