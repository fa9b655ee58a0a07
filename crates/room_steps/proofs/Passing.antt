-- The events before a round, one by one.
use Rattle.std.proofs.Common.{◌≡◌, ℕ, suc, ◌+◌, ◌-◌, ◌<◌, Bool, List, [], ◌∷◌, ◌++◌, length, drop, get_or, drop-cons, length-drop, Option, Some, ap, ◌∙◌, sym, refl, subst, arith}
use Rattle.std.specs.List.{flat_map}
use Rattle.room_script.specs.declared.script.TimedEvent.{TimedEvent}
use Rattle.room_net.specs.State.{NetState}
use Rattle.room_net.specs.Apply.{net_after}
use Rattle.edid_core.specs.declared.edid.Edid.{Edid}
use Rattle.room_run.specs.declared.run.Turn.{Turn}
use Rattle.room_run.specs.declared.run.Turn.TheVariants.{Stop, Apply, Round}
use Rattle.room_run.specs.Run.{turn_of, first_time, event_reported}
use Rattle.room_run.specs.declared.run.Reporting.{Reporting}
use Rattle.room_run.specs.Happening.{Happening, OfEvent, text_of}
use Rattle.room_run.specs.Heard.{Hears}
use Rattle.room_net.proofs.Kept.{event_keeps}
use Rattle.room_run.proofs.Advance.{next_schedule}
use Rattle.room_steps.specs.Steps.{Point, passed_from, passed_by, passed_text_from, text_by, told_of}
use Rattle.room_steps.specs.Ready.{IsReady, happened_by, happened_from}

come : (end at : ℕ) (s : NetState) (es : List TimedEvent) (e : TimedEvent) (others : List TimedEvent) → es ≡ e ∷ others → turn_of end s (first_time es) ≡ Apply at → turn_of end s (Some e.at) ≡ Apply at
come end at s es e others split turn = subst (λ xs. turn_of end s (first_time xs) ≡ Apply at) split turn

-- an event comes, and is passed
pub passed_event : (end at : ℕ) (s t : NetState) (es : List TimedEvent) (first : Bool) (e : TimedEvent) (others : List TimedEvent) → es ≡ e ∷ others → turn_of end s (first_time es) ≡ Apply at
    → t ≡ net_after at e.event s → passed_from end s es first ≡ passed_from end t others first
unfolding passed_from
passed_event end at s t es first e others split turn step =
    ap (λ xs. passed_from end s xs first) split
    ∙ ap (λ x. passed_by x (record { net = s; events = e ∷ others; is_first = first }) (λ now. passed_from end (net_after now e.event s) others first)) (come end at s es e others split turn)
    ∙ ap (λ x. passed_from end x others first) (sym step)

-- a round comes, or the stop
pub passed_round : (end begin : ℕ) (s : NetState) (es : List TimedEvent) (first : Bool) → turn_of end s (first_time es) ≡ Round begin
    → passed_from end s es first ≡ record { net = s; events = es; is_first = first }
unfolding passed_from
passed_round end begin s [] first h = refl
passed_round end begin s (e ∷ es) first h =
    ap (λ x. passed_by x (record { net = s; events = e ∷ es; is_first = first }) (λ now. passed_from end (net_after now e.event s) es first)) h

pub passed_stop : (end : ℕ) (s : NetState) (es : List TimedEvent) (first : Bool) → turn_of end s (first_time es) ≡ Stop
    → passed_from end s es first ≡ record { net = s; events = es; is_first = first }
unfolding passed_from
passed_stop end s [] first h = refl
passed_stop end s (e ∷ es) first h =
    ap (λ x. passed_by x (record { net = s; events = e ∷ es; is_first = first }) (λ now. passed_from end (net_after now e.event s) es first)) h

-- ---- what is heard of them

abbrev pub IsNoEvent : Turn → Type 0
IsNoEvent (Apply at) = ⊥
IsNoEvent Stop = Unit {0}
IsNoEvent (Round begin) = Unit {0}

of_none : (turn : Turn) → IsNoEvent turn → (on : ℕ → List Happening) → happened_by turn on ≡ []
of_none (Apply at) none on = absurd none
of_none Stop none on = refl
of_none (Round begin) none on = refl

-- what is heard from here on is heard after what was heard so far
abbrev pub HearsOn : {R : Type 0} → (R → Happening → R → Type 0) → List Happening → R → R → List Happening → Type 0
HearsOn {R} hears whole old here left = (s : R) → Hears hears here left s → Hears hears old whole s

pub happened_event : (end at : ℕ) (s t : NetState) (es : List TimedEvent) (e : TimedEvent) (others : List TimedEvent) → es ≡ e ∷ others → turn_of end s (first_time es) ≡ Apply at
    → t ≡ net_after at e.event s → happened_from end s es ≡ OfEvent at e s ∷ happened_from end t others
unfolding happened_from
happened_event end at s t es e others split turn step =
    ap (λ xs. happened_from end s xs) split
    ∙ ap (λ x. happened_by x (λ now. OfEvent now e s ∷ happened_from end (net_after now e.event s) others)) (come end at s es e others split turn)
    ∙ ap (λ x. OfEvent at e s ∷ happened_from end x others) (sym step)

pub happened_none : (end : ℕ) (s : NetState) (es : List TimedEvent) (turn : Turn) → turn_of end s (first_time es) ≡ turn → IsNoEvent turn → happened_from end s es ≡ []
unfolding happened_from
happened_none end s [] turn h none = refl
happened_none end s (e ∷ es) turn h none =
    ap (λ x. happened_by x (λ now. OfEvent now e s ∷ happened_from end (net_after now e.event s) es)) h ∙ of_none turn none (λ now. OfEvent now e s ∷ happened_from end (net_after now e.event s) es)

pub heard_none : {R : Type 0} (hears : R → Happening → R → Type 0) (whole : List Happening) (old here : R) (left : List Happening) → left ≡ [] → HearsOn hears whole old here left → Hears hears old whole here
heard_none hears whole old here left none on = on here (subst (λ xs. Hears hears here xs here) (sym none) refl)

-- their lines are what a trace hears of them
pub passed_heard : (reporting : Reporting) (end : ℕ) (s : NetState) (es : List TimedEvent) → flat_map (told_of reporting) (happened_from end s es) ≡ passed_text_from reporting end s es
unfolding happened_from passed_text_from
passed_heard reporting end s [] = refl
passed_heard reporting end s (e ∷ es) = by_turn (turn_of end s (Some e.at)) (λ at. passed_heard reporting end (net_after at e.event s) es)
  where
    by_turn : (turn : Turn) → ((at : ℕ) → flat_map (told_of reporting) (happened_from end (net_after at e.event s) es) ≡ passed_text_from reporting end (net_after at e.event s) es)
        → flat_map (told_of reporting) (happened_by turn (λ at. OfEvent at e s ∷ happened_from end (net_after at e.event s) es))
        ≡ text_by turn (λ at. event_reported reporting at e s ++ passed_text_from reporting end (net_after at e.event s) es)
    by_turn (Apply at) on = ap (λ t. event_reported reporting at e s ++ t) (on at)
    by_turn Stop on = refl
    by_turn (Round begin) on = refl

-- after an event a run is ready still
pub ready_event : (end at : ℕ) (p : Point) (t : NetState) (first : Bool) (e : TimedEvent) (others : List TimedEvent) → p.events ≡ e ∷ others → t ≡ net_after at e.event p.net → IsReady end p
    → IsReady end (record { net = t; events = others; is_first = first })
ready_event end at p t first e others split step r =
    let kept = event_keeps at e.event p.net t step in
    record {
      some = rw kept.count r.some;
      few = rw kept.devices r.few;
      early = r.early;
      order = rw kept.pulses r.order;
      closed = rw kept.close r.closed;
      schedule = (e.at, rw kept.count (next_schedule _ _ _ _ _ _ split r.schedule.1));
    }

-- the rest of the events after the first
pub drop_next : (n : ℕ) (es : List TimedEvent) (e : TimedEvent) (others : List TimedEvent) → drop n es ≡ e ∷ others → drop (n + 1) es ≡ others
drop_next n es e others h =
    let len : suc (length others) ≡ length es - n = sym (ap length h) ∙ length-drop n es in
    let low : n < length es = omega (arith, len) in
    let split : get_or es n e ∷ drop (suc n) es ≡ e ∷ others = sym (drop-cons es n e low) ∙ h in
    let same : n + 1 ≡ suc n = omega arith in
    ap (λ k. drop k es) same ∙ tail (get_or es n e) e (drop (suc n) es) others split
  where
    tail : (x y : TimedEvent) (xs ys : List TimedEvent) → x ∷ xs ≡ y ∷ ys → xs ≡ ys
    tail x y xs ys k = cc
