-- A run on its way: what happened so far, and what was heard of it.
use Rattle.std.proofs.Common.{ℕ, List, [], ◌∷◌, ◌++◌, refl, sym, subst}
use Rattle.capture_forms.specs.declared.form.CaptureForm.TheVariants.{Edges}
use Rattle.room_net.specs.Apply.{net_after, event_fault}
use Rattle.room_run.specs.declared.run.Reporting.TheVariants.{Line}
use Rattle.room_run.specs.Turns.{EventTurns, EventsHappen, RoundTurns, RoundsBringOn, RoundsHappen}
use Rattle.room_run.specs.Run.{Config, counted_event, event_reported, round_reported, IsTurnBy}
use Rattle.room_run.proofs.Advance.{round_brings}
use Rattle.room_run.specs.Happening.{Happening, OfEvent, OfRound, Happens, HappensBy, Goes}
use Rattle.room_run.specs.Heard.{Hears}

pub record Reached {R : Type 0} (hears : R → Happening → R → Type 0) (end : ℕ) (c d : Config) (old new : R) : Type 0 where
  pub happened : List Happening
  pub goes : Goes end c happened d
  pub heard : Hears hears old happened new

goes_more : (end : ℕ) (xs : List Happening) (c mid d : Config) (x : Happening) → Goes end c xs mid → Happens end mid x d → Goes end c (xs ++ x ∷ []) d
goes_more end [] c mid d x goes turn = (d, subst (λ (e : Config). Happens end e x d) goes turn, refl)
goes_more end (y ∷ ys) c mid d x (first, step, goes) turn = (first, step, goes_more end ys first mid d x goes turn)

pub hears_more : {R : Type 0} (hears : R → Happening → R → Type 0) (xs : List Happening) (r m s : R) (x : Happening) → Hears hears r xs m → hears m x s → Hears hears r (xs ++ x ∷ []) s
hears_more hears [] r m s x heard next = (s, subst (λ k. hears k x s) heard next, refl)
hears_more hears (y ∷ ys) r m s x (first, step, heard) next = (first, step, hears_more hears ys first m s x heard next)

-- one turn more
pub reached_more : {R : Type 0} (hears : R → Happening → R → Type 0) (end : ℕ) (c d e : Config) (old mid new : R) (x : Happening) → Reached hears end c d old mid
    → Happens end d x e → hears mid x new → Reached hears end c e old new
reached_more hears end c d e old mid new x r turn next = record {
  happened = r.happened ++ x ∷ [];
  goes = goes_more end r.happened c d e x r.goes turn;
  heard = hears_more hears r.happened old mid new x r.heard next;
}

-- ---- one turn, from what the calls report

pub event_happens : EventsHappen
event_happens end at net new e rest others totals counted split turn step count =
    subst (λ t. HappensBy t (record { net = net; events = rest; totals = totals }) (OfEvent at e net) (record { net = new; events = others; totals = counted })) (sym turn)
    (record { event = e; others = others; next = split; is = refl; after = λ i. record { net = step i; events = others; totals = count i } })

pub round_happens : RoundsHappen
round_happens end begin net new rest totals counted o turn wave next count =
    subst (λ t. HappensBy t (record { net = net; events = rest; totals = totals }) (OfRound begin net o) (record { net = new; events = rest; totals = counted })) (sym turn)
    (record { outcome = o; wave = wave; next = next; is = refl; totals = count; events = refl })

-- how far it brings the run
pub brings : RoundsBringOn
brings end begin net new totals counted o p soon wave next count =
    round_brings (Line Edges) end begin net new totals counted (round_reported (Line Edges) new.devices o) p soon
    (record { outcome = o; wave = wave; next = next; reported = refl; totals = count })

-- ---- the same as turns that report a text

-- an event's turn
pub event_turn_is : EventTurns
event_turn_is reporting end at net e others totals h =
    subst (λ turn. IsTurnBy reporting turn (record { net = net; events = e ∷ others; totals = totals }) (event_reported reporting at e net)
    (record { net = net_after at e.event net; events = others; totals = counted_event (event_fault net e.event) totals })) (sym h) (refl, refl)

-- a round's turn
pub round_turn_is : RoundTurns
round_turn_is reporting end begin net after events totals counted line h turn =
    subst (λ t. IsTurnBy reporting t (record { net = net; events = events; totals = totals }) line (record { net = after; events = events; totals = counted })) (sym h) (turn, refl)
