-- What stays true of the network.
use Rattle.std.proofs.Common.{◌≡◌, ℕ, zero, suc, ◌+◌, ◌≤◌, Bool, true, false, if◌then◌else◌, List, [], ◌∷◌, length, Option, Some, None, refl, sym, ap, ◌∙◌, subst, arith, max, nat_lt, Result, Ok, Err}
use Rattle.std.specs.Prelude.{slice_get, option_and_then, MatchResult}
use Rattle.std.specs.List.{All, refill, filter}
use Rattle.std.proofs.lemmas.Bool.Decides.{nat_tests}
use Rattle.std.proofs.lemmas.List.Elements.{All-cons, All-filter, filter_passes}
use Rattle.line_wave.specs.declared.Stretch.{Stretch}
use Rattle.device_core.specs.declared.device.Queued.{Queued}
use Rattle.line_frames.specs.declared.Fate.{Fate}
use Rattle.line_frames.specs.declared.free_time.FreeTime.{FreeTime}
use Rattle.line_frames.specs.declared.free_time.FreeTime.TheVariants.{Retry, NewInitiator, PresentInitiator}
use Rattle.line_frames.specs.FreeTime.{free_time_of}
use Rattle.device_core.specs.State.{State}
use Rattle.device_core.specs.Place.{is_on_wire, is_allocating, ready_of, ready_by, polled_at}
use Rattle.edid_tree.specs.declared.plug.Plug.{Plug}
use Rattle.edid_tree.specs.Node.{Node}
use Rattle.edid_tree.specs.Tree.{with_plug}
use Rattle.line_frames.specs.Blocks.{frame_in}
use Rattle.line_rounds.specs.Bounds.{longest_pulsed_round}
use Rattle.line_rounds.specs.declared.Outcome.{Outcome}
use Rattle.room_net.specs.Start.{next_turn, start_by, start_of, sooner, least_start, first_onset, contends}
use Rattle.room_net.specs.State.{NetState, each_from, moved_by, loose, with_tree, next_start}
use Rattle.room_net.specs.Apply.{changed_at}
use Rattle.room_net.specs.Step.{seats_of, is_among, followed_unless, followed_in, after_fate, device_after, is_sent, devices_after, after_round}
use Rattle.room_net.specs.Sound.{IsReadyBy, EndsEarly, IsSound}
use Rattle.room_net.specs.Held.{AreOrderly}
use Rattle.room_net.proofs.Each.{refill-all, length-each_from, length-loose, length-changed_at}
use Rattle.room_net.proofs.Ready.{ready-later, ready-rewired, ready-loose, ready-each_from}
use Rattle.room_net.proofs.Ahead.{ahead-followed, ready-sent, ready-waited}
use Rattle.line_rounds.specs.declared.Seat.{Seat}
use Rattle.line_rounds.specs.Round.{IsRound, fate_in, close_in}
use Rattle.line_wave.specs.Line.{IsWave}
use Rattle.line_wave.specs.Pulses.{AreSparse}
use Rattle.line_wave.specs.Bounds.{latest_instant}
use Rattle.room_net.proofs.Progress.{closes_early}
use Rattle.room_net.proofs.Orderly.{Keeps, orderly-started, orderly-rewired, orderly-changed, orderly-round}

pub sound-start : (tree : List Node) (pulses : List Stretch) (ds : List State) → length tree ≤ 15 → All (λ p. p.from ≤ latest_instant) pulses → All EndsEarly pulses
    → ds ≡ each_from 0 (moved_by 0 tree) (loose tree)
    → IsSound (record { tree = tree; devices = ds; pulses = pulses; close = 0; rest = 0; heard = None })
sound-start tree pulses ds few early ends same =
    let long : length ds ≡ length tree = ap length same ∙ length-each_from 0 (moved_by 0 tree) (loose tree) ∙ length-loose tree in
    let Ready : List State → Type 0 = λ xs. All (IsReadyBy latest_instant) xs in
    let Orderly : List State → Type 0 = AreOrderly in
    record {
      few = few;
      matched = long;
      rested = omega arith;
      closed = omega arith;
      ready = subst Ready (sym same) (ready-rewired latest_instant 0 tree (loose tree) (omega arith) (ready-loose latest_instant tree));
      early = early;
      ends = ends;
      later = λ k p l. omega arith;
      orderly = subst Orderly (sym same) (orderly-started tree few);
    }

pub sound-new : (tree : List Node) (pulses : List Stretch) (xs ys : List State) → length tree ≤ 15 → All (λ p. p.from ≤ latest_instant) pulses → All EndsEarly pulses
    → xs ≡ loose tree → ys ≡ each_from 0 (moved_by 0 tree) xs
    → IsSound (record { tree = tree; devices = refill (length xs) xs ys; pulses = pulses; close = 0; rest = 0; heard = None })
sound-new tree pulses xs ys few early ends x y =
    let same : ys ≡ each_from 0 (moved_by 0 tree) (loose tree) = y ∙ ap (each_from 0 (moved_by 0 tree)) x in
    let long : length ys ≡ length tree = ap length same ∙ length-each_from 0 (moved_by 0 tree) (loose tree) ∙ length-loose tree in
    let whole : refill (length xs) xs ys ≡ ys = refill-all xs ys (long ∙ sym (length-loose tree) ∙ ap length (sym x)) in
    let Fits : List State → Type 0 = λ ds. IsSound (record { tree = tree; devices = ds; pulses = pulses; close = 0; rest = 0; heard = None }) in
    subst Fits (sym whole) (sound-start tree pulses ys few early ends same)

-- ---- events

pub length-with_plug : (tree : List Node) (child : ℕ) (plug : Option Plug) → length (with_plug tree child plug) ≡ length tree
length-with_plug [] child plug = refl
length-with_plug (node ∷ tree) zero plug = refl
length-with_plug (node ∷ tree) (suc child) plug = ap suc (length-with_plug tree child plug)

-- with other pulses
pub sound-pulses : (s : NetState) (pulses : List Stretch) → IsSound s → All (λ p. p.from ≤ latest_instant) pulses → All EndsEarly pulses → All (λ p. s.rest ≤ p.from) pulses → IsSound (record s { pulses = pulses })
sound-pulses s pulses h early ends later =
    record { few = h.few; matched = h.matched; rested = h.rested; closed = h.closed; ready = h.ready; early = early; ends = ends; later = later; orderly = h.orderly }

-- sparse pulses end early
pub sparse-early : (pulses : List Stretch) → AreSparse pulses → All EndsEarly pulses
sparse-early pulses sparse k p l = (let n = (sparse.narrow k p l).1 in omega (arith, n))

pub sound-rewired : (s : NetState) (at : ℕ) (tree : List Node) → at ≤ latest_instant → length tree ≡ length s.tree → IsSound s → IsSound (with_tree at tree s)
sound-rewired s at tree le same h = record {
  few = omega (arith, same, h.few);
  matched = length-each_from 0 (moved_by at tree) s.devices ∙ h.matched ∙ sym same;
  rested = h.rested;
  closed = h.closed;
  ready = ready-rewired (max latest_instant s.close) at tree s.devices (omega arith) h.ready;
  early = h.early;
  ends = h.ends;
  later = h.later;
  orderly = orderly-rewired at tree s.devices h.orderly;
}

ready-changed_at : (b number : ℕ) (f : State → State) (xs : List State) → ((d : State) → IsReadyBy b d → IsReadyBy b (f d)) → All (IsReadyBy b) xs
    → All (IsReadyBy b) (changed_at number f xs)
ready-changed_at b number f [] step h = h
ready-changed_at b zero f (x ∷ xs) step h = All-cons (IsReadyBy b) (f x) xs (step x (h 0 x (omega arith))) (λ k d l. h (suc k) d (omega arith))
ready-changed_at b (suc number) f (x ∷ xs) step h =
    All-cons (IsReadyBy b) x (changed_at number f xs) (h 0 x (omega arith)) (ready-changed_at b number f xs step (λ k d l. h (suc k) d (omega arith)))

pub sound-changed : (s : NetState) (number : ℕ) (f : State → State) → ((d : State) → IsReadyBy (max latest_instant s.close) d → IsReadyBy (max latest_instant s.close) (f d))
    → ((i : ℕ) (d : State) → Keeps i d (f d)) → IsSound s → IsSound (record s { devices = changed_at number f s.devices })
sound-changed s number f step keeps h = record {
  few = h.few;
  matched = length-changed_at number f s.devices ∙ h.matched;
  rested = h.rested;
  closed = h.closed;
  ready = ready-changed_at (max latest_instant s.close) number f s.devices step h.ready;
  early = h.early;
  ends = h.ends;
  later = h.later;
  orderly = orderly-changed number f s.devices keeps h.orderly;
}

pub sound-rewritten : (s : NetState) (at : ℕ) (tree : List Node) (ys : List State) → at ≤ latest_instant → length tree ≡ length s.tree → IsSound s
    → ys ≡ each_from 0 (moved_by at tree) s.devices → IsSound (record s { tree = tree; devices = refill (length s.devices) s.devices ys })
sound-rewritten s at tree ys le same h y =
    let Fits : List State → Type 0 = λ ds. IsSound (record s { tree = tree; devices = ds }) in
    let whole : refill (length s.devices) s.devices ys ≡ ys = refill-all s.devices ys (ap length y ∙ length-each_from 0 (moved_by at tree) s.devices) in
    subst Fits (sym (whole ∙ y)) (sound-rewired s at tree le same h)

pub sound-replaced : (s : NetState) (number : ℕ) (f : State → State) (ys : List State)
    → ((d : State) → IsReadyBy (max latest_instant s.close) d → IsReadyBy (max latest_instant s.close) (f d)) → ((i : ℕ) (d : State) → Keeps i d (f d))
    → IsSound s → ys ≡ changed_at number f s.devices → IsSound (record s { devices = refill (length s.devices) s.devices ys })
sound-replaced s number f ys step keeps h y =
    let Fits : List State → Type 0 = λ ds. IsSound (record s { devices = ds }) in
    let whole : refill (length s.devices) s.devices ys ≡ ys = refill-all s.devices ys (ap length y ∙ length-changed_at number f s.devices) in
    subst Fits (sym (whole ∙ y)) (sound-changed s number f step keeps h)

-- ---- refusals

changed-same : (number : ℕ) (f : State → State) (xs : List State) → ((d : State) → slice_get xs number ≡ Some d → f d ≡ d) → changed_at number f xs ≡ xs
changed-same number f [] h = refl
changed-same zero f (x ∷ xs) h = ap (λ y. y ∷ xs) (h x refl)
changed-same (suc number) f (x ∷ xs) h = ap (λ ys. x ∷ ys) (changed-same number f xs h)

found-fault : {E : Type 0} (fault : State → Option E) (o : Option State) (d : State) (e : E) → o ≡ Some d → option_and_then fault o ≡ Some e → fault d ≡ Some e
found-fault fault o d e h k = let l : option_and_then fault (Some d) ≡ Some e = ap (option_and_then fault) (sym h) ∙ k in l

-- a call that is refused changes no device
pub answered : {E : Type 0} (r : Result Unit E) (s new : NetState) (number : ℕ) (fault : State → Option E) (f : State → State)
    → ((d : State) (e : E) → fault d ≡ Some e → f d ≡ d)
    → MatchResult r (λ _. option_and_then fault (slice_get s.devices number) ≡ None) (λ e. option_and_then fault (slice_get s.devices number) ≡ Some e)
    → new ≡ record s { devices = changed_at number f s.devices }
    → MatchResult r (λ _. (option_and_then fault (slice_get s.devices number) ≡ None) × (new ≡ record s { devices = changed_at number f s.devices }))
    (λ e. (option_and_then fault (slice_get s.devices number) ≡ Some e) × (new ≡ s))
answered (Ok u) s new number fault f same a e = (a, e)
answered (Err x) s new number fault f same a e =
    (a, e ∙ ap (λ ds. record s { devices = ds }) (changed-same number f s.devices (λ d g. same d x (found-fault fault (slice_get s.devices number) d x g a))))

pub answered-call : {E : Type 0} (r : Result Unit E) (in' s : NetState) (number : ℕ) (fault : State → Option E) (f : State → State) (xs ys : List State)
    → ((d : State) (e : E) → fault d ≡ Some e → f d ≡ d) → in' ≡ s → xs ≡ in'.devices
    → MatchResult r (λ _. option_and_then fault (slice_get xs number) ≡ None) (λ e. option_and_then fault (slice_get xs number) ≡ Some e)
    → ys ≡ changed_at number f xs
    → MatchResult r (λ _. (option_and_then fault (slice_get s.devices number) ≡ None)
    × (record in' { devices = refill (length in'.devices) in'.devices ys } ≡ record s { devices = changed_at number f s.devices }))
    (λ e. (option_and_then fault (slice_get s.devices number) ≡ Some e) × (record in' { devices = refill (length in'.devices) in'.devices ys } ≡ s))
answered-call {E} r in' s number fault f xs ys same view value answer state =
    let y : ys ≡ changed_at number f in'.devices = state ∙ ap (changed_at number f) value in
    let whole : refill (length in'.devices) in'.devices ys ≡ ys = refill-all in'.devices ys (ap length y ∙ length-changed_at number f in'.devices) in
    let new : NetState = record in' { devices = refill (length in'.devices) in'.devices ys } in
    let Answers : List State → Type 0 = λ ds. MatchResult r (λ _. option_and_then fault (slice_get ds number) ≡ None) (λ e. option_and_then fault (slice_get ds number) ≡ Some e) in
    let Gives : NetState → Type 0 = λ t. MatchResult r (λ _. (option_and_then fault (slice_get t.devices number) ≡ None)
    × (record in' { devices = refill (length in'.devices) in'.devices ys } ≡ record t { devices = changed_at number f t.devices }))
    (λ e. (option_and_then fault (slice_get t.devices number) ≡ Some e) × (record in' { devices = refill (length in'.devices) in'.devices ys } ≡ t)) in
    subst Gives view (answered r in' new number fault f same (subst Answers value answer) (ap (λ ds. record in' { devices = ds }) (whole ∙ y)))

-- ---- starts

Below : ℕ → Option ℕ → Type 0
Below b None = Unit {0}
Below b (Some t) = t ≤ b

free-most : (class : FreeTime) → free_time_of class ≤ 16800
free-most Retry = omega arith
free-most NewInitiator = omega arith
free-most PresentInitiator = omega arith

below-ready : (b : ℕ) (d : State) → IsReadyBy b d → Below b (ready_of d)
unfolding Below
below-ready b d h = step (polled_at d.place) d.queue h.queue
  where
    step : (p : Option ℕ) (xs : List Queued) → All (λ x. x.ready ≤ b) xs → Below b (ready_by p d.poll_ready xs)
    step (Some a) xs q = h.poll
    step None [] q = tt
    step None (x ∷ xs) q = q 0 x (omega arith)

below-start : (b rest : ℕ) (d : State) → rest ≤ b → IsReadyBy b d → Below (b + 16815) (start_of rest d)
unfolding Below
below-start b rest d le h = step (is_on_wire d) (ready_of d) (below-ready b d h)
  where
    turns : (t : ℕ) (own : Bool) → t ≤ b + 16800 → (if own then next_turn d.number t else t) ≤ b + 16815
    turns t true l = omega arith
    turns t false l = omega arith

    step : (on : Bool) (o : Option ℕ) → Below b o → Below (b + 16815) (start_by rest d on o)
    step false o k = tt
    step true None k = tt
    step true (Some ready) k = turns (max ready (rest + free_time_of d.class)) (is_allocating d) (let m = free-most d.class in omega arith)

below-sooner : (b : ℕ) (o p : Option ℕ) → Below b o → Below b p → Below b (sooner o p)
unfolding Below
below-sooner b None p h k = k
below-sooner b (Some t) None h k = h
below-sooner b (Some t) (Some u) h k = omega arith

below-least : (b rest : ℕ) (xs : List State) → rest ≤ b → All (IsReadyBy b) xs → Below (b + 16815) (least_start rest xs)
unfolding Below
below-least b rest [] le h = tt
below-least b rest (x ∷ xs) le h =
    below-sooner (b + 16815) (start_of rest x) (least_start rest xs) (below-start b rest x le (h 0 x (omega arith)))
    (below-least b rest xs le (λ k d l. h (suc k) d (omega arith)))

below-onset : (b : ℕ) (ps : List Stretch) → All (λ p. p.from ≤ b) ps → Below (b + 16815) (first_onset ps)
unfolding Below
below-onset b [] h = tt
below-onset b (p ∷ ps) h = let f = h 0 p (omega arith) in omega arith

-- the next round begins soon after the last one
pub next-soon : (s : NetState) (t : ℕ) → IsSound s → s.close ≤ latest_instant → next_start s ≡ Some t → t ≤ 2000000016815
unfolding Below
next-soon s t h le e =
    let Ready : ℕ → Type 0 = λ b. All (IsReadyBy b) s.devices in
    let m : max latest_instant s.close ≡ latest_instant = omega arith in
    let soon : Below (latest_instant + 16815) (next_start s) =
    below-sooner (latest_instant + 16815) (least_start s.rest s.devices) (first_onset s.pulses)
    (below-least latest_instant s.rest s.devices (omega (arith, h.rested)) (subst Ready m h.ready)) (below-onset latest_instant s.pulses h.early) in
    subst (Below (latest_instant + 16815)) e soon

-- ---- a round

ready-followed_unless : (b : ℕ) (sends : Bool) (frame : Option (List ℕ)) (at : ℕ) (d : State) → at ≤ b → IsReadyBy b d → IsReadyBy b (followed_unless sends frame at d)
ready-followed_unless b sends None at d le h = h
ready-followed_unless b true (Some frame) at d le h = h
ready-followed_unless b false (Some frame) at d le h = (ahead-followed b 16 at frame d le).ready h

ready-informed : (b : ℕ) (own others : Bool) (fate : Fate) (at : ℕ) (d : State) → at ≤ b → IsReadyBy b d → IsReadyBy b (after_fate own others fate at d)
ready-informed b true others fate at d le h = ready-sent b 16 at fate d le h
ready-informed b false true fate at d le h = ready-waited b d h
ready-informed b false false fate at d le h = h

two_ready : (b : ℕ) (t : Bool) (x y : State) → IsReadyBy b x → IsReadyBy b y → IsReadyBy b (if t then x else y)
two_ready b true x y h k = h
two_ready b false x y h k = k

ready-device_after : (b : ℕ) (own others : Bool) (o : Outcome) (number : ℕ) (d : State) → close_in o ≤ b → IsReadyBy b d → IsReadyBy b (device_after own others o number d)
ready-device_after b own others o number d le h =
    two_ready b (is_on_wire d) (after_fate own others (fate_in o number) (close_in o) (followed_in o number d)) d
    (ready-informed b own others (fate_in o number) (close_in o) (followed_in o number d) le (ready-followed_unless b (is_among o.survivors.items number) (frame_in o.reading) (close_in o) d le h)) h

pub sound-round : (s : NetState) (begin : ℕ) (o : Outcome) → IsSound s → s.close ≤ latest_instant → begin ≤ 2000000016815 → close_in o ≤ max latest_instant (begin + longest_pulsed_round)
    → AreOrderly (devices_after s.rest begin o s.devices) → IsSound (after_round s begin o)
sound-round s begin o h le soon closes orderly =
    let after = λ (number : ℕ) (d : State). device_after (contends s.rest begin d) (is_sent s.rest begin o s.devices) o number d in
    record {
      few = h.few;
      matched = length-each_from 0 after s.devices ∙ h.matched;
      rested = omega arith;
      closed = omega (arith, closes, soon);
      ready = ready-each_from (max latest_instant s.close) (max latest_instant (close_in o)) 0 after s.devices
          (λ number d r. ready-device_after (max latest_instant (close_in o)) (contends s.rest begin d) (is_sent s.rest begin o s.devices) o number d (omega arith)
          (ready-later (max latest_instant s.close) (max latest_instant (close_in o)) d (omega arith) r)) h.ready;
      early = All-filter (λ p. nat_lt o.rest p.from) (λ p. p.from ≤ latest_instant) s.pulses h.early;
      ends = All-filter (λ p. nat_lt o.rest p.from) EndsEarly s.pulses h.ends;
      later = λ k p l. (let e = filter_passes (λ (q : Stretch). nat_lt o.rest q.from) s.pulses k p l in grind (arith, nat_tests));
      orderly = orderly;
    }

pub sound-after : (s : NetState) (seats : List Seat) (begin : ℕ) (o : Outcome) (ys : List State) (ps pulls : List Stretch) (close : ℕ) → IsSound s → s.close ≤ latest_instant
    → next_start s ≡ Some begin → IsWave pulls → pulls ≡ s.pulses → IsWave o.wave → seats ≡ seats_of s begin → IsRound seats begin s.pulses o
    → ys ≡ devices_after s.rest begin o s.devices → ps ≡ filter (λ p. nat_lt o.rest p.from) s.pulses → close ≡ close_in o
    → IsSound (record { tree = s.tree; devices = refill (length s.devices) s.devices ys; pulses = ps; close = close; rest = o.rest; heard = None })
sound-after s seats begin o ys ps pulls close h le next order same wave seated round y p c =
    let Ordered : List Stretch → Type 0 = IsWave in
    let Runs : List Seat → Type 0 = λ ss. IsRound ss begin s.pulses o in
    let closes = closes_early seats begin s.pulses o (subst Ordered same order) h.ends wave round in
    let after = λ (number : ℕ) (d : State). device_after (contends s.rest begin d) (is_sent s.rest begin o s.devices) o number d in
    let whole : refill (length s.devices) s.devices ys ≡ ys = refill-all s.devices ys (ap length y ∙ length-each_from 0 after s.devices) in
    let Fits : List State → Type 0 = λ ds. IsSound (record { tree = s.tree; devices = ds; pulses = ps; close = close; rest = o.rest; heard = None }) in
    let Holds : List Stretch → Type 0 = λ qs. IsSound (record { tree = s.tree; devices = devices_after s.rest begin o s.devices; pulses = qs; close = close; rest = o.rest; heard = None }) in
    let Closes : ℕ → Type 0 = λ t. IsSound (record { tree = s.tree; devices = devices_after s.rest begin o s.devices; pulses = filter (λ q. nat_lt o.rest q.from) s.pulses; close = t; rest = o.rest; heard = None }) in
    subst Fits (sym (whole ∙ y)) (subst Holds (sym p) (subst Closes (sym c) (sound-round s begin o h le (next-soon s begin h le next) closes (orderly-round s begin o (subst Runs seated round) h.orderly))))
