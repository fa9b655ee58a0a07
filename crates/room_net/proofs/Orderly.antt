-- No address is held twice.
use Rattle.std.proofs.Common.{◌≡◌, ℕ, zero, suc, ◌+◌, ◌*◌, ◌%◌, ◌==◌, ◌≤◌, ◌<◌, Bool, true, false, not, ◌&&◌, ◌||◌, nat_lt, is_some, if◌then◌else◌, List, [], ◌∷◌, ◌++◌, length, slice_get, slice_index, ◌⊎◌, inl, inr, Option, Some, None, IsSome, refl, sym, ap, ◌∙◌, subst, arith}
use Rattle.std.specs.Prelude.{MatchOption, option_map}
use Rattle.std.specs.List.{list_any}
use Rattle.std.proofs.lemmas.Bool.Decides.{nat_tests}
use Rattle.std.proofs.lemmas.Option.{slice_get-map}
use Rattle.text_core.specs.declared.kind.Kind.TheVariants.{Tv}
use Rattle.text_core.specs.declared.phys.Phys.{Phys}
use Rattle.edid_tree.specs.Node.{Node}
use Rattle.edid_tree.specs.Path.{address_of}
use Rattle.edid_tree.specs.Tree.{tree_with_plug, tree_without_plug}
use Rattle.line_frames.specs.Blocks.{frame_in}
use Rattle.line_rounds.specs.declared.Outcome.{Outcome}
use Rattle.line_rounds.specs.Round.{holds_address, IsRound, fate_in, close_in}
use Rattle.line_rounds.specs.Round as wire
use Rattle.line_rounds.proofs.Polled.{holders_are_heard}
use Rattle.device_core.specs.declared.device.Ticket.{Ticket}
use Rattle.device_core.specs.declared.place.Place.{Place}
use Rattle.device_core.specs.declared.place.Place.TheVariants.{Off, Polls, Settled}
use Rattle.line_frames.specs.declared.Fate.{Fate}
use Rattle.line_frames.specs.declared.Fate.TheVariants.{Unacked}
use Rattle.device_features.specs.declared.keys.Key.{Key}
use Rattle.device_core.specs.State.{State, addresses_held, held_by, holds, is_held, more_of}
use Rattle.device_core.specs.Place.{is_off, is_on_wire, is_allocating, polled_at, front_by, front_of, ready_of, fresh, after_joining, after_leaving, after_submission}
use Rattle.device_core.specs.Keys.{after_key}
use Rattle.device_core.specs.declared.outside.Act.{Act}
use Rattle.device_core.specs.Outside.{after_act}
use Rattle.device_features.specs.Kinds.{is_outside}
use Rattle.device_core.specs.Clean.{is_clean}
use Rattle.device_core.specs.Once as law
use Rattle.device_core.proofs.OnceLemmas.{fates_keep_once}
use Rattle.device_core.proofs.CleanLemmas.{keeps_place}
use Rattle.device_core.proofs.KeptLemmas.{keeps_clean}
use Rattle.device_core.proofs.ListedLemmas.{holds_listed}
use Rattle.device_core.proofs.NumberLemmas.{joining_holds_nothing, kinds_stay, numbers_stay}
use Rattle.device_core.proofs.OutsideLemmas.{only_outside}
use Rattle.room_event.specs.declared.event.Event.{Event}
use Rattle.room_event.specs.declared.event.Event.TheVariants.{Plug, Unplug, Key as Press, Send, SendNamed, Outside}
use Rattle.room_event.specs.declared.event.EventError.{EventError}
use Rattle.room_net.specs.Start.{start_by, start_of, is_at, contends, IsStart, MayStart}
use Rattle.room_net.specs.State.{NetState, each_from, after_move, moved_by, loose, first_net}
use Rattle.room_net.specs.Apply.{changed_at, event_fault, applied_unless, named_frame, after_sent}
use Rattle.room_net.specs.Step.{answers, holds_one, is_address, sent_in, seat_of, seats_of, is_among, followed_unless, followed_in, after_fate, device_after, is_sent, devices_after}
use Rattle.room_net.specs.Held.{HeldOnce, IsInside, AreOrderly, Turn, Happens, Rounds, Takes, Leads, NeverTwice, KeepsOrder, PollsTakeTurns}
use Rattle.room_net.proofs.Each.{length-each_from, length-changed_at, length-loose}
use Rattle.room_net.proofs.Starts.{start_is_least}
use Rattle.room_net.proofs.Ahead.{front-ready}

-- ---- units, and the devices that they are of

or_else : (X : Type 0) (p q : Bool) → (p ≡ true → X) → (q ≡ true → X) → (p || q) ≡ true → X
or_else X true q f g h = f refl
or_else X false q f g h = g h

unit_at : (unit : Option ℕ) (a : ℕ) → is_held unit a ≡ true → (a < 15) × (unit ≡ Some a)
unit_at None a h = cc
unit_at (Some b) a h = step (b == a) (nat_lt a 15) refl refl h
  where
    step : (u v : Bool) → (b == a) ≡ u → nat_lt a 15 ≡ v → (u && v) ≡ true → (a < 15) × (Some b ≡ Some a)
    step true true x y w = (grind (arith, nat_tests), (let e : b ≡ a = grind (arith, nat_tests) in ap Some e))
    step true false x y w = cc
    step false v x y w = cc

-- who holds an address holds it as one of its units
abbrev Found : List (Option ℕ) → ℕ → Type 0
Found units a = (unit : ℕ) × ((slice_get units unit ≡ Some (Some a)) × (a < 15))

unit_of : (units : List (Option ℕ)) (a : ℕ) → list_any (λ u. is_held u a) units ≡ true → Found units a
unit_of [] a h = cc
unit_of (u ∷ units) a h =
    or_else (Found (u ∷ units) a) (is_held u a) (list_any (λ x. is_held x a) units)
    (λ e. (let k = unit_at u a e in (0, (ap Some k.1, k.0))))
    (λ e. (let k = unit_of units a e in (suc k.0, k.1))) h

-- no two of these devices hold the same address, where they are not from outside
abbrev HoldsOnce : List State → Type 0
HoldsOnce devices = (i j a : ℕ) (d e : State) → slice_get devices i ≡ Some d → slice_get devices j ≡ Some e
    → IsInside d → IsInside e → holds d.place a ≡ true → holds e.place a ≡ true → i ≡ j

devices-once : (devices : List State) → HeldOnce devices → HoldsOnce devices
devices-once devices once i j a d e p q in_d in_e h k =
    let u = unit_of (addresses_held d.place) a h in
    let v = unit_of (addresses_held e.place) a k in
    (once i j u.0 v.0 a d e p q in_d in_e u.1.0 v.1.0 u.1.1).0

-- nor do two units of one, where each holds addresses of its own list
units-once : (devices : List State) → ((i : ℕ) (d : State) → slice_get devices i ≡ Some d → IsInside d → is_clean d ≡ true) → HoldsOnce devices → HeldOnce devices
units-once devices clean once i j unit other a d e p q in_d in_e h k low =
    let same : i ≡ j = once i j a d e p q in_d in_e (holds_listed.units d.place unit a h low) (holds_listed.units e.place other a k low) in
    let one : Some d ≡ Some e = sym p ∙ ap (slice_get devices) same ∙ q in
    (same, holds_listed.apart d unit other a (keeps_clean.listing d (clean i d p in_d)) h (same_units d e one k) low)
  where
    same_units : (x y : State) → Some x ≡ Some y → slice_get (addresses_held y.place) other ≡ Some (Some a) → slice_get (addresses_held x.place) other ≡ Some (Some a)
    same_units x y o g = let z : x ≡ y = cc in subst (λ (s : State). slice_get (addresses_held s.place) other ≡ Some (Some a)) (sym z) g

-- ---- what becomes of one device

-- the second state comes from the first, the number's device
pub record Keeps (number : ℕ) (d e : State) : Type 0 where
  pub kind : e.kind ≡ d.kind
  pub holding : IsInside d → (a : ℕ) → holds e.place a ≡ true → holds d.place a ≡ true
  pub clean : IsInside d → is_clean d ≡ true → is_clean e ≡ true
  pub numbered : is_on_wire e ≡ true → (is_on_wire d ≡ true → d.number ≡ number) → e.number ≡ number

keeps-same : (number : ℕ) (d : State) → Keeps number d d
keeps-same number d = record { kind = refl; holding = λ in_d a h. h; clean = λ in_d h. h; numbered = λ on was. was on }

-- one that stays at its place, with its number
keeps-by : (number : ℕ) (d e : State) → e.kind ≡ d.kind → e.place ≡ d.place → e.number ≡ d.number → (IsInside d → is_clean d ≡ true → is_clean e ≡ true) → Keeps number d e
keeps-by number d e kind place own clean = record {
  kind = kind;
  holding = λ in_d a h. subst (λ (p : Place). holds p a ≡ true) place h;
  clean = clean;
  numbered = λ on was. own ∙ was (subst (λ (p : Place). not (is_off p) ≡ true) place on);
}

pub keeps-keyed : (at : ℕ) (key : Key) (press : Bool) (number : ℕ) (d : State) → Keeps number d (after_key 16 d key press at)
keeps-keyed at key press number d =
    keeps-by number d (after_key 16 d key press at) (kinds_stay.keying 16 at key press d) (keeps_place.keying 16 at key press d) (numbers_stay.keying 16 at key press d)
    (λ in_d. keeps_clean.keying 16 at key press d)

pub keeps-submitted : (at : ℕ) (frame : List ℕ) (ticket : Ticket) (number : ℕ) (d : State) → Keeps number d (after_submission 16 d frame ticket at)
keeps-submitted at frame ticket number d =
    keeps-by number d (after_submission 16 d frame ticket at) (kinds_stay.submitting 16 at frame ticket d) (keeps_place.submitting 16 at frame ticket d) (numbers_stay.submitting 16 at frame ticket d)
    (keeps_clean.submitting 16 at frame ticket d)

pub keeps-acted : (act : Act) (number : ℕ) (d : State) → Keeps number d (after_act d act)
keeps-acted act number d = record {
  kind = kinds_stay.acting d act;
  holding = λ in_d a h. subst (λ (x : State). holds x.place a ≡ true) (only_outside.acting d act in_d) h;
  clean = λ in_d h. ap is_clean (only_outside.acting d act in_d) ∙ h;
  numbered = λ on was. only_outside.number d act ∙ was (sym (only_outside.wire d act) ∙ on);
}

keeps-joined : (at number : ℕ) (phys : Phys) (d : State) → Keeps number d (after_joining 16 d number phys at)
keeps-joined at number phys d = record {
  kind = kinds_stay.joining 16 number at phys d;
  holding = λ in_d a h. (let x : true ≡ false = sym h ∙ joining_holds_nothing.joining 16 number at a phys d in cc);
  clean = λ in_d h. keeps_clean.joining 16 number at phys d;
  numbered = λ on was. numbers_stay.joining 16 number at phys d;
}

keeps-left : (number : ℕ) (d : State) → Keeps number d (after_leaving d)
keeps-left number d = record { kind = refl; holding = λ in_d a h. cc; clean = λ in_d h. keeps_clean.leaving d; numbered = λ on was. cc }

keeps-moved : (at number : ℕ) (on : Bool) (address : Option Phys) (d : State) → Keeps number d (after_move at number on address d)
keeps-moved at number false (Some address) d = keeps-joined at number address d
keeps-moved at number false None d = keeps-same number d
keeps-moved at number true (Some address) d = keeps-same number d
keeps-moved at number true None d = keeps-left number d

-- ---- what becomes of them all

-- where the i-th device comes from
pub record Was (f : ℕ → State → State) (xs : List State) (i number : ℕ) (e : State) : Type 0 where
  pub d : State
  pub at : slice_get xs i ≡ Some d
  pub is : e ≡ f number d

pub each_was : (n : ℕ) (f : ℕ → State → State) (xs : List State) (i number : ℕ) (e : State) → number ≡ n + i → slice_get (each_from n f xs) i ≡ Some e → Was f xs i number e
each_was n f [] i number e s h = cc
each_was n f (x ∷ xs) zero number e s h =
    let same : f n x ≡ e = cc in
    let own : number ≡ n = omega arith in
    record { d = x; at = refl; is = sym same ∙ ap (λ m. f m x) (sym own) }
each_was n f (x ∷ xs) (suc i) number e s h =
    let w = each_was (n + 1) f xs i number e (omega arith) h in record { d = w.d; at = w.at; is = w.is }

-- what keeps each device's part keeps the whole
orderly-kept : (xs ys : List State) → length ys ≡ length xs → ((i : ℕ) (e : State) → slice_get ys i ≡ Some e → (d : State) × ((slice_get xs i ≡ Some d) × Keeps i d e)) → AreOrderly xs → AreOrderly ys
orderly-kept xs ys same from o = record {
  few = omega (arith, same, o.few);
  once = units-once ys clean once;
  clean = clean;
  numbered = λ i d p on. (let u = from i d p in u.1.1.numbered on (o.numbered i u.0 u.1.0));
}
  where
    inside : (d e : State) → e.kind ≡ d.kind → IsInside e → IsInside d
    inside d e kind in_e = ap is_outside (sym kind) ∙ in_e

    clean : (i : ℕ) (d : State) → slice_get ys i ≡ Some d → IsInside d → is_clean d ≡ true
    clean i d p in_d = let u = from i d p in let own = inside u.0 d u.1.1.kind in_d in u.1.1.clean own (o.clean i u.0 u.1.0 own)

    once : HoldsOnce ys
    once i j a d e p q in_d in_e h k =
        let u = from i d p in
        let v = from j e q in
        let own = inside u.0 d u.1.1.kind in_d in
        let other = inside v.0 e v.1.1.kind in_e in
        devices-once xs o.once i j a u.0 v.0 u.1.0 v.1.0 own other (u.1.1.holding own a h) (v.1.1.holding other a k)

pub orderly-rewired : (at : ℕ) (tree : List Node) (xs : List State) → AreOrderly xs → AreOrderly (each_from 0 (moved_by at tree) xs)
orderly-rewired at tree xs o =
    orderly-kept xs (each_from 0 (moved_by at tree) xs) (length-each_from 0 (moved_by at tree) xs)
    (λ i e h. (let w = each_was 0 (moved_by at tree) xs i i e (omega arith) h in
    let P : State → Type 0 = λ y. Keeps i w.d y in
    (w.d, (w.at, subst P (sym w.is) (keeps-moved at i (is_on_wire w.d) (address_of tree i) w.d))))) o

changed_was : (number : ℕ) (f : State → State) (xs : List State) (i : ℕ) (e : State) → slice_get (changed_at number f xs) i ≡ Some e
    → (d : State) × ((slice_get xs i ≡ Some d) × ((e ≡ d) ⊎ (e ≡ f d)))
changed_was number f [] i e h = cc
changed_was zero f (x ∷ xs) zero e h = let same : f x ≡ e = cc in (x, (refl, inr (sym same)))
changed_was zero f (x ∷ xs) (suc i) e h = (e, (h, inl refl))
changed_was (suc number) f (x ∷ xs) zero e h = (e, (h, inl refl))
changed_was (suc number) f (x ∷ xs) (suc i) e h = changed_was number f xs i e h

pub orderly-changed : (number : ℕ) (f : State → State) (xs : List State) → ((i : ℕ) (d : State) → Keeps i d (f d)) → AreOrderly xs → AreOrderly (changed_at number f xs)
orderly-changed number f xs step o =
    orderly-kept xs (changed_at number f xs) (length-changed_at number f xs) (λ i e h. from i e (changed_was number f xs i e h)) o
  where
    from : (i : ℕ) (e : State) → (d : State) × ((slice_get xs i ≡ Some d) × ((e ≡ d) ⊎ (e ≡ f d))) → (d : State) × ((slice_get xs i ≡ Some d) × Keeps i d e)
    from i e (d, (at, inl s)) = let P : State → Type 0 = λ y. Keeps i d y in (d, (at, subst P (sym s) (keeps-same i d)))
    from i e (d, (at, inr s)) = let P : State → Type 0 = λ y. Keeps i d y in (d, (at, subst P (sym s) (step i d)))

-- ---- the start

-- devices off the wire
loose_off : (tree : List Node) (i : ℕ) (d : State) → slice_get (loose tree) i ≡ Some d → (d.place ≡ Off) × (is_clean d ≡ true)
loose_off [] i d h = cc
loose_off (node ∷ tree) zero d h =
    let same : fresh node.kind node.name node.ports ≡ d = cc in
    (ap (λ (x : State). x.place) (sym same), ap is_clean (sym same))
loose_off (node ∷ tree) (suc i) d h = loose_off tree i d h

orderly-loose : (tree : List Node) → length tree ≤ 15 → AreOrderly (loose tree)
orderly-loose tree few = record {
  few = omega (arith, few, length-loose tree);
  once = λ i j unit other a d e p q in_d in_e h k low. (let x : true ≡ false = sym (holds_listed.units d.place unit a h low) ∙ ap (λ (y : Place). holds y a) (loose_off tree i d p).0 in cc);
  clean = λ i d p in_d. (loose_off tree i d p).1;
  numbered = λ i d p on. (let x : true ≡ false = sym on ∙ ap (λ (y : Place). not (is_off y)) (loose_off tree i d p).0 in cc);
}

pub orderly-started : (tree : List Node) → length tree ≤ 15 → AreOrderly (each_from 0 (moved_by 0 tree) (loose tree))
orderly-started tree few = orderly-rewired 0 tree (loose tree) (orderly-loose tree few)

-- ---- events

orderly-sent : (at device : ℕ) (frame : Option (List ℕ)) (ticket : Ticket) (s : NetState) → AreOrderly s.devices → AreOrderly (after_sent at device frame ticket s).devices
orderly-sent at device None ticket s o = o
orderly-sent at device (Some frame) ticket s o = orderly-changed device (λ d. after_submission 16 d frame ticket at) s.devices (λ i d. keeps-submitted at frame ticket i d) o

orderly-applied : (at : ℕ) (event : Event) (s : NetState) (fault : Option EventError) → AreOrderly s.devices → AreOrderly (applied_unless fault at event s).devices
orderly-applied at event s (Some fault) o = o
orderly-applied at (Plug child parent port) s None o = orderly-rewired at (tree_with_plug s.tree child parent port) s.devices o
orderly-applied at (Unplug child) s None o = orderly-rewired at (tree_without_plug s.tree child) s.devices o
orderly-applied at (Press device key press) s None o = orderly-changed device (λ d. after_key 16 d key press at) s.devices (λ i d. keeps-keyed at key press i d) o
orderly-applied at (Send device frame ticket) s None o = orderly-sent at device (Some frame) ticket s o
orderly-applied at (SendNamed device names frame ticket) s None o = orderly-sent at device (named_frame s.devices names frame) ticket s o
orderly-applied at (Outside device act) s None o = orderly-changed device (λ d. after_act d act) s.devices (λ i d. keeps-acted act i d) o

-- ---- a round: what a device sends

unless-place : (sends : Bool) (frame : Option (List ℕ)) (at : ℕ) (d : State) → (followed_unless sends frame at d).place ≡ d.place
unless-place sends None at d = refl
unless-place true (Some frame) at d = refl
unless-place false (Some frame) at d = keeps_place.following 16 at frame d

unless-number : (sends : Bool) (frame : Option (List ℕ)) (at : ℕ) (d : State) → (followed_unless sends frame at d).number ≡ d.number
unless-number sends None at d = refl
unless-number true (Some frame) at d = refl
unless-number false (Some frame) at d = numbers_stay.following 16 at frame d

unless-kind : (sends : Bool) (frame : Option (List ℕ)) (at : ℕ) (d : State) → (followed_unless sends frame at d).kind ≡ d.kind
unless-kind sends None at d = refl
unless-kind true (Some frame) at d = refl
unless-kind false (Some frame) at d = kinds_stay.following 16 at frame d

unless-clean : (sends : Bool) (frame : Option (List ℕ)) (at : ℕ) (d : State) → is_clean d ≡ true → is_clean (followed_unless sends frame at d) ≡ true
unless-clean sends None at d h = h
unless-clean true (Some frame) at d h = h
unless-clean false (Some frame) at d h = keeps_clean.following 16 at frame d h

in-place : (o : Outcome) (number : ℕ) (d : State) → (followed_in o number d).place ≡ d.place
in-place o number d = unless-place (is_among o.survivors.items number) (frame_in o.reading) (close_in o) d

-- a device that contends starts at the begin
starts_at : (rest begin : ℕ) (d : State) → contends rest begin d ≡ true → start_of rest d ≡ Some begin
starts_at rest begin d h = step (start_of rest d) h
  where
    step : (o : Option ℕ) → is_at begin o ≡ true → o ≡ Some begin
    step None g = cc
    step (Some t) g = let e : t ≡ begin = grind (arith, nat_tests) in ap Some e

sends_by : (b : Bool) (front : Option (List ℕ)) (frame : List ℕ) → (if b then front else None) ≡ Some frame → (b ≡ true) × (front ≡ Some frame)
sends_by true front frame h = (refl, h)
sends_by false front frame h = cc

some_sent : (o : Option (List ℕ)) → is_some o ≡ true → (frame : List ℕ) × (o ≡ Some frame)
some_sent None h = cc
some_sent (Some frame) h = (frame, refl)

-- an allocating device that sends does so in its turn
in_turn : (rest begin : ℕ) (d : State) → d.number < 16 → is_allocating d ≡ true → contends rest begin d ≡ true → begin % 16 ≡ d.number
in_turn rest begin d low own h =
    let P : Option ℕ → Type 0 = λ o. MatchOption o ((t : ℕ) → MayStart rest d t → ⊥) (λ t. IsStart rest d t) in
    let s : IsStart rest d begin = subst P (starts_at rest begin d h) (start_is_least rest d low) in
    s.may.aligned own

slice_below : (xs : List State) (i : ℕ) (d : State) → slice_get xs i ≡ Some d → i < length xs
slice_below [] i d h = cc
slice_below (x ∷ xs) zero d h = omega arith
slice_below (x ∷ xs) (suc i) d h = let m = slice_below xs i d h in omega arith

-- that turn is its place
own_turn : (devices : List State) (rest begin i : ℕ) (d : State) → AreOrderly devices → slice_get devices i ≡ Some d → is_allocating d ≡ true → contends rest begin d ≡ true → begin % 16 ≡ i
own_turn devices rest begin i d order at own h =
    let number : d.number ≡ i = order.numbered i d at (on_by d.place own) in
    let few : i < length devices = slice_below devices i d at in
    in_turn rest begin d (omega (arith, number, few, order.few)) own h ∙ number
  where
    on_by : (p : Place) → is_some (polled_at p) ≡ true → not (is_off p) ≡ true
    on_by Off k = cc
    on_by (Polls found a) k = refl
    on_by (Settled first second) k = cc

pub polls_take_turns : PollsTakeTurns
polls_take_turns devices rest begin i j d e order p q own other h k = sym (own_turn devices rest begin i d order p own h) ∙ own_turn devices rest begin j e order q other k

-- ---- a round: who holds what

on_wire : (p : Place) (a : ℕ) → holds p a ≡ true → not (is_off p) ≡ true
on_wire Off a h = cc
on_wire (Polls found b) a h = refl
on_wire (Settled first second) a h = refl

below_15 : (p : Place) (a : ℕ) → holds p a ≡ true → a < 15
below_15 p a h = (unit_of (addresses_held p) a h).1.1

seat_unit : (unit : Option ℕ) (a n : ℕ) → n ≡ a → is_held unit a ≡ true → holds_address unit n ≡ true
seat_unit unit a n e h =
    let u = unit_at unit a h in
    let low : a < 15 = u.0 in
    let same : (a == a) ≡ true = grind (arith, nat_tests) in
    let small : nat_lt a 15 ≡ true = grind (arith, nat_tests) in
    ap (λ o. holds_address o n) u.1 ∙ ap (λ m. (a == m) && nat_lt a 15) e ∙ ap (λ x. x && nat_lt a 15) same ∙ small

seat_units : (units : List (Option ℕ)) (a n : ℕ) → n ≡ a → list_any (λ u. is_held u a) units ≡ true → wire.is_held units n ≡ true
seat_units [] a n e h = cc
seat_units (u ∷ units) a n e h =
    or_else (wire.is_held (u ∷ units) n ≡ true) (is_held u a) (list_any (λ x. is_held x a) units)
    (λ k. ap (λ b. b || wire.is_held units n) (seat_unit u a n e k))
    (λ k. late (holds_address u n) (wire.is_held units n) (seat_units units a n e k)) h
  where
    late : (b c : Bool) → c ≡ true → (b || c) ≡ true
    late true c k = refl
    late false c k = k

-- some of these, or of more
any_longer : (test : Option ℕ → Bool) (units more : List (Option ℕ)) → list_any test units ≡ true → list_any test (units ++ more) ≡ true
any_longer test [] more h = cc
any_longer test (u ∷ units) more h = by (test u) (any_longer test units more) h
  where
    by : (b : Bool) → (list_any test units ≡ true → list_any test (units ++ more) ≡ true) → (b || list_any test units) ≡ true → (b || list_any test (units ++ more)) ≡ true
    by true later k = refl
    by false later k = later k

seat_holds : (d : State) (a : ℕ) → holds d.place a ≡ true → wire.is_held (held_by d) ((a * 16 + a) % 16) ≡ true
seat_holds d a h =
    let low : a < 15 = below_15 d.place a h in
    let e : (a * 16 + a) % 16 ≡ a = omega arith in
    any_longer (λ held. holds_address held ((a * 16 + a) % 16)) (addresses_held d.place) (more_of (is_outside d.kind) d.place d.more) (seat_units (addresses_held d.place) a ((a * 16 + a) % 16) e h)

-- who holds an address answers
one_address : (units : List (Option ℕ)) (a : ℕ) → list_any (λ u. is_held u a) units ≡ true → list_any is_address units ≡ true
one_address [] a h = cc
one_address (None ∷ units) a h = one_address units a h
one_address (Some b ∷ units) a h = by_test (is_held (Some b) a) refl (λ k. one_address units a k) h
  where
    or_true : (x : Bool) → list_any is_address units ≡ true → (x || list_any is_address units) ≡ true
    or_true true g = refl
    or_true false g = g

    by_test : (c : Bool) → is_held (Some b) a ≡ c → (list_any (λ u. is_held u a) units ≡ true → list_any is_address units ≡ true) → (c || list_any (λ u. is_held u a) units) ≡ true
        → (is_address (Some b) || list_any is_address units) ≡ true
    by_test true e go k = let low : nat_lt b 15 ≡ true = grind (arith, nat_tests, e) in rw low refl
    by_test false e go k = or_true (is_address (Some b)) (go k)

holder_answers : (rest begin : ℕ) (d : State) (a : ℕ) → is_on_wire d ≡ true → holds d.place a ≡ true → answers rest begin d ≡ true
holder_answers rest begin d a on h =
    let one : holds_one d ≡ true = any_longer is_address (addresses_held d.place) (more_of (is_outside d.kind) d.place d.more) (one_address (addresses_held d.place) a h) in
    rw (on, one) (by_kind (is_outside d.kind))
  where
    by_kind : (b : Bool) → (not b || (true || contends rest begin d)) ≡ true
    by_kind true = refl
    by_kind false = refl

seat_at : (s : NetState) (begin i : ℕ) (d : State) → slice_get s.devices i ≡ Some d → slice_get (seats_of s begin) i ≡ Some (seat_of s.rest begin d)
seat_at s begin i d h = slice_get-map (seat_of s.rest begin) s.devices i ∙ ap (option_map (seat_of s.rest begin)) h

-- who polls an address, and was not acknowledged: who holds it was itself sending to it
unheard : (s : NetState) (begin : ℕ) (o : Outcome) → IsRound (seats_of s begin) begin s.pulses o
    → (i j a : ℕ) (d e : State) → slice_get s.devices i ≡ Some d → slice_get s.devices j ≡ Some e
    → is_some (sent_in s.rest begin d) ≡ true → polled_at d.place ≡ Some a → fate_in o i ≡ Unacked → holds e.place a ≡ true
    → (frame : List ℕ) × ((sent_in s.rest begin e ≡ Some frame) × (slice_index frame 0 % 16 ≡ a))
unheard s begin o round i j a d e at_i at_j sends polls un holding =
    let sent = some_sent (sent_in s.rest begin d) sends in
    let front = (sends_by (contends s.rest begin d) (front_of d) sent.0 sent.1).1 in
    let poll : front_of d ≡ Some ((a * 16 + a) ∷ []) = ap (λ (o : Option ℕ). front_by o d.queue) polls in
    let own : sent_in s.rest begin d ≡ Some ((a * 16 + a) ∷ []) = sent.1 ∙ sym front ∙ poll in
    let low : a < 15 = below_15 e.place a holding in
    let heard = holders_are_heard (seats_of s begin) begin s.pulses o round i j (a * 16 + a) (seat_of s.rest begin d) (seat_of s.rest begin e)
    (seat_at s begin i d at_i) own un (seat_at s begin j e at_j)
    (holder_answers s.rest begin e a (on_wire e.place a holding) holding) (seat_holds e a holding) in
    let same : (a * 16 + a) % 16 ≡ a = omega arith in
    (heard.0, (heard.1.0, heard.1.1 ∙ same))

-- ---- a round: the law of fates

off : State
off = fresh Tv [] 0

or_off : Option State → State
or_off None = off
or_off (Some d) = d

-- a device that is not from outside
seen_by : Bool → State → Option State
seen_by true d = None
seen_by false d = Some d

seen : Option State → Option State
seen None = None
seen (Some d) = seen_by (is_outside d.kind) d

seen-is : (o : Option State) (d : State) → seen o ≡ Some d → (o ≡ Some d) × IsInside d
unfolding seen seen_by
seen-is None d h = cc
seen-is (Some e) d h = step (is_outside e.kind) refl h
  where
    step : (b : Bool) → is_outside e.kind ≡ b → seen_by b e ≡ Some d → (Some e ≡ Some d) × IsInside d
    step true k g = cc
    step false k g = let same : e ≡ d = cc in (g, subst (λ (x : State). IsInside x) same k)

seen-some : (d : State) → IsInside d → seen (Some d) ≡ Some d
unfolding seen seen_by
seen-some d h = ap (λ (b : Bool). seen_by b d) h

-- the devices that are not from outside, by their numbers, when they have followed; what they send, and their fates
followers : NetState → Outcome → ℕ → State
followers s o i = followed_in o i (or_off (seen (slice_get s.devices i)))

sends : NetState → ℕ → ℕ → Option (List ℕ)
sends s begin i = sent_in s.rest begin (or_off (seen (slice_get s.devices i)))

fates : Outcome → ℕ → Fate
fates o i = fate_in o i

off-silent : (rest begin : ℕ) → sent_in rest begin off ≡ None
unfolding off
off-silent rest begin = refl

off-holds : (o : Outcome) (i a : ℕ) → holds (followed_in o i off).place a ≡ false
unfolding off
off-holds o i a = ap (λ (p : Place). holds p a) (in-place o i off)

once-before : (s : NetState) (o : Outcome) → AreOrderly s.devices → law.IsOnce (followers s o)
unfolding followers or_off
once-before s o order i j a h k = by_devices (seen (slice_get s.devices i)) (seen (slice_get s.devices j)) refl refl h k
  where
    by_devices : (p q : Option State) → seen (slice_get s.devices i) ≡ p → seen (slice_get s.devices j) ≡ q → holds (followed_in o i (or_off p)).place a ≡ true → holds (followed_in o j (or_off q)).place a ≡ true → i ≡ j
    by_devices None q x y u v = let z : true ≡ false = sym u ∙ off-holds o i a in cc
    by_devices (Some d) None x y u v = let z : true ≡ false = sym v ∙ off-holds o j a in cc
    by_devices (Some d) (Some e) x y u v =
        let own = seen-is (slice_get s.devices i) d x in
        let other = seen-is (slice_get s.devices j) e y in
        devices-once s.devices order.once i j a d e own.0 other.0 own.1 other.1 (subst (λ (p : Place). holds p a ≡ true) (in-place o i d) u) (subst (λ (p : Place). holds p a ≡ true) (in-place o j e) v)

fair : (s : NetState) (begin : ℕ) (o : Outcome) → AreOrderly s.devices → IsRound (seats_of s begin) begin s.pulses o → law.IsFair begin (sends s begin) (fates o) (followers s o)
unfolding followers sends fates or_off
fair s begin o order round = record { aligned = aligned; elsewhere = elsewhere; unheard = heard }
  where
    aligned_by : (i a : ℕ) (p : Option State) → seen (slice_get s.devices i) ≡ p → is_some (sent_in s.rest begin (or_off p)) ≡ true → polled_at (followed_in o i (or_off p)).place ≡ Some a → begin % 16 ≡ i
    aligned_by i a None x h polls = let z : true ≡ false = sym h ∙ ap is_some (off-silent s.rest begin) in cc
    aligned_by i a (Some d) x h polls =
        let place : polled_at d.place ≡ Some a = sym (ap polled_at (in-place o i d)) ∙ polls in
        let sent = some_sent (sent_in s.rest begin d) h in
        own_turn s.devices s.rest begin i d order (seen-is (slice_get s.devices i) d x).0 (ap is_some place) (sends_by (contends s.rest begin d) (front_of d) sent.0 sent.1).0

    aligned : (i a : ℕ) → is_some (sent_in s.rest begin (or_off (seen (slice_get s.devices i)))) ≡ true → polled_at (followed_in o i (or_off (seen (slice_get s.devices i)))).place ≡ Some a → begin % 16 ≡ i
    aligned i a h polls = aligned_by i a (seen (slice_get s.devices i)) refl h polls

    elsewhere_by : (j : ℕ) (frame : List ℕ) (p : Option State) → seen (slice_get s.devices j) ≡ p → sent_in s.rest begin (or_off p) ≡ Some frame → law.goes_elsewhere (followed_in o j (or_off p)).place frame ≡ true
    elsewhere_by j frame None x h = let z : None ≡ Some frame = sym (off-silent s.rest begin) ∙ h in cc
    elsewhere_by j frame (Some d) x h =
        let own = seen-is (slice_get s.devices j) d x in
        subst (λ (p : Place). law.goes_elsewhere p frame ≡ true) (sym (in-place o j d))
        (keeps_clean.sending d frame (order.clean j d own.0 own.1) (sends_by (contends s.rest begin d) (front_of d) frame h).1)

    elsewhere : (j : ℕ) (frame : List ℕ) → sent_in s.rest begin (or_off (seen (slice_get s.devices j))) ≡ Some frame → law.goes_elsewhere (followed_in o j (or_off (seen (slice_get s.devices j)))).place frame ≡ true
    elsewhere j frame h = elsewhere_by j frame (seen (slice_get s.devices j)) refl h

    heard_by : (i j a : ℕ) (p q : Option State) → seen (slice_get s.devices i) ≡ p → seen (slice_get s.devices j) ≡ q → is_some (sent_in s.rest begin (or_off p)) ≡ true → polled_at (followed_in o i (or_off p)).place ≡ Some a
        → fate_in o i ≡ Unacked → holds (followed_in o j (or_off q)).place a ≡ true → (frame : List ℕ) × ((sent_in s.rest begin (or_off q) ≡ Some frame) × (slice_index frame 0 % 16 ≡ a))
    heard_by i j a None q x y h polls un addresses_held = let z : true ≡ false = sym h ∙ ap is_some (off-silent s.rest begin) in cc
    heard_by i j a (Some d) None x y h polls un addresses_held = let z : true ≡ false = sym addresses_held ∙ off-holds o j a in cc
    heard_by i j a (Some d) (Some e) x y h polls un addresses_held =
        unheard s begin o round i j a d e (seen-is (slice_get s.devices i) d x).0 (seen-is (slice_get s.devices j) e y).0 h (sym (ap polled_at (in-place o i d)) ∙ polls) un (subst (λ (p : Place). holds p a ≡ true) (in-place o j e) addresses_held)

    heard : (i j a : ℕ) → is_some (sent_in s.rest begin (or_off (seen (slice_get s.devices i)))) ≡ true → polled_at (followed_in o i (or_off (seen (slice_get s.devices i)))).place ≡ Some a
        → fate_in o i ≡ Unacked → holds (followed_in o j (or_off (seen (slice_get s.devices j)))).place a ≡ true
        → (frame : List ℕ) × ((sent_in s.rest begin (or_off (seen (slice_get s.devices j))) ≡ Some frame) × (slice_index frame 0 % 16 ≡ a))
    heard i j a h polls un addresses_held = heard_by i j a (seen (slice_get s.devices i)) (seen (slice_get s.devices j)) refl refl h polls un addresses_held

-- ---- a round: each device

on_place : (d : State) (a : ℕ) → holds d.place a ≡ true → is_on_wire d ≡ true
on_place d a h = on_wire d.place a h

contends_front : (rest begin : ℕ) (d : State) → is_some (front_of d) ≡ true → contends rest begin d ≡ true → (frame : List ℕ) × (sent_in rest begin d ≡ Some frame)
contends_front rest begin d f h =
    let g = some_sent (front_of d) f in
    (g.0, ap (λ b. if b then front_of d else None) h ∙ g.1)

-- who holds an address after the round holds it by the law of fates
after_holds : (rest begin : ℕ) (o : Outcome) (any : Bool) (i a : ℕ) (d : State) → (contends rest begin d ≡ true → IsSome (front_of d))
    → holds (device_after (contends rest begin d) any o i d).place a ≡ true
    → holds (law.after_fate 16 (close_in o) (followed_in o i d) (fate_in o i) (sent_in rest begin d)).place a ≡ true
after_holds rest begin o any i a d front h = by_wire (is_on_wire d) refl h
  where
    f : State
    f = followed_in o i d

    by_any : (b : Bool) → holds (after_fate false b (fate_in o i) (close_in o) (followed_in o i d)).place a ≡ true → holds (followed_in o i d).place a ≡ true
    by_any true k = k
    by_any false k = k

    by_own : (b : Bool) → contends rest begin d ≡ b → holds (after_fate b any (fate_in o i) (close_in o) (followed_in o i d)).place a ≡ true
        → holds (law.after_fate 16 (close_in o) (followed_in o i d) (fate_in o i) (if b then front_of d else None)).place a ≡ true
    by_own true own k =
        let g = some_sent (front_of d) (front own) in
        subst (λ (x : Option (List ℕ)). holds (law.after_fate 16 (close_in o) (followed_in o i d) (fate_in o i) x).place a ≡ true) (sym g.1) k
    by_own false own k = by_any any k

    by_wire : (b : Bool) → is_on_wire d ≡ b → holds (if b then after_fate (contends rest begin d) any (fate_in o i) (close_in o) (followed_in o i d) else d).place a ≡ true
        → holds (law.after_fate 16 (close_in o) (followed_in o i d) (fate_in o i) (sent_in rest begin d)).place a ≡ true
    by_wire true on k = by_own (contends rest begin d) refl k
    by_wire false on k = let z : true ≡ false = sym (on_place d a k) ∙ on in cc

informed-clean : (own any : Bool) (fate : Fate) (at : ℕ) (d : State) → is_clean d ≡ true → is_clean (after_fate own any fate at d) ≡ true
informed-clean true any fate at d h = keeps_clean.reporting 16 at fate d h
informed-clean false true fate at d h = keeps_clean.waiting d h
informed-clean false false fate at d h = h

informed-number : (own any : Bool) (fate : Fate) (at : ℕ) (d : State) → (after_fate own any fate at d).number ≡ d.number
informed-number true any fate at d = numbers_stay.reporting 16 at fate d
informed-number false true fate at d = numbers_stay.waiting d
informed-number false false fate at d = refl

after_clean : (own any : Bool) (o : Outcome) (i : ℕ) (d : State) → is_clean d ≡ true → is_clean (device_after own any o i d) ≡ true
after_clean own any o i d h = by_wire (is_on_wire d)
  where
    by_wire : (b : Bool) → is_clean (if b then after_fate own any (fate_in o i) (close_in o) (followed_in o i d) else d) ≡ true
    by_wire true =
        informed-clean own any (fate_in o i) (close_in o) (followed_in o i d) (unless-clean (is_among o.survivors.items i) (frame_in o.reading) (close_in o) d h)
    by_wire false = h

informed-kind : (own any : Bool) (fate : Fate) (at : ℕ) (d : State) → (after_fate own any fate at d).kind ≡ d.kind
informed-kind true any fate at d = kinds_stay.reporting 16 at fate d
informed-kind false true fate at d = refl
informed-kind false false fate at d = refl

after_kind : (own any : Bool) (o : Outcome) (i : ℕ) (d : State) → (device_after own any o i d).kind ≡ d.kind
after_kind own any o i d = by_wire (is_on_wire d)
  where
    by_wire : (b : Bool) → (if b then after_fate own any (fate_in o i) (close_in o) (followed_in o i d) else d).kind ≡ d.kind
    by_wire true = informed-kind own any (fate_in o i) (close_in o) (followed_in o i d) ∙ unless-kind (is_among o.survivors.items i) (frame_in o.reading) (close_in o) d
    by_wire false = refl

after_numbered : (own any : Bool) (o : Outcome) (i number : ℕ) (d : State) → is_on_wire (device_after own any o i d) ≡ true → (is_on_wire d ≡ true → d.number ≡ number) → (device_after own any o i d).number ≡ number
after_numbered own any o i number d on was = by_wire (is_on_wire d) refl on
  where
    by_wire : (b : Bool) → is_on_wire d ≡ b → is_on_wire (if b then after_fate own any (fate_in o i) (close_in o) (followed_in o i d) else d) ≡ true
        → (if b then after_fate own any (fate_in o i) (close_in o) (followed_in o i d) else d).number ≡ number
    by_wire true e h =
        informed-number own any (fate_in o i) (close_in o) (followed_in o i d)
        ∙ unless-number (is_among o.survivors.items i) (frame_in o.reading) (close_in o) d ∙ was e
    by_wire false e h = was h

-- a device that contends has a frame
contender_front : (rest begin : ℕ) (d : State) → contends rest begin d ≡ true → IsSome (front_of d)
contender_front rest begin d h = step (is_on_wire d) (ready_of d) refl (starts_at rest begin d h)
  where
    step : (on : Bool) (o : Option ℕ) → ready_of d ≡ o → start_by rest d on o ≡ Some begin → IsSome (front_of d)
    step false o e k = cc
    step true None e k = cc
    step true (Some ready) e k = front-ready d ready e

pub orderly-round : (s : NetState) (begin : ℕ) (o : Outcome) → IsRound (seats_of s begin) begin s.pulses o → AreOrderly s.devices → AreOrderly (devices_after s.rest begin o s.devices)
unfolding followers sends fates or_off
orderly-round s begin o round order = record {
  few = omega (arith, order.few, length-each_from 0 after s.devices);
  once = units-once (devices_after s.rest begin o s.devices) clean once;
  clean = clean;
  numbered = λ i e h on. (let w = each_was 0 after s.devices i i e (omega arith) h in
      ap (λ (x : State). x.number) w.is ∙ after_numbered (contends s.rest begin w.d) (is_sent s.rest begin o s.devices) o i i w.d (ap is_on_wire (sym w.is) ∙ on) (order.numbered i w.d w.at));
}
  where
    after : ℕ → State → State
    after number d = device_after (contends s.rest begin d) (is_sent s.rest begin o s.devices) o number d

    Follows : Option State → ℕ → ℕ → Type 0
    Follows p i a = holds (law.after_fate 16 (close_in o) (followed_in o i (or_off p)) (fate_in o i) (sent_in s.rest begin (or_off p))).place a ≡ true

    inside : (number : ℕ) (d e : State) → e ≡ device_after (contends s.rest begin d) (is_sent s.rest begin o s.devices) o number d → IsInside e → IsInside d
    inside number d e is in_e =
        ap is_outside (sym (after_kind (contends s.rest begin d) (is_sent s.rest begin o s.devices) o number d)) ∙ ap (λ (x : State). is_outside x.kind) (sym is) ∙ in_e

    follows : (i a : ℕ) (e : State) → slice_get (devices_after s.rest begin o s.devices) i ≡ Some e → IsInside e → holds e.place a ≡ true → Follows (seen (slice_get s.devices i)) i a
    follows i a e h in_e k =
        let w = each_was 0 (λ number d. device_after (contends s.rest begin d) (is_sent s.rest begin o s.devices) o number d) s.devices i i e (omega arith) h in
        let P : Option State → Type 0 = λ p. Follows p i a in
        subst P (sym (ap seen w.at ∙ seen-some w.d (inside i w.d e w.is in_e))) (after_holds s.rest begin o (is_sent s.rest begin o s.devices) i a w.d (contender_front s.rest begin w.d) (subst (λ (x : State). holds x.place a ≡ true) w.is k))

    clean : (i : ℕ) (e : State) → slice_get (devices_after s.rest begin o s.devices) i ≡ Some e → IsInside e → is_clean e ≡ true
    clean i e h in_e =
        let w = each_was 0 (λ number d. device_after (contends s.rest begin d) (is_sent s.rest begin o s.devices) o number d) s.devices i i e (omega arith) h in
        ap is_clean w.is ∙ after_clean (contends s.rest begin w.d) (is_sent s.rest begin o s.devices) o i w.d (order.clean i w.d w.at (inside i w.d e w.is in_e))

    once : HoldsOnce (devices_after s.rest begin o s.devices)
    once i j a d e p q in_d in_e h k =
        fates_keep_once 16 begin (close_in o) (sends s begin) (fates o) (followers s o) (fair s begin o order round) (once-before s o order) i j a (follows i a d p in_d h) (follows j a e q in_e k)

-- ---- runs

pub keeps_order : KeepsOrder
keeps_order = record {
  starting = λ tree pulses few. orderly-started tree few;
  happening = λ at event s o. orderly-applied at event s (event_fault s event) o;
  going_round = λ before begin o after order next.
      (let P : NetState → Type 0 = λ t. AreOrderly t.devices in subst P (sym next.after_is) (orderly-round before begin o next.round order));
}

led : (turns : List Turn) (before after : NetState) → AreOrderly before.devices → Leads before turns after → AreOrderly after.devices
led [] before after order h = let P : NetState → Type 0 = λ t. AreOrderly t.devices in subst P (sym h) order
led (turn ∷ turns) before after order h = led turns h.0 after (step turn h.1.0) h.1.1
  where
    step : (x : Turn) → Takes before x h.0 → AreOrderly h.0.devices
    step (Happens at event) e = let P : NetState → Type 0 = λ t. AreOrderly t.devices in subst P (sym e) (keeps_order.happening at event before order)
    step (Rounds begin o) e = keeps_order.going_round before begin o h.0 order e

pub never_twice : NeverTwice
never_twice tree pulses turns s few h = (led turns (first_net tree pulses) s (keeps_order.starting tree pulses few) h).once
