-- Why a device holds addresses of its kind's list alone.
use Rattle.std.proofs.Common.{◌≡◌, ℕ, ◌<◌, ◌==◌, Bool, true, false, ◌&&◌, ◌||◌, if◌then◌else◌, List, [], ◌∷◌, slice_get, Option, Some, None, zero, suc, ◌⊎◌, inl, inr, refl, ap, ◌∙◌, subst, arith}
use Rattle.std.specs.List.{list_all}
use Rattle.std.proofs.lemmas.Bool.Decides.{nat_tests}
use Rattle.text_core.specs.declared.kind.Kind.{Kind}
use Rattle.text_core.specs.declared.kind.Kind.TheVariants.{Tv, Amp, Player, Recorder, Switch, Combo, Outside, OutsideTv}
use Rattle.text_core.specs.declared.phys.Phys.{Phys}
use Rattle.device_core.specs.declared.place.Place.{Place}
use Rattle.device_core.specs.declared.place.Place.TheVariants.{Off, Polls, Settled}
use Rattle.line_frames.specs.declared.Fate.{Fate}
use Rattle.line_frames.specs.declared.Fate.TheVariants.{Delivered, Unacked, Lost, Broken}
use Rattle.device_core.specs.State.{State, addresses_held, holds, is_held}
use Rattle.device_features.specs.Kinds.{addresses, is_in, is_nowhere, players, recorders, second_addresses}
use Rattle.device_core.specs.Place.{begins, after_joining, list_of, polled_at, after_sending, settles, start_place, place_after_fate, submit_fault, after_submission, tries, tries_after, unregistered}
use Rattle.device_core.specs.Effects.{after_frame}
use Rattle.device_core.specs.Keys.{key_fault, after_key}
use Rattle.device_core.specs.Listed.{HoldsListed, is_listed, listed_at, may_take, unit_addresses}
use Rattle.device_core.proofs.CleanLemmas.{keeps_place}
use Rattle.device_core.proofs.NumberLemmas.{followed-same, joined-same, keyed-same, sent-same, submitted-same}
use Rattle.device_core.proofs.PlaceLemmas.{place_goes_by_fates}

pub and_left : (a b : Bool) → (a && b) ≡ true → a ≡ true
and_left true b h = refl
and_left false b h = cc

pub and_right : (a b : Bool) → (a && b) ≡ true → b ≡ true
and_right true b h = h
and_right false b h = cc

pub both : (a b : Bool) → a ≡ true → b ≡ true → (a && b) ≡ true
both true b h k = k
both false b h k = h

or_second : (a b : Bool) → b ≡ true → (a || b) ≡ true
or_second true b h = refl
or_second false b h = h

not_first : (a b : Bool) → a ≡ false → (a || b) ≡ true → b ≡ true
not_first true b e h = cc
not_first false b e h = h

pick : (kind : Kind) (b : Bool) (p q : Place) → listed_at kind p ≡ true → listed_at kind q ≡ true → listed_at kind (if b then p else q) ≡ true
pick kind true p q h k = h
pick kind false p q h k = k

-- ---- the steps of a search

-- where the first unit may have settled
abbrev Found : Kind → Option ℕ → Type 0
Found kind None = Unit
Found kind (Some first) = may_take (addresses kind) first ≡ true

-- a unit settles at an address that it may take
begun_listed : (kind : Kind) (a : ℕ) → may_take (addresses kind) a ≡ true → listed_at kind (begins a (second_addresses kind)) ≡ true
begun_listed Tv a h = h
begun_listed Recorder a h = h
begun_listed Player a h = h
begun_listed Amp a h = h
begun_listed Switch a h = h
begun_listed Outside a h = h
begun_listed OutsideTv a h = h
begun_listed Combo a h = both (may_take (addresses Combo) a) true h refl

settled_listed : (kind : Kind) (found : Option ℕ) (a : ℕ) → Found kind found → may_take (list_of kind found) a ≡ true → listed_at kind (settles kind found a) ≡ true
settled_listed kind None a f h = begun_listed kind a h
settled_listed kind (Some first) a f h = both _ _ f h

-- a unit polls an address of its list
polls_listed : (kind : Kind) (found : Option ℕ) (a : ℕ) → Found kind found → is_in (list_of kind found) a ≡ true → listed_at kind (Polls found a) ≡ true
polls_listed kind None a f h = h
polls_listed kind (Some first) a f h = both _ _ f h

-- and one that polls does so
was_found : (kind : Kind) (found : Option ℕ) (a : ℕ) → listed_at kind (Polls found a) ≡ true → Found kind found × (is_in (list_of kind found) a ≡ true)
was_found kind None a h = (tt, h)
was_found kind (Some first) a h = (and_left _ _ h, and_right _ _ h)

-- the next poll of a list whose addresses are all of the unit's list
tried_listed : (kind : Kind) (found : Option ℕ) (list : List ℕ) → Found kind found → list_all (is_in (list_of kind found)) list ≡ true
    → listed_at kind (tries kind found list) ≡ true
tried_listed kind found [] f h = settled_listed kind found 15 f refl
tried_listed kind found (a ∷ rest) f h = polls_listed kind found a f (and_left _ _ h)

tried_after_listed : (kind : Kind) (found : Option ℕ) (a : ℕ) (list : List ℕ) → Found kind found → list_all (is_in (list_of kind found)) list ≡ true
    → listed_at kind (tries_after kind found a list) ≡ true
tried_after_listed kind found a [] f h = settled_listed kind found 15 f refl
tried_after_listed kind found a (b ∷ rest) f h =
    pick kind (a == b) (tries kind found rest) (tries_after kind found a rest) (tried_listed kind found rest f (and_right _ _ h))
    (tried_after_listed kind found a rest f (and_right _ _ h))

-- a list's addresses are its own
first_own : (kind : Kind) → list_all (is_in (addresses kind)) (addresses kind) ≡ true
first_own Tv = refl
first_own Recorder = refl
first_own Player = refl
first_own Amp = refl
first_own Switch = refl
first_own Combo = refl
first_own Outside = refl
first_own OutsideTv = refl

second_own : (kind : Kind) → list_all (is_in (second_addresses kind)) (second_addresses kind) ≡ true
second_own Tv = refl
second_own Recorder = refl
second_own Player = refl
second_own Amp = refl
second_own Switch = refl
second_own Combo = refl
second_own Outside = refl
second_own OutsideTv = refl

list_own : (kind : Kind) (found : Option ℕ) → list_all (is_in (list_of kind found)) (list_of kind found) ≡ true
list_own kind None = first_own kind
list_own kind (Some first) = second_own kind

step_listed : (kind : Kind) (place : Place) (fate : Fate) → listed_at kind place ≡ true → listed_at kind (place_after_fate kind place fate) ≡ true
step_listed kind Off fate h = refl
step_listed kind (Settled first second) fate h = h
step_listed kind (Polls found a) Unacked h =
    let was = was_found kind found a h in
    settled_listed kind found a was.0 (or_second (a == 15) (is_in (list_of kind found) a) was.1)
step_listed kind (Polls found a) Delivered h = tried_after_listed kind found a (list_of kind found) (was_found kind found a h).0 (list_own kind found)
step_listed kind (Polls found a) Lost h = h
step_listed kind (Polls found a) Broken h = h

unplaced_listed : (kind : Kind) → listed_at kind (unregistered (second_addresses kind)) ≡ true
unplaced_listed Tv = refl
unplaced_listed Recorder = refl
unplaced_listed Player = refl
unplaced_listed Amp = refl
unplaced_listed Switch = refl
unplaced_listed Combo = refl
unplaced_listed Outside = refl
unplaced_listed OutsideTv = refl

start_listed : (kind : Kind) (phys : Phys) → listed_at kind (start_place kind phys) ≡ true
start_listed kind phys =
    pick kind (is_nowhere phys) (unregistered (second_addresses kind)) (tries kind None (addresses kind)) (unplaced_listed kind)
    (tried_listed kind None (addresses kind) tt (first_own kind))

-- a state of the same kind at a place that is listed
at_place : (x : State) (kind : Kind) (place : Place) → x.kind ≡ kind → x.place ≡ place → listed_at kind place ≡ true → is_listed x ≡ true
at_place x kind place k p h = ap (λ (q : Kind). listed_at q x.place) k ∙ (ap (λ (q : Place). listed_at kind q) p ∙ h)

-- ---- what a unit holds

-- what a unit may take below 15 is of its list
own : (list : List ℕ) (a : ℕ) → a < 15 → may_take list a ≡ true → is_in list a ≡ true
own list a low h =
    let other : (a == 15) ≡ false = grind (arith, nat_tests) in
    not_first (a == 15) (is_in list a) other h

some_same : (a b : ℕ) → Some (Some a) ≡ Some (Some b) → a ≡ b
some_same a b e = cc

held_listed : (kind : Kind) (place : Place) (unit a : ℕ) → listed_at kind place ≡ true → slice_get (addresses_held place) unit ≡ Some (Some a) → a < 15
    → is_in (unit_addresses kind unit) a ≡ true
held_listed kind Off zero a l e low = cc
held_listed kind Off (suc zero) a l e low = cc
held_listed kind Off (suc (suc unit)) a l e low = cc
held_listed kind (Polls None b) zero a l e low = cc
held_listed kind (Polls (Some first) b) zero a l e low =
    own (addresses kind) a low (subst (λ (n : ℕ). may_take (addresses kind) n ≡ true) (some_same first a e) (and_left _ _ l))
held_listed kind (Polls found b) (suc zero) a l e low = cc
held_listed kind (Polls found b) (suc (suc unit)) a l e low = cc
held_listed kind (Settled first None) zero a l e low =
    own (addresses kind) a low (subst (λ (n : ℕ). may_take (addresses kind) n ≡ true) (some_same first a e) l)
held_listed kind (Settled first (Some second)) zero a l e low =
    own (addresses kind) a low (subst (λ (n : ℕ). may_take (addresses kind) n ≡ true) (some_same first a e) (and_left _ _ l))
held_listed kind (Settled first None) (suc zero) a l e low = cc
held_listed kind (Settled first (Some second)) (suc zero) a l e low =
    own (second_addresses kind) a low (subst (λ (n : ℕ). may_take (second_addresses kind) n ≡ true) (some_same second a e) (and_right _ _ l))
held_listed kind (Settled first second) (suc (suc unit)) a l e low = cc

-- the lists of a box have no address in common; other kinds have one list
pub players_are : (a : ℕ) → is_in players a ≡ true → (a ≡ 4) ⊎ ((a ≡ 8) ⊎ (a ≡ 11))
players_are a h = grind (arith, nat_tests)

no_recorder : (a : ℕ) → (a ≡ 4) ⊎ ((a ≡ 8) ⊎ (a ≡ 11)) → is_in recorders a ≡ false
no_recorder a (inl e) = rw e refl
no_recorder a (inr (inl e)) = rw e refl
no_recorder a (inr (inr e)) = rw e refl

lists_apart : (kind : Kind) (a : ℕ) → is_in (addresses kind) a ≡ true → is_in (second_addresses kind) a ≡ true → ⊥
lists_apart Tv a h k = cc
lists_apart Recorder a h k = cc
lists_apart Player a h k = cc
lists_apart Amp a h k = cc
lists_apart Switch a h k = cc
lists_apart Outside a h k = cc
lists_apart OutsideTv a h k = cc
lists_apart Combo a h k = let e = no_recorder a (players_are a k) in cc

past_two : (place : Place) (unit a : ℕ) → slice_get (addresses_held place) (suc (suc unit)) ≡ Some (Some a) → ⊥
past_two Off unit a e = cc
past_two (Polls found b) unit a e = cc
past_two (Settled first second) unit a e = cc

held_apart : (kind : Kind) (place : Place) (unit other a : ℕ) → listed_at kind place ≡ true → slice_get (addresses_held place) unit ≡ Some (Some a)
    → slice_get (addresses_held place) other ≡ Some (Some a) → a < 15 → unit ≡ other
held_apart kind place zero zero a l e f low = refl
held_apart kind place (suc zero) (suc zero) a l e f low = refl
held_apart kind place zero (suc zero) a l e f low =
    absurd (lists_apart kind a (held_listed kind place zero a l e low) (held_listed kind place (suc zero) a l f low))
held_apart kind place (suc zero) zero a l e f low =
    absurd (lists_apart kind a (held_listed kind place zero a l f low) (held_listed kind place (suc zero) a l e low))
held_apart kind place (suc (suc unit)) other a l e f low = absurd (past_two place unit a e)
held_apart kind place zero (suc (suc other)) a l e f low = absurd (past_two place other a f)
held_apart kind place (suc zero) (suc (suc other)) a l e f low = absurd (past_two place other a f)

-- what a unit holds the device holds
unit_is : (a b : ℕ) → Some (Some b) ≡ Some (Some a) → a < 15 → is_held (Some b) a ≡ true
unit_is a b e low =
    let same : b ≡ a = some_same b a e in
    grind (arith, nat_tests)

first_of_two : (x y : Bool) → x ≡ true → (x || (y || false)) ≡ true
first_of_two true y h = refl
first_of_two false y h = cc

second_of_two : (x y : Bool) → y ≡ true → (x || (y || false)) ≡ true
second_of_two true y h = refl
second_of_two false true h = refl
second_of_two false false h = cc

unit_holds : (place : Place) (unit a : ℕ) → slice_get (addresses_held place) unit ≡ Some (Some a) → a < 15 → holds place a ≡ true
unit_holds Off zero a e low = cc
unit_holds Off (suc zero) a e low = cc
unit_holds (Polls None b) zero a e low = cc
unit_holds (Polls (Some first) b) zero a e low = first_of_two (is_held (Some first) a) (is_held None a) (unit_is a first e low)
unit_holds (Polls found b) (suc zero) a e low = cc
unit_holds (Settled first second) zero a e low = first_of_two (is_held (Some first) a) (is_held second a) (unit_is a first e low)
unit_holds (Settled first None) (suc zero) a e low = cc
unit_holds (Settled first (Some second)) (suc zero) a e low = second_of_two (is_held (Some first) a) (is_held (Some second) a) (unit_is a second e low)
unit_holds place (suc (suc unit)) a e low = absurd (past_two place unit a e)

pub holds_listed : HoldsListed
holds_listed = record {
  leaving = λ d. refl;
  joining = λ limit number at phys d. at_place (after_joining limit d number phys at) d.kind (start_place d.kind phys) (joined-same limit number at phys d).1
      (place_goes_by_fates.joining limit number at phys d) (start_listed d.kind phys);
  reporting = λ limit at fate d h. at_place (after_sending limit d fate at) d.kind (place_after_fate d.kind d.place fate) (sent-same limit at fate d (polled_at d.place)).1
      (place_goes_by_fates.reporting limit at fate d) (step_listed d.kind d.place fate h);
  waiting = λ d h. h;
  submitting = λ limit at frame ticket d h. at_place (after_submission limit d frame ticket at) d.kind d.place (submitted-same d frame ticket at (submit_fault limit d frame)).1
      (keeps_place.submitting limit at frame ticket d) h;
  following = λ limit at frame d h. at_place (after_frame limit d frame at) d.kind d.place (followed-same limit at frame d).1 (keeps_place.following limit at frame d) h;
  keying = λ limit at key press d h. at_place (after_key limit d key press at) d.kind d.place (keyed-same limit at key press d (key_fault d key)).1
      (keeps_place.keying limit at key press d) h;
  holding = λ d unit a l e low. held_listed d.kind d.place unit a l e low;
  apart = λ d unit other a l e f low. held_apart d.kind d.place unit other a l e f low;
  units = unit_holds;
}
