-- Why no address is held twice.
use Rattle.std.proofs.Common.{◌≡◌, ℕ, ◌%◌, Bool, true, false, not, nat_lt, is_some, if◌then◌else◌, List, [], ◌∷◌, ◌++◌, ◌+◌, ◌||◌, length, slice_index, Option, Some, None, ◌⊎◌, inl, inr, refl, sym, ap, ◌∙◌, subst, arith}
use Rattle.std.proofs.lemmas.Bool.Decides.{nat_tests}
use Rattle.text_core.specs.declared.kind.Kind.{Kind}
use Rattle.device_core.specs.declared.place.Place.{Place}
use Rattle.device_core.specs.declared.place.Place.TheVariants.{Off, Polls, Settled}
use Rattle.line_frames.specs.declared.Fate.{Fate}
use Rattle.line_frames.specs.declared.Fate.TheVariants.{Delivered, Unacked, Lost, Broken}
use Rattle.line_frames.specs.declared.free_time.FreeTime.TheVariants.{Retry}
use Rattle.device_core.specs.State.{State, addresses_held, holds, is_held, with_queued, speaks, frame_of, one_more}
use Rattle.device_features.specs.Kinds.{is_switch, second_addresses, type_of}
use Rattle.device_core.specs.Place.{begins, settles, place_after_fate, list_of, with_reports, reported_by, reported_from, sent_by, polled_at, frame_sent, after_front, after_failure, tries, tries_after, place_after_poll, front_is_counted, front_is_poll, most_again, class_of_poll}
use Rattle.device_core.specs.Once.{AddressesAreFound, Devices, IsFair, after_fate, FatesKeepOnce}

-- one of three states, all at the same place
three : (b c : Bool) (d x y : State) → x.place ≡ d.place → y.place ≡ d.place → (if b then d else (if c then x else y)).place ≡ d.place
three true c d x y p q = refl
three false true d x y p q = p
three false false d x y p q = q

two : (b : Bool) (d x y : State) → x.place ≡ d.place → y.place ≡ d.place → (if b then x else y).place ≡ d.place
two true d x y p q = p
two false d x y p q = q

-- to queue a frame moves nobody
pub queued-place : (limit at from to : ℕ) (bytes : List ℕ) (d : State) → (with_queued limit at from to bytes d).place ≡ d.place
queued-place limit at from to bytes d =
    three (not (speaks d) || holds d.place to) (nat_lt (length d.queue) limit) d
    (record d { queue = d.queue ++ record { frame = frame_of from to bytes; ready = at; ticket = None } ∷ [] }) (record d { dropped = one_more d.dropped }) refl refl

pub reported_from-place : (limit at : ℕ) (unit : Option ℕ) (d : State) → (reported_from limit at unit d).place ≡ d.place
reported_from-place limit at None d = refl
reported_from-place limit at (Some from) d =
    two (nat_lt from 15 || is_switch d.kind) d (with_queued limit at from 15 (0x84 ∷ d.phys.high ∷ d.phys.low ∷ type_of d.kind from ∷ []) d) d
    (queued-place limit at from 15 (0x84 ∷ d.phys.high ∷ d.phys.low ∷ type_of d.kind from ∷ []) d) refl

reported_by-place : (limit at : ℕ) (units : List (Option ℕ)) (d : State) → (reported_by limit at units d).place ≡ d.place
reported_by-place limit at [] d = refl
reported_by-place limit at (unit ∷ units) d = reported_by-place limit at units (reported_from limit at unit d) ∙ reported_from-place limit at unit d

pub reported-place : (limit at : ℕ) (d : State) → (with_reports limit at d).place ≡ d.place
reported-place limit at d = reported_by-place limit at (addresses_held d.place) d

failed-place : (d : State) → (after_failure d).place ≡ d.place
failed-place d = two (nat_lt d.attempts (most_again d.queue)) d (record d { attempts = d.attempts + 1; class = Retry }) (after_front d) refl refl

pub frame_sent-place : (d : State) (fate : Fate) → (frame_sent d fate).place ≡ d.place
frame_sent-place d Lost = two (front_is_counted d.queue) d (after_failure d) d (failed-place d) refl
frame_sent-place d Delivered = refl
frame_sent-place d Unacked = two (front_is_poll d.queue) d (after_front d) (after_failure d) refl (failed-place d)
frame_sent-place d Broken = two (front_is_poll d.queue) d (record d { class = Retry }) (after_failure d) refl (failed-place d)

pub fifteen : (b : ℕ) → is_held (Some 15) b ≡ false
fifteen b = grind (arith, nat_tests)

only : (b : Bool) → (b || (false || false)) ≡ true → b ≡ true
only true h = refl
only false h = cc

one_of : (b c : Bool) → (b || (c || false)) ≡ true → (b ≡ true) ⊎ (c ≡ true)
one_of true c h = inl refl
one_of false true h = inr refl
one_of false false h = cc

-- who holds an address once a unit has settled held it before, or settled at that one
begins-holds : (a : ℕ) (list : List ℕ) (b : ℕ) → holds (begins a list) b ≡ true → is_held (Some a) b ≡ true
begins-holds a [] b h = only _ h
begins-holds a (x ∷ xs) b h = only _ h

settles-holds : (kind : Kind) (found : Option ℕ) (a b : ℕ) → holds (settles kind found a) b ≡ true → (is_held found b ≡ true) ⊎ (is_held (Some a) b ≡ true)
settles-holds kind None a b h = inr (begins-holds a (second_addresses kind) b h)
settles-holds kind (Some first) a b h = one_of _ _ h

at_15 : (kind : Kind) (found : Option ℕ) (b : ℕ) → holds (settles kind found 15) b ≡ true → is_held found b ≡ true
at_15 kind found b h =
    elim (settles-holds kind found 15 b h) [ inl was ↦ was | inr now ↦ (let e = fifteen b in cc) ]

pub tries-holds : (kind : Kind) (found : Option ℕ) (xs : List ℕ) (b : ℕ) → holds (tries kind found xs) b ≡ true → is_held found b ≡ true
tries-holds kind found [] b h = at_15 kind found b h
tries-holds kind found (x ∷ xs) b h = only _ h

tries_if-holds : (t : Bool) (kind : Kind) (found : Option ℕ) (xs : List ℕ) (p : Place) (b : ℕ) → (holds p b ≡ true → is_held found b ≡ true)
    → holds (if t then tries kind found xs else p) b ≡ true → is_held found b ≡ true
tries_if-holds true kind found xs p b f h = tries-holds kind found xs b h
tries_if-holds false kind found xs p b f h = f h

tries_after-holds : (kind : Kind) (found : Option ℕ) (a : ℕ) (xs : List ℕ) (b : ℕ) → holds (tries_after kind found a xs) b ≡ true → is_held found b ≡ true
tries_after-holds kind found a [] b h = at_15 kind found b h
tries_after-holds kind found a (x ∷ xs) b h = tries_if-holds _ kind found xs _ b (tries_after-holds kind found a xs b) h

same : (a b : ℕ) → is_held (Some a) b ≡ true → a ≡ b
same a b h = grind (arith, nat_tests)

-- who holds an address after the fate of a poll held it before, or has polled it, unacknowledged
polled-holds : (kind : Kind) (found : Option ℕ) (a b : ℕ) (fate : Fate) → holds (place_after_poll kind found a fate) b ≡ true
    → (is_held found b ≡ true) ⊎ ((a ≡ b) × (fate ≡ Unacked))
polled-holds kind found a b Unacked h = elim (settles-holds kind found a b h) [ inl was ↦ inl was | inr now ↦ inr (same a b now, refl) ]
polled-holds kind found a b Delivered h = inl (tries_after-holds kind found a (list_of kind found) b h)
polled-holds kind found a b Lost h = inl (only _ h)
polled-holds kind found a b Broken h = inl (only _ h)

abbrev Was : State → Fate → ℕ → Type 0
Was d fate b = (holds d.place b ≡ true) ⊎ ((polled_at d.place ≡ Some b) × (fate ≡ Unacked))

or_first : (b : Bool) → b ≡ true → (b || (false || false)) ≡ true
or_first true h = refl
or_first false h = h

sent-holds : (limit : ℕ) (d : State) (fate : Fate) (at b : ℕ) (place : Place) → d.place ≡ place
    → holds (sent_by limit d fate at (polled_at place)).place b ≡ true → Was d fate b
sent-holds limit d fate at b Off e h = inl (subst (λ (p : Place). holds p b ≡ true) (frame_sent-place d fate) h)
sent-holds limit d fate at b (Settled first second) e h = inl (subst (λ (p : Place). holds p b ≡ true) (frame_sent-place d fate) h)
sent-holds limit d fate at b (Polls found a) e h =
    let stepped_at : holds (place_after_fate d.kind d.place fate) b ≡ true = subst (λ (p : Place). holds p b ≡ true)
    (reported-place limit at (record d { place = place_after_fate d.kind d.place fate; poll_ready = at; class = class_of_poll fate })) h in
    let now : holds (place_after_poll d.kind found a fate) b ≡ true = subst (λ (p : Place). holds (place_after_fate d.kind p fate) b ≡ true) e stepped_at in
    elim (polled-holds d.kind found a b fate now) [
      | inl was ↦ inl (subst (λ (p : Place). holds p b ≡ true) (sym e) (or_first _ was))
      | inr new ↦ inr (ap polled_at e ∙ ap Some new.0, new.1)
    ]

informed-holds : (limit at : ℕ) (d : State) (fate : Fate) (sends : Option (List ℕ)) (b : ℕ)
    → holds (after_fate limit at d fate sends).place b ≡ true → (holds d.place b ≡ true) ⊎ ((is_some sends ≡ true) × (polled_at d.place ≡ Some b) × (fate ≡ Unacked))
informed-holds limit at d fate None b h = inl h
informed-holds limit at d fate (Some frame) b h =
    elim (sent-holds limit d fate at b d.place refl h) [ inl was ↦ inl was | inr now ↦ inr (refl, now.0, now.1) ]

-- a holder that sends to its own address: there is none
nobody : (begin : ℕ) (sends : ℕ → Option (List ℕ)) (fate : ℕ → Fate) (d : Devices) → IsFair begin sends fate d
    → (i j a : ℕ) → is_some (sends i) ≡ true → polled_at (d i).place ≡ Some a → fate i ≡ Unacked → holds (d j).place a ≡ true → ⊥
nobody begin sends fate d fair i j a sent polls un held =
    let u = fair.unheard i j a sent polls un held in
    let e = fair.elsewhere j u.0 u.1.0 in
    let own : holds (d j).place (slice_index u.0 0 % 16) ≡ true = rw u.1.1 held in
    let clash : not true ≡ true = sym (ap not own) ∙ e in cc

pub fates_keep_once : FatesKeepOnce
fates_keep_once limit begin at sends fate d fair once i j a hi hj =
    elim (informed-holds limit at (d i) (fate i) (sends i) a hi) [
      | inl oldi ↦ elim (informed-holds limit at (d j) (fate j) (sends j) a hj) [
        | inl oldj ↦ once i j a oldi oldj
        | inr newj ↦ absurd (nobody begin sends fate d fair j i a newj.0 newj.1 newj.2 oldi)
      ]
      | inr newi ↦ elim (informed-holds limit at (d j) (fate j) (sends j) a hj) [
        | inl oldj ↦ absurd (nobody begin sends fate d fair i j a newi.0 newi.1 newi.2 oldj)
        | inr newj ↦ sym (fair.aligned i a newi.0 newi.1) ∙ fair.aligned j a newj.0 newj.1
      ]
    ]

pub addresses_are_found : AddressesAreFound
addresses_are_found limit at a fate d h = sent-holds limit d fate at a d.place refl h
