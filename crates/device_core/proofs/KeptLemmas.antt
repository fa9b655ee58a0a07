-- What each call keeps: what is queued goes to others, and polls and addresses are of the kind's lists.
use Rattle.std.proofs.Common.{◌≡◌, ℕ, ◌+◌, ◌*◌, ◌%◌, ◌/◌, Bool, true, false, not, ◌&&◌, ◌||◌, if◌then◌else◌, nat_lt, List, [], ◌∷◌, length, slice_index, Option, Some, None, ◌⊎◌, inl, inr, refl, sym, subst, ◌∙◌, arith}
use Rattle.std.proofs.lemmas.Bool.Decides.{nat_tests}
use Rattle.text_core.specs.declared.kind.Kind.{Kind}
use Rattle.text_core.specs.declared.kind.Kind.TheVariants.{Tv, Amp, Player, Recorder, Switch, Combo, Outside, OutsideTv}
use Rattle.device_core.specs.declared.place.Place.{Place}
use Rattle.device_core.specs.declared.place.Place.TheVariants.{Polls}
use Rattle.device_features.specs.Kinds.{addresses, is_in, is_outside, recorders, second_addresses}
use Rattle.device_core.specs.declared.device.Ticket.{Ticket}
use Rattle.device_core.specs.State.{State, holds, is_held}
use Rattle.device_core.specs.Place.{is_off, settled_at, start_place, submitted_by}
use Rattle.device_core.specs.declared.device.SubmitError.TheVariants.{QueueFull, OwnAddress, NoAddress, OffWire}
use Rattle.device_core.specs.Keys.{key_fault}
use Rattle.device_core.specs.Once.{goes_elsewhere}
use Rattle.device_core.specs.Listed.{is_listed, listed_at, may_take}
use Rattle.device_core.specs.Clean.{KeepsClean, clean_at, is_clean}
use Rattle.device_core.proofs.CleanLemmas.{is_clear, clean-by_tests, clean-empty, clean-followed, clean-front, clean-keyed, clean-reported, clean-sent}
use Rattle.device_core.proofs.ListedLemmas.{and_left, and_right, both, holds_listed, players_are}
use Rattle.device_core.proofs.NumberLemmas.{put_on}

-- ---- a poll goes to no unit of its own

-- a recorder's address, or 15, is no player's
other_list : (first a : ℕ) → may_take recorders first ≡ true → (a ≡ 4) ⊎ ((a ≡ 8) ⊎ (a ≡ 11)) → is_held (Some first) ((a * 16 + a) % 16) ≡ false
other_list first a h (inl e) = rw e (grind (arith, nat_tests))
other_list first a h (inr (inl e)) = rw e (grind (arith, nat_tests))
other_list first a h (inr (inr e)) = rw e (grind (arith, nat_tests))

other_unit : (kind : Kind) (first a : ℕ) → may_take (addresses kind) first ≡ true → is_in (second_addresses kind) a ≡ true
    → is_held (Some first) ((a * 16 + a) % 16) ≡ false
other_unit Tv first a h k = cc
other_unit Recorder first a h k = cc
other_unit Player first a h k = cc
other_unit Amp first a h k = cc
other_unit Switch first a h k = cc
other_unit Outside first a h k = cc
other_unit OutsideTv first a h k = cc
other_unit Combo first a h k = other_list first a h (players_are a k)

first_not : (b : Bool) → b ≡ false → not (b || (false || false)) ≡ true
first_not true h = cc
first_not false h = refl

poll_elsewhere : (kind : Kind) (found : Option ℕ) (a : ℕ) → listed_at kind (Polls found a) ≡ true → goes_elsewhere (Polls found a) ((a * 16 + a) ∷ []) ≡ true
poll_elsewhere kind None a h = refl
poll_elsewhere kind (Some first) a h = first_not _ (other_unit kind first a (and_left _ _ h) (and_right _ _ h))

front_elsewhere : (d : State) (place : Place) → d.place ≡ place → is_listed d ≡ true → (found : Option ℕ) (a : ℕ) → place ≡ Polls found a
    → goes_elsewhere place ((a * 16 + a) ∷ []) ≡ true
front_elsewhere d place e l found a p =
    subst (λ (q : Place). goes_elsewhere q ((a * 16 + a) ∷ []) ≡ true) (sym p)
    (poll_elsewhere d.kind found a (subst (λ (q : Place). listed_at d.kind q ≡ true) (e ∙ p) l))

-- ---- together

listed : (d : State) → is_clean d ≡ true → is_listed d ≡ true
listed d k = and_left (is_listed d) (clean_at d.place d.queue) k

clear : (d : State) → is_clean d ≡ true → clean_at d.place d.queue ≡ true
clear d k = and_right (is_listed d) (clean_at d.place d.queue) k

-- a frame that is handed to a device that is not from outside
clean-inside : (limit : ℕ) (outside : Bool) → outside ≡ false → (d : State) (frame : List ℕ) (ticket : Ticket) (at : ℕ) → clean_at d.place d.queue ≡ true
    → is_clear (submitted_by d frame ticket at (if is_off d.place then Some OffWire else (if not (outside || settled_at d.place (slice_index frame 0 / 16)) then Some NoAddress else (
    if not outside && holds d.place (slice_index frame 0 % 16) then Some OwnAddress else (if nat_lt (length d.queue) limit then None else Some QueueFull))))) ≡ true
clean-inside limit true e d frame ticket at k = cc
clean-inside limit false e d frame ticket at k =
    clean-by_tests (is_off d.place) (settled_at d.place (slice_index frame 0 / 16)) (holds d.place (slice_index frame 0 % 16)) (nat_lt (length d.queue) limit) d frame ticket at refl refl k

pub keeps_clean : KeepsClean
keeps_clean = record {
  leaving = λ d. refl;
  joining = λ limit number at phys d. both _ _ (holds_listed.joining limit number at phys d)
      (clean-reported limit at (put_on number at phys d) (clean-empty (start_place d.kind phys)));
  reporting = λ limit at fate d k. both _ _ (holds_listed.reporting limit at fate d (listed d k)) (clean-sent limit at fate d d.place refl (clear d k));
  waiting = λ d k. k;
  submitting = λ limit at frame ticket d own k. both _ _ (holds_listed.submitting limit at frame ticket d (listed d k)) (clean-inside limit (is_outside d.kind) own d frame ticket at (clear d k));
  following = λ limit at frame d k. both _ _ (holds_listed.following limit at frame d (listed d k)) (clean-followed limit at frame d (clear d k));
  keying = λ limit at key press d k. both _ _ (holds_listed.keying limit at key press d (listed d k)) (clean-keyed limit at key press d (key_fault d key) (clear d k));
  sending = λ d frame k e. clean-front d.place d.queue frame (clear d k) (front_elsewhere d d.place refl (listed d k)) e;
  listing = λ d k. listed d k;
}
