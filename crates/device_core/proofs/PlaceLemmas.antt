-- Step by step, and by all fates at once.
use Rattle.std.proofs.Common.{◌≡◌, ℕ, List, [], ◌∷◌, Option, Some, None, refl, ap, ◌∙◌}
use Rattle.text_core.specs.declared.kind.Kind.{Kind}
use Rattle.text_core.specs.declared.kind.Kind.TheVariants.{Tv, Amp, Player, Recorder, Switch, Combo, Outside, OutsideTv}
use Rattle.device_core.specs.declared.place.Place.{Place}
use Rattle.device_core.specs.declared.place.Place.TheVariants.{Off, Polls, Settled}
use Rattle.line_frames.specs.declared.Fate.{Fate}
use Rattle.line_frames.specs.declared.Fate.TheVariants.{Delivered, Unacked, Lost, Broken}
use Rattle.device_core.specs.State.{State}
use Rattle.device_features.specs.Kinds.{addresses, players, second_addresses}
use Rattle.device_core.specs.Place.{class_of_poll, place_after, polled_at, place_after_search, second_after, sent_by, settles, place_after_fate, tries}
use Rattle.device_core.proofs.OnceLemmas.{frame_sent-place, reported-place}
use Rattle.device_core.proofs.NumberLemmas.{put_on}
use Rattle.device_core.specs.PlaceLaw.{place_reported, PlaceGoesByFates}

-- who has settled stays
settled : (kind : Kind) (first : ℕ) (second : Option ℕ) (fates : List Fate) → place_reported kind (Settled first second) fates ≡ Settled first second
settled kind first second [] = refl
settled kind first second (fate ∷ fates) = settled kind first second fates

-- what follows where a unit has settled, by the fates that are left
abbrev Goes : Kind → Option ℕ → (ℕ → List Fate → Place) → Type 0
Goes kind found then = (a : ℕ) (fates : List Fate) → place_reported kind (settles kind found a) fates ≡ then a fates

-- a unit's search from some addresses on
abbrev Searches : Kind → Option ℕ → (ℕ → List Fate → Place) → ℕ → List ℕ → Type 0
Searches kind found then a rest = (fates : List Fate) → place_reported kind (Polls found a) fates ≡ place_after_search (λ b. Polls found b) then (a ∷ rest) fates

-- the last address of a list, and one before the others
last : (kind : Kind) (found : Option ℕ) (then : ℕ → List Fate → Place) → Goes kind found then → (a : ℕ)
    → place_after_fate kind (Polls found a) Delivered ≡ settles kind found 15 → Searches kind found then a []
last kind found then goes a e [] = refl
last kind found then goes a e (Unacked ∷ fates) = goes a fates
last kind found then goes a e (Delivered ∷ fates) = rw e (goes 15 fates)
last kind found then goes a e (Lost ∷ fates) = last kind found then goes a e fates
last kind found then goes a e (Broken ∷ fates) = last kind found then goes a e fates

before : (kind : Kind) (found : Option ℕ) (then : ℕ → List Fate → Place) → Goes kind found then → (a b : ℕ) (rest : List ℕ)
    → place_after_fate kind (Polls found a) Delivered ≡ Polls found b → Searches kind found then b rest → Searches kind found then a (b ∷ rest)
before kind found then goes a b rest e next [] = refl
before kind found then goes a b rest e next (Unacked ∷ fates) = goes a fates
before kind found then goes a b rest e next (Delivered ∷ fates) = rw e (next fates)
before kind found then goes a b rest e next (Lost ∷ fates) = before kind found then goes a b rest e next fates
before kind found then goes a b rest e next (Broken ∷ fates) = before kind found then goes a b rest e next fates

-- a device of one unit has then settled
alone : (kind : Kind) → second_addresses kind ≡ [] → Goes kind None (second_after (second_addresses kind))
alone kind e a fates = rw e (settled kind a None fates)

-- the player of a box, whose recorder has settled
player_searches : (first : ℕ) → Searches Combo (Some first) (λ second _. Settled first (Some second)) 4 (8 ∷ 11 ∷ [])
player_searches first =
    before Combo (Some first) (λ second _. Settled first (Some second)) (λ a fates. settled Combo first (Some a) fates) 4 8 (11 ∷ []) refl
    (before Combo (Some first) (λ second _. Settled first (Some second)) (λ a fates. settled Combo first (Some a) fates) 8 11 [] refl
    (last Combo (Some first) (λ second _. Settled first (Some second)) (λ a fates. settled Combo first (Some a) fates) 11 refl))

by_all : (kind : Kind) (fates : List Fate) → place_reported kind (tries kind None (addresses kind)) fates ≡ place_after kind fates
by_all Tv = before Tv None (second_after []) (alone Tv refl) 0 14 [] refl (last Tv None (second_after []) (alone Tv refl) 14 refl)
by_all Recorder =
    before Recorder None (second_after []) (alone Recorder refl) 1 2 (9 ∷ []) refl
    (before Recorder None (second_after []) (alone Recorder refl) 2 9 [] refl (last Recorder None (second_after []) (alone Recorder refl) 9 refl))
by_all Player =
    before Player None (second_after []) (alone Player refl) 4 8 (11 ∷ []) refl
    (before Player None (second_after []) (alone Player refl) 8 11 [] refl (last Player None (second_after []) (alone Player refl) 11 refl))
by_all Amp = last Amp None (second_after []) (alone Amp refl) 5 refl
by_all Switch = settled Switch 15 None
by_all Outside = settled Outside 15 None
by_all OutsideTv = settled OutsideTv 15 None
by_all Combo =
    before Combo None (second_after players) player_searches 1 2 (9 ∷ []) refl
    (before Combo None (second_after players) player_searches 2 9 [] refl (last Combo None (second_after players) player_searches 9 refl))

-- a fate moves a device that polls, by a step
informed-place : (limit at : ℕ) (fate : Fate) (d : State) (place : Place) → d.place ≡ place
    → (sent_by limit d fate at (polled_at place)).place ≡ place_after_fate d.kind place fate
informed-place limit at fate d Off e = frame_sent-place d fate ∙ e
informed-place limit at fate d (Settled first second) e = frame_sent-place d fate ∙ e
informed-place limit at fate d (Polls found a) e =
    reported-place limit at (record d { place = place_after_fate d.kind d.place fate; poll_ready = at; class = class_of_poll fate })
    ∙ ap (λ (p : Place). place_after_fate d.kind p fate) e

pub place_goes_by_fates : PlaceGoesByFates
place_goes_by_fates = record {
  joining = λ limit number at phys d. reported-place limit at (put_on number at phys d);
  reporting = λ limit at fate d. informed-place limit at fate d d.place refl;
  by_all = by_all;
}
