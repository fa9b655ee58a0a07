-- Logical address allocation (CEC 10.2.1) by all fates so far.
use Rattle.std.specs.Prelude.{◌≡◌, ℕ, List, [], ◌∷◌, None}
use Rattle.text_core.specs.declared.kind.Kind.{Kind}
use Rattle.text_core.specs.declared.phys.Phys.{Phys}
use Rattle.device_features.specs.Kinds.{addresses}
use Rattle.device_core.specs.declared.place.Place.{Place}
use Rattle.line_frames.specs.declared.Fate.{Fate}
use Rattle.device_core.specs.State.{State}
use Rattle.device_core.specs.Place.{place_after_fate, tries, place_after, start_place, after_joining, after_sending}

abbrev pub place_reported : Kind → Place → List Fate → Place
place_reported kind place [] = place
place_reported kind place (fate ∷ fates) = place_reported kind (place_after_fate kind place fate) fates

-- A device begins at the head of its kind's list, and each fate that it learns moves it by a step, where it polls; so
-- it stands where all the fates of its polls so far put it.
pub record PlaceGoesByFates : Type 0 where
  pub joining : (limit number at : ℕ) (phys : Phys) (d : State) → (after_joining limit d number phys at).place ≡ start_place d.kind phys
  pub reporting : (limit at : ℕ) (fate : Fate) (d : State) → (after_sending limit d fate at).place ≡ place_after_fate d.kind d.place fate
  pub by_all : (kind : Kind) (fates : List Fate) → place_reported kind (tries kind None (addresses kind)) fates ≡ place_after kind fates
