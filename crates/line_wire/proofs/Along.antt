-- Along the slots of a reading, by the standard's windows.
use Rattle.std.proofs.Common.{◌≡◌, ℕ, suc, ◌+◌, ◌<◌, ◌≤◌, Bool, true, false, List, [], ◌∷◌, ◌++◌, Some, None, arith}
use Rattle.line_wave.specs.Line.{Line, is_fall}
use Rattle.line_frames.specs.declared.Ending.{Ending}
use Rattle.line_reading.specs.Reading.After.{Ends}
use Rattle.line_reading.specs.Reading.{next_fall, Slot, known_at, known_slot, bit_sampled_at, reading_of, read_slots, after_slot, last_ending, last_heard}
use Rattle.line_reading.specs.Windows.{standard}
use Rattle.line_reading.proofs.Standard.{standard_are}
use Rattle.line_reading.specs.Places as places
use Rattle.line_reading.proofs.AlongBy as by
use Rattle.line_reading.proofs.Search.{first_in_none, first_in_some}
use Rattle.line_reading.specs.Known.{AreSampled}

-- the first fall after this one comes at t, or none comes in time
pub next_here : (low : Line) (fall t within : ℕ) → ((u : ℕ) → fall < u → u < t → is_fall low u ≡ false) → fall < t → t ≤ fall + within → is_fall low t ≡ true → next_fall low fall within ≡ Some t
next_here low fall t within q a l f = first_in_some (is_fall low) (fall + 1) within t (omega arith) (omega arith) f (λ u b c. q u (omega arith) c)

pub next_none : (low : Line) (fall t within : ℕ) → ((u : ℕ) → fall < u → u < t → is_fall low u ≡ false) → fall + within < t → next_fall low fall within ≡ None
next_none low fall t within q l = first_in_none (is_fall low) (fall + 1) within (λ u b c. q u (omega arith) (omega arith))

abbrev pub AreOver : ℕ → List Slot → Type 0
AreOver = places.AreOver standard

abbrev pub Reached : Line → ℕ → ℕ → List Slot → List Bool → ℕ → Type 0
Reached = places.Reached standard

pub over_sampled : (e t : ℕ) (ss : List Slot) → e ≤ t → AreOver e ss → AreSampled t ss
over_sampled = by.over_sampled standard standard_are

pub ends_so : (low : Line) (begin left : ℕ) (xs : List Slot) (before : List Bool) (e : ℕ) (ending : Ending) (at : ℕ) → Reached low begin (suc left) xs before e → after_slot low e (last_ending before) ≡ Ends ending at
    → reading_of low begin ≡ record { slots = xs ++ record { fall = e; bit = bit_sampled_at low e } ∷ []; ending = ending; at = at; until = last_heard ending at }
unfolding read_slots
ends_so = by.ends_so standard standard_are

pub known_ending : (low : Line) (begin left : ℕ) (xs : List Slot) (bits : List Bool) (e t : ℕ) (ending : Ending) (at : ℕ) → Reached low begin (suc left) xs bits e → e < t
    → after_slot low e (last_ending bits) ≡ Ends ending at → (known_at t (reading_of low begin)).slots ≡ xs ++ known_slot t (record { fall = e; bit = bit_sampled_at low e }) ∷ []
unfolding read_slots
known_ending = by.known_ending standard standard_are
