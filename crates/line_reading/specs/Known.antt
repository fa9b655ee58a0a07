-- What is known of a reading before an instant: nothing in the start bit, then slot by slot (own).
use Rattle.std.specs.Prelude.{◌≡◌, ℕ, suc, ◌+◌, ◌-◌, ◌<◌, ◌≤◌, Bool, false, not, List, [], ◌∷◌, ◌++◌, Option, Some, None, IsSome}
use Rattle.std.specs.List.{filter_map}
use Rattle.std.specs.Option.{option_to_list}
use Rattle.line_wave.specs.Line.{is_fall, is_rise}
use Rattle.line_frames.specs.declared.Ending.{Ending}
use Rattle.line_reading.specs.Windows.{standard, sample_at}
use Rattle.line_reading.specs.Reading.{next_fall, next_rise, Read, Slot, Known, read_slots, read_then, last_ending, last_heard, bit_sampled_at, known_at, known_slot, reading_of, start_of, start_fall}

unfoldable pub nothing : Known
nothing = record { slots = []; ended = None }

-- a reading that began with these slots
abbrev pub with_slots : List Slot → Read → Read
with_slots xs r = record { slots = xs ++ r.slots; ending = r.ending; at = r.at; until = r.until }

-- all of them were sampled before t
abbrev pub AreSampled : ℕ → List Slot → Type 0
AreSampled t [] = Unit {0}
AreSampled t (s ∷ ss) = (s.fall + sample_at < t) × AreSampled t ss

-- an ending that is reported at its own instant
abbrev pub IsPlain : Option Ending → Type 0
IsPlain None = Unit {0}
IsPlain (Some ending) = (at : ℕ) → last_heard ending at ≡ at

-- ---- in the start bit

-- While the line has not risen, and may still rise in time, nothing is known.
abbrev pub StartLowTellsNothing : Type 0
StartLowTellsNothing =
    (low : ℕ → Bool) (e t : ℕ) → t ≤ e + (standard.start_low.most + 1) → ((u : ℕ) → e < u → u < t → is_rise low u ≡ false) → known_at t (reading_of low e) ≡ nothing

-- Nor while no fall has come after a rise in time, and one may still come in time.
abbrev pub StartHighTellsNothing : Type 0
StartHighTellsNothing =
    (low : ℕ → Bool) (e r t : ℕ) → next_rise low e standard.start_low.most ≡ Some r → e + standard.start_low.least ≤ r → t ≤ e + standard.start_total.most
    → ((u : ℕ) → r < u → u < t → is_fall low u ≡ false) → known_at t (reading_of low e) ≡ nothing

-- After a rise in time the start bit goes by the next fall.
abbrev pub RisenStartsGoByFalls : Type 0
RisenStartsGoByFalls =
    (low : ℕ → Bool) (e r : ℕ) → next_rise low e standard.start_low.most ≡ Some r → e + standard.start_low.least ≤ r
    → start_of low e ≡ start_fall e (next_fall low r (e + standard.start_total.most - r))

-- ---- slot by slot

-- Nothing is known of slots that fall at t or later.
abbrev pub LateSlotsAreUnknown : Type 0
LateSlotsAreUnknown = (t : ℕ) (low : ℕ → Bool) (left : ℕ) (bits : List Bool) (e : ℕ) → t ≤ e → known_at t (read_slots low left bits e) ≡ nothing

-- One that fell before t is known, and so is what is known of those after it.
abbrev pub FallenSlotsAreKnown : Type 0
FallenSlotsAreKnown =
    (t : ℕ) (s : Slot) (r : Read) → s.fall < t → known_at t (read_then s r) ≡ record { slots = known_slot t s ∷ (known_at t r).slots; ended = (known_at t r).ended }

-- Slots that were sampled before t are known as they are.
abbrev pub SampledSlotsAreKnown : Type 0
SampledSlotsAreKnown =
    (t : ℕ) (xs : List Slot) (r : Read) → AreSampled t xs → known_at t (with_slots xs r) ≡ record { slots = xs ++ (known_at t r).slots; ended = (known_at t r).ended }

-- In a slot, before anything ends it, the slots before it are known, and its own, with its bit if that is sampled.
abbrev pub SlotsAreKnownInside : Type 0
SlotsAreKnownInside =
    (low : ℕ → Bool) (begin t e left : ℕ) (xs : List Slot) (bits : List Bool)
    → with_slots xs (read_slots low (suc left) bits e) ≡ reading_of low begin → AreSampled t xs → e < t
    → ((u : ℕ) → e < u → u < t → is_fall low u ≡ false) → t ≤ e + standard.bit_total.most → (IsSome (last_ending bits) → t ≤ e + sample_at)
    → known_at t (reading_of low begin) ≡ record { slots = xs ++ known_slot t (record { fall = e; bit = bit_sampled_at low e }) ∷ []; ended = None }

-- A slot without a fall up to its sample has the bit of the line's level there: 1 where it is high.
abbrev pub QuietSlotsAreSampled : Type 0
QuietSlotsAreSampled =
    (low : ℕ → Bool) (e : ℕ) → ((u : ℕ) → e < u → u < e + (sample_at + 1) → is_fall low u ≡ false) → bit_sampled_at low e ≡ Some (not (low (e + sample_at)))

-- A slot more adds its bit, if it has one, to the bits.
abbrev pub SlotsAddTheirBits : Type 0
SlotsAddTheirBits =
    (xs : List Slot) (bits : List Bool) (s : Slot) → filter_map (λ x. x.bit) xs ≡ bits → filter_map (λ x. x.bit) (xs ++ s ∷ []) ≡ bits ++ option_to_list s.bit

-- The ending of a last slot is reported at its own instant.
abbrev pub LastEndingsArePlain : Type 0
LastEndingsArePlain = (bits : List Bool) → IsPlain (last_ending bits)
