-- Worked rows of lists of readings.
use Rattle.std.specs.Prelude.{◌≡◌, ℕ, Bool, true, List, [], ◌∷◌, refl}
use Rattle.line_wave.specs.declared.Stretch.{Stretch}
use Rattle.line_wave.specs.Line.{line_of}
use Rattle.line_frames.specs.declared.Ending.{Ending}
use Rattle.line_frames.specs.declared.Ending.TheVariants.{Short, Silent, BadStart, Open}
use Rattle.line_reading.specs.Reading.{first_in, read_slots}
use Rattle.line_reading.specs.Readings.{Listed, readings_from, readings_of}

abbrev low_from : ℕ → ℕ → Stretch
low_from from to = record { from = from; to = to }

abbrev reading : ℕ → ℕ → Ending → List Bool → Listed
reading begin at ending bits = record { begin = begin; reported = record { bits = bits; ending = ending; at = at } }

-- a pulse that looks like a start bit, and nothing after it
bad_row : readings_of (line_of (low_from 1000 4700 ∷ [])) 20000 ≡ reading 1000 5701 BadStart [] ∷ []
unfolding first_in readings_from
bad_row = refl

-- a start bit and a slot, and nothing after it; the same cut before that is known
silent_row : readings_of (line_of (low_from 1000 4700 ∷ low_from 5500 6100 ∷ [])) 20000 ≡ reading 1000 8251 Silent (true ∷ []) ∷ []
unfolding first_in readings_from read_slots
silent_row = refl

open_row : readings_of (line_of (low_from 1000 4700 ∷ low_from 5500 6100 ∷ [])) 7000 ≡ reading 1000 7000 Open (true ∷ []) ∷ []
unfolding first_in readings_from read_slots
open_row = refl

-- cut in the microsecond before the ending, and at it
before_row : readings_of (line_of (low_from 1000 4700 ∷ low_from 5500 6100 ∷ [])) 8250 ≡ reading 1000 8250 Open (true ∷ []) ∷ []
unfolding first_in readings_from read_slots
before_row = refl

at_row : readings_of (line_of (low_from 1000 4700 ∷ low_from 5500 6100 ∷ [])) 8251 ≡ reading 1000 8251 Silent (true ∷ []) ∷ []
unfolding first_in readings_from read_slots
at_row = refl

-- a fall at the instant of a late ending begins the next reading
silent_then_row : readings_of (line_of (low_from 1000 4700 ∷ low_from 5500 6100 ∷ low_from 8251 9000 ∷ [])) 9500
    ≡ reading 1000 8251 Silent (true ∷ []) ∷ reading 8251 9000 BadStart [] ∷ []
unfolding first_in readings_from read_slots
silent_then_row = refl

bad_then_row : readings_of (line_of (low_from 1000 4700 ∷ low_from 5701 5800 ∷ [])) 6000 ≡ reading 1000 5701 BadStart [] ∷ reading 5701 5800 BadStart [] ∷ []
unfolding first_in readings_from
bad_then_row = refl

-- a fall that breaks a reading begins none
short_row : readings_of (line_of (low_from 1000 4700 ∷ low_from 5500 6100 ∷ low_from 7000 7400 ∷ low_from 8000 8100 ∷ [])) 8200
    ≡ reading 1000 7000 Short (true ∷ []) ∷ reading 8000 8100 BadStart [] ∷ []
unfolding first_in readings_from read_slots
short_row = refl
