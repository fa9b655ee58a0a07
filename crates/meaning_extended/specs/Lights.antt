-- Luminances of the codes that a block of Dolby may have, by the place of the code (SMPTE ST 2084, section 5.1, of 12 bits).
use Rattle.std.specs.Prelude.{ℕ, slice_index}
use Rattle.meaning_extended.specs.declared.lights.TheConstants.{PEAKS, FLOORS}

-- of the code 2055 and 65 times the place, in 1 cd/m2
unfoldable pub peak : ℕ → ℕ
peak place = slice_index PEAKS.now place

-- of the code 20 times the place, in thousand millionths of that
unfoldable pub floor : ℕ → ℕ
floor place = slice_index FLOORS.now place
