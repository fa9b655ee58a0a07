-- What readings by other windows have in common with those by the standard's (own).
use Rattle.std.specs.Prelude.{◌≡◌, ℕ, ◌+◌, ◌≤◌, Bool, true, not, List, [], ◌∷◌, Some}
use Rattle.line_wave.specs.Line.{Line}
use Rattle.line_reading.specs.declared.times.Windows.{Windows}
use Rattle.line_reading.specs.Windows.{standard, wider, most_margin, sample_at}
use Rattle.line_reading.specs.Reading.{Slot, reading_by, reading_of}
use Rattle.line_reading.specs.Sending.{has_all}

-- each window of the one holds that of the other
pub record Hold (wide narrow : Windows) : Type 0 where
  pub low_least : wide.start_low.least ≤ narrow.start_low.least
  pub low_most : narrow.start_low.most ≤ wide.start_low.most
  pub total_least : wide.start_total.least ≤ narrow.start_total.least
  pub total_most : narrow.start_total.most ≤ wide.start_total.most
  pub bit_least : wide.bit_total.least ≤ narrow.bit_total.least
  pub bit_most : narrow.bit_total.most ≤ wide.bit_total.most

-- A reading with all its blocks is the same by all windows that hold those by which it was read.
abbrev pub WholeAreAlike : Type 0
WholeAreAlike = (wide narrow : Windows) (low : ℕ → Bool) (begin : ℕ) → Hold wide narrow → has_all (reading_by narrow low begin).ending ≡ true → reading_by wide low begin ≡ reading_by narrow low begin

-- So a line that the standard's windows read so is read alike with every margin.
abbrev pub MarginsAreAlike : Type 0
MarginsAreAlike = (margin : ℕ) (low : ℕ → Bool) (begin : ℕ) → margin ≤ most_margin → has_all (reading_of low begin).ending ≡ true → reading_by (wider margin) low begin ≡ reading_of low begin

-- the bit of each slot is the line's level at its sample: 1 where the line is high
abbrev pub AreLevels : Line → List Slot → Type 0
AreLevels low [] = Unit {0}
AreLevels low (s ∷ ss) = ((bit : Bool) → s.bit ≡ Some bit → bit ≡ not (low (s.fall + sample_at))) × AreLevels low ss

-- By whatever windows, the bits that were sampled are the line's levels.
abbrev pub BitsAreLevels : Type 0
BitsAreLevels = (windows : Windows) (low : ℕ → Bool) (begin : ℕ) → AreLevels low (reading_by windows low begin).slots

-- The readings without windows are those by the standard's.
abbrev pub ReadsByStandard : Type 0
ReadsByStandard = (low : ℕ → Bool) (begin : ℕ) → reading_by standard low begin ≡ reading_of low begin
