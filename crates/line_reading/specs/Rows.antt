-- Worked rows of readings.
use Rattle.std.specs.Prelude.{◌≡◌, List, [], ◌∷◌, refl, Some}
use Rattle.line_wave.specs.declared.Stretch.{Stretch}
use Rattle.line_wave.specs.Line.{line_of}
use Rattle.line_reading.specs.Windows.{standard}
use Rattle.line_reading.specs.Reading.{reading_of, first_in, next_rise}
use Rattle.line_frames.specs.declared.Ending.TheVariants.{BadStart}

abbrev pub one_pulse : List Stretch
one_pulse = record { from = 1000; to = 4700 } ∷ []

rise_row : next_rise (line_of one_pulse) 1000 standard.start_low.most ≡ Some 4700
unfolding first_in
rise_row = refl

-- a pulse that looks like a start bit and nothing after it
start_row : reading_of (line_of one_pulse) 1000 ≡ record { slots = []; ending = BadStart; at = 5701; until = 5700 }
unfolding first_in
start_row = refl
