-- Where one who hears a line microsecond by microsecond stands, by the standard's windows.
use Rattle.std.proofs.Common.{ℕ, ◌+◌, ◌<◌, List, [], ◌∷◌, ◌++◌}
use Rattle.line_wave.specs.Line.{Line}
use Rattle.line_reading.specs.Reading.{reading_of}
use Rattle.line_reading.specs.Readings.{IsFirstFall}
use Rattle.line_reading.specs.Hears.{hears}
use Rattle.line_reading.specs.Windows.{standard}
use Rattle.line_reading.proofs.Standard.{standard_are}
use Rattle.line_reading.proofs.StoodBy as by
use Rattle.line_reading.specs.Reading.{read_slots}
use Rattle.line_reading.specs.Places.{ArePast, StandsIn, ListenersStep, ListenersStand}

pub past_later : (low : Line) (n from : ℕ) (es : List ℕ) (to : ℕ) → ArePast low n from es to → ArePast low (n + 1) from es to
unfolding read_slots hears StandsIn
past_later = by.past_later standard standard_are

pub past_more : (low : Line) (n from : ℕ) (es : List ℕ) (to e : ℕ) → ArePast low n from es to → IsFirstFall low to e → e < n → (reading_of low e).at < n → ArePast low n from (es ++ e ∷ []) ((reading_of low e).until + 1)
unfolding read_slots hears StandsIn
past_more = by.past_more standard standard_are

pub step : ListenersStep
unfolding read_slots hears StandsIn
step = by.step standard standard_are

-- Where a line has been heard before n
pub stands_at : ListenersStand
unfolding read_slots hears StandsIn
stands_at = by.stands_at standard standard_are
