-- A reading as far as the line before an instant gives it, by the standard's windows.
use Rattle.line_reading.specs.Causality.{ReadingsAreCausal}
use Rattle.line_reading.specs.Known.{StartLowTellsNothing, StartHighTellsNothing, RisenStartsGoByFalls, LateSlotsAreUnknown, SlotsAreKnownInside}
use Rattle.line_reading.specs.Over.{SlotsOverAfterFall}
use Rattle.line_reading.specs.Reading.{read_slots}
use Rattle.line_reading.specs.Windows.{standard}
use Rattle.line_reading.proofs.Standard.{standard_are}
use Rattle.line_reading.proofs.CausesBy as by
pub use Rattle.line_reading.proofs.CausesBy.{last_plain, known_then, known_front}

pub not_over : SlotsOverAfterFall
unfolding read_slots
not_over = by.not_over standard standard_are

pub late_read : LateSlotsAreUnknown
unfolding read_slots
late_read = by.late_read standard standard_are

-- The law: what a reading reports before t depends on the line before t alone.
pub reading_alike : ReadingsAreCausal
unfolding read_slots
reading_alike = by.reading_alike standard standard_are

-- The law that joins a receiver to a round: in a slot at t, what the line told before t are the
-- receiver's slots, and its own slot with the bit if that is sampled.
pub known_in_slot : SlotsAreKnownInside
unfolding read_slots
known_in_slot = by.known_in_slot standard standard_are

pub known_start_low : StartLowTellsNothing
unfolding read_slots
known_start_low = by.known_start_low standard standard_are

pub start_risen : RisenStartsGoByFalls
unfolding read_slots
start_risen = by.start_risen standard standard_are

pub known_start_high : StartHighTellsNothing
unfolding read_slots
known_start_high = by.known_start_high standard standard_are
