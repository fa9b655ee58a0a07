-- The names and serial numbers of a product among its descriptors (E-EDID Release A, section 3.10.3, tags FC and FF), and the places
-- for them: those of the display's names and serial numbers, and unused ones (tag 10). Which of them a receiver's take is own.
use Rattle.std.specs.Prelude.{ℕ, ◌==◌, Bool, true, false, nat_lt, if◌then◌else◌, List, [], ◌∷◌, length, drop, filter, slice_index_or}
use Rattle.edid_base.specs.declared.descriptor.Descriptor.{Descriptor}
use Rattle.edid_base.specs.declared.descriptor.Descriptor.TheVariants.{Timing, Name, Text, SerialText, Range, Dummy, Raw}
use Rattle.edid_merge.specs.declared.labels.Label.{Label}
use Rattle.edid_merge.specs.declared.labels.Label.TheVariants as labels
use Rattle.edid_merge.specs.declared.labels.Seat.{Seat}
use Rattle.edid_merge.specs.declared.labels.Seat.TheVariants as seats

abbrev pub is_name : Descriptor → Bool
is_name (Name text) = true
is_name (SerialText text) = false
is_name (Timing timing) = false
is_name (Text text) = false
is_name (Range limits) = false
is_name Dummy = false
is_name (Raw raw) = false

abbrev pub is_serial : Descriptor → Bool
is_serial (Name text) = false
is_serial (SerialText text) = true
is_serial (Timing timing) = false
is_serial (Text text) = false
is_serial (Range limits) = false
is_serial Dummy = false
is_serial (Raw raw) = false

abbrev pub is_labelled : Label → Descriptor → Bool
is_labelled labels.Name d = is_name d
is_labelled labels.Serial d = is_serial d

-- those with a label, in their order
abbrev pub labelled : Label → List Descriptor → List Descriptor
labelled label ds = filter (is_labelled label) ds

-- A place that is free is for a name, or else a serial number, where more of them are left than later places of their own.
abbrev pub free_seat : ℕ → ℕ → List Descriptor → Seat
free_seat names serials later =
    if nat_lt (length (labelled labels.Name later)) names then seats.Name
    else if nat_lt (length (labelled labels.Serial later)) serials then seats.Serial
    else seats.Unused

-- What stands in a place where so many names and serial numbers are left: a name in that of a name, a serial number in that of a
-- serial number, and in that of neither what the display has.
abbrev pub seat_of : ℕ → ℕ → Descriptor → List Descriptor → Seat
seat_of names serials (Name text) later = if names == 0 then free_seat names serials later else seats.Name
seat_of names serials (SerialText text) later = if serials == 0 then free_seat names serials later else seats.Serial
seat_of names serials Dummy later = free_seat names serials later
seat_of names serials (Timing timing) later = seats.Shown
seat_of names serials (Text text) later = seats.Shown
seat_of names serials (Range limits) later = seats.Shown
seat_of names serials (Raw raw) later = seats.Shown

-- the descriptor there, and the names and serial numbers that are left after it
abbrev pub seated : Seat → List Descriptor → List Descriptor → Descriptor → Descriptor
seated seats.Name names serials d = slice_index_or names 0 Dummy
seated seats.Serial names serials d = slice_index_or serials 0 Dummy
seated seats.Unused names serials d = Dummy
seated seats.Shown names serials d = d

abbrev pub names_after : Seat → List Descriptor → List Descriptor
names_after seats.Name names = drop 1 names
names_after seats.Serial names = names
names_after seats.Unused names = names
names_after seats.Shown names = names

abbrev pub serials_after : Seat → List Descriptor → List Descriptor
serials_after seats.Name serials = serials
serials_after seats.Serial serials = drop 1 serials
serials_after seats.Unused serials = serials
serials_after seats.Shown serials = serials

abbrev pub seat_for : List Descriptor → List Descriptor → Descriptor → List Descriptor → Seat
seat_for names serials d later = seat_of (length names) (length serials) d later

-- a display's descriptors, with these names and serial numbers in place of its own
abbrev pub placed : List Descriptor → List Descriptor → List Descriptor → List Descriptor
placed names serials [] = []
placed names serials (d ∷ ds) =
    seated (seat_for names serials d ds) names serials d
    ∷ placed (names_after (seat_for names serials d ds) names) (serials_after (seat_for names serials d ds) serials) ds

abbrev pub merged_descriptors : List Descriptor → List Descriptor → List Descriptor
merged_descriptors own display = placed (labelled labels.Name own) (labelled labels.Serial own) display

-- those of the receiver's that have no place: the ones after as many as stand in what was made
abbrev pub unplaced : Label → List Descriptor → List Descriptor → List Descriptor
unplaced label own merged = drop (length (labelled label merged)) (labelled label own)
