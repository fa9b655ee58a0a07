-- The header of a frame with names in it (own): `PART>PART`, where a part is a hex digit or `@NAME`, and one is `@NAME` at least. `@NAME`
-- stands for the address that the device of this name holds when the event is applied. Until then 0 stands in its place, so that what
-- follows is read as of a frame to one device (CEC 6.1.2).
use Rattle.std.specs.Prelude.{ℕ, ◌+◌, ◌==◌, ◌&&◌, ◌||◌, Bool, List, [], ◌∷◌, length, take, drop, slice_index, if◌then◌else◌, Option, Some, None, option_map}
use Rattle.std.specs.List.{position_or_len}
use Rattle.text_core.specs.Phys.{is_hex_digit}
use Rattle.text_core.specs.Words.{text_of}
use Rattle.edid_tree.specs.Node.{Node}
use Rattle.edid_tree.specs.Tree.{device_named}
use Rattle.room_event.specs.declared.event.HeaderNames.{HeaderNames}

-- `@`, and after it a name
abbrev pub is_named : List ℕ → Bool
is_named part = slice_index part 0 == 64

abbrev pub is_part : List ℕ → Bool
is_part part = is_named part || ((length part == 1) && is_hex_digit (slice_index part 0))

-- what stands before the first `>`, and after it
abbrev pub initiator_part : List ℕ → List ℕ
initiator_part word = take (position_or_len (λ b. b == 62) word) word

abbrev pub destination_part : List ℕ → List ℕ
destination_part word = drop (position_or_len (λ b. b == 62) word + 1) word

abbrev pub has_names : List ℕ → Bool
has_names word = is_part (initiator_part word) && is_part (destination_part word) && (is_named (initiator_part word) || is_named (destination_part word))

-- the digit, or 0 in the place of a name
abbrev pub digit_of : List ℕ → ℕ
digit_of part = if is_named part then 48 else slice_index part 0

-- the same header with digits alone
abbrev pub digits_of : List ℕ → List ℕ
digits_of word = digit_of (initiator_part word) ∷ 62 ∷ digit_of (destination_part word) ∷ []

abbrev pub with_digits : List ℕ → List ℕ
with_digits word = if has_names word then digits_of word else word

-- the text of which these are the words, where the first is a header, with digits alone
abbrev pub digits_text : List (List ℕ) → List ℕ
digits_text [] = []
digits_text (word ∷ words) = text_of (with_digits word ∷ words)

-- the device that a part names, where it names one; no answer, where no device has that name
abbrev pub device_of : List Node → List ℕ → Option (Option ℕ)
device_of tree part = if is_named part then option_map Some (device_named tree (drop 1 part)) else Some None

abbrev pub names_by : Option (Option ℕ) → Option (Option ℕ) → Option (Option HeaderNames)
names_by None destination = None
names_by (Some initiator) None = None
names_by (Some initiator) (Some destination) = Some (Some (record { initiator = initiator; destination = destination }))

-- the devices that a header names, where it has names; no answer, where no device has one of them
abbrev pub header_names : List Node → List ℕ → Option (Option HeaderNames)
header_names tree word = if has_names word then names_by (device_of tree (initiator_part word)) (device_of tree (destination_part word)) else Some None
