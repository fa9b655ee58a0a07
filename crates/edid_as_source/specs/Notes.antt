-- What a source mends in an EDID, and what it passes over: a line each (own).
use Rattle.std.specs.Prelude.{ℕ, zero, suc, ◌+◌, ◌-◌, ◌*◌, ◌%◌, ◌==◌, ◌||◌, Bool, not, nat_lt, Option, Some, None, if◌then◌else◌, List, [], ◌++◌, length, take, drop, slice_index, sum, codes}
use Rattle.std.specs.Fmt.{decimal}
use Rattle.text_core.specs.Piece.{hex_text}
use Rattle.edid_base.specs.Header.{header}
use Rattle.edid_base.specs.Letters.{has_letters}
use Rattle.edid_core.specs.declared.bytes.EdidError.{EdidError}
use Rattle.edid_as_source.specs.Count.{extension_count}
use Rattle.edid_as_source.specs.Extensions.{is_taken}
use Rattle.edid_as_source.specs.Front.{right_places}
use Rattle.edid_as_source.specs.Source.{refusal}

-- ---- the base block

abbrev pub header_note : List ℕ → List ℕ
header_note bytes = if nat_lt (right_places bytes header) 8 then codes "hdminet: mended base header\n" else []

abbrev pub revision_by : ℕ → List ℕ
revision_by revision = if (revision == 3) || (revision == 4) then [] else codes "hdminet: mended base revision " ++ decimal revision ++ codes "\n"

abbrev pub revision_note : List ℕ → List ℕ
revision_note bytes = revision_by (slice_index bytes 19)

abbrev pub maker_by : ℕ → ℕ → List ℕ
maker_by high low = if has_letters high low then [] else codes "hdminet: mended base maker " ++ hex_text high ++ hex_text low ++ codes "\n"

abbrev pub maker_note : List ℕ → List ℕ
maker_note bytes = maker_by (slice_index bytes 8) (slice_index bytes 9)

-- ---- the extensions

-- the override counts otherwise than byte 126
abbrev pub is_other : ℕ → ℕ → Bool
is_other count first = not (count == first)

abbrev pub count_by : ℕ → ℕ → List ℕ
count_by count first = if is_other count first then codes "hdminet: counted ext " ++ decimal count ++ codes "\n" else []

abbrev pub count_note : List ℕ → List ℕ
count_note bytes = count_by (extension_count bytes) (slice_index bytes 126)

abbrev pub rest_by : ℕ → List ℕ
rest_by count = if count == 0 then [] else codes "hdminet: passed over " ++ decimal count ++ codes " bytes at the end\n"

abbrev pub rest_note : List ℕ → List ℕ
rest_note bytes = rest_by (length bytes - (128 * extension_count bytes + 128))

abbrev pub block_note : ℕ → ℕ → List ℕ → List ℕ
block_note room number block =
    if room == 0 then codes "hdminet: passed over ext " ++ decimal number ++ codes "\n"
    else if sum block % 256 == 0 then []
    else if slice_index block 0 == 2 then codes "hdminet: mended ext " ++ decimal number ++ codes " checksum\n"
    else codes "hdminet: passed over ext " ++ decimal number ++ codes " checksum\n"

abbrev pub room_after : ℕ → List ℕ → ℕ
room_after room block = if is_taken block then room - 1 else room

-- of so many extensions, the first of which has this number
abbrev pub blocks_notes : ℕ → ℕ → ℕ → List ℕ → List ℕ
blocks_notes room number zero rest = []
blocks_notes room number (suc count) rest =
    block_note room number (take 128 rest) ++ blocks_notes (room_after room (take 128 rest)) (number + 1) count (drop 128 rest)

-- ---- all of it

abbrev pub base_notes : List ℕ → List ℕ
base_notes bytes = header_note bytes ++ (revision_note bytes ++ maker_note bytes)

abbrev pub extension_notes : List ℕ → List ℕ
extension_notes bytes = count_note bytes ++ (rest_note bytes ++ blocks_notes 3 1 (extension_count bytes) (drop 128 bytes))

abbrev pub notes_by : List ℕ → Option EdidError → List ℕ
notes_by bytes (Some cause) = []
notes_by bytes None = base_notes bytes ++ extension_notes bytes

-- of bytes that no source takes there is none
abbrev pub notes_text : List ℕ → List ℕ
notes_text bytes = notes_by bytes (refusal bytes)
