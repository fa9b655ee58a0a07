-- What a reading over DDC gives (E-DDC, section 2.2), as a text (own): the segments that are acknowledged, sixteen bytes a row.
use Rattle.std.specs.Prelude.{ℕ, zero, suc, ◌+◌, ◌*◌, ◌/◌, ◌%◌, ◌==◌, if◌then◌else◌, List, [], ◌++◌, take, drop, codes}
use Rattle.std.specs.Fmt.{decimal}
use Rattle.std.specs.List.{flat_map}
use Rattle.text_core.specs.Piece.{hex_text}
use Rattle.edid_ddc.specs.Bus.{has_segment}
use Rattle.edid_ddc.specs.Learn.{bytes_with_padding}

-- the offset of a row in its segment, and its bytes
abbrev pub row_text : ℕ → List ℕ → List ℕ
row_text row bytes = hex_text (row * 16) ++ (codes ": " ++ (flat_map hex_text bytes ++ codes "\n"))

abbrev pub rows_text : ℕ → ℕ → List ℕ → List ℕ
rows_text zero row bytes = []
rows_text (suc count) row bytes = row_text row (take 16 bytes) ++ rows_text count (row + 1) (drop 16 bytes)

-- above the first block of a segment
abbrev pub heading : ℕ → List ℕ
heading block = if block % 2 == 0 then codes "segment " ++ (decimal (block / 2) ++ codes "\n") else []

-- a block with a number, FF where it is missing in a segment that is acknowledged
abbrev pub block_text : List ℕ → ℕ → List ℕ
block_text bytes block =
    if has_segment bytes (block / 2) then heading block ++ rows_text 8 (block % 2 * 8) (take 128 (drop (128 * block) (bytes_with_padding bytes)))
    else []

abbrev pub segment_text : List ℕ → ℕ → List ℕ
segment_text bytes segment = block_text bytes (2 * segment) ++ block_text bytes (2 * segment + 1)

-- an EDID of four blocks has two segments
abbrev pub readout_text : List ℕ → List ℕ
readout_text bytes = segment_text bytes 0 ++ segment_text bytes 1
