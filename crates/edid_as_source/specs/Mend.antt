-- An EDID in which what follows from its other bytes is set right: the checksum of each block (E-EDID Release A, sections 3.11 and
-- 2.2.1), the count of extensions in byte 126 (3.10.1), and the HDMI Forum's override of it (HDMI 2.1, section 10.3.7).
use Rattle.std.specs.Prelude.{◌≡◌, ℕ, zero, suc, ◌-◌, ◌*◌, ◌/◌, ◌%◌, ◌<◌, ◌==◌, Bool, true, false, ◌&&◌, ◌||◌, if◌then◌else◌, List, [], ◌++◌, length, take, drop, slice_index, slice_set, sum, codes, Result, Ok, Err}
use Rattle.edid_core.specs.Bytes.{block_at, has_length}
use Rattle.edid_core.specs.declared.bytes.EdidError.{EdidError}
use Rattle.edid_core.specs.declared.bytes.EdidError.TheVariants.{Length}
use Rattle.edid_as_source.specs.Count.{begins_with_override}
use Rattle.edid_as_source.specs.Extensions.{mended_extension}

-- as many extensions as blocks follow the first
abbrev pub extensions_there : List ℕ → ℕ
extensions_there bytes = length bytes / 128 - 1

-- byte 126 counts them; where one goes by an override, that does, and byte 126 is 1 (HDMI 2.1, section 10.3.7)
abbrev pub recounted_by : Bool → List ℕ → List ℕ
recounted_by true bytes = slice_set (slice_set bytes 126 1) 134 (extensions_there bytes)
recounted_by false bytes = slice_set bytes 126 (extensions_there bytes)

abbrev pub recounted : Bool → List ℕ → List ℕ
recounted overridden bytes = recounted_by (overridden && begins_with_override (drop 128 bytes)) bytes

-- so many blocks, in each of which the last byte makes the sum 0 modulo 256
abbrev pub summed_blocks : ℕ → List ℕ → List ℕ
summed_blocks zero bytes = []
summed_blocks (suc n) bytes = mended_extension (take 128 bytes) ++ summed_blocks n (drop 128 bytes)

-- the bytes of an EDID that is mended; where one goes by the override is said, since an EDID without HDMI 2.1 has none
abbrev pub mended : Bool → List ℕ → Result (List ℕ) EdidError
mended overridden bytes = if has_length bytes then Ok (summed_blocks (length bytes / 128) (recounted overridden bytes)) else Err Length

-- ---- what is said of it (own)

-- a line where a byte is another than it was
abbrev pub byte_note : ℕ → List ℕ → List ℕ → List ℕ → List ℕ
byte_note place note bytes made = if slice_index made place == slice_index bytes place then [] else note

abbrev pub base_mend_notes : List ℕ → List ℕ → List ℕ
base_mend_notes bytes made = byte_note 126 (codes "hdminet: mended base count\n") bytes made ++ byte_note 127 (codes "hdminet: mended base checksum\n") bytes made

abbrev pub first_mend_notes : List ℕ → List ℕ → List ℕ
first_mend_notes bytes made = byte_note 134 (codes "hdminet: mended ext 1 override\n") bytes made ++ byte_note 255 (codes "hdminet: mended ext 1 checksum\n") bytes made

abbrev pub later_mend_notes : List ℕ → List ℕ → List ℕ
later_mend_notes bytes made = byte_note 383 (codes "hdminet: mended ext 2 checksum\n") bytes made ++ byte_note 511 (codes "hdminet: mended ext 3 checksum\n") bytes made

abbrev pub mend_notes_by : List ℕ → Result (List ℕ) EdidError → List ℕ
mend_notes_by bytes (Ok made) = base_mend_notes bytes made ++ (first_mend_notes bytes made ++ later_mend_notes bytes made)
mend_notes_by bytes (Err cause) = []

-- of bytes that are no whole blocks there is none
abbrev pub mend_notes : Bool → List ℕ → List ℕ
mend_notes overridden bytes = mend_notes_by bytes (mended overridden bytes)

-- ---- a law

-- the bytes that may be others: the last of each block, the count, and the override's where one goes by it
abbrev pub may_change : Bool → ℕ → Bool
may_change overridden place = (place % 128 == 127) || ((place == 126) || (overridden && (place == 134)))

-- each block sums to 0 modulo 256
abbrev pub SumsAreRight : Type 0
SumsAreRight = (overridden : Bool) (bytes made : List ℕ) → mended overridden bytes ≡ Ok made → (number : ℕ) → 128 * number < length made → sum (block_at made number) % 256 ≡ 0

-- there are as many bytes, and none that may not is another
abbrev pub OthersStay : Type 0
OthersStay =
    (overridden : Bool) (bytes made : List ℕ) → mended overridden bytes ≡ Ok made
    → (length made ≡ length bytes) × ((place : ℕ) → place < length bytes → may_change overridden place ≡ false → slice_index made place ≡ slice_index bytes place)
