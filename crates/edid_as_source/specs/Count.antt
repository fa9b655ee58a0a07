-- How many extensions an EDID has: byte 126 of the base block, or the HDMI Forum's override of it, HF-EEODB (HDMI 2.1, section
-- 10.3.7). It stands in the first data block of the first extension, at bytes 4 to 6: E2, 78 and the count.
use Rattle.std.specs.Prelude.{ℕ, ◌+◌, ◌-◌, ◌%◌, ◌==◌, Bool, ◌&&◌, nat_le, if◌then◌else◌, List, ◌∷◌, ◌++◌, length, take, drop, slice_index, Result, Ok, Err}
use Rattle.edid_core.specs.Bytes.{has_length}
use Rattle.edid_core.specs.declared.bytes.EdidError.{EdidError}
use Rattle.edid_core.specs.declared.bytes.EdidError.TheVariants.{Length}

-- blocks begin with a whole extension of CTA-861 from revision 3 on, with data blocks of three bytes or more, that begins with an
-- override; one that counts no extension is none
abbrev pub begins_with_override : List ℕ → Bool
begins_with_override blocks =
    nat_le 128 (length blocks) && ((slice_index blocks 0 == 2) && (nat_le 3 (slice_index blocks 1) && (nat_le 7 (slice_index blocks 2) && (
    (slice_index blocks 4 == 0xe2) && ((slice_index blocks 5 == 0x78) && nat_le 1 (slice_index blocks 6))))))

abbrev pub has_override : List ℕ → Bool
has_override bytes = nat_le 1 (slice_index bytes 126) && begins_with_override (drop 128 bytes)

abbrev pub extension_count : List ℕ → ℕ
extension_count bytes = if has_override bytes then slice_index bytes 134 else slice_index bytes 126

-- the count that a source without HDMI 2.1 goes by
abbrev pub first_count : List ℕ → ℕ
first_count bytes = if has_override bytes then 1 else slice_index bytes 126

-- the checksum after another count
abbrev pub balance : ℕ → ℕ → ℕ → ℕ
balance old check count = (check + old + 256 - count) % 256

abbrev pub with_count : List ℕ → ℕ → List ℕ
with_count bytes count = take 126 bytes ++ (count ∷ balance (slice_index bytes 126) (slice_index bytes 127) count ∷ drop 128 bytes)

-- with all extensions counted in byte 126
abbrev pub counted : List ℕ → Result (List ℕ) EdidError
counted bytes = if has_length bytes then Ok (with_count bytes (extension_count bytes)) else Err Length
