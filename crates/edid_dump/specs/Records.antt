-- Records of data in Intel HEX (Intel, Hexadecimal Object File Format Specification, 1988): after a colon the count of its data, two
-- bytes of an address, the type 00, the data, and what makes the sum of all its bytes 0 modulo 256.
use Rattle.std.specs.Prelude.{ℕ, ◌+◌, ◌%◌, ◌==◌, ◌&&◌, nat_le, Bool, if◌then◌else◌, List, length, take, drop, slice_index, sum, Option, Some, None}
use Rattle.edid_dump.specs.Digits.{pairs}
use Rattle.edid_dump.specs.declared.digits.Column.TheVariants.{Absent}

-- these bytes are a whole record of data
abbrev pub is_record : List ℕ → Bool
is_record bytes =
    nat_le 5 (length bytes)
    && (nat_le (length bytes) 260 && ((length bytes == slice_index bytes 0 + 5) && ((slice_index bytes 3 == 0) && (sum bytes % 256 == 0))))

-- its data, which stand after count, address and type
abbrev pub data_among : List ℕ → List ℕ
data_among bytes = take (slice_index bytes 0) (drop 4 bytes)

abbrev pub data_of : Option (List ℕ) → Option (List ℕ)
data_of None = None
data_of (Some bytes) = if is_record bytes then Some (data_among bytes) else None

-- the data of a record, by the digits after its colon
abbrev pub record_data : List ℕ → Option (List ℕ)
record_data text = data_of (pairs Absent text)
