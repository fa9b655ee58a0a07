-- What a reader sees of an EDID over DDC: 256 bytes a segment, chosen by a segment pointer and an offset (E-DDC, section 2.2).
-- The wrap inside a segment, FF for missing bytes and the missing acknowledgement are this profile's (own).
use Rattle.std.specs.Prelude.{ℕ, ◌+◌, ◌*◌, Bool, nat_lt, Option, Some, None, List, length, slice_index_or, if◌then◌else◌}

pub record Bus : Type 0 where
  pub bytes : List ℕ
  pub segment : ℕ
  pub offset : ℕ

-- a segment in which there is a block
abbrev pub has_segment : List ℕ → ℕ → Bool
has_segment bytes segment = nat_lt (256 * segment) (length bytes)

-- the byte at a segment and an offset, or no acknowledgement
abbrev pub byte_at : List ℕ → ℕ → ℕ → Option ℕ
byte_at bytes segment offset = if has_segment bytes segment then Some (slice_index_or bytes (256 * segment + offset) 0xff) else None

-- before the first call, and after a stop whose offset was set to 0
abbrev pub first_bus : List ℕ → Bus
first_bus bytes = record { bytes = bytes; segment = 0; offset = 0 }
