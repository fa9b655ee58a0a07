-- The tail of an extension: the bytes that a text has, and zeros after them (own: a text leaves the zeros out).
use Rattle.std.specs.Prelude.{ℕ, ◌-◌, ◌==◌, Bool, ◌&&◌, ◌||◌, not, nat_le, List, ◌++◌, length, slice_index, replicate}
use Rattle.edid_cta.specs.Cta.{is_tail}

abbrev pub padded_bytes : ℕ → List ℕ → List ℕ
padded_bytes left bytes = bytes ++ replicate (left - length bytes) 0

-- the last byte is no zero
abbrev pub is_trimmed : List ℕ → Bool
is_trimmed bytes = (length bytes == 0) || not (slice_index bytes (length bytes - 1) == 0)

-- these bytes fill a place of so many bytes, with zeros
abbrev pub fills : ℕ → List ℕ → Bool
fills left bytes = nat_le (length bytes) left && is_trimmed bytes

-- and no timing stands in front
abbrev pub ends : ℕ → List ℕ → Bool
ends left bytes = fills left bytes && is_tail (padded_bytes left bytes)
