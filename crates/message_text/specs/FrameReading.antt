-- Where the parts of a frame's text stand (own).
use Rattle.std.specs.Prelude.{ℕ, ◌-◌, nat_le, Bool, ◌&&◌, List, length, take, drop}
use Rattle.text_core.specs.Bytes.{are_bytes}

-- one to sixteen bytes
abbrev pub is_frame : List ℕ → Bool
is_frame bytes = nat_le 1 (length bytes) && nat_le (length bytes) 16 && are_bytes bytes

-- what stands between a space and quotes
abbrev pub within_quotes : List ℕ → List ℕ
within_quotes text = take (length text - 3) (drop 2 text)
