-- Zeros of an extension (own).
use Rattle.std.specs.Prelude.{ℕ, ◌-◌, List, replicate}

-- after so many bytes, up to the checksum
abbrev pub zeros_after : ℕ → List ℕ
zeros_after count = replicate (123 - count) 0
