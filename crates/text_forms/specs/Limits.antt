-- The limits of numbers in texts (own): the latest instant in microseconds, the greatest byte, the most ports of a device, and what a port above it counts as.
use Rattle.std.specs.Prelude.{ℕ, nat_lt, if◌then◌else◌, Option, Some, None}
use Rattle.text_forms.specs.declared.limits.TheConstants.{LAST_BYTE, LAST_PORT, LATEST, MOST_PORTS}

abbrev pub latest : ℕ
latest = LATEST

abbrev pub most_ports : ℕ
most_ports = MOST_PORTS

abbrev pub last_byte : ℕ
last_byte = LAST_BYTE

abbrev pub last_port : ℕ
last_port = LAST_PORT

abbrev pub at_most : ℕ → Option ℕ → Option ℕ
at_most limit None = None
at_most limit (Some n) = if nat_lt limit n then None else Some n
