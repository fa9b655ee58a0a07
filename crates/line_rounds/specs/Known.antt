-- What further bits leave as it is. (own)
use Rattle.std.specs.Prelude.{◌≡◌, ℕ, ◌≤◌, Bool, false, List, ◌++◌, length, None}
use Rattle.line_reading.specs.Reading.{Known}
use Rattle.line_reading.specs.Sending.{destination, is_whole, known_bits, out_slot}
use Rattle.line_rounds.specs.Contend.{Stays, leaves}

-- the destination, once eight bits are read
abbrev pub DestinationMore : Type 0
DestinationMore = (bits ys : List Bool) → 8 ≤ length bits → destination (bits ++ ys) ≡ destination bits

-- whether a sender stops at a slot that is read
abbrev pub LeavesMore : Type 0
LeavesMore = (bits ys sent : List Bool) (n : ℕ) → 1 ≤ n → n ≤ length bits → leaves (bits ++ ys) sent n ≡ leaves bits sent n

-- A sender that is not out of a reading which is not whole stays, by all bits that are known.
abbrev pub StaysBy : Type 0
StaysBy = (k : Known) (sent : List Bool) → is_whole k.ended ≡ false → out_slot k sent ≡ None → Stays (known_bits k) sent
