use Rattle.std.proofs.Common.{length}
use Rattle.message_hex.proofs.Reading.{Read}
use Rattle.message_hex.proofs.bytes.read_bytes.Given as goal

abbrev pub invariant-characters : goal.invariant-characters
invariant-characters l = Read l.text l.rest l.place l.bytes

abbrev pub decreases-characters : goal.decreases-characters
decreases-characters l = length l.rest
