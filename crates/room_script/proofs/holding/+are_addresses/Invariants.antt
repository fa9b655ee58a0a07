use Rattle.std.proofs.Common.{length}
use Rattle.room_script.proofs.holding.+are_addresses.Given as goal

-- the rest of the word
abbrev pub decreases-are_addresses : goal.decreases-are_addresses
decreases-are_addresses l = length l.word.now
