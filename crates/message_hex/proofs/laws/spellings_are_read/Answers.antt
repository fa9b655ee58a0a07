use Rattle.message_hex.proofs.Spelled.{spellings_are_read}
use Rattle.message_hex.proofs.laws.spellings_are_read.Goals as goal

pub returns : goal.returns
returns c = spellings_are_read
