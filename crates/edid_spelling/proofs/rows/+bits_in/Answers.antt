use Rattle.std.proofs.Common.{map}
use Rattle.edid_spelling.specs.Rows.{row_in_code}
use Rattle.edid_spelling.proofs.WordLemmas.{bits_none}
use Rattle.edid_spelling.proofs.rows.+bits_in.Goals as goal

pub returns-in-None : goal.returns-in-None
returns-in-None t c = rw c.in-None.is (bits_none (map row_in_code c.args.rows.now) c.args.number)
