use Rattle.reading_record.proofs.Same.{same}
use Rattle.reading_record.proofs.laws.readings_are_records.Goals as goal

pub returns : goal.returns
returns c = same
