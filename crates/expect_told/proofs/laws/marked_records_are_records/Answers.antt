use Rattle.expect_told.proofs.MarkedRecords.{marked_records}
use Rattle.expect_told.proofs.laws.marked_records_are_records.Goals as goal

pub returns : goal.returns
returns c = marked_records
