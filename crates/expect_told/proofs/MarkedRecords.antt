-- What is marked.
use Rattle.std.proofs.Common.{refl}
use Rattle.record_core.specs.declared.cell.Form.TheVariants.{Text, Json}
use Rattle.expect_told.specs.Shown.{MarkedRecordsAreRecords}

pub marked_records : MarkedRecordsAreRecords
marked_records Text kind cells = refl
marked_records Json kind cells = refl
