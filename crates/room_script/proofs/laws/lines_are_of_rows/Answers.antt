use Rattle.room_script.proofs.Begins.{lines_begin}
use Rattle.room_script.proofs.Rows.{of_rows}
use Rattle.room_script.proofs.laws.lines_are_of_rows.Goals as goal

pub returns-clause-row : goal.returns-clause-row
returns-clause-row c = of_rows

pub returns-clause-begin : goal.returns-clause-begin
returns-clause-begin c = lines_begin
