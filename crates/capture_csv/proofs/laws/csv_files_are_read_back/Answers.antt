use Rattle.capture_csv.proofs.ReadBack as lemmas
use Rattle.capture_csv.proofs.laws.csv_files_are_read_back.Goals as goal

pub returns : goal.returns
returns c = lemmas.csv_files_are_read_back
