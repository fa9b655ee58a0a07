use Rattle.capture_csv.proofs.Sampled as lemmas
use Rattle.capture_csv.proofs.laws.csv_files_are_sampled.Goals as goal

pub returns : goal.returns
returns c = lemmas.csv_files_are_sampled
