use Rattle.capture_csv.proofs.Sampled as lemmas
use Rattle.capture_csv.proofs.laws.csv_lines_are_early.Goals as goal

pub returns : goal.returns
returns c = lemmas.csv_lines_are_early
