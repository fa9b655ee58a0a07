use Rattle.capture_laws.proofs.ReadHead as lemmas
use Rattle.capture_laws.proofs.dump_laws.dumps_are_read_as_the_line.Goals as goal

pub returns : goal.returns
returns c = lemmas.dumps_are_read_as_the_line
