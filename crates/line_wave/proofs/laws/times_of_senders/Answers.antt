use Rattle.line_wave.proofs.Times as Times
use Rattle.line_wave.proofs.laws.times_of_senders.Goals as goal

pub returns : goal.returns
returns c = Times.times_of_senders
