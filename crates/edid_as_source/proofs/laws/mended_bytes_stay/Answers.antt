use Rattle.edid_as_source.proofs.Staying.{stays_again, stays_counted, stays_silent}
use Rattle.edid_as_source.proofs.laws.mended_bytes_stay.Goals as goal

pub returns-clause-again : goal.returns-clause-again
returns-clause-again c = stays_again

pub returns-clause-silent : goal.returns-clause-silent
returns-clause-silent c = stays_silent

pub returns-clause-counted : goal.returns-clause-counted
returns-clause-counted c = stays_counted
