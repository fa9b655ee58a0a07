use Rattle.message_meaning.proofs.Stays.{frames_read_back, meanings_read_back}
use Rattle.message_meaning.proofs.laws.objects_have_the_lines.Goals as goal

pub returns-clause-frames : goal.returns-clause-frames
returns-clause-frames c = frames_read_back

pub returns-clause-meanings : goal.returns-clause-meanings
returns-clause-meanings c = meanings_read_back
