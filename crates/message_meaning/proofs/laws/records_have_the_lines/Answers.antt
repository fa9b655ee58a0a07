use Rattle.message_meaning.proofs.Stays.{frame_lines, meaning_lines}
use Rattle.message_meaning.proofs.laws.records_have_the_lines.Goals as goal

pub returns-clause-frames : goal.returns-clause-frames
returns-clause-frames c = frame_lines

pub returns-clause-meanings : goal.returns-clause-meanings
returns-clause-meanings c = meaning_lines
