use Rattle.verdict_laws.proofs.Frames.{sent_lines}
use Rattle.verdict_laws.proofs.laws.sent_lines_are_frames.Goals as goal

pub returns : goal.returns
returns c = sent_lines
