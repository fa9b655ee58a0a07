use Rattle.verdict_laws.proofs.Frames.{sent_frames}
use Rattle.verdict_laws.proofs.laws.sent_frames_are_pieces.Goals as goal

pub returns : goal.returns
returns c = sent_frames
