use Rattle.message_hex.proofs.Spelled.{assembled_frames_are_read}
use Rattle.message_hex.proofs.laws.assembled_frames_are_read.Goals as goal

pub returns : goal.returns
returns c = assembled_frames_are_read
