use Rattle.capture_difference.proofs.Differing as lemmas
use Rattle.capture_difference.proofs.laws.every_frame_is_told_once.Goals as goal

pub returns : goal.returns
returns c = record { first = lemmas.first_is_told; second = lemmas.second_is_told }
