use Rattle.std.proofs.Common.{length}
use Rattle.meaning_eld.proofs.records.+add_audio.Given as goal

abbrev pub decreases-add_audio : goal.decreases-add_audio
decreases-add_audio g l = length l.audio.now
