use Rattle.std.proofs.Common.{length}
use Rattle.meaning_cta.proofs.audio.+append_audio.Given as goal

abbrev pub decreases-append_audio : goal.decreases-append_audio
decreases-append_audio l = length l.payload.now
