use Rattle.std.proofs.Common.{length}
use Rattle.meaning_words.proofs.videos.+append_video.Given as goal

abbrev pub decreases-append_video : goal.decreases-append_video
decreases-append_video l = length l.payload.now
