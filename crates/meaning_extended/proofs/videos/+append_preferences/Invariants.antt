use Rattle.std.proofs.Common.{length}
use Rattle.meaning_extended.proofs.videos.+append_preferences.Given as goal

abbrev pub decreases-append_preferences : goal.decreases-append_preferences
decreases-append_preferences l = length l.payload.now
