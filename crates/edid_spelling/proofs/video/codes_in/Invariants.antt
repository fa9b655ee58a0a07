use Rattle.std.proofs.Common.{◌≡◌, ◌≤◌, length}
use Rattle.std.specs.Option.{option_copied}
use Rattle.text_core.specs.Words.{words_after}
use Rattle.edid_spelling.specs.Video.{codes_of}
use Rattle.edid_spelling.proofs.VideoLemmas.{codes_after}
use Rattle.edid_spelling.proofs.video.codes_in.Given as goal

-- what is read so far and the words that are left give what all words give
abbrev pub invariant-words : goal.invariant-words
invariant-words l = record {
  reads : codes_after l.payload.items (words_after (option_copied l.rest)) ≡ codes_of (words_after (option_copied l.given));
  few : length l.payload.items ≤ 31;
}

abbrev pub decreases-words : goal.decreases-words
decreases-words l = length (words_after (option_copied l.rest))
