use Rattle.std.proofs.Common.{◌≡◌, ◌≤◌, length}
use Rattle.std.specs.Option.{option_copied}
use Rattle.text_core.specs.Words.{words_after}
use Rattle.edid_spelling.specs.Audio.{descriptors_of}
use Rattle.edid_spelling.proofs.WordLemmas.{descriptors_after}
use Rattle.edid_spelling.proofs.audio.descriptors_in.Given as goal

-- what is read so far and the words that are left give what all words give
abbrev pub invariant-descriptors : goal.invariant-descriptors
invariant-descriptors l = record {
  reads : descriptors_after l.payload.items (words_after (option_copied l.rest)) ≡ descriptors_of (words_after (option_copied l.given));
  few : length l.payload.items ≤ 32;
}

abbrev pub decreases-descriptors : goal.decreases-descriptors
decreases-descriptors l = length (words_after (option_copied l.rest))
