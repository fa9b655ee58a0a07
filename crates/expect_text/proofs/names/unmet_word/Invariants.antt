use Rattle.std.proofs.Common.{◌≡◌, ◌+◌, ◌≤◌, length}
use Rattle.expect_text.specs.Names.{unmet_from, unmet_word}
use Rattle.expect_text.specs.Senders.{judged_as}
use Rattle.expect_text.proofs.names.unmet_word.Given as goal

-- with no word before is the front met by none
abbrev pub invariant-bytes : goal.invariant-bytes
invariant-bytes l = record {
  same : unmet_word (judged_as l.who) l.pattern ≡ unmet_from (judged_as l.who) l.pattern l.place l.number l.rest;
  room : l.place + length l.rest ≤ length l.pattern;
  few : l.number ≤ l.place;
}

abbrev pub decreases-bytes : goal.decreases-bytes
decreases-bytes l = length l.rest
