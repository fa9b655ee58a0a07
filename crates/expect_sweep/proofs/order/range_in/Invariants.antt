use Rattle.std.proofs.Common.{◌≡◌, ◌+◌, ◌≤◌, length}
use Rattle.std.specs.Option.{option_copied}
use Rattle.text_core.specs.Words.{words_after}
use Rattle.expect_sweep.specs.Order.{range_among, range_in}
use Rattle.expect_sweep.proofs.order.range_in.Given as goal

-- none of the words before is one
abbrev pub invariant-words : goal.invariant-words
invariant-words l = record {
  same : range_among l.index l.place (words_after (option_copied l.rest)) ≡ range_in l.line;
  room : l.index + length (words_after (option_copied l.rest)) ≤ length l.line + 1;
}

abbrev pub decreases-words : goal.decreases-words
decreases-words l = length (words_after (option_copied l.rest))
