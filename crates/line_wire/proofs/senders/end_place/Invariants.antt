use Rattle.std.proofs.Common.{◌≡◌, ℕ, ◌≤◌, length, slice_index_or, None}
use Rattle.line_wire.proofs.senders.end_place.Given as goal

-- none from there on
abbrev pub invariant-places : goal.invariant-places
invariant-places l = record {
  later : l.from ≤ l.end;
  few : l.end ≤ length l.senders;
  none : (k : ℕ) → l.end ≤ k → slice_index_or l.senders k None ≡ None;
}

abbrev pub decreases-places : goal.decreases-places
decreases-places l = l.end
