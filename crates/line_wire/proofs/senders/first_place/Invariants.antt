use Rattle.std.proofs.Common.{◌≡◌, ℕ, ◌<◌, slice_index_or, None}
use Rattle.line_wire.proofs.senders.first_place.Given as goal

-- none so far
abbrev pub invariant-loop-place : goal.invariant-loop-place
invariant-loop-place l = (k : ℕ) → k < l.place → slice_index_or l.senders k None ≡ None
