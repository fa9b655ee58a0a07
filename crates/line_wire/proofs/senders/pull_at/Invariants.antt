use Rattle.std.proofs.Common.{◌≡◌, ℕ, ◌+◌, ◌<◌, ◌≤◌, nat_lt, take}
use Rattle.std.specs.List.{list_any}
use Rattle.line_wave.specs.Sender.{first_slot}
use Rattle.line_wire.specs.Pulls.{pull_in}
use Rattle.line_wire.proofs.senders.pull_at.Given as goal

-- those so far
abbrev pub invariant-loop-place : goal.invariant-loop-place
invariant-loop-place l = record {
  near : l.pull.until ≤ l.t + first_slot;
  later : l.t < l.pull.until;
  low : (u : ℕ) → l.t ≤ u → u < l.pull.until → list_any (pull_in u) (take l.place l.senders) ≡ nat_lt u l.pull.rise;
}
