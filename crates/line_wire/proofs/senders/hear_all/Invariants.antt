use Rattle.std.proofs.Common.{◌≡◌, ℕ, false}
use Rattle.std.specs.List.{list_any}
use Rattle.line_wire.specs.Pulls.{pull_in}
use Rattle.line_wire.proofs.Begins.{HeardBy}
use Rattle.line_wire.proofs.senders.hear_all.Given as goal

-- those before the place have heard it
abbrev pub invariant-loop-place : goal.invariant-loop-place
invariant-loop-place l = record {
  heard : HeardBy l.reported l.t l.place l.initial.senders l.senders;
  kept : l.stopped ≡ false → (u : ℕ) → list_any (pull_in u) l.senders ≡ list_any (pull_in u) l.initial.senders;
}
