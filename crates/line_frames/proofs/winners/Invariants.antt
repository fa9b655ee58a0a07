use Rattle.std.proofs.Common.{◌≡◌, ◌++◌, ◌≤◌, drop, length}
use Rattle.line_frames.specs.Bits.{least_places, winners_of}
use Rattle.line_frames.proofs.winners.Given as goal

-- the winners so far and those among what is left are all
abbrev pub invariant-loop-place : goal.invariant-loop-place
invariant-loop-place l = record {
  few : length l.winners.items ≤ l.place;
  found : l.winners.items ++ least_places l.frames l.place (drop l.place l.frames) ≡ winners_of l.frames;
}
