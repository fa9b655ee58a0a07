use Rattle.std.proofs.Common.{◌≡◌, ◌+◌, ◌++◌, length, take, map}
use Rattle.rules_native.specs.Natives.{timing_picture}
use Rattle.rules_native.proofs.natives.append_timings.Given as goal

abbrev pub invariant-loop-timing : goal.invariant-loop-timing
invariant-loop-timing l = record {
  items : l.pictures.items ≡ l.fn.pictures.items ++ map timing_picture (take l.timing-index l.timings);
  len : length l.pictures.items ≡ length l.fn.pictures.items + l.timing-index;
}
