use Rattle.std.proofs.Common.{◌≡◌, ◌++◌, take, flat_map}
use Rattle.edid_base.specs.Timing.{timing_bytes}
use Rattle.edid_cta.proofs.ext.append_timings.Given as goal

abbrev pub invariant-loop-timing : goal.invariant-loop-timing
invariant-loop-timing l = l.out.items ≡ l.fn.out.items ++ flat_map timing_bytes (take l.timing-index l.timings)
