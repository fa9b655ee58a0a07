use Rattle.std.proofs.Common.{◌≡◌, ◌+◌, ◌*◌, ◌++◌, length, flat_map}
use Rattle.edid_base.specs.Timing.{timing_bytes}
use Rattle.edid_cta.proofs.reading.read_timings.Given as goal

abbrev pub invariant-loop-rest : goal.invariant-loop-rest
invariant-loop-rest l = record {
  read : flat_map timing_bytes l.timings.items ++ l.rest ≡ l.bytes;
  room : 18 * length l.timings.items + length l.rest ≡ length l.bytes;
}

abbrev pub decreases-loop-rest : goal.decreases-loop-rest
decreases-loop-rest l = length l.rest
