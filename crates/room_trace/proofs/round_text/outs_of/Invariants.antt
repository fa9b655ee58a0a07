use Rattle.std.proofs.Common.{◌≡◌, length, map, take}
use Rattle.record_core.specs.Values.{out}
use Rattle.room_trace.specs.Records.{out_value}
use Rattle.room_trace.specs.TraceText.{name_at}
use Rattle.room_trace.proofs.round_text.outs_of.Given as goal

-- the devices so far
abbrev pub invariant-loop-loser : goal.invariant-loop-loser
invariant-loop-loser l = record {
  values : map out_value l.outs.items ≡ map (λ loser. out (name_at l.devices loser.seat) loser.slot) (take l.loser-index l.losers);
  len : length l.outs.items ≡ l.loser-index;
}
