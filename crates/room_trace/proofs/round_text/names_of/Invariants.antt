use Rattle.std.proofs.Common.{◌≡◌, length, map, take}
use Rattle.record_core.specs.Values.{string}
use Rattle.room_trace.specs.Records.{item_value}
use Rattle.room_trace.specs.TraceText.{name_at}
use Rattle.room_trace.proofs.round_text.names_of.Given as goal

-- the names so far
abbrev pub invariant-loop-number : goal.invariant-loop-number
invariant-loop-number l = record {
  values : map item_value l.names.items ≡ map (λ number. string (name_at l.devices number)) (take l.number-index l.numbers);
  len : length l.names.items ≡ l.number-index;
}
