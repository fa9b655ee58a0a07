-- A round leads to one state.
use Rattle.std.proofs.Common.{◌≡◌, sym, ap, ◌∙◌}
use Rattle.line_rounds.specs.declared.Outcome.{Outcome}
use Rattle.line_rounds.specs.OneOutcome.{SameOutcome}
use Rattle.line_rounds.proofs.OneOutcome.{one_outcome}
use Rattle.room_net.specs.Step.{seats_of, after_round, OneStep}

-- outcomes that report the same are one
same_is : (o p : Outcome) → SameOutcome o p → o ≡ p
same_is o p h = λ i. record {
  reading = record { begin = h.begin i; at = h.at i; ending = h.ending i; bits = record { items = h.bits i } };
  survivors = record { items = h.survivors i };
  losers = record { items = h.losers i };
  rest = h.rest i;
  wave = h.wave i;
}

pub one_step : OneStep
one_step before begin o p after other w v h k =
    let same = one_outcome (seats_of before begin) begin before.pulses o p w v h.round k.round in
    (same, h.after_is ∙ ap (after_round before begin) (same_is o p same) ∙ sym k.after_is)
