use Rattle.std.proofs.Common.{List, Option, refl, ap, ◌∙◌}
use Rattle.line_reading.specs.declared.sender.Sender.{Sender}
use Rattle.line_rounds.specs.Round.{rest_of}
use Rattle.line_wire.specs.States.{survivors_of, losers_of}
use Rattle.line_wire.proofs.Finishing.{finds_round}
use Rattle.line_wire.proofs.edge_wire.EdgeWire.finished.Goals as goal

pub returns : goal.returns
returns c = record {
  round = λ past b. finds_round past c.args.self.now c.in-Some.ended _ b c.requires.silent c.in-Some.is (record {
    begin = refl;
    at = refl;
    ending = refl;
    bits = c.copied_bits.ensures ∙ c.as_slice-2.ensures.value;
    survivors = c.parted-survivors.ensures.survivors ∙ ap (λ (ss : List (Option Sender)). survivors_of 0 ss) c.as_slice.ensures.value;
    losers = c.parted-survivors.ensures.losers ∙ ap (λ (ss : List (Option Sender)). losers_of 0 ss) c.as_slice.ensures.value;
    rest = c.rest.ensures ∙ ap (rest_of c.in-Some.ended.until) c.as_slice-3.ensures.stretches;
    wave = c.copy.ensures;
  });
}
