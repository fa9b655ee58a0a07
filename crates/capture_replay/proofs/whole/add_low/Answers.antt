use Rattle.std.proofs.Common.{List, [], ◌∷◌, ◌++◌, Option, option_map, ◌∙◌, ap}
use Rattle.std.specs.Option.{option_to_list}
use Rattle.audit_pieces.specs.Pieces.{piece_of}
use Rattle.audit_widths.specs.declared.low.Low.{Low}
use Rattle.piece_audit.specs.Wide.{wide_left}
use Rattle.capture_replay.proofs.Going.{no_pieces}
use Rattle.capture_replay.proofs.whole.add_low.Goals as goal

pub returns-in-None : goal.returns-in-None
returns-in-None g c = (
  [],
  no_pieces c.args.address c.args.out.now c.args.counts.now,
  λ (lows : List Low). ap (λ (o : Option Low). wide_left c.args.reader.now c.args.end (option_to_list o ++ lows)) c.in-None.is,
)

pub returns-in-Some : goal.returns-in-Some
returns-in-Some g c = (
  option_to_list (option_map piece_of c.take.result),
  c.add_some.ensures,
  λ (lows : List Low). ap (λ (o : Option Low). wide_left c.args.reader.now c.args.end (option_to_list o ++ lows)) c.in-Some.is ∙ c.take.ensures lows,
)
