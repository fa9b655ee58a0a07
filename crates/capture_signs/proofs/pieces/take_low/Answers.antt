use Rattle.std.proofs.Common.{List, [], ◌++◌, Option, option_map, refl, ◌∙◌, ap}
use Rattle.std.specs.Option.{option_to_list}
use Rattle.audit_widths.specs.declared.low.Low.{Low}
use Rattle.audit_pieces.specs.Pieces.{piece_of}
use Rattle.piece_audit.specs.Wide.{wide_left}
use Rattle.capture_signs.proofs.pieces.take_low.Goals as goal

pub returns-in-None : goal.returns-in-None
returns-in-None c =
    ([], refl, λ (lows : List Low). ap (λ (o : Option Low). wide_left c.args.reader.now c.args.end (option_to_list o ++ lows)) c.in-None.is)

pub returns-in-Some : goal.returns-in-Some
returns-in-Some c = (
  option_to_list (option_map piece_of c.take.result),
  c.with_some.ensures,
  λ (lows : List Low). ap (λ (o : Option Low). wide_left c.args.reader.now c.args.end (option_to_list o ++ lows)) c.in-Some.is ∙ c.take.ensures lows,
)
