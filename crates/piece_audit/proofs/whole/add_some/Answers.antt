use Rattle.std.proofs.Common.{Option, option_map, subst, sym}
use Rattle.std.specs.Option.{option_to_list}
use Rattle.text_core.specs.Adds.{Adds}
use Rattle.text_core.proofs.Adding.{nothing}
use Rattle.audit_pieces.specs.declared.piece.Piece.{Piece}
use Rattle.audit_pieces.specs.Pieces.{piece_of}
use Rattle.piece_audit.specs.Texts.{pieces_text}
use Rattle.piece_audit.proofs.Going.{one_piece}
use Rattle.piece_audit.proofs.whole.add_some.Goals as goal

pub returns-in-None : goal.returns-in-None
returns-in-None g c =
    subst (λ (o : Option Piece). Adds c.args.out.now c.args.out.now (pieces_text c.args.form c.args.grid (option_to_list (option_map piece_of o)))) (sym c.in-None.is) (nothing c.args.out.now)

pub returns-in-Some : goal.returns-in-Some
returns-in-Some g c =
    subst (λ (o : Option Piece). Adds c.args.out.now c.add_piece.new.out (pieces_text c.args.form c.args.grid (option_to_list (option_map piece_of o)))) (sym c.in-Some.is)
    (one_piece c.args.form c.args.grid c.args.out.now c.add_piece.new.out (piece_of c.in-Some.piece) c.add_piece.ensures)
