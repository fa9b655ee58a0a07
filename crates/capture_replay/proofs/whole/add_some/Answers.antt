use Rattle.std.proofs.Common.{Option, option_map, subst, sym}
use Rattle.std.specs.Option.{option_to_list}
use Rattle.audit_pieces.specs.Pieces.{piece_of}
use Rattle.audit_pieces.specs.declared.piece.Piece.{Piece}
use Rattle.capture_replay.specs.Replay.{PlaysPieces}
use Rattle.capture_replay.proofs.Going.{no_pieces, one_piece}
use Rattle.capture_replay.proofs.whole.add_some.Goals as goal

pub returns-in-None : goal.returns-in-None
returns-in-None g c =
    subst (λ (o : Option Piece). PlaysPieces c.args.address (option_to_list (option_map piece_of o)) c.args.out.now c.args.out.now c.args.counts.now c.args.counts.now) (sym c.in-None.is)
    (no_pieces c.args.address c.args.out.now c.args.counts.now)

pub returns-in-Some : goal.returns-in-Some
returns-in-Some g c =
    subst (λ (o : Option Piece). PlaysPieces c.args.address (option_to_list (option_map piece_of o)) c.args.out.now c.add_piece.new.out c.args.counts.now c.add_piece.new.counts) (sym c.in-Some.is)
    (one_piece c.args.address (piece_of c.in-Some.piece) c.args.out.now c.add_piece.new.out c.args.counts.now c.add_piece.new.counts c.add_piece.ensures)
