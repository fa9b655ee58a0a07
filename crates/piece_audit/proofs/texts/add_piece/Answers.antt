use Rattle.text_core.proofs.Adding.{then}
use Rattle.audit_pieces.specs.Pieces.{piece_of}
use Rattle.piece_audit.specs.Texts.{line_text, said_text, untaken_text, widths_text}
use Rattle.std.proofs.Common.{◌++◌}
use Rattle.piece_audit.proofs.texts.add_piece.Goals as goal

pub returns : goal.returns
returns g c =
    let p = piece_of c.args.piece.now in
    then c.args.out.now c.add_line.new.out c.add_untaken.new.out (line_text c.args.form p) (widths_text c.args.form c.args.grid p ++ (said_text c.args.form p ++ untaken_text c.args.form p)) c.add_line.ensures
    (then c.add_line.new.out c.add_widths.new.out c.add_untaken.new.out (widths_text c.args.form c.args.grid p) (said_text c.args.form p ++ untaken_text c.args.form p) c.add_widths.ensures
    (then c.add_widths.new.out c.add_said.new.out c.add_untaken.new.out (said_text c.args.form p) (untaken_text c.args.form p) c.add_said.ensures c.add_untaken.ensures))
