use Rattle.std.proofs.Common.{ℕ, List, subst}
use Rattle.text_core.specs.Adds.{Adds}
use Rattle.audit_judged.specs.declared.widths.WidthKind.{WidthKind}
use Rattle.audit_judged.specs.Widths.{kinds_in_order, remark_for}
use Rattle.audit_pieces.specs.Pieces.{piece_of}
use Rattle.piece_audit.specs.Texts.{width_part}
use Rattle.piece_audit.proofs.Each.{each_kind, eight}
use Rattle.piece_audit.proofs.texts.add_widths.Goals as goal

pub returns : goal.returns
returns g c =
    subst (λ (text : List ℕ). Adds c.args.out.now c.add_kind-8.new.out text) (each_kind c.args.form (remark_for c.args.grid (piece_of c.args.piece.now)) kinds_in_order)
    (eight c.args.out.now c.add_kind.new.out c.add_kind-2.new.out c.add_kind-3.new.out c.add_kind-4.new.out c.add_kind-5.new.out c.add_kind-6.new.out c.add_kind-7.new.out c.add_kind-8.new.out
    (λ (kind : WidthKind). width_part c.args.form (remark_for c.args.grid (piece_of c.args.piece.now) kind))
    c.add_kind.ensures c.add_kind-2.ensures c.add_kind-3.ensures c.add_kind-4.ensures c.add_kind-5.ensures c.add_kind-6.ensures c.add_kind-7.ensures c.add_kind-8.ensures)
