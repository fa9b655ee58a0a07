use Rattle.std.proofs.Common.{ℕ, List, ◌∷◌, ◌++◌, Option, Some, None, refl, sym, ◌∙◌, ap}
use Rattle.std.specs.Option.{option_to_list}
use Rattle.audit_widths.specs.declared.low.Low.{Low}
use Rattle.audit_pieces.specs.declared.stretch.LowStretch.{LowStretch}
use Rattle.audit_pieces.specs.Stretches.{stretches_of}
use Rattle.audit_pieces.specs.Wide.{pieces_left}
use Rattle.piece_audit.proofs.wide.WideReader.take.Goals as goal

pub returns-in-None : goal.returns-in-None
returns-in-None c = λ (lows : List Low).
    ap (λ (w : Option Low). pieces_left c.args.self.now.pieces c.args.end (stretches_of c.args.end (option_to_list w ++ c.args.low ∷ lows))) c.in-None.is

pub returns-in-Some : goal.returns-in-Some
returns-in-Some c = λ (lows : List Low).
    ap (λ (w : Option Low). pieces_left c.args.self.now.pieces c.args.end (stretches_of c.args.end (option_to_list w ++ c.args.low ∷ lows))) c.in-Some.is
    ∙ ap (λ (x : LowStretch). pieces_left c.args.self.now.pieces c.args.end (x ∷ stretches_of c.args.end (c.args.low ∷ lows))) (sym c.new.ensures)
    ∙ c.take.ensures c.args.end (stretches_of c.args.end (c.args.low ∷ lows))
