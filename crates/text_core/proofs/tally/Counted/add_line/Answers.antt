-- the front that a fault reports was added
use Rattle.std.proofs.Common.{ℕ, List, sym, refl, ◌∙◌, ap, subst, take}
use Rattle.std.specs.Io.KnownBytes.{Appends}
use Rattle.std.specs.List.{flat_map}
use Rattle.text_core.specs.Piece.{piece_text}
use Rattle.text_core.specs.Adds.{Tally}
use Rattle.text_core.proofs.Adding.{adds_front, count_after}
use Rattle.text_core.proofs.tally.Counted.add_line.Goals as goal

pub returns-in-Err : goal.returns-in-Err
returns-in-Err g c =
    let text : List ℕ = flat_map piece_text c.args.pieces.now in
    adds_front c.args.self.now _ text c.in-Err.fault.count (sym (ap (λ (v : Tally). v.failed) c.self.view_is) ∙ c.if-self.false) refl
    c.in-Err.ensures.0
    (subst (λ (v : Tally). Appends v.known (g.S.Sink.contents c.write_line.new.out) (take c.in-Err.fault.count text)) c.self.view_is c.in-Err.ensures.1)
    (count_after _ _ _ _ c.saturating_add-self-inside-in-Err.ensures (ap (λ (v : Tally). v.count) c.self.view_is))
    (ap (λ (v : Tally). v.loan) c.self.view_is)
    c.in-Err.ensures.2
