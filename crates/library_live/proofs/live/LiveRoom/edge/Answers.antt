use Rattle.std.proofs.Common.{ℕ, List, subst, ◌∙◌}
use Rattle.library_live.specs.Live.{AnswersLine}
use Rattle.library_live.proofs.live.LiveRoom.edge.Goals as goal

pub returns : goal.returns
returns c =
    subst (λ (line : List ℕ). AnswersLine line c.args.self.now.kept.value c.line.new.self.kept.value c.args.room.now c.line.new.room c.line.result)
    (c.as_slice.ensures.value ∙ c.edge_line-line.ensures) c.line.ensures
