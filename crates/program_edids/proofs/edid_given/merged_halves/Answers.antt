use Rattle.std.proofs.Common.{ℕ, List, IfOk, subst}
use Rattle.conversion_fit.specs.Answers.{IsAnswer}
use Rattle.program_edids.specs.Edids.{display_half}
use Rattle.program_edids.proofs.edid_given.merged_halves.Goals as goal

pub returns : goal.returns
returns c =
    let P : List ℕ → Type 0 = λ b. IfOk c.merged.result (λ given. IsAnswer c.args.table b c.halves.result.1.now given.items) in
    let Q : List ℕ → Type 0 = λ b. IfOk c.merged.result (λ given. IsAnswer c.args.table (display_half c.args.input.now) b given.items) in
    subst Q c.halves.ensures.own (subst P c.halves.ensures.display c.merged.ensures)
