use Rattle.std.proofs.Common.{◌∙◌, ℕ, List, subst, sym}
use Rattle.conversion_fit.specs.Answers.{IsAnswer}
use Rattle.program_edids.proofs.edid_given.merged.Goals as goal

pub returns-in_ok-to_vec-in-Ok : goal.returns-in_ok-to_vec-in-Ok
returns-in_ok-to_vec-in-Ok c =
    let same = c.in_ok-to_vec-in-Ok.ensures.items_if_clones_equal (λ x y e. e) ∙ c.as_slice.ensures.value in
    subst (λ (b : List ℕ). IsAnswer c.args.table c.args.display.now c.args.own.now b) (sym same) c.in-Ok.ensures.merged
