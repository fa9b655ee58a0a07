use Rattle.std.proofs.Common.{◌≡◌, ◌∙◌, codes, subst, sym}
use Rattle.std.specs.List.{list_any}
use Rattle.message_table.specs.declared.operand.Operands.{Operands}
use Rattle.expect_text.specs.Said.{hole_met, volume_parts, worded_parts}
use Rattle.expect_text.proofs.Fronts.{any_joined}
use Rattle.expect_text.proofs.hole.Hole.is_met_worded.Goals as goal

pub returns-else-is_met_loud : goal.returns-else-is_met_loud
returns-else-is_met_loud c =
    subst (λ (o : Operands). c.is_met_loud-else-is_met_loud.result ≡ list_any (hole_met c.args.self.now) (worded_parts o)) (sym c.in-Volume.is)
    (c.is_met_loud-else-is_met_loud.ensures
    ∙ sym (any_joined (hole_met c.args.self.now) (volume_parts (codes " mute ")) (volume_parts (codes " sound ")) (sym c.is_met_loud.ensures ∙ c.if-is_met_loud.false)))
