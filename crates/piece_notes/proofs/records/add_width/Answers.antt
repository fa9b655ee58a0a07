use Rattle.std.proofs.Common.{ℕ, ◌==◌, List, true, false, ap, subst, sym}
use Rattle.text_core.specs.Adds.{Adds}
use Rattle.piece_notes.proofs.BySlot.{by_slot, not_zero}
use Rattle.piece_notes.proofs.records.add_width.Goals as goal

pub returns-then-remark-eq0 : goal.returns-then-remark-eq0
returns-then-remark-eq0 g c =
    subst (λ (text : List ℕ). Adds c.args.out.now c.add_start.new.out text) (by_slot c.args.form c.args.remark true (sym (ap (λ (n : ℕ). n == 0) c.if-remark-eq0.true))) c.add_start.ensures

pub returns-else-remark-eq0 : goal.returns-else-remark-eq0
returns-else-remark-eq0 g c =
    subst (λ (text : List ℕ). Adds c.args.out.now c.add_bit.new.out text) (by_slot c.args.form c.args.remark false (not_zero c.args.remark.outs.slot c.if-remark-eq0.false)) c.add_bit.ensures
