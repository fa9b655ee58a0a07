use Rattle.std.proofs.Common.{arith, ◌∙◌, sym}
use Rattle.line_wire.proofs.edge_wire.EdgeWire.wake.Goals as goal

pub returns : goal.returns
returns c =
    let a = c.until_end-wake.ensures in
    let b = c.until_due-wake.ensures in
    let h = c.until_held-wake.ensures in
    let n = c.until_begin.ensures in
    record {
      sooner = omega (arith, a.sooner, b.sooner, h.sooner, n.sooner);
      pull = λ p e l. (let x = a.ends p e l in omega (arith, x, b.sooner, h.sooner, n.sooner));
      holds = λ l. (let x = h.holds l in omega (arith, x, n.sooner));
      wakes = λ m e. (let x = b.wakes m (c.wakes_at.ensures.exact ∙ e) in omega (arith, x, h.sooner, n.sooner));
      begins = n.begins;
      later = λ l m k. n.later c.args.self.now.time (h.later (b.later c.args.self.now.time (a.later l) (λ i e. m i (sym c.wakes_at.ensures.exact ∙ e)))) k;
    }
