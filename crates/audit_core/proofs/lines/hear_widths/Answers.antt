use Rattle.audit_core.proofs.lines.hear_widths.Goals as goal

pub returns : goal.returns
returns g c =
    let both = g.met.H.LineHearer.then in
    both c.args.out.now c.hear_spread-4.new.out c.hear_spread-5.new.out _ _
    (both c.args.out.now c.hear_spread-3.new.out c.hear_spread-4.new.out _ _
    (both c.args.out.now c.hear_spread-2.new.out c.hear_spread-3.new.out _ _
    (both c.args.out.now c.hear_spread.new.out c.hear_spread-2.new.out _ _ c.hear_spread.ensures c.hear_spread-2.ensures) c.hear_spread-3.ensures) c.hear_spread-4.ensures) c.hear_spread-5.ensures
