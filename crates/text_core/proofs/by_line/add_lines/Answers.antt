use Rattle.std.proofs.Common.{◌≡◌, true, rules}
use Rattle.text_core.proofs.LineByLine.{added_all, added_more, added_none, added_short}
use Rattle.text_core.proofs.by_line.add_lines.Goals as goal

pub lines-init : goal.lines-init
lines-init g c = λ texts are. added_none (g.L.TextOfLine.is c.args.each.now) texts c.args.text.now c.args.out.now are

pub lines-preserved : goal.lines-preserved
lines-preserved g c = λ texts are.
    added_more (g.L.TextOfLine.is c.args.each.now) texts c.lines.rest.now c.in-Some.after.now c.in-Some.line.now _ _ _ (c.lines.invariant texts are) c.in-Some.ensures.lines c.add.ensures

pub returns-then-has_failed : goal.returns-then-has_failed
returns-then-has_failed g c = λ texts are.
    let failed : c.add.new.out.failed ≡ true = search rules in
    added_short (g.L.TextOfLine.is c.args.each.now) texts c.in-Some.after.now _ _
    (added_more (g.L.TextOfLine.is c.args.each.now) texts c.lines.rest.now c.in-Some.after.now c.in-Some.line.now _ _ _ (c.lines.invariant texts are) c.in-Some.ensures.lines c.add.ensures) failed

pub returns : goal.returns
returns g c = λ texts are. added_all (g.L.TextOfLine.is c.args.each.now) texts c.lines.rest.now _ _ (c.lines.invariant texts are) c.in_default.ensures.lines
