use Rattle.std.proofs.Common.{ℕ, List, ◌<◌, ◌≤◌, length, inr, arith, subst, sym}
use Rattle.std.proofs.lemmas.Grind.{common_steps}
use Rattle.live_incoming.specs.Incoming.{IsWhole, Leads}
use Rattle.live_dialogue.proofs.Coming.{come_on, come_start, is_it, not_it, opened, unopened}
use Rattle.live_dialogue.proofs.opening.topology_text.Goals as goal

pub lines-init : goal.lines-init
lines-init g c = come_start c.args.incoming.now.rest c.new-text.result.items c.new-text.ensures.items

pub returns-in-Err : goal.returns-in-Err
returns-in-Err g c =
    let before = c.args.incoming.now.rest in
    let mid = c.lines.incoming.rest in
    let after = c.next_line.new.incoming.rest in
    let fits : length c.lines.text.items ≤ 1048576 = grind (arith, common_steps) in
    unopened before mid after c.lines.text.items c.next_line.new.incoming.line c.in-Err.error c.lines.invariant fits c.in-Err.ensures

pub returns-then-is_script : goal.returns-then-is_script
returns-then-is_script g c =
    let before = c.args.incoming.now.rest in
    let mid = c.lines.incoming.rest in
    let after = c.next_line.new.incoming.rest in
    let line = c.last-bytes.result.now in
    let fits : length c.lines.text.items ≤ 1048576 = grind (arith, common_steps) in
    opened before mid after c.lines.text.items line c.lines.invariant fits
    (subst (λ (line : List ℕ). IsWhole line × Leads mid after line) (sym c.last-bytes.ensures.value) c.in-Ok.ensures)
    (is_it c.is_script.result line c.is_script.ensures c.if-is_script.true)

pub lines-preserved : goal.lines-preserved
lines-preserved g c =
    let before = c.args.incoming.now.rest in
    let mid = c.lines.incoming.rest in
    let after = c.next_line.new.incoming.rest in
    let line = c.last-bytes.result.now in
    come_on before mid after c.lines.text.items c.add_line.new.text.items line c.lines.invariant
    (subst (λ (line : List ℕ). IsWhole line × Leads mid after line) (sym c.last-bytes.ensures.value) c.in-Ok.ensures) c.last-bytes.ensures.short
    (not_it c.is_script.result line c.is_script.ensures c.if-is_script.false) c.in-Ok-add_line.ensures

pub returns : goal.returns
returns g c = let over : 1048576 < length c.lines.text.items = grind (arith, common_steps) in inr (c.lines.text.items, c.lines.invariant, over)
