use Rattle.std.proofs.Common.{◌≡◌, refl, arith, ap, sym, take, ◌∙◌}
use Rattle.std.specs.List.{list_any}
use Rattle.line_wire.specs.Pulls.{pull_in}
use Rattle.line_wire.proofs.Pulling.{none_before, none_after, not_before}
use Rattle.line_wire.proofs.senders.pull_at.Goals as goal

pub loop-place-init : goal.loop-place-init
loop-place-init c = record {
  near = omega arith;
  later = omega arith;
  low = λ u a b. none_before (pull_in u) c.args.senders.now c.args.places.from refl c.requires.places.before ∙ sym (not_before u c.args.t a);
}

pub returns-clause-low : goal.returns-clause-low
returns-clause-low c = λ u a b.
    let p = c.requires.places in
    let l = c.loop-place in
    sym (none_after (pull_in u) c.args.senders.now c.args.places.to refl p.after)
    ∙ ap (λ n. list_any (pull_in u) (take n c.args.senders.now)) (let x : c.args.places.to ≡ c.loop-place.place = omega (arith, c.loop-place-test.false, l.auto.place, l.auto.place-end, p.order) in x)
    ∙ l.invariant.low u a b
