use Rattle.std.proofs.Common.{◌≡◌, true, false, arith, refl, sym, ◌∙◌}
use Rattle.line_wire.specs.Pulls.{pull_in}
use Rattle.line_wire.proofs.Begins.{heard_from, heard_next, heard_to}
use Rattle.line_wire.proofs.Pulling.{any_set}
use Rattle.line_wire.proofs.senders.hear_all.Goals as goal
use Rattle.line_wire.proofs.senders.hear_all.Goals.{then-hear_one, else-hear_one}

pub loop-place-init : goal.loop-place-init
loop-place-init c =
    let p = c.requires.places in
    record { heard = heard_from c.args.reported c.args.t c.args.places.from c.args.senders.now (omega (arith, p.order, p.few)) p.before; kept = λ e u. refl }

pub loop-place-preserved : goal.loop-place-preserved
loop-place-preserved c =
    let l = c.loop-place in
    let h = c.hear_one in
    record {
      heard = heard_next c.args.reported c.args.t l.place c.args.senders.now l.senders c.index-senders-place.result h.new.sender (omega (arith, c.loop-place-test.true, c.requires.places.few)) l.invariant.heard h.ensures.heard;
      kept = λ e u. elim c.if-hear_one.branch [
        | then-hear_one w ↦ (let x : true ≡ false = sym w.stopped-is ∙ e in cc)
        | else-hear_one w ↦ any_set (pull_in u) l.senders l.place c.index-senders-place.result h.new.sender (omega (arith, c.loop-place-test.true, c.requires.places.few)) (h.ensures.kept w.if-hear_one.false u)
            ∙ l.invariant.kept (sym w.stopped-is ∙ e) u
      ];
    }

pub returns-clause-heard : goal.returns-clause-heard
returns-clause-heard c =
    let p = c.requires.places in
    let l = c.loop-place in
    heard_to c.args.reported c.args.t l.place c.args.senders.now l.senders (λ k m. p.after k (omega (arith, c.loop-place-test.false, m))) l.invariant.heard
