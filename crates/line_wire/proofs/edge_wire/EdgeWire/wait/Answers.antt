use Rattle.std.proofs.Common.{arith}
use Rattle.line_wire.proofs.Bounded.{goes_near, waits_near}
use Rattle.line_wire.proofs.Turning.{Waits, steady_low, waits_by, waits_after, waits_calm, waits_so}
use Rattle.line_wire.proofs.edge_wire.EdgeWire.wait.Goals as goal

pub returns-then-is_pulled-was_low-clause-later : goal.returns-then-is_pulled-was_low-clause-later
returns-then-is_pulled-was_low-clause-later c =
    let w = c.args.self.now in
    let p = c.pull_now-pull in
    let s = c.steady_until in
    waits_after c.requires.begun.0 w s.result c.wake-self.result c.args.next c.requires.begun.1
    (waits_by w w.time s.result c.wake-self.result _ c.is_pulled.result c.was_low.result c.args.next c.if-self.true (omega arith) s.ensures.later (omega (arith, s.ensures.sooner, p.ensures.near))
    (steady_low w p.result s.result p.ensures.low s.ensures.sooner s.ensures.lasts) c.is_pulled.ensures c.was_low.ensures c.if-is_pulled-was_low.true c.requires.next c.wake-self.ensures)

pub returns-then-is_pulled-was_low-clause-time : goal.returns-then-is_pulled-was_low-clause-time
returns-then-is_pulled-was_low-clause-time c =
    let w = c.args.self.now in
    let p = c.pull_now-pull in
    let s = c.steady_until in
    let b = c.requires.begun.1 in
    let k : Waits w s.result c.wake-self.result c.args.next = waits_by w w.time s.result c.wake-self.result _ c.is_pulled.result c.was_low.result c.args.next c.if-self.true (omega arith) s.ensures.later (omega (arith, s.ensures.sooner, p.ensures.near))
    (steady_low w p.result s.result p.ensures.low s.ensures.sooner s.ensures.lasts) c.is_pulled.ensures c.was_low.ensures c.if-is_pulled-was_low.true c.requires.next c.wake-self.ensures in
    waits_near c.requires.begun.0 w c.wake-self.result b c.requires.goes (waits_after c.requires.begun.0 w s.result c.wake-self.result c.args.next b k)
    (omega (arith, c.wake-self.ensures.sooner, s.ensures.sooner, p.ensures.near)) k.same (waits_calm c.requires.begun.0 w s.result c.wake-self.result c.args.next b k)

pub returns-then-is_pulled-was_low-clause-stands : goal.returns-then-is_pulled-was_low-clause-stands
returns-then-is_pulled-was_low-clause-stands c = λ past b.
    let w = c.args.self.now in
    let p = c.pull_now-pull in
    let s = c.steady_until in
    let k : Waits w s.result c.wake-self.result c.args.next = waits_by w w.time s.result c.wake-self.result _ c.is_pulled.result c.was_low.result c.args.next c.if-self.true (omega arith) s.ensures.later (omega (arith, s.ensures.sooner, p.ensures.near))
    (steady_low w p.result s.result p.ensures.low s.ensures.sooner s.ensures.lasts) c.is_pulled.ensures c.was_low.ensures c.if-is_pulled-was_low.true c.requires.next c.wake-self.ensures in
    (waits_so past w s.result c.wake-self.result c.args.next b k (returns-then-is_pulled-was_low-clause-time c), waits_calm past w s.result c.wake-self.result c.args.next b k)

pub returns-else-self-clause-time : goal.returns-else-self-clause-time
returns-else-self-clause-time c = goes_near c.requires.begun.0 c.args.self.now c.requires.begun.1 c.requires.goes

pub returns-then-is_pulled-was_low-clause-near : goal.returns-then-is_pulled-was_low-clause-near
returns-then-is_pulled-was_low-clause-near c = omega (arith, c.wake-self.ensures.sooner, c.steady_until.ensures.sooner, c.pull_now-pull.ensures.near)
