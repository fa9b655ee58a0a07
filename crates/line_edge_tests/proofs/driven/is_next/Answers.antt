use Rattle.std.proofs.Common.{rules, ◌≡◌, ◌≤◌, ◌++◌, ◌∷◌, [], List, Option, arith, sym, subst}
use Rattle.line_wave.specs.declared.Stretch.{Stretch}
use Rattle.line_wave.specs.Pulses.{AreSparse}
use Rattle.line_wire.specs.Wired.{IsNext}
use Rattle.line_edge_tests.proofs.Taking.{pulse_next}
use Rattle.line_edge_tests.proofs.driven.is_next.Goals as goal

pub returns : goal.returns
returns c sparse-said wave t l =
    let past = c.args.pulses.now in
    let p = c.in-Some.pulse in
    let same : c.as_slice.result.now ≡ past ++ p ∷ [] = search rules in
    let sparse : AreSparse (past ++ p ∷ []) = subst (λ (ps : List Stretch). AreSparse ps) same (c.are_sparse.ensures sparse-said) in
    let late : c.args.heard ≤ p.from = c.is_in_time.ensures.late c.if-not-is_in_time.false in
    subst (λ (o : Option Stretch). IsNext past t o) (sym c.in-Some.is) (pulse_next past t p sparse (c.is_in_time.ensures.ends c.if-not-is_in_time.false) (omega (arith, late, l)))
