use Rattle.std.proofs.Common.{rules, ◌≡◌, List, length, arith, refl, ap, ◌∙◌, sym, subst}
use Rattle.line_wave.specs.declared.Stretch.{Stretch}
use Rattle.line_wave.specs.Line.{IsWave}
use Rattle.line_rounds.specs.declared.Seat.{Seat}
use Rattle.line_wire.specs.Wired.{IsNext}
use Rattle.line_edge_tests.proofs.Taking.{begun_more, taken_by}
use Rattle.line_edge_tests.proofs.driven.Driven.edge.Goals as goal

pub next_edge-edge-requires : goal.next_edge-edge-requires
next_edge-edge-requires g c =
    let past = c.self.inside.pulses.items in
    let w = c.self.inside.wire in
    let next = c.first_from-next.result in
    let is : IsNext past w.time next =
    subst (λ (ps : List Stretch). IsNext ps w.time next) c.as_slice.ensures.value
    (c.if-not-is_next.ensures refl (subst (λ (ps : List Stretch). IsWave ps) (sym c.as_slice.ensures.value) c.self.invariant.0.wave) w.time c.self.invariant.2) in
    record { begun = (past, c.self.invariant.0, is) }

pub invariant_of-self : goal.invariant_of-self
invariant_of-self g c =
    let past = c.self.inside.pulses.items in
    let w = c.self.inside.wire in
    let v = c.next_edge-edge.new.self in
    let next = c.first_from-next.result in
    let is : IsNext past w.time next =
    subst (λ (ps : List Stretch). IsNext ps w.time next) c.as_slice.ensures.value
    (c.if-not-is_next.ensures refl (subst (λ (ps : List Stretch). IsWave ps) (sym c.as_slice.ensures.value) c.self.invariant.0.wave) w.time c.self.invariant.2) in
    let found = c.next_edge-edge.ensures.found past c.self.invariant.0 is in
    let begun = begun_more past c.take.new.pulses.items w v next c.self.invariant.0 found.begun (taken_by past c.take.new.pulses.items next c.pulses_begun.result v.begun c.pulses_begun.ensures c.take.ensures) in
    (begun, c.self.invariant.1 ∙ ap (λ (ss : List Seat). length ss) (sym c.next_edge-edge.ensures.round.seats), omega (arith, begun.near))

pub invariant_of-self-in-Some : goal.invariant_of-self-in-Some
invariant_of-self-in-Some g c =
    let past = c.self.inside.pulses.items in
    let w = c.self.inside.wire in
    let v = c.next_edge-edge.new.self in
    let next = c.first_from-next.result in
    let is : IsNext past w.time next =
    subst (λ (ps : List Stretch). IsNext ps w.time next) c.as_slice.ensures.value
    (c.if-not-is_next.ensures refl (subst (λ (ps : List Stretch). IsWave ps) (sym c.as_slice.ensures.value) c.self.invariant.0.wave) w.time c.self.invariant.2) in
    let found = c.next_edge-edge.ensures.found past c.self.invariant.0 is in
    let begun = begun_more past c.take.new.pulses.items w v next c.self.invariant.0 found.begun (taken_by past c.take.new.pulses.items next c.pulses_begun.result v.begun c.pulses_begun.ensures c.take.ensures) in
    (begun, c.self.invariant.1 ∙ ap (λ (ss : List Seat). length ss) (sym c.next_edge-edge.ensures.round.seats), search rules)
