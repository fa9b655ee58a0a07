use Rattle.std.proofs.Common.{List, ◌++◌, ◌-◌, take, arith, sym, ◌∙◌, Some, None}
use Rattle.line_wave.specs.declared.Stretch.{Stretch}
use Rattle.line_wire.proofs.Searching.{few_begun, goes_first, goes_next, next_late, found_edge, found_none, takes_begun, takes_early, turned, turns_time}
use Rattle.line_wire.proofs.edge_wire.EdgeWire.search.Goals as goal

pub wakes-init : goal.wakes-init
wakes-init c = λ past b f. goes_first past c.args.coming.now c.args.self.now b f

pub is_silent-requires : goal.is_silent-requires
is_silent-requires c =
    record { begun = (c.requires.begun.0 ++ take (c.wakes.self.begun - c.args.self.now.begun) c.args.coming.now, (c.wakes.invariant c.requires.begun.0 c.requires.begun.1 c.requires.begun.2).begun) }

pub next_of-next-requires : goal.next_of-next-requires
next_of-next-requires c = (c.wakes.invariant c.requires.begun.0 c.requires.begun.1 c.requires.begun.2).more

pub wait-requires-clause-begun : goal.wait-requires-clause-begun
wait-requires-clause-begun c = (c.requires.begun.0 ++ take (c.wakes.self.begun - c.args.self.now.begun) c.args.coming.now, (c.wakes.invariant c.requires.begun.0 c.requires.begun.1 c.requires.begun.2).begun)

pub wait-requires-clause-goes : goal.wait-requires-clause-goes
wait-requires-clause-goes c = sym c.is_silent.ensures ∙ c.wakes-test.true

pub wait-requires-clause-next : goal.wait-requires-clause-next
wait-requires-clause-next c = next_late c.requires.begun.0 c.args.coming.now c.args.self.now c.wakes.self c.next_of-next.result c.next_of-next.ensures (c.wakes.invariant c.requires.begun.0 c.requires.begun.1 c.requires.begun.2)

pub take-requires-clause-room : goal.take-requires-clause-room
take-requires-clause-room c =
    let past : List Stretch = c.requires.begun.0 ++ take (c.wakes.self.begun - c.args.self.now.begun) c.args.coming.now in
    few_begun past c.wait.new.self (c.wait.ensures.stands past (c.wakes.invariant c.requires.begun.0 c.requires.begun.1 c.requires.begun.2).begun).0

pub hear-requires-clause-begun : goal.hear-requires-clause-begun
hear-requires-clause-begun c =
    let past : List Stretch = c.requires.begun.0 ++ take (c.wakes.self.begun - c.args.self.now.begun) c.args.coming.now in
    takes_begun c.requires.begun.0 c.args.coming.now c.args.self.now c.wakes.self c.wait.new.self c.take.new.self c.next_of-next.result c.requires.begun.2 (c.wakes.invariant c.requires.begun.0 c.requires.begun.1 c.requires.begun.2) c.next_of-next.ensures c.wait.ensures.same (c.wait.ensures.stands past (c.wakes.invariant c.requires.begun.0 c.requires.begun.1 c.requires.begun.2).begun).0 c.take.ensures

pub hear-requires-clause-early : goal.hear-requires-clause-early
hear-requires-clause-early c = takes_early c.wait.new.self c.take.new.self c.next_of-next.result c.take.ensures c.wait.ensures.time

pub returns-in-Some-clause-round : goal.returns-in-Some-clause-round
returns-in-Some-clause-round c =
    let h = c.in-Some.ensures in
    (turned c.requires.begun.0 c.args.coming.now c.args.self.now c.wakes.self c.wait.new.self c.take.new.self c.hear.new.self c.next_of-next.result (Some c.in-Some.edge) c.requires.begun.2 (c.wakes.invariant c.requires.begun.0 c.requires.begun.1 c.requires.begun.2) c.next_of-next.ensures
    (record {
      waits = c.wait.ensures.same;
      goes = sym c.is_silent.ensures ∙ c.wakes-test.true;
      waits_later = c.wait.ensures.later;
      waits_near = c.wait.ensures.near;
      waits_next = c.wait.ensures.next;
      waits_stands = c.wait.ensures.stands;
      takes = c.take.ensures;
      hears = h.round;
      hears_begun = h.pulls.1;
      hears_time = h.time;
      hears_low = h.low;
      hears_edge = h.edge;
      hears_stands = h.stands;
    })).round

pub returns-in-Some-clause-goes : goal.returns-in-Some-clause-goes
returns-in-Some-clause-goes c =
    let h = c.in-Some.ensures in
    (turns_time c.requires.begun.0 c.args.coming.now c.args.self.now c.wakes.self c.wait.new.self c.take.new.self c.hear.new.self c.next_of-next.result (Some c.in-Some.edge) c.requires.begun.2 (c.wakes.invariant c.requires.begun.0 c.requires.begun.1 c.requires.begun.2) c.next_of-next.ensures
    (record {
      waits = c.wait.ensures.same;
      goes = sym c.is_silent.ensures ∙ c.wakes-test.true;
      waits_later = c.wait.ensures.later;
      waits_near = c.wait.ensures.near;
      waits_next = c.wait.ensures.next;
      waits_stands = c.wait.ensures.stands;
      takes = c.take.ensures;
      hears = h.round;
      hears_begun = h.pulls.1;
      hears_time = h.time;
      hears_low = h.low;
      hears_edge = h.edge;
      hears_stands = h.stands;
    })).0

pub returns-in-Some-clause-at : goal.returns-in-Some-clause-at
returns-in-Some-clause-at c = let h = c.in-Some.ensures in omega (arith, h.edge.0, h.time)

pub returns-in-Some-clause-found : goal.returns-in-Some-clause-found
returns-in-Some-clause-found c = λ past b f.
    let h = c.in-Some.ensures in
    found_edge past c.args.coming.now c.args.self.now c.wakes.self c.wait.new.self c.take.new.self c.hear.new.self c.next_of-next.result c.in-Some.edge b f (c.wakes.invariant past b f) c.next_of-next.ensures
    (record {
      waits = c.wait.ensures.same;
      goes = sym c.is_silent.ensures ∙ c.wakes-test.true;
      waits_later = c.wait.ensures.later;
      waits_near = c.wait.ensures.near;
      waits_next = c.wait.ensures.next;
      waits_stands = c.wait.ensures.stands;
      takes = c.take.ensures;
      hears = h.round;
      hears_begun = h.pulls.1;
      hears_time = h.time;
      hears_low = h.low;
      hears_edge = h.edge;
      hears_stands = h.stands;
    })

pub returns-in-Some-clause-near : goal.returns-in-Some-clause-near
returns-in-Some-clause-near c = λ past b f sparse l.
    let h = c.in-Some.ensures in
    let t = turned past c.args.coming.now c.args.self.now c.wakes.self c.wait.new.self c.take.new.self c.hear.new.self c.next_of-next.result (Some c.in-Some.edge) f (c.wakes.invariant past b f) c.next_of-next.ensures
    (record {
      waits = c.wait.ensures.same;
      goes = sym c.is_silent.ensures ∙ c.wakes-test.true;
      waits_later = c.wait.ensures.later;
      waits_near = c.wait.ensures.near;
      waits_next = c.wait.ensures.next;
      waits_stands = c.wait.ensures.stands;
      takes = c.take.ensures;
      hears = h.round;
      hears_begun = h.pulls.1;
      hears_time = h.time;
      hears_low = h.low;
      hears_edge = h.edge;
      hears_stands = h.stands;
    }) in
    let n = t.near sparse in omega (arith, n, t.round.begin)

pub wakes-smaller : goal.wakes-smaller
wakes-smaller c =
    let h = c.in_default.ensures in
    let t = (turns_time c.requires.begun.0 c.args.coming.now c.args.self.now c.wakes.self c.wait.new.self c.take.new.self c.hear.new.self c.next_of-next.result None c.requires.begun.2 (c.wakes.invariant c.requires.begun.0 c.requires.begun.1 c.requires.begun.2) c.next_of-next.ensures
    (record {
      waits = c.wait.ensures.same;
      goes = sym c.is_silent.ensures ∙ c.wakes-test.true;
      waits_later = c.wait.ensures.later;
      waits_near = c.wait.ensures.near;
      waits_next = c.wait.ensures.next;
      waits_stands = c.wait.ensures.stands;
      takes = c.take.ensures;
      hears = h.round;
      hears_begun = h.pulls.1;
      hears_time = h.time;
      hears_low = h.low;
      hears_edge = h.edge;
      hears_stands = h.stands;
    })).1 in
    let e = takes_early c.wait.new.self c.take.new.self c.next_of-next.result c.take.ensures c.wait.ensures.time in
    omega (arith, t, e, h.time)

pub wakes-preserved : goal.wakes-preserved
wakes-preserved c = λ past b f.
    let h = c.in_default.ensures in
    goes_next past c.args.coming.now c.args.self.now c.wakes.self c.wait.new.self c.take.new.self c.hear.new.self c.next_of-next.result f (c.wakes.invariant past b f) c.next_of-next.ensures
    (record {
      waits = c.wait.ensures.same;
      goes = sym c.is_silent.ensures ∙ c.wakes-test.true;
      waits_later = c.wait.ensures.later;
      waits_near = c.wait.ensures.near;
      waits_next = c.wait.ensures.next;
      waits_stands = c.wait.ensures.stands;
      takes = c.take.ensures;
      hears = h.round;
      hears_begun = h.pulls.1;
      hears_time = h.time;
      hears_low = h.low;
      hears_edge = h.edge;
      hears_stands = h.stands;
    })

pub returns-clause-round : goal.returns-clause-round
returns-clause-round c = (c.wakes.invariant c.requires.begun.0 c.requires.begun.1 c.requires.begun.2).round

pub returns-clause-goes : goal.returns-clause-goes
returns-clause-goes c = sym c.is_silent.ensures ∙ c.wakes-test.false

pub returns-clause-found : goal.returns-clause-found
returns-clause-found c = λ past b f. found_none past c.args.coming.now c.args.self.now c.wakes.self b f (c.wakes.invariant past b f) (sym c.is_silent.ensures ∙ c.wakes-test.false)

pub returns-clause-near : goal.returns-clause-near
returns-clause-near c = λ past b f sparse l. let g = c.wakes.invariant past b f in let n = g.near sparse l in omega (arith, n, g.round.begin)
