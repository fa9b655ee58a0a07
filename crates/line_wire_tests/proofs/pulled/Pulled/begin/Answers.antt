use Rattle.std.proofs.Common.{refl}
use Rattle.line_wire_tests.proofs.Pulls.{begins}
use Rattle.line_wire_tests.proofs.pulled.Pulled.begin.Goals as goal

pub invariant_of-result : goal.invariant_of-result
invariant_of-result g c =
    let are = c.if-not-are_from.ensures in begins c.args.pulls.items c.as_slice.result.now c.args.start c.begin.new.self c.as_slice.ensures.value (are.order refl) (are.ends refl) c.begin.ensures.time c.begin.ensures.begun
