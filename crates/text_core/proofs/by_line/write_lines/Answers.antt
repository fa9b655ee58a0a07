use Rattle.std.proofs.Common.{ℕ, Bool, List, Option, Ok, Err, Result, rules, subst}
use Rattle.text_core.specs.Cut.{WritesText, WrittenText}
use Rattle.text_core.specs.declared.sink.WriteFault.{WriteFault}
use Rattle.text_core.proofs.Adding.{loan_ended}
use Rattle.text_core.proofs.by_line.write_lines.Goals as goal

pub returns-in-Ok : goal.returns-in-Ok
returns-in-Ok g c = λ texts are.
    let old = g.S.Sink.contents c.args.out.now in
    let was = g.S.Sink.is_stuck c.args.out.now in
    loan_ended g.S.Sink.contents g.S.Sink.is_stuck c.args.out.now _ c.into_sink-below.result.now _ c.into_sink-below.result.ghost_name c.new-lines.result c.add_lines.new.out texts
    (λ (k : Option (List ℕ)) (s : Bool). WritesText old k was s texts (Ok tt))
    c.new-lines.ensures (c.add_lines.ensures texts are)
    (λ added. let whole = subst (λ (r : Result ℕ WriteFault). WrittenText old c.add_lines.new.out.known was c.add_lines.new.out.stuck texts r) c.in-Ok.is (c.written-written.ensures.text _ _ _ texts added) in (whole.1, whole.2))
    c.into_sink-below.ensures.loan c.into_sink-below.ensures.known c.into_sink-below.ensures.stuck (search rules)

pub returns-in-Err : goal.returns-in-Err
returns-in-Err g c = λ texts are.
    let old = g.S.Sink.contents c.args.out.now in
    let was = g.S.Sink.is_stuck c.args.out.now in
    loan_ended g.S.Sink.contents g.S.Sink.is_stuck c.args.out.now _ c.into_sink-below.result.now _ c.into_sink-below.result.ghost_name c.new-lines.result c.add_lines.new.out texts
    (λ (k : Option (List ℕ)) (s : Bool). WritesText old k was s texts (Err c.in-Err.fault))
    c.new-lines.ensures (c.add_lines.ensures texts are)
    (λ added. subst (λ (r : Result ℕ WriteFault). WrittenText old c.add_lines.new.out.known was c.add_lines.new.out.stuck texts r) c.in-Err.is (c.written-written.ensures.text _ _ _ texts added))
    c.into_sink-below.ensures.loan c.into_sink-below.ensures.known c.into_sink-below.ensures.stuck (search rules)
