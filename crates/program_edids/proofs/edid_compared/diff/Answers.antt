use Rattle.std.proofs.Common.{Bool, OnOk, subst, sym}
use Rattle.program_edids.specs.Compared.{ShowsAlike}
use Rattle.program_edids.proofs.edid_compared.diff.Goals as goal

pub returns-then-dumps : goal.returns-then-dumps
returns-then-dumps g c =
    let old = g.W.Sink.contents c.args.out.now in
    let new = g.W.Sink.contents c.compare_dumps.new.out in
    let P : Bool → Type 0 = λ dumps. OnOk c.compare_dumps.result (ShowsAlike dumps c.args.form c.args.input.now old new) in
    subst P (sym c.if-dumps.true) c.compare_dumps.ensures

pub returns-else-dumps : goal.returns-else-dumps
returns-else-dumps g c =
    let old = g.W.Sink.contents c.args.out.now in
    let new = g.W.Sink.contents c.compare_halves.new.out in
    let P : Bool → Type 0 = λ dumps. OnOk c.compare_halves.result (ShowsAlike dumps c.args.form c.args.input.now old new) in
    subst P (sym c.if-dumps.false) c.compare_halves.ensures
