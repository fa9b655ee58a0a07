use Rattle.std.proofs.Common.{ℕ, List, OnOk, subst, true}
use Rattle.program_edids.specs.Compared.{AreAlike, ShowsAlike}
use Rattle.program_edids.proofs.ComparedLemmas.{dumps_alike}
use Rattle.program_edids.proofs.ShownLemmas.{on_ok}
use Rattle.program_edids.proofs.edid_compared.compare_dumps.Goals as goal

pub returns-in-Ok-nth_dump_bytes : goal.returns-in-Ok-nth_dump_bytes
returns-in-Ok-nth_dump_bytes g c =
    let first = c.in-Ok.first.items in
    let second = c.in-Ok-nth_dump_bytes.second.items in
    let old = g.W.Sink.contents c.args.out.now in
    let new = g.W.Sink.contents c.compare.new.out in
    let P : List ℕ → Type 0 = λ b. OnOk c.compare.result (AreAlike c.args.form b c.as_slice-in-Ok-nth_dump_bytes.result.now old new) in
    let Q : List ℕ → Type 0 = λ b. OnOk c.compare.result (AreAlike c.args.form first b old new) in
    on_ok c.compare.result (AreAlike c.args.form first second old new) (ShowsAlike true c.args.form c.args.text.now old new)
    (dumps_alike c.args.form c.args.text.now first second old new c.in-Ok.ensures c.in-Ok-nth_dump_bytes.ensures)
    (subst Q c.as_slice-in-Ok-nth_dump_bytes.ensures.value (subst P c.as_slice.ensures.value c.compare.ensures))
