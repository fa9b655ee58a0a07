use Rattle.std.proofs.Common.{ℕ, List, OnOk, subst}
use Rattle.program_edids.specs.Edids.{Made, ShowsAs, kept_count}
use Rattle.program_edids.proofs.EdidLemmas.{made_of}
use Rattle.program_edids.proofs.ShownLemmas.{on_ok}
use Rattle.program_edids.proofs.edid.edid_of.Goals as goal

pub returns : goal.returns
returns g c =
    let old = g.W.Sink.contents c.args.out.now in
    let new = g.W.Sink.contents c.show_as.new.out in
    let given = c.in_ok-given.given.items in
    let P : ℕ → Type 0 = λ k. OnOk c.show_as.result (ShowsAs c.args.reading k c.args.view c.as_slice-bytes.result.now old new) in
    let Q : List ℕ → Type 0 = λ b. OnOk c.show_as.result (ShowsAs c.args.reading (kept_count c.args.source b) c.args.view b old new) in
    let shown = subst Q c.as_slice-bytes.ensures.value (subst P c.kept_count.ensures c.show_as.ensures) in
    on_ok c.show_as.result (ShowsAs c.args.reading (kept_count c.args.source given) c.args.view given old new) (Made c.args.source c.args.reading c.args.view c.args.input.now old new)
    (λ s. made_of c.args.source c.args.reading c.args.view c.args.input.now given old new c.in_ok-given.ensures s) shown
