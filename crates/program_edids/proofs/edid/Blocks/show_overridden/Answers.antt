use Rattle.std.proofs.Common.{ℕ, List, OnOk, subst}
use Rattle.program_edids.specs.Edids.{ShowsCounted, ShowsAs}
use Rattle.cli_choice.specs.declared.choice.EdidReading.TheVariants.{Overridden}
use Rattle.program_edids.proofs.ShownLemmas.{on_ok}
use Rattle.program_edids.proofs.edid.Blocks.show_overridden.Goals as goal

pub returns-in-Ok : goal.returns-in-Ok
returns-in-Ok g c =
    let old = g.W.Sink.contents c.args.out.now in
    let new = g.W.Sink.contents c.show_counted.new.out in
    let P : List ℕ → Type 0 = λ b. OnOk c.show_counted.result (ShowsCounted c.args.count c.args.view b old new) in
    on_ok c.show_counted.result (ShowsCounted c.args.count c.args.view c.in-Ok.bytes.items old new) (ShowsAs Overridden c.args.count c.args.view c.args.self.bytes.now old new)
    (λ s. (s.0, (c.in-Ok.bytes.items, c.in-Ok.ensures.ok, s.1), s.2)) (subst P c.as_slice.ensures.value c.show_counted.ensures)
