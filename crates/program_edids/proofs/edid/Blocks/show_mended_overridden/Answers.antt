use Rattle.std.proofs.Common.{ℕ, ◌∙◌, ap, List, OnOk, slice_index, subst}
use Rattle.program_edids.specs.Edids.{ShowsAs}
use Rattle.cli_choice.specs.declared.choice.EdidReading.TheVariants.{Overridden, MendedOverridden}
use Rattle.program_edids.proofs.ShownLemmas.{on_ok}
use Rattle.program_edids.proofs.edid.Blocks.show_mended_overridden.Goals as goal

pub returns-in-Ok : goal.returns-in-Ok
returns-in-Ok g c =
    let old = g.W.Sink.contents c.args.out.now in
    let new = g.W.Sink.contents c.show_overridden.new.out in
    let bytes = c.in-Ok.bytes.items in
    let P : List ℕ → Type 0 = λ b. OnOk c.show_overridden.result (ShowsAs Overridden c.byte_at.result c.args.view b old new) in
    let Q : ℕ → Type 0 = λ n. OnOk c.show_overridden.result (ShowsAs Overridden n c.args.view bytes old new) in
    on_ok c.show_overridden.result (ShowsAs Overridden (slice_index bytes 126) c.args.view bytes old new) (ShowsAs MendedOverridden c.args.count c.args.view c.args.self.bytes.now old new)
    (λ s. (s.0, (bytes, c.in-Ok.ensures.ok, s.1), s.2))
    (subst Q (c.byte_at.ensures ∙ ap (λ b. slice_index b 126) c.as_slice-in-Ok.ensures.value) (subst P c.as_slice.ensures.value c.show_overridden.ensures))
