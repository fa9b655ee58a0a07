use Rattle.std.proofs.Common.{ℕ, List, OnOk, subst}
use Rattle.program_edids.specs.Edids.{Shows}
use Rattle.cli_choice.specs.declared.choice.Recipient.TheVariants.{Own, Port}
use Rattle.cli_choice.specs.declared.choice.Sound.TheVariants.{Spoken}
use Rattle.cli_choice.specs.declared.choice.View.TheVariants.{Whole}
use Rattle.program_edids.proofs.ShownLemmas.{on_ok}
use Rattle.program_edids.proofs.SoundLemmas.{spoken_whole}
use Rattle.program_edids.proofs.edid.Blocks.write_spoken.Goals as goal

pub returns : goal.returns
returns g c =
    let old = g.W.Sink.contents c.args.out.now in
    let new = g.W.Sink.contents c.write_own.new.out in
    let given = c.in_ok-given.given.items in
    let P : List ℕ → Type 0 = λ b. OnOk c.write_own.result (Shows (Whole Own c.args.shape) b old new) in
    on_ok c.write_own.result (Shows (Whole Own c.args.shape) given old new) (Shows (Whole (Port c.args.port Spoken) c.args.shape) c.args.self.bytes.now old new)
    (spoken_whole c.args.port c.args.shape c.args.self.bytes.now given old new c.in_ok-given.ensures) (subst P c.as_slice.ensures.value c.write_own.ensures)
