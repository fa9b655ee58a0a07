use Rattle.std.proofs.Common.{ℕ, List, subst, ◌∙◌}
use Rattle.std.specs.Io.KnownBytes.{Appends}
use Rattle.program_edids.proofs.edid_described.write_eld_bytes.Goals as goal

pub returns : goal.returns
returns g c =
    let P : List ℕ → Type 0 = λ b. Appends (g.W.Sink.contents c.args.out.now) (g.W.Sink.contents c.put_all.new.out) b in
    subst P (c.as_slice.ensures.value ∙ c.eld_of-eld.ensures) c.in_ok-put_all.ensures.ok
