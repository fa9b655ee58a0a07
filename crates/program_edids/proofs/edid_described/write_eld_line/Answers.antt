use Rattle.std.proofs.Common.{ℕ, List, subst, ◌∙◌}
use Rattle.std.specs.Io.KnownBytes.{Appends}
use Rattle.conversion_calls.specs.Form.{hex_line}
use Rattle.program_edids.proofs.edid_described.write_eld_line.Goals as goal

pub returns : goal.returns
returns g c =
    let P : List ℕ → Type 0 = λ b. Appends (g.W.Sink.contents c.args.out.now) (g.W.Sink.contents c.write_hex_line.new.out) (hex_line b) in
    subst P (c.as_slice.ensures.value ∙ c.eld_of-eld.ensures) c.in_ok-write_hex_line.ensures.0
