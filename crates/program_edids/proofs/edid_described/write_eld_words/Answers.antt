use Rattle.std.proofs.Common.{subst}
use Rattle.std.specs.Io.KnownBytes.{Appends}
use Rattle.edid_eld.specs.Eld.{Parts}
use Rattle.meaning_eld.specs.Records.{eld_text}
use Rattle.program_edids.proofs.edid_described.write_eld_words.Goals as goal

pub returns : goal.returns
returns g c =
    let P : Parts → Type 0 = λ p. Appends (g.W.Sink.contents c.args.out.now) (g.W.Sink.contents c.write_eld.new.out) (eld_text c.args.form p) in
    subst P c.display_eld-eld.ensures c.in_ok-write_eld.ensures.1
