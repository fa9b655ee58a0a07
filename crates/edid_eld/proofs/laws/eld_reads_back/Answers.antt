use Rattle.std.proofs.Common.{subst}
use Rattle.edid_eld.proofs.ReadBack.{read_back}
use Rattle.edid_eld.specs.Eld.{Parts}
use Rattle.edid_eld.specs.Reading.{IsReadBack}
use Rattle.edid_eld.proofs.laws.eld_reads_back.Goals as goal

pub returns : goal.returns
returns c = subst (λ (p : Parts). IsReadBack p) c.display_eld-eld.ensures (read_back c.display_eld-eld.result)
