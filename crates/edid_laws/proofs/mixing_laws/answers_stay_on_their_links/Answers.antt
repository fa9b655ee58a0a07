use Rattle.edid_laws.proofs.OnLinks.{on_links}
use Rattle.edid_laws.proofs.mixing_laws.answers_stay_on_their_links.Goals as goal

pub returns : goal.returns
returns c = on_links
