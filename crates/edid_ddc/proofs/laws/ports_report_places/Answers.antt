use Rattle.std.proofs.Common.{Some, ap, ◌∙◌}
use Rattle.edid_tree.proofs.PortLemmas.{port_address-plugged}
use Rattle.edid_ddc.proofs.Learning.{reported}
use Rattle.edid_ddc.proofs.laws.ports_report_places.Goals as goal

pub returns : goal.returns
returns c = λ tree root passed device plug address result loose plugged placed passed_on learnt.
    reported result passed address learnt (passed_on.address ∙ ap Some (port_address-plugged tree device plug address loose plugged placed))
