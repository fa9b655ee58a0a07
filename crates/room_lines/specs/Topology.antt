-- The forms of the lines of topologies (own): the table is the code's.
use Rattle.std.specs.Prelude.{List, map}
use Rattle.text_forms.specs.Forms.{Place}
use Rattle.room_lines.specs.declared.topology.TheConstants.{TOPOLOGY}
use Rattle.room_lines.specs.declared.topology.TopologyVerb.{TopologyVerb}

abbrev pub topology_rows : List (TopologyVerb × List Place)
topology_rows = map (λ r. (r.0, map (λ p. (p.0, p.1.now)) r.1.now)) TOPOLOGY.now
