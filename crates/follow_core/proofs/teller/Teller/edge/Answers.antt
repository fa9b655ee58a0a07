use Rattle.std.proofs.Common.{IfSome, ◌≤◌, Option, option_map, refl, subst}
use Rattle.line_reading.specs.Reports.{listed_as}
use Rattle.line_wave.specs.declared.Edge.{Edge}
use Rattle.follow_core.proofs.Told.{tells_edge, tells_none}
use Rattle.follow_core.proofs.teller.Teller.edge.Goals as goal

pub returns-in-Some : goal.returns-in-Some
returns-in-Some c =
    tells_edge c.args.self.now _ c.args.edge c.in-Some.edge (option_map listed_as c.edge-in-Some.result) c.in-Some.is
    (subst (λ (o : Option Edge). IfSome o (λ e. e.at ≤ 2000000000000)) c.in-Some.is c.requires.early) refl c.edge-in-Some.ensures.by c.edge.ensures.finds c.edge.ensures.stays

pub returns-in-None : goal.returns-in-None
returns-in-None c = tells_none c.args.self.now c.args.edge c.in-None.is c.requires.known
