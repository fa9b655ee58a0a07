use Rattle.std.proofs.Common.{◌≤◌, ◌+◌, ◌++◌, IfSome, sym, subst}
use Rattle.std.specs.Option.{option_to_list}
use Rattle.capture_smooth.specs.Smooth.{smooth_edges}
use Rattle.capture_through.specs.Through.{AreFrom}
use Rattle.capture_through.proofs.Steps.{from_smooth, known_held}
use Rattle.capture_through.proofs.smoother.Smoother.known.Goals as goal

pub returns-in-None-clause-none : goal.returns-in-None-clause-none
returns-in-None-clause-none c = λ rest h.
    subst (λ x. AreFrom c.args.from (smooth_edges c.args.self.now.shortest (option_to_list x ++ rest))) (sym c.in-None.is) (from_smooth c.args.self.now.shortest c.args.from rest h)

pub returns-in-Some-clause-lag : goal.returns-in-Some-clause-lag
returns-in-Some-clause-lag c =
    c.earlier.ensures.either c.args.self.now.shortest (subst (λ x. IfSome x (λ e. c.args.from ≤ e.at + c.args.self.now.shortest)) c.in-Some.is c.requires)

pub returns-in-Some-clause-none : goal.returns-in-Some-clause-none
returns-in-Some-clause-none c = known_held c.args.self.now.shortest c.args.from c.earlier.result c.args.self.now.held c.in-Some.edge c.in-Some.is c.earlier.ensures.left c.earlier.ensures.right
