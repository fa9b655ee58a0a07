use Rattle.std.proofs.Common.{refl}
use Rattle.follow_audit.proofs.Audited.{says_line}
use Rattle.follow_audit.proofs.listener.Listener.hear_line.Goals as goal

pub returns : goal.returns
returns g c = says_line g.H.LineHearer.hears c.args.self.now _ c.args.reading c.args.out.now c.reading.new.self c.requires refl refl refl refl refl c.reading.ensures
