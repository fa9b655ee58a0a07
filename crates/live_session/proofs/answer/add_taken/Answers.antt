use Rattle.std.proofs.Common.{codes}
use Rattle.record_core.proofs.Parts.{parted}
use Rattle.live_session.proofs.Saying.{recorded}
use Rattle.live_session.specs.Session.{taken_cells, taken_line}
use Rattle.live_session.proofs.answer.add_taken.Goals as goal

pub returns : goal.returns
returns g c =
    let cells = taken_cells c.args.horizon in
    recorded c.args.form (taken_line c.args.horizon) (codes "horizon") cells c.args.out.now c.add_record.new.out (parted cells) c.add_record.ensures
