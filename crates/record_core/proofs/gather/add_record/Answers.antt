use Rattle.std.proofs.Common.{ap, append-nil, map}
use Rattle.record_core.specs.Cells.{plain_of}
use Rattle.record_core.specs.Records.{record_text}
use Rattle.record_core.proofs.Plain.{adds_as}
use Rattle.record_core.proofs.gather.add_record.Goals as goal

pub returns : goal.returns
returns g c =
    adds_as c.args.out.now c.add_record_with.new.out _ _ (ap (record_text c.args.form c.args.kind.now) (append-nil (map plain_of c.args.cells.now))) c.add_record_with.ensures
