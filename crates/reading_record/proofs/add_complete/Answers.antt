use Rattle.std.proofs.Common.{ℕ, List, ◌++◌, map, subst₂}
use Rattle.text_core.specs.Adds.{Adds}
use Rattle.record_core.specs.Cells.{plain_of}
use Rattle.record_core.specs.Records.{record_text}
use Rattle.reading_record.specs.Reading.{begun_cells, frame_cells}
use Rattle.reading_record.proofs.add_complete.Goals as goal

pub returns : goal.returns
returns g c =
    subst₂ (λ (ending verdict : List ℕ). Adds c.args.out.now c.add_frame.new.out (record_text c.args.form c.args.kind.now (
    begun_cells c.args.reading.now.begin c.args.reading.now.at ending (frame_cells c.args.frame.now c.args.told.now verdict) ++ map plain_of c.args.more.now)))
    c.ending_name-ending.ensures c.verdict_name-verdict.ensures c.add_frame.ensures
