use Rattle.std.proofs.Common.{ℕ, Option, List, [], ◌∷◌, ◌++◌, codes, map, subst₂}
use Rattle.text_core.specs.Adds.{Adds}
use Rattle.record_core.specs.Cells.{both, hidden, plain_of}
use Rattle.record_core.specs.Records.{record_text}
use Rattle.record_core.specs.Values.{hex_or, nibble_or, text}
use Rattle.reading_record.specs.Reading.{begun_cells}
use Rattle.reading_record.proofs.add_frame.Goals as goal

pub returns : goal.returns
returns g c =
    subst₂ (λ (initiator destination : Option ℕ). Adds c.args.out.now c.add_record_with.new.out (record_text c.args.form c.args.kind.now (
    begun_cells c.args.reading.now.begin c.args.reading.now.at c.args.ending.now (
    both (codes " ") (codes "frame") (text c.args.told.now) ∷ hidden (codes "initiator") (nibble_or initiator) ∷ hidden (codes "destination") (nibble_or destination)
    ∷ hidden (codes "bytes") (hex_or c.args.frame.now) ∷ both (codes " ") (codes "verdict") (text c.args.verdict.now) ∷ []) ++ map plain_of c.args.more.now)))
    c.initiator_in.ensures c.destination_in.ensures c.add_record_with.ensures
