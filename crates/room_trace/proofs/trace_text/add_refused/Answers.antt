use Rattle.std.proofs.Common.{List, ℕ, ◌∷◌, ◌++◌, [], codes, map, subst}
use Rattle.text_core.specs.Adds.{Adds}
use Rattle.record_core.specs.Cells.{both, plain_of}
use Rattle.record_core.specs.Records.{record_text}
use Rattle.record_core.specs.Values.{number, text}
use Rattle.room_trace.proofs.trace_text.add_refused.Goals as goal

pub returns : goal.returns
returns g c =
    subst (λ (word : List ℕ). Adds c.args.out.now c.add_record_with.new.out (record_text c.args.form (codes "event") (
    (both [] (codes "at") (number c.args.at) ∷ both (codes " event ") (codes "script_line") (number c.args.line) ∷ both (codes " ") (codes "verdict") (text (codes "refused"))
    ∷ both (codes " ") (codes "cause") (text word) ∷ []) ++ map plain_of c.args.more.now)))
    c.error_word.ensures c.add_record_with.ensures
