use Rattle.std.proofs.Common.{ℕ, List, codes, subst, ◌∷◌, []}
use Rattle.text_core.specs.Adds.{Adds}
use Rattle.record_core.proofs.Parts.{parted}
use Rattle.record_core.specs.Cells.{both}
use Rattle.record_core.specs.Records.{record_text}
use Rattle.record_core.specs.Values.{number, text}
use Rattle.live_session.proofs.Saying.{recorded}
use Rattle.live_session.specs.Session.{refused_cells, refused_line}
use Rattle.live_session.proofs.answer.add_refused.Goals as goal

pub returns : goal.returns
returns g c =
    let line = c.args.line in
    let cells = refused_cells line c.args.refusal in
    recorded c.args.form (refused_line line c.args.refusal) (codes "refusal") cells c.args.out.now c.add_record.new.out (parted cells)
    (subst (λ (cause : List ℕ). Adds c.args.out.now c.add_record.new.out (record_text c.args.form (codes "refusal") (both (codes "! ") (codes "script_line") (number line) ∷ both (codes " ") (codes "cause") (text cause) ∷ [])))
    c.refusal_cause-cause.ensures c.add_record.ensures)
