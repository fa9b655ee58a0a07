use Rattle.std.proofs.Common.{◌≡◌, ◌∙◌, List, Option, ℕ, ap, codes, rules, subst}
use Rattle.text_core.specs.Adds.{Adds}
use Rattle.text_core.specs.declared.piece.Piece.{Piece}
use Rattle.device_core.specs.State.{held_by}
use Rattle.record_core.specs.Cells.{PlainCell}
use Rattle.record_core.specs.Records.{record_text}
use Rattle.record_core.specs.Values.{pieces}
use Rattle.room_trace.specs.Records.{held_units, outside_cells, unit_pieces}
use Rattle.room_trace.proofs.state_text.add_outside.Goals as goal

pub returns : goal.returns
returns g c =
    let d = c.args.device.now in
    let held : c.all_held.result ≡ held_by d = search rules in
    let units : c.deref.result.now ≡ unit_pieces (held_units (held_by d)) =
    c.deref.ensures.0 ∙ c.held_units-units.ensures ∙ ap (λ (h : List (Option ℕ)). unit_pieces (held_units h)) held in
    subst (λ (cells : List PlainCell). Adds c.args.out.now c.add_record.new.out (record_text c.args.form (codes "state") cells))
    (c.outside_cells.ensures ∙ ap (λ (ps : List Piece). outside_cells d (pieces (codes "+") ps)) units) c.add_record.ensures
