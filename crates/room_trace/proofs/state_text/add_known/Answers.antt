use Rattle.std.proofs.Common.{◌≡◌, ◌∙◌, List, ap, codes, rules, subst}
use Rattle.text_core.specs.Adds.{Adds}
use Rattle.device_core.specs.State.{addresses_held}
use Rattle.record_core.specs.Cells.{PlainCell}
use Rattle.record_core.specs.Records.{record_text}
use Rattle.record_core.specs.Values.{pieces}
use Rattle.room_trace.specs.Records.{heard_value, parts_value, state_cells_of, unit_pieces, units_of}
use Rattle.room_trace.specs.StateText.{language_bytes}
use Rattle.room_trace.proofs.state_text.add_known.Goals as goal

pub returns : goal.returns
returns g c =
    let d = c.args.device.now in
    let record_is : c.record-record.result.now ≡ d.record_of = search rules in
    let kind : c.kind.result ≡ d.kind = search rules in
    let held : c.held.result ≡ addresses_held d.place = search rules in
    let units : c.deref.result.now ≡ unit_pieces (units_of d.kind (addresses_held d.place)) =
    c.deref.ensures.0 ∙ c.units_of-units.ensures ∙ (λ i. unit_pieces (units_of (kind i) (held i))) in
    let heard : parts_value c.deref-2.result.now ≡ heard_value d.record_of.heard =
    ap parts_value c.deref-2.ensures.0 ∙ c.heard_parts-heard.ensures ∙ (λ i. heard_value (record_is i).heard) in
    subst (λ (cells : List PlainCell). Adds c.args.out.now c.add_record.new.out (record_text c.args.form (codes "state") cells))
    (c.state_cells.ensures ∙ (λ i. state_cells_of d (pieces (codes "+") (units i)) (language_bytes (record_is i).language) (heard i))) c.add_record.ensures
