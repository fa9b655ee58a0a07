use Rattle.std.proofs.Common.{◌≡◌, ◌∙◌, ◌++◌, ℕ, List, ap, codes, map, subst, sym}
use Rattle.std.specs.List.{flat_map}
use Rattle.text_core.specs.Adds.{Adds}
use Rattle.line_reading.specs.Follows.{standing_by_code}
use Rattle.record_core.specs.Cells.{PlainValue}
use Rattle.record_core.specs.Records.{record_text}
use Rattle.room_step_text.specs.EdgeText.{level_number, level_word, stand_part, standing_device, standing_value, stands_of, stands_value, stood_cells}
use Rattle.room_step_text.proofs.Stands.{stands_as}
use Rattle.room_step_text.proofs.edge_text.add_edge.Goals as goal

pub returns : goal.returns
returns g c =
    let e = c.args.edge in
    let all = λ (position : PlainValue). flat_map (standing_device position) c.args.devices.now in
    let parts = c.stands_of-stands.ensures ∙ ap all c.position_of.ensures in
    let stood : stands_value c.deref.result.now ≡ stands_of (all (standing_value (standing_by_code c.args.standing))) =
    ap stands_value c.deref.ensures.0 ∙ stands_as c.stands_of-stands.result.items _ parts in
    let text = λ (word : List ℕ) (level : ℕ) (devices : PlainValue). record_text c.args.form (codes "edge") (stood_cells e.at word level devices) in
    let first = subst (λ (d : PlainValue). Adds c.args.out.now c.add_stood.new.out (text c.level_word.result.now c.level_number.result d)) stood c.add_stood.ensures in
    let second = subst (λ (w : List ℕ). Adds c.args.out.now c.add_stood.new.out (text w c.level_number.result (stands_of (all (standing_value (standing_by_code c.args.standing)))))) c.level_word.ensures first in
    subst (λ (n : ℕ). Adds c.args.out.now c.add_stood.new.out (text (level_word e.low) n (stands_of (all (standing_value (standing_by_code c.args.standing)))))) c.level_number.ensures second
