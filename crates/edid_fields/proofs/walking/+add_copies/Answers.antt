use Rattle.std.proofs.Common.{ap, map, option_map, sym, ◌∙◌}
use Rattle.edid_fields.specs.Forms.{shape_in_code}
use Rattle.edid_fields.proofs.Steps.{end_step}
use Rattle.edid_fields.proofs.walking.+add_copies.Goals as goal

pub returns-in-Some-clause-end : goal.returns-in-Some-clause-end
returns-in-Some-clause-end t c =
    let met = sym c.next_shape.ensures.value ∙ ap (option_map shape_in_code) c.in-Some.is in
    c.add_copies.ensures.end ∙ end_step c.args.times c.args.stop c.args.payload.now c.args.starts.now (map shape_in_code c.args.shapes.now) c.args.place c.after_shape-next.result (shape_in_code c.in-Some.shape) c.if-times-eq0.false met c.after_shape-next.ensures.value
