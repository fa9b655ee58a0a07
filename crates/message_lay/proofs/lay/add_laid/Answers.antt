use Rattle.std.proofs.Common.{◌≡◌, ◌∙◌, List, subst}
use Rattle.std.specs.List.{flat_map}
use Rattle.text_core.specs.Adds.{Adds}
use Rattle.line_wave.specs.declared.Stretch.{Stretch}
use Rattle.message_lay.specs.Text.{pull_record}
use Rattle.message_lay.proofs.OneReading.{one_line}
use Rattle.message_lay.proofs.lay.add_laid.Goals as goal

pub returns-in-Ok : goal.returns-in-Ok
returns-in-Ok g c = λ pulls h.
    let read = one_line c.args.line.now pulls _ h c.in-Ok.ensures in
    let same : c.in-Ok.pulls.items ≡ pulls = cc in
    subst (λ (ps : List Stretch). Adds c.args.out.now c.add_pulls.new.out (flat_map (pull_record c.args.form) ps)) (c.deref.ensures.0 ∙ same) c.add_pulls.ensures

pub returns-in-Err : goal.returns-in-Err
returns-in-Err g c = λ pulls h. let read = one_line c.args.line.now pulls _ h c.in-Err.ensures in cc
