use Rattle.std.proofs.Common.{◌≡◌, ◌++◌, ◌∷◌, [], length, arith, ◌∙◌}
use Rattle.edid_texts.specs.Drafts.{lines_so_far, whole_lines}
use Rattle.edid_texts.specs.declared.stage.Stage.TheVariants.{Whole as AtWhole}
use Rattle.edid_texts.proofs.Fronts.{full_next, whole_next}
use Rattle.edid_texts.proofs.Places.{follows, lines_are, whole_at}
use Rattle.edid_texts.proofs.steps.put_whole.Goals as goal

pub returns-then-len-eq3 : goal.returns-then-len-eq3
returns-then-len-eq3 c =
    let d = c.args.draft.now in
    let len = c.len.ensures.value in
    let test = c.if-len-eq3.true in
    let full : length d.extensions.items ≡ 3 = omega (arith, len, test) in
    let w = whole_at d c.requires in
    λ f. full_next w c.args.line.now full (follows (lines_so_far d) (whole_lines w) c.args.line.now (lines_are d AtWhole c.requires) f)

pub returns-in_default-raw_ext_of : goal.returns-in_default-raw_ext_of
returns-in_default-raw_ext_of c =
    let d = c.args.draft.now in
    let w = whole_at d c.requires in
    λ f. whole_next w c.args.line.now c.in_default.ensures c.in_default-one_byte.ensures c.in_default-raw_ext_of.ensures
    (follows (lines_so_far d) (whole_lines w) c.args.line.now (lines_are d AtWhole c.requires) f)
