use Rattle.edid_difference.proofs.Parting.{first_there, none_there, others_there, place_there}
use Rattle.edid_difference.proofs.part.part_at.Goals as goal

pub returns-in_default-clause-first : goal.returns-in_default-clause-first
returns-in_default-clause-first c = none_there c.args.base.now c.args.extensions.now c.args.place (rw c.from.ensures at c.in_default.ensures)

pub returns-clause-first : goal.returns-clause-first
returns-clause-first c =
    first_there c.args.base.now c.args.extensions.now c.args.place c.in-Some.line c.part_of.result (rw c.from.ensures at c.in-Some.ensures)
    (rw c.block_of-block.ensures.block at c.part_of.ensures)

pub returns-clause-others : goal.returns-clause-others
returns-clause-others c =
    others_there c.args.base.now c.args.extensions.now c.args.place c.in-Some.line c.part_of.result (rw c.from.ensures at c.in-Some.ensures)
    (rw c.block_of-block.ensures.block at c.part_of.ensures)

pub returns-clause-inside : goal.returns-clause-inside
returns-clause-inside c =
    place_there c.args.base.now c.args.extensions.now c.args.place c.in-Some.line c.part_of.result c.block_of-block.result c.requires.few (rw c.from.ensures at c.in-Some.ensures)
    (rw c.block_of-block.ensures.block at c.part_of.ensures) c.block_of-block.ensures.block c.block_of-block.ensures.next c.requires.inside
