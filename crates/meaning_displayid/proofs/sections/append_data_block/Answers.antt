use Rattle.meaning_displayid.proofs.Joins.{joined}
use Rattle.meaning_displayid.specs.Sections.{block_lines, revision_lines, section_lines}
use Rattle.meaning_displayid.proofs.sections.append_data_block.Goals as goal

pub returns-clause-items : goal.returns-clause-items
unfolding block_lines
returns-clause-items c =
    joined _ _ _ (revision_lines c.args.tag c.args.revision) (section_lines c.args.tag c.args.revision c.args.payload.now) c.append_revision.ensures.items c.append_section.ensures.items
