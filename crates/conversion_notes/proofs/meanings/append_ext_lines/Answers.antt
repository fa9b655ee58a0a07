use Rattle.conversion_notes.proofs.Joins.{joined}
use Rattle.meaning_base.specs.Raws.{ext_meanings}
use Rattle.conversion_notes.specs.Meanings.{section_meanings}
use Rattle.conversion_notes.proofs.meanings.append_ext_lines.Goals as goal

pub returns : goal.returns
returns c =
    let p = c.args.bytes.now in
    joined _ _ _ (ext_meanings p) (section_meanings p) c.append_ext.ensures.items c.append_section.ensures
