use Rattle.conversion_notes.proofs.Joins.{joined}
use Rattle.meaning_base.specs.Raws.{raw_meanings}
use Rattle.meaning_base.specs.Descriptors.{descriptor_meanings}
use Rattle.conversion_notes.proofs.meanings.append_raw_lines.Goals as goal

pub returns : goal.returns
returns c =
    let p = c.args.bytes.now in
    joined _ _ _ (raw_meanings p) (descriptor_meanings p) c.append_raw.ensures.items c.append_descriptor.ensures
