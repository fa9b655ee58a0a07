use Rattle.std.proofs.Common.{subst₂}
use Rattle.text_core.proofs.Adding.{then}
use Rattle.text_core.specs.Adds.{Adds}
use Rattle.edid_as_source.specs.Count.{extension_count}
use Rattle.edid_as_source.specs.Notes.{blocks_notes, count_note, rest_note}
use Rattle.edid_as_source.proofs.notes.add_extensions.Goals as goal
use Rattle.std.proofs.Common.{◌++◌, drop}

pub returns : goal.returns
returns g c =
    let bytes = c.args.bytes.now in
    let blocks = blocks_notes 3 1 (extension_count bytes) (drop 128 bytes) in
    then _ _ _ (count_note bytes) (rest_note bytes ++ blocks) c.add_count.ensures
    (then _ _ _ (rest_note bytes) blocks c.add_rest.ensures
    (subst₂ (λ n xs. Adds c.add_rest.new.out c.add_blocks.new.out (blocks_notes 3 1 n xs)) c.extension_count.ensures c.split_at.ensures.back c.add_blocks.ensures))
