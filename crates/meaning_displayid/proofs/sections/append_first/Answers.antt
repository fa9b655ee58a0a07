use Rattle.std.proofs.Common.{◌++◌, ap, flat_map, slice_index, ◌∙◌}
use Rattle.meaning_words.specs.Notes.{own_line}
use Rattle.meaning_displayid.specs.Sections.{block_lines, first_lines}
use Rattle.meaning_displayid.proofs.sections.append_first.Goals as goal

pub returns-clause-items : goal.returns-clause-items
unfolding first_lines
returns-clause-items c =
    let page = c.args.page.now.items in
    let q = c.args.bytes.now in
    c.append_data_block.ensures.items
    ∙ ap (λ t. page ++ flat_map own_line (block_lines t c.byte_at-2.result c.first_payload.result.now)) c.byte_at.ensures
    ∙ ap (λ r. page ++ flat_map own_line (block_lines (slice_index q 0) r c.first_payload.result.now)) c.byte_at-2.ensures
    ∙ ap (λ p. page ++ flat_map own_line (block_lines (slice_index q 0) (slice_index q 1) p)) c.first_payload.ensures.value
