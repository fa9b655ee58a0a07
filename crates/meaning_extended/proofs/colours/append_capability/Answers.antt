use Rattle.std.proofs.Common.{◌++◌, drop, flat_map, slice_index, ap, ◌∙◌}
use Rattle.meaning_words.specs.Notes.{below, own_line, rest_words}
use Rattle.meaning_extended.specs.Colours.{capability_words}
use Rattle.meaning_extended.proofs.Parts.{both}
use Rattle.meaning_extended.proofs.colours.append_capability.Goals as goal

pub returns : goal.returns
returns c =
    let words = both c.capability_note-words.result.items (rest_words c.after.result.now) (capability_words (slice_index c.args.payload.now 0)) (rest_words (drop 1 c.args.payload.now))
    (c.capability_note-words.ensures.value ∙ ap capability_words c.byte_at.ensures) (ap rest_words c.after.ensures.rest) in
    c.append_words.ensures.items ∙ ap (λ l. c.args.page.now.items ++ flat_map own_line (below l)) (c.as_slice.ensures.value ∙ c.append_rest.ensures.items ∙ words)
