use Rattle.std.proofs.Common.{◌≡◌, ◌++◌, codes, drop, slice_index, ap, ◌∙◌}
use Rattle.meaning_words.specs.Notes.{rest_words}
use Rattle.meaning_fields.specs.Luminance.{least_words}
use Rattle.meaning_extended.specs.Colours.{luminance_words}
use Rattle.meaning_extended.proofs.Parts.{four}
use Rattle.meaning_extended.proofs.colours.append_contents.Goals as goal

pub returns-clause-items : goal.returns-clause-items
returns-clause-items c =
    let p = c.args.payload.now in
    let most : c.append_luminance.new.note.items ≡ c.args.note.now.items ++ luminance_words (codes ", content up to ") (slice_index p 2) =
    c.append_luminance.ensures.items ∙ ap (λ n. c.args.note.now.items ++ luminance_words (codes ", content up to ") n) c.byte_at.ensures in
    let mean : c.append_luminance-2.new.note.items ≡ c.append_luminance.new.note.items ++ luminance_words (codes ", frames on average up to ") (slice_index p 3) =
    c.append_luminance-2.ensures.items ∙ ap (λ n. c.append_luminance.new.note.items ++ luminance_words (codes ", frames on average up to ") n) c.byte_at-2.ensures in
    let least : c.append_least.new.note.items ≡ c.append_luminance-2.new.note.items ++ least_words (slice_index p 2) (slice_index p 4) =
    c.append_least.ensures.items ∙ ap (λ n. c.append_luminance-2.new.note.items ++ least_words n c.byte_at-4.result) c.byte_at-3.ensures
    ∙ ap (λ n. c.append_luminance-2.new.note.items ++ least_words (slice_index p 2) n) c.byte_at-4.ensures in
    let left : c.append_rest.new.note.items ≡ c.append_least.new.note.items ++ rest_words (drop 5 p) =
    c.append_rest.ensures.items ∙ ap (λ l. c.append_least.new.note.items ++ rest_words l) c.after.ensures.rest in
    four c.args.note.now.items c.append_luminance.new.note.items c.append_luminance-2.new.note.items c.append_least.new.note.items c.append_rest.new.note.items
    (luminance_words (codes ", content up to ") (slice_index p 2)) (luminance_words (codes ", frames on average up to ") (slice_index p 3)) (least_words (slice_index p 2) (slice_index p 4)) (rest_words (drop 5 p))
    most mean least left
