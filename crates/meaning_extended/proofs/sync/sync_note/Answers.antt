use Rattle.std.proofs.Common.{rules, ◌≡◌, [], ◌++◌, codes, slice_index, drop, ap, ◌∙◌}
use Rattle.meaning_words.specs.Notes.{rest_words}
use Rattle.meaning_fields.specs.Fields.{field_words}
use Rattle.meaning_extended.specs.Sync.{light_text, other_bits, other_text, plain_text, sync_rows}
use Rattle.meaning_extended.proofs.VendorParts.{six_alone}
use Rattle.meaning_extended.proofs.sync.sync_note.Goals as goal

pub returns-clause-value : goal.returns-clause-value
returns-clause-value c =
    let p = c.args.payload.now in
    let none : c.new-words.result.items ≡ [] = search rules in
    let bits : c.other_bits.result ≡ other_bits (slice_index p 5) = c.other_bits.ensures ∙ ap other_bits c.byte_at.ensures in
    let other : c.append_other.new.note.items ≡ c.append_fields.new.note.items ++ other_text (other_bits (slice_index p 5)) =
    c.append_other.ensures.items ∙ ap (λ b. c.append_fields.new.note.items ++ other_text b) bits in
    let rest : c.append_rest.new.note.items ≡ c.append_plain.new.note.items ++ rest_words (drop 10 p) =
    c.append_rest.ensures.items ∙ ap (λ r. c.append_plain.new.note.items ++ rest_words r) c.after.ensures.rest in
    six_alone c.new-words.result.items c.append.new.block.items c.append_fields.new.note.items c.append_other.new.note.items c.append_light.new.note.items c.append_plain.new.note.items c.append_rest.new.note.items
    (codes ", AMD FreeSync") (field_words sync_rows p) (other_text (other_bits (slice_index p 5))) (light_text p) (plain_text p) (rest_words (drop 10 p))
    none c.append.ensures.items c.append_fields.ensures.items other c.append_light.ensures.items c.append_plain.ensures.items rest
