use Rattle.std.proofs.Common.{rules, codes, drop, option_and_then, slice_get, slice_index, List, subst, ◌/◌, ◌%◌}
use Rattle.message_hex.specs.Remark.{remark}
use Rattle.message_table.specs.Table.{name_of}
use Rattle.message_text.specs.FrameText.{frame_text}
use Rattle.message_meaning.specs.Records.{word_lead, word_value}
use Rattle.message_meaning.proofs.Stays.{known_same}
use Rattle.record_core.specs.Cells.{PlainCell}
use Rattle.record_core.specs.Records.{record_text}
use Rattle.text_core.specs.Adds.{Adds}
use Rattle.message_meaning.proofs.frame.add_frame.Goals as goal

pub returns : goal.returns
returns g c =
    let frame = c.args.frame.now in
    subst (λ (cells : List PlainCell). Adds c.args.out.now c.add_known.new.out (record_text c.args.form (codes "frame") cells))
    (known_same _ (frame_text frame) _ (word_lead (remark frame)) _ (word_value (remark frame)) _ (slice_index frame 0 / 16) _ (slice_index frame 0 % 16)
    _ (slice_get frame 1) _ (word_value (option_and_then name_of (slice_get frame 1))) _ (drop 2 frame) _ frame
    (search rules) (search rules) (search rules) (search rules) (search rules) (search rules) (search rules) (search rules) (search rules)) c.add_known.ensures
