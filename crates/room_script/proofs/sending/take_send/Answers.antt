use Rattle.std.proofs.Common.{ap}
use Rattle.std.specs.Option.{option_copied}
use Rattle.text_core.specs.Words.{words_after}
use Rattle.text_forms.specs.Forms.{late_time_at, text_at, values_of, words_at}
use Rattle.room_script.specs.Script.{notes_of}
use Rattle.room_script.proofs.Reading.{gives_send}
use Rattle.room_script.proofs.sending.take_send.Goals as goal

pub returns-clause-gives : goal.returns-clause-gives
returns-clause-gives c =
    let values = values_of c.args.line.now in
    gives_send c.args.tree.now (notes_of c.args.draft.now) (notes_of c.schedule_frame.new.draft) c.args.number (late_time_at values 1) (text_at values 3) c.text.result.now
    (words_at values 4) (words_after (option_copied c.rest.result)) c.handed_in-handed.result c.in-Some.frame.now c.first_word.result.0.now (words_after (option_copied c.first_word.result.1))
    c.schedule_frame.result c.late_time.result c.device_named.result c.header_names.result c.in_ok-read.read
    c.text.ensures c.rest.ensures c.handed_in-handed.ensures.said (ap (λ f. words_after (option_copied f)) c.in-Some.is) c.first_word.ensures c.late_time.ensures c.device_named.ensures.value
    c.header_names.ensures c.in_ok-read.ensures c.schedule_frame.ensures.gives
