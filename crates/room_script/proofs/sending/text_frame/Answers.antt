use Rattle.std.proofs.Common.{ℕ, List, sym, subst, ◌∙◌}
use Rattle.std.specs.Option.{option_copied}
use Rattle.text_core.specs.Words.{words_after}
use Rattle.room_script.specs.Sending.{IsFrameOf}
use Rattle.room_script.proofs.Reading.{plain_text}
use Rattle.room_script.proofs.sending.text_frame.Goals as goal

pub returns-then-not-has_names : goal.returns-then-not-has_names
returns-then-not-has_names c =
    let plain = sym c.has_names.ensures ∙ c.if-not-has_names.true in
    let same = plain_text c.args.text.now c.first_word.result.0.now (words_after (option_copied c.first_word.result.1)) c.first_word.ensures plain in
    let FrameOf : List ℕ → Type 0 = λ t. IsFrameOf t c.read_frame.result in
    subst FrameOf (sym same) c.read_frame.ensures
