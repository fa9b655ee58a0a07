-- What is told of a reading (own): what its line says after its times, and how it is shown, in a form.
use Rattle.std.specs.Prelude.{ℕ, codes, List, [], ◌∷◌}
use Rattle.std.specs.List.{concat}
use Rattle.line_frames.specs.declared.Ending.{Ending}
use Rattle.line_frames.specs.declared.Ending.TheVariants.{Complete, Short, Silent, BadStart, Long, Open}
use Rattle.line_frames.specs.declared.Reading.{Reading}
use Rattle.message_text.specs.ReadingText.{is_complete, reported_text, verdict_text}
use Rattle.record_core.specs.declared.cell.Form.{Form}
use Rattle.expect_judge.specs.Told.{RoundLine}
use Rattle.expect_told.specs.Shown.{reading_shown}

-- how it ended; of a complete one no word is said
abbrev pub ending_said : Ending → List ℕ
ending_said Complete = []
ending_said Short = codes "short "
ending_said Silent = codes "silent "
ending_said BadStart = codes "bad-start "
ending_said Long = codes "long "
ending_said Open = codes "open "

-- what was read, and how it was acknowledged
abbrev pub reading_said : Reading → List ℕ
reading_said r = concat (ending_said r.ending ∷ reported_text r ∷ verdict_text r ∷ [])

-- a reading by itself, as a round of which nobody is said to send
abbrev pub reading_told : Form → Reading → RoundLine
reading_told form r = record { begin = r.begin; at = r.at; is_complete = is_complete r.ending; reported = reading_said r; shown = reading_shown form r }
