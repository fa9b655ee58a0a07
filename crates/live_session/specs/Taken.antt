-- A line that was taken, and what was written after it.
use Rattle.std.specs.Prelude.{◌≡◌, ℕ, Bool, true, false, List, length, Option, Result, Ok, Err}
use Rattle.std.specs.Io.KnownBytes.{Appends}
use Rattle.text_core.specs.declared.sink.WriteFault.{WriteFault}
use Rattle.text_core.specs.Adds.{Adds, Tally}
use Rattle.text_core.specs.Cut.{CutOff, reported_count}
use Rattle.room_run.specs.Run.{Config}
use Rattle.live_session.specs.declared.live.Answered.{Answered}
use Rattle.live_session.specs.declared.live.Step.{Step}
use Rattle.live_session.specs.declared.live.LiveError.{LiveError}
use Rattle.live_session.specs.declared.live.LiveError.TheVariants.{Write, Memory}
use Rattle.live_session.specs.Session.{Session, SessionGoes, with_line_counted, IsStep, IsDue}

-- the run stands at some place, and nothing else of the session has changed
abbrev pub StandsSomewhere : Session → Session → Type 0
StandsSomewhere s t = (place : Config) × (t ≡ record s { place = place })

-- A session went on: the turns that are reported from where it stood were added to a text, with the edges or without. It stands after
-- them where no fault cut the text off, and nothing else of it has changed.
pub record IsGone (edges ended : Bool) (s t : Session) (old new : Tally) : Type 0 where
  pub reported : List ℕ
  pub text : List ℕ
  pub place : Config
  pub goes : SessionGoes edges ended s reported text place
  pub added : Adds old new text
  pub stands : new.failed ≡ false → t ≡ record s { place = place }
  pub somewhere : StandsSomewhere s t

-- what is due of a step was added, and where no fault cut it off the session is the one after it
pub record IsTaken (step : Step) (s t : Session) (old new : Tally) : Type 0 where
  pub text : List ℕ
  pub after : Session
  pub due : IsDue step s text after
  pub added : Adds old new text
  pub stands : new.failed ≡ false → t ≡ after
  pub somewhere : StandsSomewhere s t

-- what is due was written whole, or a fault cut it off; there is such a text, and one (`steps_have_one_text`)
abbrev pub IsAnswered : Step → Session → Session → Option (List ℕ) → Option (List ℕ) → Bool → Bool → Result ℕ WriteFault → Type 0
IsAnswered step s t old new was is (Ok reported) = (text : List ℕ) × IsDue step s text t × (reported ≡ reported_count (length text)) × Appends old new text × (is ≡ was)
IsAnswered step s t old new was is (Err fault) = ((text : List ℕ) × (after : Session) × IsDue step s text after × CutOff old new text fault) × (is ≡ true) × StandsSomewhere s t

-- A line asks for a step, which is said, and what is due of that was written. After a failed write the front of the text that is due was
-- written, as long as the fault says, and the session is the one that was asked, but for the place where its run stands. Where memory ran out the line counts, and nothing else has changed.
abbrev pub IsLineTaken : Session → List ℕ → Session → Option (List ℕ) → Option (List ℕ) → Bool → Bool → Result Answered LiveError → Type 0
IsLineTaken s line t old new was is (Ok answered) =
    (asked : Session) × IsStep s line answered.step asked × IsAnswered answered.step asked t old new was is (Ok answered.count)
IsLineTaken s line t old new was is (Err (Write count)) =
    (step : Step) × (asked : Session) × IsStep s line step asked × IsAnswered step asked t old new was is (Err (record { count = count }))
IsLineTaken s line t old new was is (Err Memory) = (t ≡ with_line_counted s) × (new ≡ old) × (is ≡ was)

-- memory ran out
abbrev pub IsOfMemory : Result Answered LiveError → Type 0
IsOfMemory (Ok answered) = ⊥
IsOfMemory (Err (Write count)) = ⊥
IsOfMemory (Err Memory) = Unit {0}
