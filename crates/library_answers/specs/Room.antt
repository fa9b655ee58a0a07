-- What a call has put into the room that it was lent (this profile's own).
use Rattle.std.specs.Prelude.{◌≡◌, ℕ, ◌<◌, ◌≤◌, ◌++◌, List, length, drop}
use Rattle.library_answers.specs.declared.answer.Answer.{Answer}
use Rattle.library_answers.specs.declared.code.Code.{Code}
use Rattle.library_answers.specs.declared.code.Code.TheVariants.{Done, Room}
use Rattle.library_answers.specs.Codes.{number_of}

-- The text stands at the front of the room, which else is as it was; where it does not fit, the room is as it was. The
-- answer has its length.
pub record IsPut (text old new : List ℕ) (answer : Answer) : Type 0 where
  pub reported : (answer.length ≡ length text) × (answer.line ≡ 0)
  pub fits : length text ≤ length old → (answer.code ≡ number_of Done) × (new ≡ text ++ drop (length text) old)
  pub too_long : length old < length text → (answer.code ≡ number_of Room) × (new ≡ old)

abbrev pub refusal : Code → ℕ → Answer
refusal code line = record { code = number_of code; line = line; length = 0 }

-- nothing is put into the room
abbrev pub IsRefused : Code → ℕ → List ℕ → List ℕ → Answer → Type 0
IsRefused code line old new answer = (answer ≡ refusal code line) × (new ≡ old)
