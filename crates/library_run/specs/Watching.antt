-- What is answered of an edge file (this profile's own).
use Rattle.std.specs.Prelude.{◌≡◌, ℕ, List, Ok, Err}
use Rattle.capture_monitor.specs.EdgeFile.{EdgeFile, file_of}
use Rattle.capture_monitor.specs.Watch.{file_readings, readings_text}
use Rattle.capture_monitor.specs.declared.edge_file.EdgeFault.TheVariants as fault
use Rattle.capture_monitor.specs.declared.watching.WatchError.{WatchError}
use Rattle.capture_monitor.specs.declared.watching.WatchError.TheVariants.{Line, Order, Write, Memory as NoMemory}
use Rattle.library_answers.specs.Room.{IsPut, refusal}
use Rattle.library_answers.specs.declared.answer.Answer.{Answer}
use Rattle.library_answers.specs.declared.code.Code.TheVariants.{EdgesLine, EdgesOrder, Memory}

-- a write into memory fails where memory runs out
abbrev pub watch_answer : WatchError → Answer
watch_answer (Line line word) = refusal EdgesLine line
watch_answer (Order line word) = refusal EdgesOrder line
watch_answer (Write count) = refusal Memory 0
watch_answer NoMemory = refusal Memory 0

-- the lines of the readings of the file are put into the room
abbrev pub AreReadingsPut : List ℕ → List ℕ → List ℕ → Answer → Type 0
AreReadingsPut text old new answer = (f : EdgeFile) × (file_of text ≡ Ok f) × IsPut (readings_text (file_readings f)) old new answer

-- when each refusal comes
abbrev pub IsWatchReported : List ℕ → WatchError → Type 0
IsWatchReported text (Line line word) = file_of text ≡ Err (fault.Line line word)
IsWatchReported text (Order line word) = file_of text ≡ Err (fault.Order line word)
IsWatchReported text (Write count) = (f : EdgeFile) × (file_of text ≡ Ok f)
IsWatchReported text NoMemory = ⊥

abbrev pub IsWatchRefused : List ℕ → List ℕ → List ℕ → Answer → Type 0
IsWatchRefused text old new answer = (cause : WatchError) × IsWatchReported text cause × (answer ≡ watch_answer cause) × (new ≡ old)
