-- What is answered of frames and their texts (this profile's own).
use Rattle.std.specs.Prelude.{◌≡◌, ℕ, ◌<◌, ◌≤◌, List, length, IsTrue}
use Rattle.message_text.specs.FrameReading.{is_frame}
use Rattle.message_text.specs.FrameText.{frame_text}
use Rattle.message_text.specs.Refusals.{IsRefused as IsNoText}
use Rattle.message_text.specs.declared.assembler.AssembleError.{AssembleError}
use Rattle.library_answers.specs.Faults.{text_code}
use Rattle.library_answers.specs.Room.{IsPut, IsRefused}
use Rattle.library_answers.specs.declared.answer.Answer.{Answer}
use Rattle.library_answers.specs.declared.code.Code.TheVariants.{FrameEmpty, FrameTooLong}

-- the text is a frame's, whose bytes are put into the room
abbrev pub IsFramePut : List ℕ → List ℕ → List ℕ → Answer → Type 0
IsFramePut text old new answer = (frame : List ℕ) × (frame_text frame ≡ text) × IsPut frame old new answer

-- the text is no frame's, for this cause, and nothing is put
abbrev pub IsNoFrameText : List ℕ → List ℕ → List ℕ → Answer → Type 0
IsNoFrameText text old new answer = (cause : AssembleError) × IsNoText text cause × IsRefused (text_code cause) 0 old new answer

-- the text of the frame of one byte to sixteen is put, and of no other count
abbrev pub AnswersFrameText : List ℕ → List ℕ → List ℕ → Answer → Type 0
AnswersFrameText bytes old new answer =
    (1 ≤ length bytes → length bytes ≤ 16 → IsPut (frame_text bytes) old new answer)
    × (length bytes ≡ 0 → IsRefused FrameEmpty 0 old new answer)
    × (16 < length bytes → IsRefused FrameTooLong 0 old new answer)

-- the bytes of the frame that has the text are put; a code above 1 says why the text is none's
abbrev pub AnswersFrameBytes : List ℕ → List ℕ → List ℕ → Answer → Type 0
AnswersFrameBytes text old new answer =
    ((frame : List ℕ) → IsTrue (is_frame frame) → text ≡ frame_text frame → IsPut frame old new answer)
    × (answer.code ≤ 1 → IsFramePut text old new answer)
    × (1 < answer.code → IsNoFrameText text old new answer)
