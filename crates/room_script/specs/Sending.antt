-- What a line `at T send NAME ..` hands in (own): perhaps `attempts N`, and then a frame, as its text or as `hex` and its bytes.
use Rattle.std.specs.Prelude.{◌≡◌, ℕ, ◌+◌, ◌&&◌, nat_le, cond, codes, if◌then◌else◌, List, [], ◌∷◌, Option, Some, None, option_map, Result, Ok, Err}
use Rattle.std.specs.Option.{option_copied}
use Rattle.std.specs.Str.{bytes_eq}
use Rattle.text_core.specs.At.{at_word}
use Rattle.text_core.specs.Number.{number_of}
use Rattle.text_core.specs.Words.{text_of, words_after}
use Rattle.text_core.specs.declared.at.AtWord.{AtWord}
use Rattle.message_hex.specs.Bytes.{frame_in}
use Rattle.message_hex.specs.declared.bytes.DisCause.{DisCause}
use Rattle.message_text.specs.Causes.{frame_word}
use Rattle.message_text.specs.FrameLines.{IsTextOf}
use Rattle.message_text.specs.Refusals.{IsRefused}
use Rattle.message_text.specs.declared.assembler.AssembleError.{AssembleError}
use Rattle.room_script.specs.Header.{digits_text}
use Rattle.room_script.specs.declared.sending.HandedIn.{HandedIn}
use Rattle.room_script.specs.declared.script.ScriptCause.{ScriptCause}
use Rattle.room_script.specs.declared.script.ScriptCause.TheVariants.{Word, Frame, Hex}

-- ---- attempts

-- a frame is sent, and retransmitted up to five times (CEC 7.1)
abbrev pub attempts_within : Option ℕ → Option ℕ
attempts_within None = None
attempts_within (Some n) = if nat_le 1 n && nat_le n 6 then Some n else None

abbrev pub attempts_of : List ℕ → Option ℕ
attempts_of word = attempts_within (number_of word)

-- The words of a frame, the first of which has this number in the line, and how many attempts the frame has in all, where the line says
-- so. None is a number that is none.
pub record Handed : Type 0 where
  pub at : ℕ
  pub attempts : Option (Option ℕ)
  pub words : List (List ℕ)

abbrev pub with_attempts : List (List ℕ) → Handed
with_attempts [] = record { at = 5; attempts = Some None; words = [] }
with_attempts (number ∷ words) = record { at = 6; attempts = option_map Some (attempts_of number); words = words }

-- what stands after the name
abbrev pub handed_in : List (List ℕ) → Handed
handed_in [] = record { at = 4; attempts = Some None; words = [] }
handed_in (word ∷ words) = if bytes_eq word (codes "attempts") then with_attempts words else record { at = 4; attempts = Some None; words = word ∷ words }

-- the same without where the words lie in memory
abbrev pub handed_as : HandedIn → Handed
handed_as h = record { at = h.at; attempts = h.attempts; words = words_after (option_copied h.frame) }

-- ---- the frame

-- a text is this frame's and no other's, or no frame's, for this cause
abbrev pub IsFrameOf : List ℕ → Result (List ℕ) AssembleError → Type 0
IsFrameOf text (Ok frame) = IsTextOf text frame × ((other : List ℕ) → IsTextOf text other → frame ≡ other)
IsFrameOf text (Err cause) = IsRefused text cause × ((frame : List ℕ) → IsTextOf text frame → ⊥)

-- a text whose first word has this number
abbrev pub frame_read : ℕ → Result (List ℕ) AssembleError → Result (List ℕ) (AtWord ScriptCause)
frame_read at (Ok frame) = Ok frame
frame_read at (Err cause) = Err (at_word (at + frame_word cause) (Frame cause))

-- bytes in hex, as tools print them, the first word of which has this number
abbrev pub hex_read : ℕ → Result (List ℕ) DisCause → Result (List ℕ) (AtWord ScriptCause)
hex_read at (Ok frame) = Ok frame
hex_read at (Err cause) = Err (at_word at Hex)

-- in a text's header names may stand
abbrev pub IsTextRead : ℕ → List (List ℕ) → Result (List ℕ) (AtWord ScriptCause) → Type 0
IsTextRead at words read = (frame : Result (List ℕ) AssembleError) × IsFrameOf (digits_text words) frame × (read ≡ frame_read at frame)

-- the frame that words say, the first of which has this number
abbrev pub IsFrameRead : ℕ → List (List ℕ) → Result (List ℕ) (AtWord ScriptCause) → Type 0
IsFrameRead at [] read = read ≡ Err (at_word at Word)
IsFrameRead at (word ∷ words) read =
    cond {A = Type 0} (bytes_eq word (codes "hex")) (read ≡ hex_read (at + 1) (frame_in (text_of words))) (IsTextRead at (word ∷ words) read)
