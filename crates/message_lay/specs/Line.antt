-- Lines `T FRAME` and `T FAULT FRAME`, with `blocks HEX` for any bytes in the place of FRAME (own), and the pulls of each. A frame's
-- text is all that stands after the fault. No text of a frame begins with the verb of a fault or with `blocks`: it begins with
-- addresses.
use Rattle.std.specs.Prelude.{◌≡◌, ℕ, ◌+◌, ◌*◌, ◌%◌, ◌==◌, Bool, cond, nat_le, ◌&&◌, if◌then◌else◌, List, [], ◌∷◌, codes, length, Option, Some, None, Result, Ok, Err}
use Rattle.std.specs.List.{list_all}
use Rattle.std.specs.Str.{bytes_eq}
use Rattle.arrayvec.specs.declared.array_vec.ArrayVec.{ArrayVec}
use Rattle.text_core.specs.Hex.{hex_bytes}
use Rattle.text_core.specs.Lines.{is_skipped}
use Rattle.text_core.specs.Phys.{is_hex_digit}
use Rattle.text_core.specs.Words.{text_of, words_of}
use Rattle.message_text.specs.FrameLines.{IsTextOf}
use Rattle.message_text.specs.Refusals.{IsRefused}
use Rattle.message_text.specs.declared.assembler.AssembleError.{AssembleError}
use Rattle.line_wave.specs.declared.Stretch.{Stretch}
use Rattle.message_lay.specs.Bits.{most_blocks}
use Rattle.message_lay.specs.Faults.{pulls_read}
use Rattle.message_lay.specs.Words.{Head, fault_in, time_in}
use Rattle.message_lay.specs.declared.fault.LayCause.TheVariants.{Word, Number, Frame, Blocks}
use Rattle.text_core.specs.At.{at_word}
use Rattle.message_lay.specs.declared.fault.LayCause.{LayCause}
use Rattle.text_core.specs.declared.at.AtWord.{AtWord}
use Rattle.message_text.specs.Causes.{frame_word}
use Rattle.message_lay.specs.declared.pulls.Fault.{Fault}

-- the lower-case hex digits of 1 to 64 bytes
abbrev pub are_blocks : List ℕ → Bool
are_blocks digits = nat_le 2 (length digits) && nat_le (length digits) (2 * most_blocks) && (length digits % 2 == 0) && list_all is_hex_digit digits

abbrev pub blocks_read : ℕ → List ℕ → Result (List ℕ) (AtWord LayCause)
blocks_read at digits = if are_blocks digits then Ok (hex_bytes digits) else Err (at_word at Blocks)

-- bytes without where they lie in memory
abbrev pub blocks_in : Result (ArrayVec ℕ 64 (Unit {0})) (AtWord LayCause) → Result (List ℕ) (AtWord LayCause)
blocks_in (Ok bytes) = Ok bytes.items
blocks_in (Err fault) = Err fault

-- a text is this frame's and no other's, or no frame's, for this cause
abbrev pub IsFrameOf : List ℕ → Result (List ℕ) AssembleError → Type 0
IsFrameOf text (Ok frame) = IsTextOf text frame × ((other : List ℕ) → IsTextOf text other → frame ≡ other)
IsFrameOf text (Err cause) = IsRefused text cause × ((frame : List ℕ) → IsTextOf text frame → ⊥)

abbrev pub frame_read : ℕ → Result (List ℕ) AssembleError → Result (List ℕ) (AtWord LayCause)
frame_read at (Ok frame) = Ok frame
frame_read at (Err cause) = Err (at_word (at + frame_word cause) (Frame cause))

-- the frame of a text, whose first word has this number
abbrev pub IsFrameRead : ℕ → List ℕ → Result (List ℕ) (AtWord LayCause) → Type 0
IsFrameRead at text read = (frame : Result (List ℕ) AssembleError) × IsFrameOf text frame × (read ≡ frame_read at frame)

-- the digits are all that stands after `blocks`
abbrev pub blocks_after : ℕ → List (List ℕ) → Result (List ℕ) (AtWord LayCause)
blocks_after at [] = Err (at_word at Word)
blocks_after at (word ∷ words) = blocks_read at (text_of (word ∷ words))

-- what stands after the fault, whose first word has this number
abbrev pub IsContent : ℕ → List (List ℕ) → Result (List ℕ) (AtWord LayCause) → Type 0
IsContent at [] read = read ≡ Err (at_word at Word)
IsContent at (word ∷ words) read =
    cond {A = Type 0} (bytes_eq word (codes "blocks")) (read ≡ blocks_after (at + 1) words) (IsFrameRead at (text_of (word ∷ words)) read)

abbrev pub laid_by : ℕ → Fault → Result (List ℕ) (AtWord LayCause) → Result (List Stretch) (AtWord LayCause)
laid_by start fault (Ok bytes) = pulls_read start fault bytes
laid_by start fault (Err cause) = Err cause

abbrev pub IsHeadRead : ℕ → Result Head (AtWord LayCause) → Result (List Stretch) (AtWord LayCause) → Type 0
IsHeadRead start (Err fault) read = read ≡ Err fault
IsHeadRead start (Ok head) read =
    (content : Result (List ℕ) (AtWord LayCause)) × IsContent head.at head.words content × (read ≡ laid_by start head.fault content)

abbrev pub IsTimeRead : Option ℕ → List (List ℕ) → Result (List Stretch) (AtWord LayCause) → Type 0
IsTimeRead None words read = read ≡ Err (at_word 0 Number)
IsTimeRead (Some start) words read = IsHeadRead start (fault_in words) read

abbrev pub IsWordsRead : List (List ℕ) → Result (List Stretch) (AtWord LayCause) → Type 0
IsWordsRead [] read = read ≡ Err (at_word 0 Word)
IsWordsRead (time ∷ words) read = IsTimeRead (time_in time) words read

-- the pulls of a line, none where it is skipped
abbrev pub IsLineRead : List ℕ → Result (List Stretch) (AtWord LayCause) → Type 0
IsLineRead line read = cond {A = Type 0} (is_skipped line) (read ≡ Ok []) (IsWordsRead (words_of line) read)
