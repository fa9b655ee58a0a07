-- The line of a frame (own): its text, and after ` # ` a word of the standard that the text leaves as a byte.
use Rattle.std.specs.Prelude.{ℕ, List, [], ◌++◌, codes, Option, Some, None}
use Rattle.message_text.specs.FrameText.{frame_text}
use Rattle.message_hex.specs.Remark.{remark}

abbrev pub remark_text : Option (List ℕ) → List ℕ
remark_text None = []
remark_text (Some word) = codes " # " ++ word

abbrev pub frame_line : List ℕ → List ℕ
frame_line frame = frame_text frame ++ remark_text (remark frame) ++ codes "\n"
