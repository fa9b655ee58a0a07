-- What a frame means, in plain words (own): who says what to whom, then what its operands say.
use Rattle.std.specs.Prelude.{ℕ, Bool, ◌/◌, ◌%◌, ◌==◌, suc, if◌then◌else◌, Option, None, Some, List, [], ◌∷◌, ◌++◌, length, take, drop, slice_get, codes, option_and_then, unwrap_or}
use Rattle.std.specs.List.{position_or_len}
use Rattle.message_table.specs.Table.{name_of}
use Rattle.message_text.specs.FrameText.{frame_text}
use Rattle.message_hex.specs.Remark.{remark}
use Rattle.message_meaning.specs.Addresses.{receiver, sender}
use Rattle.message_meaning.specs.Sentences.{Sentence, sentence_for}

-- ---- words of a text, one space apart

abbrev pub word : List ℕ → List ℕ
word text = take (position_or_len (λ b. b == 32) text) text

abbrev pub after_word : List ℕ → List ℕ
after_word text = drop (suc (position_or_len (λ b. b == 32) text)) text

-- ---- what a message is for

abbrev pub statement : ℕ → List ℕ → List ℕ → List ℕ
statement header verb text = codes "  " ++ sender header ++ codes " " ++ verb ++ codes " " ++ receiver header ++ codes " " ++ text

-- of an opcode without a name, that it is sent
abbrev pub clause : ℕ → Option Sentence → List ℕ → List ℕ
clause header None name = statement header (codes "sends") name
clause header (Some s) name = statement header s.verb s.text

-- ---- what its operands say

-- the words after the first, where there are any
abbrev pub joint_of : List ℕ → List ℕ → List ℕ
joint_of joint rest = if length rest == 0 then [] else joint

abbrev pub told : List ℕ → List ℕ → List ℕ → List ℕ → List ℕ
told lead first joint rest = lead ++ first ++ joint ++ rest ++ codes "\n"

-- Feature Abort names an opcode: its name, if it has one (CEC 15)
abbrev pub refused_name : ℕ → List ℕ → Option (List ℕ)
refused_name code operands = if code == 0x00 then option_and_then name_of (slice_get operands 0) else None

abbrev pub worded : Sentence → ℕ → List ℕ → List ℕ → List ℕ
worded s code operands said = told s.lead (unwrap_or (refused_name code operands) (word said)) (joint_of s.joint (after_word said)) (after_word said)

abbrev pub remark_lead : Option (List ℕ) → List ℕ
remark_lead None = []
remark_lead (Some w) = codes ": "

abbrev pub remark_word : Option (List ℕ) → List ℕ
remark_word None = []
remark_word (Some w) = w

abbrev pub opening : List ℕ → List ℕ
opening hex = if length hex == 0 then [] else codes " (operands "

abbrev pub closing : List ℕ → List ℕ
closing hex = if length hex == 0 then [] else codes ")"

-- operands that the text leaves as bytes, with the standard's word for them where it has one
abbrev pub unread : Option (List ℕ) → List ℕ → List ℕ
unread w hex = remark_lead w ++ remark_word w ++ opening hex ++ hex ++ closing hex ++ codes "\n"

abbrev pub plain_tail : List ℕ → List ℕ
plain_tail said = said ++ codes "\n"

-- words of operands that are there
abbrev pub some_words : Option Sentence → List ℕ → List ℕ → List ℕ
some_words (Some s) (header ∷ code ∷ operands) said = worded s code operands said
some_words _ frame said = plain_tail said

-- The operands as the text of the frame has them: none, bytes after a colon, or words.
abbrev pub tail : Option Sentence → List ℕ → List ℕ → List ℕ
tail sentence frame [] = plain_tail []
tail sentence frame (c ∷ cs) = if c == 58 then unread (remark frame) cs else some_words sentence frame (c ∷ cs)

-- ---- the line of a frame

-- a poll for an address to take goes to the address that it comes from (CEC 10.2.1)
abbrev pub is_own_poll : ℕ → Bool
is_own_poll header = header / 16 == header % 16

abbrev pub between : List ℕ → List ℕ → List ℕ → List ℕ
between before name after = before ++ name ++ after

abbrev pub own_poll_line : ℕ → List ℕ
own_poll_line header = between (codes "  a device asks whether it may be ") (sender header) (codes "\n")

abbrev pub other_poll_line : ℕ → List ℕ
other_poll_line header = statement header (codes "asks") (codes "to acknowledge\n")

abbrev pub poll_line : ℕ → List ℕ
poll_line header = if is_own_poll header then own_poll_line header else other_poll_line header

abbrev pub message_line : ℕ → Option Sentence → List ℕ → List ℕ → List ℕ
message_line header sentence frame rest = clause header sentence (word rest) ++ tail sentence frame (after_word rest)

abbrev pub meaning_line : List ℕ → List ℕ
meaning_line [] = []
meaning_line (header ∷ []) = poll_line header
meaning_line (header ∷ code ∷ operands) =
    message_line header (sentence_for code operands) (header ∷ code ∷ operands) (after_word (frame_text (header ∷ code ∷ operands)))
