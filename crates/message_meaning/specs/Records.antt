-- The records of frames, and of what they mean (own).
use Rattle.std.specs.Prelude.{ℕ, ◌/◌, ◌%◌, ◌==◌, Bool, true, false, if◌then◌else◌, Option, None, Some, List, [], ◌∷◌, ◌++◌, drop, slice_get, slice_index, codes, option_and_then, unwrap_or}
use Rattle.message_table.specs.Table.{name_of}
use Rattle.message_text.specs.FrameText.{frame_text}
use Rattle.message_hex.specs.Lines.{text_by}
use Rattle.message_hex.specs.Remark.{remark}
use Rattle.message_meaning.specs.Addresses.{receiver, sender}
use Rattle.message_meaning.specs.Meaning.{after_word, closing, is_own_poll, joint_of, opening, refused_name, remark_lead, remark_word, word}
use Rattle.message_meaning.specs.Sentences.{Sentence, sentence_for}
use Rattle.message_meaning.specs.declared.meaning.Clause.{Clause as CodeClause}
use Rattle.record_core.specs.Cells.{PlainCell, PlainValue, both, hidden, line_only}
use Rattle.record_core.specs.Records.{record_text}
use Rattle.record_core.specs.Values as values
use Rattle.record_core.specs.declared.cell.Form.{Form}

-- ---- a frame

-- a word that may not be there
abbrev pub word_value : Option (List ℕ) → PlainValue
word_value None = values.nothing
word_value (Some w) = values.text w

-- after the text of a frame, before the standard's word for what it leaves as bytes
abbrev pub word_lead : Option (List ℕ) → List ℕ
word_lead None = []
word_lead (Some w) = codes " # "

-- what is known of a frame: its text, and after it the standard's word; its addresses, its opcode and the opcode's name, its
-- operands and all its bytes
abbrev pub known_cells : List ℕ → List ℕ → PlainValue → ℕ → ℕ → Option ℕ → PlainValue → List ℕ → List ℕ → List PlainCell
known_cells text lead w initiator destination opcode name operands bytes =
    both [] (codes "frame") (values.text text) ∷ both lead (codes "word") w
    ∷ hidden (codes "initiator") (values.nibble initiator) ∷ hidden (codes "destination") (values.nibble destination)
    ∷ hidden (codes "opcode") (values.hex_byte_or opcode) ∷ hidden (codes "name") name
    ∷ hidden (codes "operands") (values.hex_or operands) ∷ hidden (codes "bytes") (values.hex bytes) ∷ []

abbrev pub frame_cells : List ℕ → List PlainCell
frame_cells frame =
    known_cells (frame_text frame) (word_lead (remark frame)) (word_value (remark frame)) (slice_index frame 0 / 16) (slice_index frame 0 % 16)
    (slice_get frame 1) (word_value (option_and_then name_of (slice_get frame 1))) (drop 2 frame) frame

abbrev pub frame_record : Form → List ℕ → List ℕ
frame_record form frame = record_text form (codes "frame") (frame_cells frame)

-- ---- what it means

-- who asks, tells or sends, which of these, to whom, and what
pub record Clause : Type 0 where
  pub sender : List ℕ
  pub verb : List ℕ
  pub receiver : List ℕ
  pub text : List ℕ

abbrev pub plain_clause : CodeClause → Clause
plain_clause c = record { sender = c.sender.now; verb = c.verb.now; receiver = c.receiver.now; text = c.text.now }

abbrev pub clause_by : ℕ → List ℕ → List ℕ → Clause
clause_by header verb text = record { sender = sender header; verb = verb; receiver = receiver header; text = text }

-- of an opcode without a name, that it is sent
abbrev pub clause_of : ℕ → Option Sentence → List ℕ → Clause
clause_of header None name = clause_by header (codes "sends") name
clause_of header (Some s) name = clause_by header s.verb s.text

abbrev pub told_cells : Clause → List ℕ → List ℕ → List ℕ → List ℕ → List PlainCell
told_cells c lead first joint rest =
    both (codes "  ") (codes "sender") (values.text c.sender) ∷ both (codes " ") (codes "verb") (values.text c.verb)
    ∷ both (codes " ") (codes "receiver") (values.text c.receiver) ∷ both (codes " ") (codes "text") (values.text c.text)
    ∷ both lead (codes "operand") (values.text first) ∷ both joint (codes "others") (values.text rest)
    ∷ hidden (codes "word") values.nothing ∷ hidden (codes "operands") values.nothing ∷ []

-- operands that the text leaves as bytes, with the standard's word for them where it has one
abbrev pub unread_words : Clause → List ℕ → List ℕ → List ℕ → List ℕ → List ℕ → List PlainCell
unread_words c lead word before hex after =
    both (codes "  ") (codes "sender") (values.text c.sender) ∷ both (codes " ") (codes "verb") (values.text c.verb)
    ∷ both (codes " ") (codes "receiver") (values.text c.receiver) ∷ both (codes " ") (codes "text") (values.text c.text)
    ∷ hidden (codes "operand") values.nothing ∷ hidden (codes "others") values.nothing
    ∷ both lead (codes "word") (values.text word) ∷ both before (codes "operands") (values.text hex) ∷ line_only after values.nothing ∷ []

abbrev pub unread_cells : Clause → Option (List ℕ) → List ℕ → List PlainCell
unread_cells c w hex = unread_words c (remark_lead w) (remark_word w) (opening hex) hex (closing hex)

-- a poll for an address to take goes to the address that it comes from (CEC 10.2.1)
abbrev pub own_poll_cells : List ℕ → List PlainCell
own_poll_cells name =
    hidden (codes "sender") values.nothing ∷ hidden (codes "verb") values.nothing ∷ hidden (codes "receiver") values.nothing
    ∷ both (codes "  a device asks whether it may be ") (codes "text") (values.text name)
    ∷ hidden (codes "operand") values.nothing ∷ hidden (codes "others") values.nothing
    ∷ hidden (codes "word") values.nothing ∷ hidden (codes "operands") values.nothing ∷ []

abbrev pub other_poll : ℕ → Clause
other_poll header = clause_by header (codes "asks") (codes "to acknowledge")

abbrev pub other_poll_cells : ℕ → List PlainCell
other_poll_cells header = told_cells (other_poll header) [] [] [] []

abbrev pub poll_cells : ℕ → List PlainCell
poll_cells header = if is_own_poll header then own_poll_cells (sender header) else other_poll_cells header

-- Feature Abort names an opcode: its name, if it has one (CEC 15)
abbrev pub worded_cells : Clause → Sentence → ℕ → List ℕ → List ℕ → List PlainCell
worded_cells c s code operands said = told_cells c s.lead (unwrap_or (refused_name code operands) (word said)) (joint_of s.joint (after_word said)) (after_word said)

-- words of operands that are there
abbrev pub some_cells : Clause → Option Sentence → List ℕ → List ℕ → List PlainCell
some_cells c (Some s) (header ∷ code ∷ operands) said = worded_cells c s code operands said
some_cells c _ frame said = told_cells c [] said [] []

-- the operands as the text of the frame has them: none, bytes after a colon, or words
abbrev pub said_cells : Clause → Option Sentence → List ℕ → List ℕ → List PlainCell
said_cells c sentence frame [] = told_cells c [] [] [] []
said_cells c sentence frame (b ∷ bs) = if b == 58 then unread_cells c (remark frame) bs else some_cells c sentence frame (b ∷ bs)

abbrev pub message_cells : ℕ → Option Sentence → List ℕ → List ℕ → List PlainCell
message_cells header sentence frame rest = said_cells (clause_of header sentence (word rest)) sentence frame (after_word rest)

abbrev pub meant_by : Form → List PlainCell → List ℕ
meant_by form cells = record_text form (codes "meaning") cells

-- the record of what a frame means; of no frame nothing is said
abbrev pub meaning_record : Form → List ℕ → List ℕ
meaning_record form [] = []
meaning_record form (header ∷ []) = meant_by form (poll_cells header)
meaning_record form (header ∷ code ∷ operands) =
    meant_by form (message_cells header (sentence_for code operands) (header ∷ code ∷ operands) (after_word (frame_text (header ∷ code ∷ operands))))

-- ---- lines

-- the record of a frame, and below it that of what it means, where it is wanted
abbrev pub dis_record : Form → Bool → List ℕ → List ℕ
dis_record form false frame = frame_record form frame
dis_record form true frame = frame_record form frame ++ meaning_record form frame

-- what is written of a line
abbrev pub dis_text : Form → Bool → List ℕ → List ℕ
dis_text form meaning line = text_by (dis_record form meaning) line
