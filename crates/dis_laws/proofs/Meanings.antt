-- The line of a meaning is one line, and begins with two spaces.
use Rattle.std.proofs.Common.{◌≡◌, ℕ, zero, suc, ◌==◌, Bool, true, false, if◌then◌else◌, Option, None, Some, List, [], ◌∷◌, ◌++◌, length, take, drop, slice_get, codes, option_and_then, unwrap_or, append_assoc, refl, sym, ap, ◌∙◌}
use Rattle.std.specs.List.{position_or_len}
use Rattle.message_table.specs.Table.{name_of, rows}
use Rattle.message_text.specs.FrameText.{frame_text}
use Rattle.audit_core.specs.Kept.{IsClosed, IsPlain, IsRemark, PlainIf}
use Rattle.audit_core.proofs.OneLine.{named, or_else, plain_frame}
use Rattle.audit_core.proofs.Plain.{plain_codes, plain_more}
use Rattle.message_hex.specs.Remark.{remark}
use Rattle.message_meaning.specs.Addresses.{receiver, sender}
use Rattle.message_meaning.specs.Meaning.{after_word, closing, is_own_poll, joint_of, meaning_line, message_line, opening, other_poll_line, own_poll_line, poll_line, refused_name, remark_lead, remark_word, some_words, statement, tail, told, unread, word}
use Rattle.message_meaning.specs.Sentences.{Sentence, sentence_for}
use Rattle.dis_laws.proofs.Words.{PlainSentence, plain_choice, plain_receiver, plain_remark, plain_sender, plain_sentence}

-- ---- parts of a plain text

plain_take : (n : ℕ) (xs : List ℕ) → IsPlain xs → IsPlain (take n xs)
plain_take zero xs h = tt
plain_take (suc n) [] h = tt
plain_take (suc n) (x ∷ xs) h = (h.0, plain_take n xs h.1)

plain_drop : (n : ℕ) (xs : List ℕ) → IsPlain xs → IsPlain (drop n xs)
plain_drop zero xs h = h
plain_drop (suc n) [] h = tt
plain_drop (suc n) (x ∷ xs) h = plain_drop n xs h.1

plain_word : (text : List ℕ) → IsPlain text → IsPlain (word text)
plain_word text h = plain_take (position_or_len (λ b. b == 32) text) text h

plain_after : (text : List ℕ) → IsPlain text → IsPlain (after_word text)
plain_after text h = plain_drop (suc (position_or_len (λ b. b == 32) text)) text h

-- ---- the end of a line

closed : (rest : List ℕ) → IsPlain rest → IsClosed (rest ++ codes "\n")
closed rest h = record { rest = rest; same = refl; plain = h }

before_closed : (xs text : List ℕ) → IsPlain xs → IsClosed text → IsClosed (xs ++ text)
before_closed xs text h k = record {
  rest = xs ++ k.rest;
  same = ap (λ t. xs ++ t) k.same ∙ sym (append_assoc xs k.rest (10 ∷ []));
  plain = plain_more xs k.rest h k.plain;
}

plain_name : (byte : Option ℕ) → PlainIf (option_and_then name_of byte)
plain_name None = tt
plain_name (Some byte) = named rows refl byte

plain_refused : (b : Bool) (operands : List ℕ) → PlainIf (if b then option_and_then name_of (slice_get operands 0) else None)
plain_refused true operands = plain_name (slice_get operands 0)
plain_refused false operands = tt

plain_lead : (w : Option (List ℕ)) → IsPlain (remark_lead w)
plain_lead None = tt
plain_lead (Some w) = plain_codes (codes ": ") refl

plain_remark_word : (w : Option (List ℕ)) → PlainIf w → IsPlain (remark_word w)
plain_remark_word None h = tt
plain_remark_word (Some w) h = h

unread_closed : (w : Option (List ℕ)) (hex : List ℕ) → PlainIf w → IsPlain hex → IsClosed (unread w hex)
unread_closed w hex h k =
    let open_is : IsPlain (opening hex) = plain_choice (length hex == 0) [] (codes " (operands ") tt (plain_codes (codes " (operands ") refl) in
    let close_is : IsPlain (closing hex) = plain_choice (length hex == 0) [] (codes ")") tt (plain_codes (codes ")") refl) in
    closed (remark_lead w ++ remark_word w ++ opening hex ++ hex ++ closing hex)
    (plain_more (remark_lead w ++ remark_word w ++ opening hex ++ hex) (closing hex)
    (plain_more (remark_lead w ++ remark_word w ++ opening hex) hex
    (plain_more (remark_lead w ++ remark_word w) (opening hex) (plain_more (remark_lead w) (remark_word w) (plain_lead w) (plain_remark_word w h)) open_is) k) close_is)

told_closed : (lead first joint rest : List ℕ) → IsPlain lead → IsPlain first → IsPlain joint → IsPlain rest → IsClosed (told lead first joint rest)
told_closed lead first joint rest a b c d =
    closed (lead ++ first ++ joint ++ rest) (plain_more (lead ++ first ++ joint) rest (plain_more (lead ++ first) joint (plain_more lead first a b) c) d)

words_closed : (s : Option Sentence) (frame said : List ℕ) → PlainSentence s → IsPlain said → IsClosed (some_words s frame said)
words_closed None frame said h k = closed said k
words_closed (Some s) [] said h k = closed said k
words_closed (Some s) (header ∷ []) said h k = closed said k
words_closed (Some s) (header ∷ code ∷ operands) said h k =
    told_closed s.lead (unwrap_or (refused_name code operands) (word said)) (joint_of s.joint (after_word said)) (after_word said) h.lead
    (or_else (refused_name code operands) (word said) (plain_refused (code == 0x00) operands) (plain_word said k))
    (plain_choice (length (after_word said) == 0) [] s.joint tt h.joint) (plain_after said k)

tail_closed : (s : Option Sentence) (frame said : List ℕ) → PlainSentence s → IsPlain said → IsClosed (tail s frame said)
tail_closed s frame [] h k = closed [] tt
tail_closed s frame (c ∷ cs) h k = by (c == 58)
  where
    by : (b : Bool) → IsClosed (if b then unread (remark frame) cs else some_words s frame (c ∷ cs))
    by true = unread_closed (remark frame) cs (plain_remark frame) k.1
    by false = words_closed s frame (c ∷ cs) h k

-- ---- a line that begins with two spaces

space : IsPlain (codes " ")
space = plain_codes (codes " ") refl

-- what stands after the two spaces
abbrev after_spaces : ℕ → List ℕ → List ℕ → List ℕ
after_spaces header verb text = sender header ++ codes " " ++ verb ++ codes " " ++ receiver header ++ codes " " ++ text

plain_front : (header : ℕ) (verb : List ℕ) → IsPlain verb → IsPlain (sender header ++ codes " " ++ verb ++ codes " " ++ receiver header ++ codes " ")
plain_front header verb h =
    plain_more (sender header ++ codes " " ++ verb ++ codes " " ++ receiver header) (codes " ")
    (plain_more (sender header ++ codes " " ++ verb ++ codes " ") (receiver header)
    (plain_more (sender header ++ codes " " ++ verb) (codes " ")
    (plain_more (sender header ++ codes " ") verb (plain_more (sender header) (codes " ") (plain_sender header) space) h) space) (plain_receiver header)) space

plain_statement : (header : ℕ) (verb text : List ℕ) → IsPlain verb → IsPlain text → IsPlain (after_spaces header verb text)
plain_statement header verb text h k = plain_more (sender header ++ codes " " ++ verb ++ codes " " ++ receiver header ++ codes " ") text (plain_front header verb h) k

statement_remark : (header : ℕ) (verb text end : List ℕ) → IsPlain verb → IsPlain text → IsClosed end → IsRemark (statement header verb text ++ end)
statement_remark header verb text end h k closes =
    (refl, refl, before_closed (after_spaces header verb text) end (plain_statement header verb text h k) closes)

message_remark : (header : ℕ) (s : Option Sentence) (frame rest : List ℕ) → PlainSentence s → IsPlain rest → IsRemark (message_line header s frame rest)
message_remark header None frame rest h k =
    statement_remark header (codes "sends") (word rest) (tail None frame (after_word rest)) (plain_codes (codes "sends") refl) (plain_word rest k) (tail_closed None frame (after_word rest) tt (plain_after rest k))
message_remark header (Some s) frame rest h k =
    statement_remark header s.verb s.text (tail (Some s) frame (after_word rest)) h.verb h.text (tail_closed (Some s) frame (after_word rest) h (plain_after rest k))

poll_remark : (header : ℕ) → IsRemark (poll_line header)
poll_remark header = by (is_own_poll header)
  where
    by : (b : Bool) → IsRemark (if b then own_poll_line header else other_poll_line header)
    by true = (refl, refl, closed (codes "a device asks whether it may be " ++ sender header) (plain_more (codes "a device asks whether it may be ") (sender header) (plain_codes (codes "a device asks whether it may be ") refl) (plain_sender header)))
    by false = (
      refl,
      refl,
      before_closed (sender header ++ codes " " ++ codes "asks" ++ codes " " ++ receiver header ++ codes " ") (codes "to acknowledge\n")
          (plain_front header (codes "asks") (plain_codes (codes "asks") refl)) (closed (codes "to acknowledge") (plain_codes (codes "to acknowledge") refl)),
    )

-- of no frame nothing is said
pub meaning_remark : (header : ℕ) (rest : List ℕ) → IsRemark (meaning_line (header ∷ rest))
meaning_remark header [] = poll_remark header
meaning_remark header (code ∷ operands) =
    let frame = header ∷ code ∷ operands in
    message_remark header (sentence_for code operands) frame (after_word (frame_text frame)) (plain_sentence code operands) (plain_after (frame_text frame) (plain_frame frame))
