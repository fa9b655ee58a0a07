-- The lines of the records are the texts of frames, and what they mean.
use Rattle.std.proofs.Common.{◌≡◌, ℕ, ◌==◌, Bool, true, false, if◌then◌else◌, Option, None, Some, List, [], ◌∷◌, ◌++◌, append_assoc, append-nil, codes, refl, ap, ◌∙◌, unwrap_or}
use Rattle.message_meaning.specs.FrameLine.{remark_text}
use Rattle.message_hex.specs.Remark.{remark}
use Rattle.message_text.specs.FrameText.{frame_text}
use Rattle.message_meaning.specs.Addresses.{receiver, sender}
use Rattle.message_meaning.specs.Laws.{FrameLines, FramesAreReadBack, MeaningLines, MeaningsAreReadBack}
use Rattle.message_meaning.specs.Meaning.{after_word, closing, is_own_poll, joint_of, message_line, opening, other_poll_line, own_poll_line, plain_tail, poll_line, refused_name, remark_lead, remark_word, some_words, tail, told, unread, word}
use Rattle.message_meaning.specs.Records.{Clause, clause_of, frame_cells, known_cells, message_cells, other_poll, own_poll_cells, poll_cells, said_cells, some_cells, told_cells, unread_cells, word_lead, word_value}
use Rattle.message_meaning.specs.Sentences.{Sentence, sentence_for}
use Rattle.record_core.specs.Cells.{PlainValue}
use Rattle.record_core.specs.Records.{line_of}
use Rattle.record_core.proofs.Reading.{read_back}

-- ---- the line of a frame

frame_flat : (text : List ℕ) (w : Option (List ℕ)) → (text ++ ((word_lead w ++ (word_value w).word) ++ [])) ++ codes "\n" ≡ (text ++ remark_text w) ++ codes "\n"
frame_flat text None = refl
frame_flat text (Some w) = ap (λ (t : List ℕ). (text ++ t) ++ codes "\n") (append-nil (codes " # " ++ w))

pub frame_lines : FrameLines
frame_lines = λ frame. frame_flat (frame_text frame) (remark frame)

-- ---- the line of a meaning

abbrev front : Clause → List ℕ
front c = codes "  " ++ c.sender ++ codes " " ++ c.verb ++ codes " " ++ c.receiver ++ codes " " ++ c.text

told_flat : (two one s v r t lead first joint rest end : List ℕ) → ((two ++ s) ++ ((one ++ v) ++ ((one ++ r) ++ ((one ++ t) ++ ((lead ++ first) ++ ((joint ++ rest) ++ [])))))) ++ end
    ≡ (two ++ s ++ one ++ v ++ one ++ r ++ one ++ t) ++ (lead ++ first ++ joint ++ rest ++ end)
told_flat two one s v r t lead first joint rest end = simp (append_assoc, append-nil)

told_line : (c : Clause) (lead first joint rest : List ℕ) → line_of (told_cells c lead first joint rest) ≡ front c ++ told lead first joint rest
told_line c lead first joint rest = told_flat (codes "  ") (codes " ") c.sender c.verb c.receiver c.text lead first joint rest (codes "\n")

unread_flat : (two one s v r t lead w before hex after end : List ℕ)
    → ((two ++ s) ++ ((one ++ v) ++ ((one ++ r) ++ ((one ++ t) ++ ((lead ++ w) ++ ((before ++ hex) ++ ((after ++ []) ++ []))))))) ++ end
    ≡ (two ++ s ++ one ++ v ++ one ++ r ++ one ++ t) ++ (lead ++ w ++ before ++ hex ++ after ++ end)
unread_flat two one s v r t lead w before hex after end = simp (append_assoc, append-nil)

unread_line : (c : Clause) (w : Option (List ℕ)) (hex : List ℕ) → line_of (unread_cells c w hex) ≡ front c ++ unread w hex
unread_line c w hex = unread_flat (codes "  ") (codes " ") c.sender c.verb c.receiver c.text (remark_lead w) (remark_word w) (opening hex) hex (closing hex) (codes "\n")

said_flat : (two one s v r t said end : List ℕ) → ((two ++ s) ++ ((one ++ v) ++ ((one ++ r) ++ ((one ++ t) ++ (said ++ []))))) ++ end
    ≡ (two ++ s ++ one ++ v ++ one ++ r ++ one ++ t) ++ (said ++ end)
said_flat two one s v r t said end = simp (append_assoc, append-nil)

said_line : (c : Clause) (said : List ℕ) → line_of (told_cells c [] said [] []) ≡ front c ++ plain_tail said
said_line c said = said_flat (codes "  ") (codes " ") c.sender c.verb c.receiver c.text said (codes "\n")

some_line : (c : Clause) (s : Option Sentence) (frame said : List ℕ) → line_of (some_cells c s frame said) ≡ front c ++ some_words s frame said
some_line c (Some s) (header ∷ code ∷ operands) said =
    told_line c s.lead (unwrap_or (refused_name code operands) (word said)) (joint_of s.joint (after_word said)) (after_word said)
some_line c (Some s) (header ∷ []) said = said_line c said
some_line c (Some s) [] said = said_line c said
some_line c None frame said = said_line c said

tail_line : (c : Clause) (s : Option Sentence) (frame said : List ℕ) → line_of (said_cells c s frame said) ≡ front c ++ tail s frame said
tail_line c s frame [] = said_line c []
tail_line c s frame (b ∷ bs) = by (b == 58)
  where
    by : (p : Bool) → line_of (if p then unread_cells c (remark frame) bs else some_cells c s frame (b ∷ bs)) ≡ front c ++ (if p then unread (remark frame) bs else some_words s frame (b ∷ bs))
    by true = unread_line c (remark frame) bs
    by false = some_line c s frame (b ∷ bs)

message_line_is : (header : ℕ) (s : Option Sentence) (frame rest : List ℕ) → line_of (message_cells header s frame rest) ≡ message_line header s frame rest
message_line_is header None frame rest = tail_line (clause_of header None (word rest)) None frame (after_word rest)
message_line_is header (Some s) frame rest = tail_line (clause_of header (Some s) (word rest)) (Some s) frame (after_word rest)

own_flat : (name : List ℕ) → ((codes "  a device asks whether it may be " ++ name) ++ []) ++ codes "\n" ≡ codes "  a device asks whether it may be " ++ name ++ codes "\n"
own_flat name = ap (λ (t : List ℕ). t ++ codes "\n") (append-nil (codes "  a device asks whether it may be " ++ name))

other_flat : (two one s v r t end : List ℕ) → ((two ++ s) ++ ((one ++ v) ++ ((one ++ r) ++ ((one ++ t) ++ [])))) ++ end
    ≡ two ++ s ++ one ++ v ++ one ++ r ++ one ++ (t ++ end)
other_flat two one s v r t end = simp (append_assoc, append-nil)

poll_line_is : (header : ℕ) → line_of (poll_cells header) ≡ poll_line header
poll_line_is header = by (is_own_poll header)
  where
    by : (p : Bool) → line_of (if p then own_poll_cells (sender header) else told_cells (other_poll header) [] [] [] []) ≡ (if p then own_poll_line header else other_poll_line header)
    by true = own_flat (sender header)
    by false = other_flat (codes "  ") (codes " ") (sender header) (codes "asks") (receiver header) (codes "to acknowledge") (codes "\n")

pub meaning_lines : MeaningLines
meaning_lines [] = refl
meaning_lines (header ∷ []) = poll_line_is header
meaning_lines (header ∷ code ∷ operands) = message_line_is header (sentence_for code operands) (header ∷ code ∷ operands) (after_word (frame_text (header ∷ code ∷ operands)))

-- ---- the line in an object

pub frames_read_back : FramesAreReadBack
frames_read_back = λ frame. read_back (codes "frame") (frame_cells frame) ∙ frame_lines frame

pub meanings_read_back : MeaningsAreReadBack
meanings_read_back header [] = read_back (codes "meaning") (poll_cells header) ∙ meaning_lines (header ∷ [])
meanings_read_back header (code ∷ operands) =
    read_back (codes "meaning") (message_cells header (sentence_for code operands) (header ∷ code ∷ operands) (after_word (frame_text (header ∷ code ∷ operands)))) ∙ meaning_lines (header ∷ code ∷ operands)

-- ---- what is known of a frame, by other names

pub known_same : (text text2 lead lead2 : List ℕ) (w w2 : PlainValue) (i i2 d d2 : ℕ) (o o2 : Option ℕ) (n n2 : PlainValue) (ops ops2 bytes bytes2 : List ℕ)
    → text ≡ text2 → lead ≡ lead2 → w ≡ w2 → i ≡ i2 → d ≡ d2 → o ≡ o2 → n ≡ n2 → ops ≡ ops2 → bytes ≡ bytes2
    → known_cells text lead w i d o n ops bytes ≡ known_cells text2 lead2 w2 i2 d2 o2 n2 ops2 bytes2
known_same text text2 lead lead2 w w2 i i2 d d2 o o2 n n2 ops ops2 bytes bytes2 a b c e f g h k l =
    ap (λ (x : List ℕ). known_cells x lead w i d o n ops bytes) a
    ∙ ap (λ (x : List ℕ). known_cells text2 x w i d o n ops bytes) b
    ∙ ap (λ (x : PlainValue). known_cells text2 lead2 x i d o n ops bytes) c
    ∙ ap (λ (x : ℕ). known_cells text2 lead2 w2 x d o n ops bytes) e
    ∙ ap (λ (x : ℕ). known_cells text2 lead2 w2 i2 x o n ops bytes) f
    ∙ ap (λ (x : Option ℕ). known_cells text2 lead2 w2 i2 d2 x n ops bytes) g
    ∙ ap (λ (x : PlainValue). known_cells text2 lead2 w2 i2 d2 o2 x ops bytes) h
    ∙ ap (λ (x : List ℕ). known_cells text2 lead2 w2 i2 d2 o2 n2 x bytes) k
    ∙ ap (λ (x : List ℕ). known_cells text2 lead2 w2 i2 d2 o2 n2 ops2 x) l
