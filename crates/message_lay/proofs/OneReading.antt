-- A line whose pulls are read is read in no other way.
use Rattle.std.proofs.Common.{◌≡◌, ℕ, ◌+◌, Bool, true, false, cond, codes, List, [], ◌∷◌, Option, Some, None, Result, Ok, Err, sym, ap, ◌∙◌}
use Rattle.std.specs.Str.{bytes_eq}
use Rattle.text_core.specs.Lines.{is_skipped}
use Rattle.text_core.specs.Words.{text_of, words_of}
use Rattle.message_text.specs.declared.assembler.AssembleError.{AssembleError}
use Rattle.line_wave.specs.declared.Stretch.{Stretch}
use Rattle.message_lay.specs.Line.{IsContent, IsFrameOf, IsFrameRead, IsHeadRead, IsLineRead, IsTimeRead, IsWordsRead, blocks_after, frame_read, laid_by}
use Rattle.message_lay.specs.Words.{Head, fault_in, time_in}
use Rattle.message_lay.specs.declared.fault.LayCause.{LayCause}
use Rattle.text_core.specs.declared.at.AtWord.{AtWord}

-- a frame's text is no other's
one_frame : (text frame : List ℕ) (r : Result (List ℕ) AssembleError) → IsFrameOf text (Ok frame) → IsFrameOf text r → r ≡ Ok frame
one_frame text frame (Ok other) h g = ap Ok (sym (h.1 other g.0))
one_frame text frame (Err cause) h g = absurd (g.1 frame h.0)

one_frame_read : (at : ℕ) (text bytes : List ℕ) (read : Result (List ℕ) (AtWord LayCause)) → IsFrameRead at text (Ok bytes) → IsFrameRead at text read → read ≡ Ok bytes
one_frame_read at text bytes read h g = by h.0 h.1 h.2
  where
    by : (r : Result (List ℕ) AssembleError) → IsFrameOf text r → Ok bytes ≡ frame_read at r → read ≡ Ok bytes
    by (Err cause) is e = cc
    by (Ok frame) is e = g.2 ∙ ap (frame_read at) (one_frame text frame g.0 is g.1) ∙ sym e

same_way : (b : Bool) (P Q P2 Q2 R : Type 0) → (P → P2 → R) → (Q → Q2 → R) → cond {A = Type 0} b P Q → cond {A = Type 0} b P2 Q2 → R
same_way true P Q P2 Q2 R f g h k = f h k
same_way false P Q P2 Q2 R f g h k = g h k

one_content : (at : ℕ) (words : List (List ℕ)) (bytes : List ℕ) (read : Result (List ℕ) (AtWord LayCause)) → IsContent at words (Ok bytes) → IsContent at words read → read ≡ Ok bytes
one_content at [] bytes read h g = cc
one_content at (word ∷ words) bytes read h g =
    same_way (bytes_eq word (codes "blocks")) (Ok bytes ≡ blocks_after (at + 1) words) (IsFrameRead at (text_of (word ∷ words)) (Ok bytes))
    (read ≡ blocks_after (at + 1) words) (IsFrameRead at (text_of (word ∷ words)) read) (read ≡ Ok bytes)
    (λ p q. q ∙ sym p) (λ p q. one_frame_read at (text_of (word ∷ words)) bytes read p q) h g

one_head : (start : ℕ) (head : Result Head (AtWord LayCause)) (pulls : List Stretch) (read : Result (List Stretch) (AtWord LayCause)) → IsHeadRead start head (Ok pulls) → IsHeadRead start head read → read ≡ Ok pulls
one_head start (Err fault) pulls read h g = cc
one_head start (Ok head) pulls read h g = by h.0 h.1 h.2
  where
    by : (content : Result (List ℕ) (AtWord LayCause)) → IsContent head.at head.words content → Ok pulls ≡ laid_by start head.fault content → read ≡ Ok pulls
    by (Err fault) is e = cc
    by (Ok bytes) is e = g.2 ∙ ap (laid_by start head.fault) (one_content head.at head.words bytes g.0 is g.1) ∙ sym e

one_time : (time : Option ℕ) (words : List (List ℕ)) (pulls : List Stretch) (read : Result (List Stretch) (AtWord LayCause)) → IsTimeRead time words (Ok pulls) → IsTimeRead time words read → read ≡ Ok pulls
one_time None words pulls read h g = cc
one_time (Some start) words pulls read h g = one_head start (fault_in words) pulls read h g

one_words : (words : List (List ℕ)) (pulls : List Stretch) (read : Result (List Stretch) (AtWord LayCause)) → IsWordsRead words (Ok pulls) → IsWordsRead words read → read ≡ Ok pulls
one_words [] pulls read h g = cc
one_words (time ∷ words) pulls read h g = one_time (time_in time) words pulls read h g

pub one_line : (line : List ℕ) (pulls : List Stretch) (read : Result (List Stretch) (AtWord LayCause)) → IsLineRead line (Ok pulls) → IsLineRead line read → read ≡ Ok pulls
one_line line pulls read h g =
    same_way (is_skipped line) (Ok pulls ≡ Ok []) (IsWordsRead (words_of line) (Ok pulls)) (read ≡ Ok []) (IsWordsRead (words_of line) read) (read ≡ Ok pulls)
    (λ p q. q ∙ sym p) (λ p q. one_words (words_of line) pulls read p q) h g
