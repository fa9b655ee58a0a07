-- How a line is read, part by part.
use Rattle.std.proofs.Common.{◌≡◌, ◌==◌, ℕ, ◌+◌, ◌<◌, Bool, true, false, cond, codes, List, [], ◌∷◌, length, Option, Some, None, Result, Ok, Err, sym, ap, subst, ◌∙◌, arith}
use Rattle.std.proofs.lemmas.List.Splits.{join_with_byte-slice_split, length-slice_split}
use Rattle.std.specs.Str.{bytes_eq}
use Rattle.text_core.specs.Lines.{is_skipped}
use Rattle.text_core.specs.Words.{text_of, words_of}
use Rattle.line_wave.specs.declared.Stretch.{Stretch}
use Rattle.text_core.specs.At.{at_word}
use Rattle.message_lay.specs.Line.{IsContent, IsFrameRead, IsHeadRead, IsLineRead, IsTimeRead, IsWordsRead, blocks_after, blocks_read, laid_by}
use Rattle.message_lay.specs.Words.{Head, fault_in, time_in}
use Rattle.message_lay.specs.declared.fault.LayCause.TheVariants.{Number}
use Rattle.message_lay.specs.declared.fault.LayCause.{LayCause}
use Rattle.text_core.specs.declared.at.AtWord.{AtWord}

text_of-words_of : (text : List ℕ) → text_of (words_of text) ≡ text
text_of-words_of text = join_with_byte-slice_split 32 text

words_of-some : (text : List ℕ) → 0 < length (words_of text)
words_of-some text = omega (arith, length-slice_split (λ b. b == 32) text)

then_by : (b : Bool) (P Q : Type 0) → b ≡ true → P → cond {A = Type 0} b P Q
then_by true P Q e p = p
then_by false P Q e p = cc

pub else_by : (b : Bool) (P Q : Type 0) → b ≡ false → Q → cond {A = Type 0} b P Q
else_by true P Q e q = cc
else_by false P Q e q = q

-- a frame's text
pub content_frame : (at : ℕ) (text word : List ℕ) (words : List (List ℕ)) (read : Result (List ℕ) (AtWord LayCause)) → words_of text ≡ word ∷ words → bytes_eq word (codes "blocks") ≡ false
    → IsFrameRead at text read → IsContent at (words_of text) read
content_frame at text word words read e other is =
    let same : text ≡ text_of (word ∷ words) = sym (text_of-words_of text) ∙ ap text_of e in
    subst (λ (ws : List (List ℕ)). IsContent at ws read) (sym e)
    (else_by (bytes_eq word (codes "blocks")) (read ≡ blocks_after (at + 1) words) (IsFrameRead at (text_of (word ∷ words)) read) other
    (subst (λ (t : List ℕ). IsFrameRead at t read) same is))

-- `blocks`, and what stands after it
pub content_blocks : (at : ℕ) (text word : List ℕ) (words : List (List ℕ)) (read : Result (List ℕ) (AtWord LayCause)) → words_of text ≡ word ∷ words → bytes_eq word (codes "blocks") ≡ true
    → read ≡ blocks_after (at + 1) words → IsContent at (words_of text) read
content_blocks at text word words read e same is =
    subst (λ (ws : List (List ℕ)). IsContent at ws read) (sym e)
    (then_by (bytes_eq word (codes "blocks")) (read ≡ blocks_after (at + 1) words) (IsFrameRead at (text_of (word ∷ words)) read) same is)

after_by : (at : ℕ) (digits : List ℕ) (words : List (List ℕ)) → 0 < length words → text_of words ≡ digits → blocks_after at words ≡ blocks_read at digits
after_by at digits [] some e = absurd (omega arith)
after_by at digits (word ∷ words) some e = ap (blocks_read at) e

pub blocks_given : (at : ℕ) (digits : List ℕ) → blocks_after at (words_of digits) ≡ blocks_read at digits
blocks_given at digits = after_by at digits (words_of digits) (words_of-some digits) (text_of-words_of digits)

-- ---- a line

pub skipped_line : (line : List ℕ) (read : Result (List Stretch) (AtWord LayCause)) → is_skipped line ≡ true → read ≡ Ok [] → IsLineRead line read
skipped_line line read e is = then_by (is_skipped line) (read ≡ Ok []) (IsWordsRead (words_of line) read) e is

worded_line : (line time : List ℕ) (words : List (List ℕ)) (read : Result (List Stretch) (AtWord LayCause)) → is_skipped line ≡ false → words_of line ≡ time ∷ words
    → IsTimeRead (time_in time) words read → IsLineRead line read
worded_line line time words read e split is =
    else_by (is_skipped line) (read ≡ Ok []) (IsWordsRead (words_of line) read) e (subst (λ (ws : List (List ℕ)). IsWordsRead ws read) (sym split) is)

pub untimed_line : (line time : List ℕ) (words : List (List ℕ)) (read : Result (List Stretch) (AtWord LayCause)) → is_skipped line ≡ false → words_of line ≡ time ∷ words
    → time_in time ≡ None → read ≡ Err (at_word 0 Number) → IsLineRead line read
untimed_line line time words read e split none is =
    worded_line line time words read e split (subst (λ (t : Option ℕ). IsTimeRead t words read) (sym none) is)

timed_line : (line time : List ℕ) (words : List (List ℕ)) (start : ℕ) (read : Result (List Stretch) (AtWord LayCause)) → is_skipped line ≡ false → words_of line ≡ time ∷ words
    → time_in time ≡ Some start → IsHeadRead start (fault_in words) read → IsLineRead line read
timed_line line time words start read e split at is =
    worded_line line time words read e split (subst (λ (t : Option ℕ). IsTimeRead t words read) (sym at) is)

pub faulty_line : (line time : List ℕ) (words : List (List ℕ)) (start : ℕ) (fault : (AtWord LayCause)) (read : Result (List Stretch) (AtWord LayCause)) → is_skipped line ≡ false → words_of line ≡ time ∷ words
    → time_in time ≡ Some start → fault_in words ≡ Err fault → read ≡ Err fault → IsLineRead line read
faulty_line line time words start fault read e split at head is =
    timed_line line time words start read e split at (subst (λ (h : Result Head (AtWord LayCause)). IsHeadRead start h read) (sym head) is)

pub laid_line : (line time : List ℕ) (words : List (List ℕ)) (start : ℕ) (head : Head) (content : Result (List ℕ) (AtWord LayCause)) (read : Result (List Stretch) (AtWord LayCause)) → is_skipped line ≡ false
    → words_of line ≡ time ∷ words → time_in time ≡ Some start → fault_in words ≡ Ok head → IsContent head.at head.words content → read ≡ laid_by start head.fault content
    → IsLineRead line read
laid_line line time words start head content read e split at h is laid =
    timed_line line time words start read e split at (subst (λ (r : Result Head (AtWord LayCause)). IsHeadRead start r read) (sym h) (content, is, laid))
