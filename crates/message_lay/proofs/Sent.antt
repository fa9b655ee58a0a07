-- A line without a fault is laid as a sender sends its frame.
use Rattle.std.proofs.Common.{◌≡◌, ℕ, Bool, true, false, codes, List, [], ◌∷◌, Option, None, Ok, slice_index, refl, sym, ap, ◌∙◌}
use Rattle.std.proofs.lemmas.Slice.Eq.{bytes_eq-Decides}
use Rattle.std.specs.Str.{bytes_eq}
use Rattle.text_core.specs.Words.{text_of}
use Rattle.line_frames.specs.Bits.{frame_bits}
use Rattle.message_text.specs.FrameReading.{is_frame}
use Rattle.message_text.specs.FrameText.{frame_text}
use Rattle.line_wave.specs.Sender.{sender_stretches}
use Rattle.message_lay.specs.Laws.{FramesAreSent}
use Rattle.message_lay.specs.Line.{IsContent, IsFrameOf, IsFrameRead, blocks_after}
use Rattle.message_lay.specs.Words.{Head, fault_by, fault_in, verb_of}
use Rattle.message_lay.specs.declared.pulls.Fault.TheVariants.{Absent}
use Rattle.message_lay.specs.declared.words.Verb.{Verb}
use Rattle.message_lay.proofs.Laid.{faultless_are_sent}
use Rattle.message_lay.proofs.Reading.{else_by, laid_line}

-- the second character of a frame's text is the sign between its addresses
frame_sign : (frame : List ℕ) → is_frame frame ≡ true → slice_index (frame_text frame) 1 ≡ 62
frame_sign [] h = cc
frame_sign (header ∷ []) h = refl
frame_sign (header ∷ code ∷ operands) h = refl

-- and no other word's
word_sign : (a b : ℕ) (r : List ℕ) (words : List (List ℕ)) → slice_index (text_of ((a ∷ b ∷ r) ∷ words)) 1 ≡ b
word_sign a b r [] = refl
word_sign a b r (word ∷ words) = refl

no_word : (word : List ℕ) (words : List (List ℕ)) (a b : ℕ) (r : List ℕ) → slice_index (text_of (word ∷ words)) 1 ≡ 62 → (b ≡ 62 → ⊥) → bytes_eq word (a ∷ b ∷ r) ≡ false
no_word word words a b r sign other = by (bytes_eq word (a ∷ b ∷ r)) refl
  where
    by : (v : Bool) → bytes_eq word (a ∷ b ∷ r) ≡ v → bytes_eq word (a ∷ b ∷ r) ≡ false
    by false e = e
    by true e =
        let same : word ≡ a ∷ b ∷ r = (bytes_eq-Decides word (a ∷ b ∷ r)).0 e in
        absurd (other (sym (word_sign a b r words) ∙ ap (λ (w : List ℕ). slice_index (text_of (w ∷ words)) 1) (sym same) ∙ sign))

no_verb : (word : List ℕ) (words : List (List ℕ)) → slice_index (text_of (word ∷ words)) 1 ≡ 62 → verb_of word ≡ None
no_verb word words sign =
    let eom : bytes_eq word (codes "eom") ≡ false = no_word word words 101 111 (109 ∷ []) sign (λ e. cc) in
    let bit : bytes_eq word (codes "bit") ≡ false = no_word word words 98 105 (116 ∷ []) sign (λ e. cc) in
    let start : bytes_eq word (codes "start") ≡ false = no_word word words 115 116 (97 ∷ 114 ∷ 116 ∷ []) sign (λ e. cc) in
    let last : bytes_eq word (codes "last") ≡ false = no_word word words 108 97 (115 ∷ 116 ∷ []) sign (λ e. cc) in
    let drive : bytes_eq word (codes "drive") ≡ false = no_word word words 100 114 (105 ∷ 118 ∷ 101 ∷ []) sign (λ e. cc) in
    let glitch : bytes_eq word (codes "glitch") ≡ false = no_word word words 103 108 (105 ∷ 116 ∷ 99 ∷ 104 ∷ []) sign (λ e. cc) in
    rw (eom, bit, start, last, drive, glitch) refl

no_blocks : (word : List ℕ) (words : List (List ℕ)) → slice_index (text_of (word ∷ words)) 1 ≡ 62 → bytes_eq word (codes "blocks") ≡ false
no_blocks word words sign = no_word word words 98 108 (111 ∷ 99 ∷ 107 ∷ 115 ∷ []) sign (λ e. cc)

-- the words of a frame's text have no fault before them
abbrev plain : List (List ℕ) → Head
plain words = record { fault = Absent; at = 1; words = words }

no_fault : (words : List (List ℕ)) → slice_index (text_of words) 1 ≡ 62 → fault_in words ≡ Ok (plain words)
no_fault [] sign = refl
no_fault (word ∷ words) sign = ap (λ (v : Option Verb). fault_by v word words) (no_verb word words sign)

frame_content : (words : List (List ℕ)) (frame : List ℕ) → slice_index (text_of words) 1 ≡ 62 → IsFrameOf (text_of words) (Ok frame) → IsContent 1 words (Ok frame)
frame_content [] frame sign is = cc
frame_content (word ∷ words) frame sign is =
    else_by (bytes_eq word (codes "blocks")) (Ok frame ≡ blocks_after 2 words) (IsFrameRead 1 (text_of (word ∷ words)) (Ok frame)) (no_blocks word words sign) (Ok frame, is, refl)

pub frames_are_sent : FramesAreSent
frames_are_sent line time words start frame read split at is =
    let sign : slice_index (text_of words) 1 ≡ 62 = ap (λ (t : List ℕ). slice_index t 1) is.0.text ∙ frame_sign frame is.0.whole in
    laid_line line time words start (plain words) (Ok frame) (Ok (sender_stretches start (frame_bits frame))) read split at
    (no_fault words sign) (frame_content words frame sign is) (sym (faultless_are_sent start frame))
