-- The sentence of each opcode with a name (HDMI 1.4, CEC 13 and 15: what each message is for; the words are own).
use Rattle.std.specs.Prelude.{ℕ, ◌==◌, ◌&&◌, if◌then◌else◌, List, [], ◌∷◌, length, Option, Some, codes, find}
use Rattle.message_meaning.specs.declared.sentences.Sentence.{Sentence as CodeSentence}

-- what the sender of an opcode says: who, the verb, to whom and the text; then the first word of the operands after the lead, and
-- their others after the joint
pub record Sentence : Type 0 where
  pub code : ℕ
  pub verb : List ℕ
  pub text : List ℕ
  pub lead : List ℕ
  pub joint : List ℕ

abbrev pub sentence : ℕ → List ℕ → List ℕ → List ℕ → List ℕ → Sentence
sentence code verb text lead joint = record { code = code; verb = verb; text = text; lead = lead; joint = joint }

-- the same of the code
abbrev pub sentence_in_code : CodeSentence → Sentence
sentence_in_code s = sentence s.opcode s.verb.now s.text.now s.lead.now s.joint.now

unfoldable pub sentences : List Sentence
sentences =
    sentence 0x00 (codes "tells") (codes "that it refuses") (codes " ") (codes ": ") ∷
    sentence 0x04 (codes "asks") (codes "to turn on and show its picture") (codes "") (codes "") ∷
    sentence 0x0d (codes "asks") (codes "to turn on, show its picture and take away texts and menus") (codes "") (codes "") ∷
    sentence 0x1a (codes "asks") (codes "what its deck does") (codes ": ") (codes "") ∷
    sentence 0x1b (codes "tells") (codes "what its deck does") (codes ": ") (codes "") ∷
    sentence 0x32 (codes "tells") (codes "the language of menus") (codes ": ") (codes "") ∷
    sentence 0x36 (codes "asks") (codes "to go to standby") (codes "") (codes "") ∷
    sentence 0x41 (codes "asks") (codes "to play") (codes ": ") (codes "") ∷
    sentence 0x42 (codes "asks") (codes "to control its deck") (codes ": ") (codes "") ∷
    sentence 0x44 (codes "tells") (codes "that a key of the remote control is pressed") (codes ": ") (codes "") ∷
    sentence 0x45 (codes "tells") (codes "that the key of the remote control is released") (codes "") (codes "") ∷
    sentence 0x46 (codes "asks") (codes "for its name") (codes "") (codes "") ∷
    sentence 0x47 (codes "tells") (codes "its name") (codes ": ") (codes " ") ∷
    sentence 0x64 (codes "asks") (codes "to show a text on the screen") (codes ": ") (codes " ") ∷
    sentence 0x70 (codes "asks") (codes "to take over the sound") (codes " of the source at ") (codes "") ∷
    sentence 0x71 (codes "asks") (codes "for its volume") (codes "") (codes "") ∷
    sentence 0x72 (codes "tells") (codes "whether it has the sound") (codes ": ") (codes "") ∷
    sentence 0x7a (codes "tells") (codes "its volume") (codes ": ") (codes " ") ∷
    sentence 0x7d (codes "asks") (codes "whether it has the sound") (codes "") (codes "") ∷
    sentence 0x7e (codes "tells") (codes "whether it has the sound") (codes ": ") (codes "") ∷
    sentence 0x80 (codes "tells") (codes "that a switch went from one input to another") (codes ": from ") (codes " to ") ∷
    sentence 0x81 (codes "tells") (codes "which input it has selected") (codes ": ") (codes "") ∷
    sentence 0x82 (codes "tells") (codes "that it is the active source") (codes ", at ") (codes "") ∷
    sentence 0x83 (codes "asks") (codes "for its physical address") (codes "") (codes "") ∷
    sentence 0x84 (codes "tells") (codes "its physical address and its type") (codes ": ") (codes ", ") ∷
    sentence 0x85 (codes "asks") (codes "which of them is the active source") (codes "") (codes "") ∷
    sentence 0x86 (codes "asks") (codes "for the picture of the source") (codes " at ") (codes "") ∷
    sentence 0x87 (codes "tells") (codes "the number of its vendor") (codes ": ") (codes "") ∷
    sentence 0x8c (codes "asks") (codes "for the number of its vendor") (codes "") (codes "") ∷
    sentence 0x8d (codes "asks") (codes "for its menu") (codes ": ") (codes "") ∷
    sentence 0x8e (codes "tells") (codes "how its menu is") (codes ": ") (codes "") ∷
    sentence 0x8f (codes "asks") (codes "for its power") (codes "") (codes "") ∷
    sentence 0x90 (codes "tells") (codes "its power") (codes ": ") (codes "") ∷
    sentence 0x91 (codes "asks") (codes "for the language of menus") (codes "") (codes "") ∷
    sentence 0x9d (codes "tells") (codes "that it has no picture to show any more") (codes ", at ") (codes "") ∷
    sentence 0x9e (codes "tells") (codes "its version of CEC") (codes ": ") (codes "") ∷
    sentence 0x9f (codes "asks") (codes "for its version of CEC") (codes "") (codes "") ∷
    sentence 0xc0 (codes "asks") (codes "to turn on its audio return channel") (codes "") (codes "") ∷
    sentence 0xc1 (codes "tells") (codes "that its audio return channel is on") (codes "") (codes "") ∷
    sentence 0xc2 (codes "tells") (codes "that its audio return channel is off") (codes "") (codes "") ∷
    sentence 0xc3 (codes "asks") (codes "to begin the audio return channel") (codes "") (codes "") ∷
    sentence 0xc4 (codes "asks") (codes "to end the audio return channel") (codes "") (codes "") ∷
    sentence 0xc5 (codes "asks") (codes "to turn off its audio return channel") (codes "") (codes "") ∷
    sentence 0xff (codes "asks") (codes "to refuse this, as a test") (codes "") (codes "") ∷
    sentence 0x05 (codes "asks") (codes "to go to the next channel") (codes "") (codes "") ∷
    sentence 0x06 (codes "asks") (codes "to go to the channel before") (codes "") (codes "") ∷
    sentence 0x07 (codes "tells") (codes "how its tuner is") (codes "") (codes "") ∷
    sentence 0x08 (codes "asks") (codes "how its tuner is") (codes "") (codes "") ∷
    sentence 0x09 (codes "asks") (codes "to record") (codes "") (codes "") ∷
    sentence 0x0a (codes "tells") (codes "how its recording is") (codes "") (codes "") ∷
    sentence 0x0b (codes "asks") (codes "to stop recording") (codes "") (codes "") ∷
    sentence 0x0f (codes "asks") (codes "for the source on its screen, to record it") (codes "") (codes "") ∷
    sentence 0x33 (codes "asks") (codes "to take away a timer of an analogue service") (codes "") (codes "") ∷
    sentence 0x34 (codes "asks") (codes "to set a timer of an analogue service") (codes "") (codes "") ∷
    sentence 0x35 (codes "tells") (codes "how a timer is") (codes "") (codes "") ∷
    sentence 0x43 (codes "tells") (codes "whether a timer was taken away") (codes "") (codes "") ∷
    sentence 0x67 (codes "tells") (codes "the title of a timer") (codes "") (codes "") ∷
    sentence 0x89 (codes "sends") (codes "a command of its vendor") (codes "") (codes "") ∷
    sentence 0x8a (codes "tells") (codes "that a key of its vendor is pressed") (codes "") (codes "") ∷
    sentence 0x8b (codes "tells") (codes "that the key of its vendor is released") (codes "") (codes "") ∷
    sentence 0x92 (codes "asks") (codes "to select an analogue service") (codes "") (codes "") ∷
    sentence 0x93 (codes "asks") (codes "to select a digital service") (codes "") (codes "") ∷
    sentence 0x97 (codes "asks") (codes "to set a timer of a digital service") (codes "") (codes "") ∷
    sentence 0x99 (codes "asks") (codes "to take away a timer of a digital service") (codes "") (codes "") ∷
    sentence 0x9a (codes "asks") (codes "to play at an audio rate") (codes "") (codes "") ∷
    sentence 0xa0 (codes "sends") (codes "a command of the vendor whose number comes first") (codes "") (codes "") ∷
    sentence 0xa1 (codes "asks") (codes "to take away a timer of an external input") (codes "") (codes "") ∷
    sentence 0xa2 (codes "asks") (codes "to set a timer of an external input") (codes "") (codes "") ∷
    []

abbrev pub sentence_in : List Sentence → ℕ → Option Sentence
sentence_in table code = find (λ s. s.code == code) table

-- the sentence of an opcode
abbrev pub sentence_of : ℕ → Option Sentence
sentence_of code = sentence_in sentences code

-- System Audio Mode Request without an operand ends that mode (CEC 13.15)
abbrev pub gives_back : Sentence
gives_back = sentence 0x70 (codes "asks") (codes "to give the sound back") [] []

-- the sentence of an opcode with these operands
abbrev pub sentence_for : ℕ → List ℕ → Option Sentence
sentence_for code operands = if code == 0x70 && length operands == 0 then Some gives_back else sentence_of code
