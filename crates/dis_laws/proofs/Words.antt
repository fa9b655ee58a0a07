-- Words of tables without a line feed.
use Rattle.std.proofs.Common.{◌≡◌, ℕ, zero, suc, ◌/◌, ◌%◌, ◌==◌, Bool, true, false, ◌&&◌, if◌then◌else◌, Option, None, Some, List, [], ◌∷◌, ◌++◌, slice_get, codes, option_and_then, refl}
use Rattle.std.specs.List.{list_all}
use Rattle.std.proofs.lemmas.Bool.{false≢true}
use Rattle.message_table.specs.WordSets.{NamedByte, word_of}
use Rattle.audit_core.specs.Kept.{IsPlain, PlainIf, shown}
use Rattle.audit_core.proofs.OneLine.{worded}
use Rattle.audit_core.proofs.Plain.{plain_codes}
use Rattle.message_hex.specs.Remark.{abort_reasons, audio_rates, deck_states, device_types, first_of, more_names, more_words, operand_remark, place_of, play_modes, powers, record_sources, record_states, remark, timer_cleared, tuner_requests, user_controls, versions}
use Rattle.message_meaning.specs.Addresses.{address_name, receiver, sender}
use Rattle.message_meaning.specs.Sentences.{Sentence, gives_back, sentence_for, sentence_in, sentences}

-- ---- choices

pub plain_choice : (b : Bool) (xs ys : List ℕ) → IsPlain xs → IsPlain ys → IsPlain (if b then xs else ys)
plain_choice true xs ys h k = h
plain_choice false xs ys h k = k

-- ---- names of addresses

pub plain_address : (address : ℕ) → IsPlain (address_name address)
unfolding address_name
plain_address a =
    plain_choice (a == 0) (codes "TV") _ (plain_codes (codes "TV") refl) (
    plain_choice (a == 1) (codes "Recording Device 1") _ (plain_codes (codes "Recording Device 1") refl) (
    plain_choice (a == 2) (codes "Recording Device 2") _ (plain_codes (codes "Recording Device 2") refl) (
    plain_choice (a == 3) (codes "Tuner 1") _ (plain_codes (codes "Tuner 1") refl) (
    plain_choice (a == 4) (codes "Playback Device 1") _ (plain_codes (codes "Playback Device 1") refl) (
    plain_choice (a == 5) (codes "Audio System") _ (plain_codes (codes "Audio System") refl) (
    plain_choice (a == 6) (codes "Tuner 2") _ (plain_codes (codes "Tuner 2") refl) (
    plain_choice (a == 7) (codes "Tuner 3") _ (plain_codes (codes "Tuner 3") refl) (
    plain_choice (a == 8) (codes "Playback Device 2") _ (plain_codes (codes "Playback Device 2") refl) (
    plain_choice (a == 9) (codes "Recording Device 3") _ (plain_codes (codes "Recording Device 3") refl) (
    plain_choice (a == 10) (codes "Tuner 4") _ (plain_codes (codes "Tuner 4") refl) (
    plain_choice (a == 11) (codes "Playback Device 3") _ (plain_codes (codes "Playback Device 3") refl) (
    plain_choice (a == 12) (codes "the reserved address 12") _ (plain_codes (codes "the reserved address 12") refl) (
    plain_choice (a == 13) (codes "the reserved address 13") _ (plain_codes (codes "the reserved address 13") refl) (
    plain_choice (a == 14) (codes "Specific Use") (codes "an unregistered device") (plain_codes (codes "Specific Use") refl) (plain_codes (codes "an unregistered device") refl)))))))))))))))

pub plain_sender : (header : ℕ) → IsPlain (sender header)
plain_sender header = plain_address (header / 16)

pub plain_receiver : (header : ℕ) → IsPlain (receiver header)
plain_receiver header = plain_choice (header % 16 == 15) (codes "all devices") (address_name (header % 16)) (plain_codes (codes "all devices") refl) (plain_address (header % 16))

-- ---- remarks

shown_choice : (b : Bool) (xs ys : List NamedByte) → list_all (λ w. shown w.text) xs ≡ true → list_all (λ w. shown w.text) ys ≡ true → list_all (λ w. shown w.text) (if b then xs else ys) ≡ true
shown_choice true xs ys h k = h
shown_choice false xs ys h k = k

more_are_shown : (code : ℕ) → list_all (λ w. shown w.text) (more_words code) ≡ true
more_are_shown code =
    shown_choice (code == 0x00) abort_reasons _ refl (
    shown_choice (code == 0x08) tuner_requests _ refl (
    shown_choice (code == 0x09) record_sources _ refl (
    shown_choice (code == 0x0a) record_states _ refl (
    shown_choice (code == 0x1b) deck_states _ refl (
    shown_choice (code == 0x41) play_modes _ refl (
    shown_choice (code == 0x43) timer_cleared _ refl (
    shown_choice (code == 0x44) user_controls _ refl (
    shown_choice (code == 0x84) device_types _ refl (
    shown_choice (code == 0x90) powers _ refl (
    shown_choice (code == 0x9a) audio_rates _ refl (
    shown_choice (code == 0x9e) versions [] refl refl)))))))))))

plain_operand : (code : ℕ) (byte : Option ℕ) → PlainIf (option_and_then (λ b. word_of (more_words code) b) byte)
plain_operand code None = tt
plain_operand code (Some byte) = worded (more_words code) (more_are_shown code) byte

plain_first : (a b : Option (List ℕ)) → PlainIf a → PlainIf b → PlainIf (first_of a b)
plain_first None b h k = k
plain_first (Some text) b h k = h

pub plain_remark : (frame : List ℕ) → PlainIf (remark frame)
plain_remark [] = tt
plain_remark (header ∷ []) = tt
plain_remark (header ∷ code ∷ operands) =
    plain_first (word_of more_names code) (operand_remark code operands) (worded more_names refl code) (plain_operand code (slice_get operands (place_of code)))

-- ---- sentences

pub record IsPlainSentence (s : Sentence) : Type 0 where
  pub verb : IsPlain s.verb
  pub text : IsPlain s.text
  pub lead : IsPlain s.lead
  pub joint : IsPlain s.joint

abbrev pub PlainSentence : Option Sentence → Type 0
PlainSentence None = Unit {0}
PlainSentence (Some s) = IsPlainSentence s

abbrev is_shown : Sentence → Bool
is_shown s = shown s.verb && shown s.text && shown s.lead && shown s.joint

four : (a b c d : Bool) → (a && b && c && d) ≡ true → (a ≡ true) × (b ≡ true) × (c ≡ true) × (d ≡ true)
four true true true true h = (refl, refl, refl, refl)
four true true true false h = absurd (false≢true h)
four true true false d h = absurd (false≢true h)
four true false c d h = absurd (false≢true h)
four false b c d h = absurd (false≢true h)

plain_of : (s : Sentence) → is_shown s ≡ true → IsPlainSentence s
plain_of s h =
    let k = four (shown s.verb) (shown s.text) (shown s.lead) (shown s.joint) h in
    record { verb = plain_codes s.verb k.0; text = plain_codes s.text k.1; lead = plain_codes s.lead k.2; joint = plain_codes s.joint k.3 }

found : (table : List Sentence) → list_all is_shown table ≡ true → (code : ℕ) → PlainSentence (sentence_in table code)
found [] h code = tt
found (s ∷ table) h code = by (is_shown s) (s.code == code) refl h (found table)
  where
    by : (b is : Bool) → is_shown s ≡ b → (b && list_all is_shown table) ≡ true → (list_all is_shown table ≡ true → (code : ℕ) → PlainSentence (sentence_in table code))
        → PlainSentence (if is then Some s else sentence_in table code)
    by true true e k more = plain_of s e
    by true false e k more = more k code
    by false is e k more = absurd (false≢true k)

all_shown : list_all is_shown sentences ≡ true
unfolding sentences
all_shown = refl

chosen : (b : Bool) (a o : Option Sentence) → PlainSentence a → PlainSentence o → PlainSentence (if b then a else o)
chosen true a o h k = h
chosen false a o h k = k

pub plain_sentence : (code : ℕ) (operands : List ℕ) → PlainSentence (sentence_for code operands)
plain_sentence code operands = chosen _ (Some gives_back) (sentence_in sentences code) (plain_of gives_back refl) (found sentences all_shown code)
