-- What is answered of EDIDs and of their texts (this profile's own).
use Rattle.std.specs.Prelude.{◌≡◌, ℕ, Bool, List}
use Rattle.edid_core.specs.Bytes.{edid_bytes, IsRefused as IsNoEdid}
use Rattle.edid_core.specs.declared.edid.Edid.{Edid as EdidValue}
use Rattle.edid_texts.specs.Lines.{edid_text}
use Rattle.edid_texts.specs.declared.parse.TextError.TheVariants as texts
use Rattle.rules_check.specs.Text.{findings_text, some_failure}
use Rattle.rules_check.specs.declared.rule.Origin.TheVariants.{Display}
use Rattle.conversion_calls.specs.EdidFindings.{faults_of}
use Rattle.conversion_calls.specs.EdidText.{IsNoText}
use Rattle.conversion_calls.specs.declared.edid_text.EdidToTextError.{EdidToTextError}
use Rattle.conversion_calls.specs.declared.edid_text.EdidToTextError.TheVariants as bytes
use Rattle.conversion_calls.specs.declared.edid_text.TextToHexError.{TextToHexError}
use Rattle.conversion_calls.specs.declared.edid_text.TextToHexError.TheVariants.{Syntax, Field, Write, Memory as NoMemory}
use Rattle.conversion_notes.specs.EdidMeaning.{meaning_of}
use Rattle.library_answers.specs.Faults.{edid_code}
use Rattle.library_answers.specs.Room.{IsPut, refusal}
use Rattle.library_answers.specs.declared.answer.Answer.{Answer}
use Rattle.library_answers.specs.declared.code.Code.TheVariants.{EdidTextSyntax, EdidTextField, Memory}

-- ---- an EDID of its text

-- a write into memory fails where memory runs out
abbrev pub text_answer : TextToHexError → Answer
text_answer (Syntax line) = refusal EdidTextSyntax line
text_answer (Field line word) = refusal EdidTextField line
text_answer (Write count) = refusal Memory 0
text_answer NoMemory = refusal Memory 0

-- when each refusal comes
abbrev pub IsTextReported : List ℕ → TextToHexError → Type 0
IsTextReported text (Syntax line) = IsNoText text (texts.Syntax line)
IsTextReported text (Field line word) = IsNoText text (texts.Field line word)
IsTextReported text (Write count) = (e : EdidValue) × (edid_text e ≡ text)
IsTextReported text NoMemory = ⊥

-- the bytes of the EDID with this text are put into the room
abbrev pub IsEdidPut : List ℕ → List ℕ → List ℕ → Answer → Type 0
IsEdidPut text old new answer = (e : EdidValue) × (edid_text e ≡ text) × IsPut (edid_bytes e) old new answer

-- there is no such EDID, for the first cause, and nothing is put
abbrev pub IsTextRefused : List ℕ → List ℕ → List ℕ → Answer → Type 0
IsTextRefused text old new answer = (cause : TextToHexError) × IsTextReported text cause × (answer ≡ text_answer cause) × (new ≡ old)

-- ---- what is wrong with an EDID, and what it means

abbrev pub edid_answer : EdidToTextError → Answer
edid_answer (bytes.Edid cause) = refusal (edid_code cause) 0
edid_answer (bytes.Write count) = refusal Memory 0

abbrev pub IsEdidReported : List ℕ → EdidToTextError → Type 0
IsEdidReported spelled (bytes.Edid cause) = IsNoEdid spelled cause
IsEdidReported spelled (bytes.Write count) = (e : EdidValue) × (edid_bytes e ≡ spelled)

-- a line is put for each rule that the EDID of a display breaks
abbrev pub AreFindingsPut : List ℕ → List ℕ → List ℕ → Bool → Answer → Type 0
AreFindingsPut spelled old new fails answer =
    (e : EdidValue) × (edid_bytes e ≡ spelled) × (fails ≡ some_failure (faults_of Display e)) × IsPut (findings_text (faults_of Display e)) old new answer

-- the bytes are no EDID, for the first cause, and nothing is put or said
abbrev pub AreFindingsRefused : List ℕ → List ℕ → List ℕ → Bool → Bool → Answer → Type 0
AreFindingsRefused spelled old new before after answer =
    (cause : EdidToTextError) × IsEdidReported spelled cause × (answer ≡ edid_answer cause) × (new ≡ old) × (after ≡ before)

-- the text with what each line means is put
abbrev pub IsMeaningPut : List ℕ → List ℕ → List ℕ → Answer → Type 0
IsMeaningPut spelled old new answer = (e : EdidValue) × (edid_bytes e ≡ spelled) × IsPut (meaning_of e) old new answer

abbrev pub IsMeaningRefused : List ℕ → List ℕ → List ℕ → Answer → Type 0
IsMeaningRefused spelled old new answer = (cause : EdidToTextError) × IsEdidReported spelled cause × (answer ≡ edid_answer cause) × (new ≡ old)
