-- What is written of an EDID: its text of its bytes, or of its text the EDID in a form (own).
use Rattle.std.specs.Prelude.{◌≡◌, ℕ, ◌<◌, Bool, true, false, List, length, take, Option, Result, Ok, Err}
use Rattle.std.specs.Io.KnownBytes.{Appends}
use Rattle.edid_core.specs.Bytes.{edid_bytes, IsRefused}
use Rattle.edid_texts.specs.Cut.{lines_with_feeds}
use Rattle.edid_texts.specs.Lines.{edid_text}
use Rattle.edid_texts.specs.Refusal.{IsRefusal}
use Rattle.edid_core.specs.declared.edid.Edid.{Edid as EdidValue}
use Rattle.edid_texts.specs.declared.parse.TextError.{TextError}
use Rattle.edid_texts.specs.declared.parse.TextError.TheVariants as texts
use Rattle.conversion_calls.specs.Form.{form_text}
use Rattle.conversion_calls.specs.declared.form.EdidForm.{EdidForm}
use Rattle.conversion_calls.specs.declared.edid_text.EdidToTextError.{EdidToTextError}
use Rattle.conversion_calls.specs.declared.edid_text.EdidToTextError.TheVariants.{Edid, Write}
use Rattle.conversion_calls.specs.declared.edid_text.TextToHexError.{TextToHexError}
use Rattle.conversion_calls.specs.declared.edid_text.TextToHexError.TheVariants as hex

-- the front of a text was written, as long as a count reports, and then the sink took none
abbrev pub IsCutAt : Option (List ℕ) → Option (List ℕ) → Bool → List ℕ → ℕ → Type 0
IsCutAt old new is text count = (count < length text) × Appends old new (take count text) × (is ≡ true)

-- ---- from bytes to a text

-- The bytes spell an EDID, whose text is written, whole or its front; or they spell none, for the first reason, and
-- nothing is written.
abbrev pub TextAnswers : Option (List ℕ) → Option (List ℕ) → Bool → Bool → List ℕ → Result (Unit {0}) EdidToTextError → Type 0
TextAnswers old new was is bytes (Ok done) = (e : EdidValue) × (edid_bytes e ≡ bytes) × Appends old new (edid_text e) × (is ≡ was)
TextAnswers old new was is bytes (Err (Write count)) = (e : EdidValue) × (edid_bytes e ≡ bytes) × IsCutAt old new is (edid_text e) count
TextAnswers old new was is bytes (Err (Edid cause)) = IsRefused bytes cause × ((e : EdidValue) → edid_bytes e ≡ bytes → ⊥) × (new ≡ old) × (is ≡ was)

abbrev pub is_text_cut : Result (Unit {0}) EdidToTextError → Bool
is_text_cut (Err (Write count)) = true
is_text_cut _ = false

-- ---- from a text to an EDID

abbrev pub text_reported : TextError → TextToHexError
text_reported (texts.Syntax line) = hex.Syntax line
text_reported (texts.Field line word) = hex.Field line word
text_reported texts.Memory = hex.Memory

-- the text is no EDID's, for its first line at fault
abbrev pub IsNoText : List ℕ → TextError → Type 0
IsNoText text cause = IsRefusal (lines_with_feeds text) cause × ((e : EdidValue) → edid_text e ≡ text → ⊥)

-- The text is an EDID's, which is written in a form, whole or its front; or it is none, and nothing is written. Reading
-- a text takes no memory.
abbrev pub FormAnswers : EdidForm → Option (List ℕ) → Option (List ℕ) → Bool → Bool → List ℕ → Result (Unit {0}) TextToHexError → Type 0
FormAnswers form old new was is text (Ok done) = (e : EdidValue) × (edid_text e ≡ text) × Appends old new (form_text form e) × (is ≡ was)
FormAnswers form old new was is text (Err (hex.Write count)) = (e : EdidValue) × (edid_text e ≡ text) × IsCutAt old new is (form_text form e) count
FormAnswers form old new was is text (Err (hex.Syntax number)) = IsNoText text (texts.Syntax number) × (new ≡ old) × (is ≡ was)
FormAnswers form old new was is text (Err (hex.Field number word)) = IsNoText text (texts.Field number word) × (new ≡ old) × (is ≡ was)
FormAnswers form old new was is text (Err hex.Memory) = ⊥

abbrev pub is_hex_cut : Result (Unit {0}) TextToHexError → Bool
is_hex_cut (Err (hex.Write count)) = true
is_hex_cut _ = false
