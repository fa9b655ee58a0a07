-- What is written of an EDID: its text, with what each line means below it (own).
use Rattle.std.specs.Prelude.{◌≡◌, ℕ, Bool, List, Option, Result, Ok, Err}
use Rattle.std.specs.Io.KnownBytes.{Appends}
use Rattle.edid_core.specs.Bytes.{edid_bytes, IsRefused}
use Rattle.edid_core.specs.declared.edid.Edid.{Edid as EdidValue}
use Rattle.conversion_calls.specs.EdidText.{IsCutAt}
use Rattle.conversion_calls.specs.declared.edid_text.EdidToTextError.{EdidToTextError}
use Rattle.conversion_calls.specs.declared.edid_text.EdidToTextError.TheVariants.{Edid, Write}
use Rattle.conversion_notes.specs.Meanings.{meaning_text}

abbrev pub meaning_of : EdidValue → List ℕ
meaning_of e = meaning_text e.base e.extensions.items

-- The bytes spell an EDID, whose text is written with what each line means, whole or its front; or they spell none, for
-- the first reason, and nothing is written.
abbrev pub MeaningAnswers : Option (List ℕ) → Option (List ℕ) → Bool → Bool → List ℕ → Result (Unit {0}) EdidToTextError → Type 0
MeaningAnswers old new was is bytes (Ok done) = (e : EdidValue) × (edid_bytes e ≡ bytes) × Appends old new (meaning_of e) × (is ≡ was)
MeaningAnswers old new was is bytes (Err (Write count)) = (e : EdidValue) × (edid_bytes e ≡ bytes) × IsCutAt old new is (meaning_of e) count
MeaningAnswers old new was is bytes (Err (Edid cause)) = IsRefused bytes cause × ((e : EdidValue) → edid_bytes e ≡ bytes → ⊥) × (new ≡ old) × (is ≡ was)
