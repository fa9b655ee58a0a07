-- What is written of an ELD that is read (own).
use Rattle.std.specs.Prelude.{◌≡◌, ℕ, Bool, List, [], ◌∷◌, ◌++◌, codes, Option, Some, None, Result, Ok, Err}
use Rattle.std.specs.List.{flat_map}
use Rattle.edid_eld.specs.Reading.{parts_at, refusal}
use Rattle.meaning_eld.specs.Records.{eld_text}
use Rattle.meaning_eld.specs.declared.writing.EldFault.{EldFault}
use Rattle.meaning_eld.specs.declared.writing.EldFault.TheVariants.{Eld, Write}
use Rattle.record_core.specs.declared.cell.Form.{Form}
use Rattle.text_core.specs.Cut.{WrittenText}
use Rattle.text_core.specs.Piece.{hex_text}

-- bytes as one line of hex
abbrev pub hex_line : List ℕ → List ℕ
hex_line bytes = flat_map hex_text bytes ++ codes "\n"

-- the records of what the bytes say; of bytes that are no ELD nothing is written
abbrev pub AreFieldsWritten : Option (List ℕ) → Option (List ℕ) → Bool → Bool → Form → List ℕ → Result ℕ EldFault → Type 0
AreFieldsWritten old new was is form bytes (Ok n) = (refusal bytes ≡ None) × WrittenText old new was is (eld_text form (parts_at bytes)) (Ok n)
AreFieldsWritten old new was is form bytes (Err (Eld error)) = (refusal bytes ≡ Some error) × (new ≡ old) × (is ≡ was)
AreFieldsWritten old new was is form bytes (Err (Write fault)) = (refusal bytes ≡ None) × WrittenText old new was is (eld_text form (parts_at bytes)) (Err fault)
