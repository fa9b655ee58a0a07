-- What is read, held and written of an EDID.
use Rattle.std.proofs.Common.{◌≡◌, ◌∙◌, ℕ, List, [], Option, Some}
use Rattle.std.specs.Io.KnownBytes.{Appends}
use Rattle.edid_core.specs.Bytes.{edid_bytes}
use Rattle.edid_core.specs.declared.edid.Edid.{Edid}
use Rattle.conversion_calls.specs.Passing.{IsPassedOn}
use Rattle.conversion_calls.specs.declared.passing.Passing.{Passing}
use Rattle.cli_choice.specs.declared.choice.EdidReading.{EdidReading}
use Rattle.cli_choice.specs.declared.choice.EdidShape.TheVariants as shapes
use Rattle.cli_choice.specs.declared.choice.Source.{Source}
use Rattle.cli_choice.specs.declared.choice.View.{View}
use Rattle.program_edids.specs.Edids.{IsRead, Made, ShowsAs, ShowsPassed, kept_count}

-- what is held is what was put
all_held : (old new : Option (List ℕ)) (bytes text : List ℕ) → old ≡ Some [] → new ≡ Some bytes → Appends old new text → bytes ≡ text
all_held old new bytes text e f a = rw (e, f) at a

pub passed_held : (passing : Passing) (bytes held : List ℕ) (old new : Option (List ℕ)) → ShowsPassed passing shapes.Bytes bytes old new → old ≡ Some [] → new ≡ Some held
    → (e : Edid) × IsPassedOn bytes passing e × (held ≡ edid_bytes e)
passed_held passing bytes held old new shown e f = (shown.1.0, shown.1.1, all_held old new held shown.0 e f shown.2 ∙ shown.1.2)

pub made_of : (source : Source) (reading : EdidReading) (view : View) (input given : List ℕ) (old new : Option (List ℕ)) → IsRead source input given
    → ShowsAs reading (kept_count source given) view given old new → Made source reading view input old new
made_of source reading view input given old new read shown = (shown.0, (given, read, shown.1), shown.2)
