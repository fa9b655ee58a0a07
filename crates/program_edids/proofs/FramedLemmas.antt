-- An InfoFrame that an EDID offers.
use Rattle.std.proofs.Common.{◌≡◌, ◌∙◌, refl, sym, subst, ℕ, List, Option, Ok}
use Rattle.edid_core.specs.Bytes.{edid_bytes}
use Rattle.infoframe_check.specs.Records.{infoframe_text}
use Rattle.infoframe_tables.specs.Reading.{read_of}
use Rattle.record_core.specs.declared.cell.Form.{Form}
use Rattle.cli_choice.specs.declared.choice.EdidReading.{EdidReading}
use Rattle.cli_choice.specs.declared.choice.Recipient.{Recipient}
use Rattle.cli_choice.specs.declared.choice.Source.{Source}
use Rattle.program_edids.specs.Framed.{IsFor, ShowsOffered, ShowsOfferedBy}

pub offered : (source told : Source) (reading : EdidReading) (place : Recipient) (form : Form) (hex input frame bytes own : List ℕ) (old new : Option (List ℕ))
    → source ≡ told → read_of hex ≡ Ok frame → IsFor source reading place input own → bytes ≡ own → ShowsOfferedBy form frame bytes old new
    → ShowsOffered told reading place form hex input old new
offered source told reading place form hex input frame bytes own old new is read there same (e, spelled, shown) = (
  infoframe_text form e.base e.extensions.items frame,
  (
    frame,
    read,
    e,
    subst (λ (s : Source). IsFor s reading place input (edid_bytes e)) is (subst (λ (b : List ℕ). IsFor source reading place input b) (sym (spelled ∙ same)) there),
    shown.0,
    refl,
  ),
  shown.1,
)
