-- What is given, written and found of an EDID in a port of an amplifier, of one that counts its extensions otherwise, and of two.
use Rattle.std.proofs.Common.{◌≡◌, ◌∙◌, sym, subst, ℕ, ◌≤◌, arith, List, ◌∷◌, length, get_or, take, drop, length-append, Option, Result, Ok, Err, IfOk, true}
use Rattle.std.proofs.lemmas.List.{length-take-le}
use Rattle.edid_core.specs.Bytes.{edid_bytes}
use Rattle.edid_core.specs.declared.edid.Edid.{Edid}
use Rattle.conversion_calls.specs.Passing.{IsPassedOn}
use Rattle.conversion_calls.specs.declared.passing.Passing.{Passing}
use Rattle.record_core.specs.declared.cell.Form.{Form}
use Rattle.edid_dump.specs.Nth.{nth_in_dump}
use Rattle.conversion_fit.specs.Answers.{IsAnswer}
use Rattle.edid_merge.specs.Speakers.{IsSpoken}
use Rattle.edid_merge.specs.declared.table.Table.{Table}
use Rattle.edid_as_source.specs.Count.{balance, with_count}
use Rattle.cli_choice.specs.declared.choice.Recipient.{Recipient}
use Rattle.cli_choice.specs.declared.choice.Recipient.TheVariants.{Port}
use Rattle.cli_choice.specs.declared.choice.EdidShape.{EdidShape}
use Rattle.cli_choice.specs.declared.choice.Sound.TheVariants.{Spoken}
use Rattle.cli_choice.specs.declared.choice.Source.TheVariants.{Pair}
use Rattle.cli_choice.specs.declared.choice.View.TheVariants.{Whole, Findings}
use Rattle.cli_choice.specs.declared.choice.Recipient.TheVariants as to
use Rattle.program_edids.specs.Edids.{IsGiven, IsRead, IsSpokenIn, Shows, ShowsCounted, ShowsJudged, ShowsOwn, in_port, origin_of}

pub if_ok : {A E : Type 0} (r : Result A E) (P Q : A → Type 0) → ((x : A) → P x → Q x) → IfOk r P → IfOk r Q
if_ok (Ok v) P Q f p = f v p
if_ok (Err e) P Q f p = tt

-- the bytes are those of an EDID for the device
pub spoken_given : (port : ℕ) (bytes given : List ℕ) → IsSpokenIn port bytes given → IsGiven (Port port Spoken) bytes given
spoken_given port bytes given (p, passed, spoken) =
    (spoken.1, (p, passed, subst (λ (b : List ℕ). IsSpoken (edid_bytes p) b) (sym spoken.4) spoken), sym spoken.4)

pub spoken_whole : (port : ℕ) (shape : EdidShape) (bytes given : List ℕ) (old new : Option (List ℕ)) → IsSpokenIn port bytes given → Shows (Whole to.Own shape) given old new
    → Shows (Whole (Port port Spoken) shape) bytes old new
spoken_whole port shape bytes given old new (p, passed, spoken) (text, (e, spelled, shown), appended) =
    (text, (e, (p, passed, subst (λ (b : List ℕ). IsSpoken (edid_bytes p) b) (sym spelled) spoken), shown), appended)

pub own_rules : (place : Recipient) (form : Form) (bytes given : List ℕ) (old new : Option (List ℕ)) → IsGiven place bytes given
    → ShowsOwn (origin_of place) form given old new → Shows (Findings place form) bytes old new
own_rules place form bytes given old new there (text, found, appended) = (text, (given, there, found), appended)

pub counted_rules : (count : ℕ) (place : Recipient) (form : Form) (bytes given : List ℕ) (old new : Option (List ℕ)) → IsGiven place bytes given
    → ShowsJudged (origin_of place) form count bytes given old new → ShowsCounted count (Findings place form) bytes old new
counted_rules count place form bytes given old new there (text, judged, appended) = (text, (given, there, judged), appended)

-- the two dumps
pub dumps_read : (table : Table) (text display own given : List ℕ) → nth_in_dump 1 text ≡ Ok display → nth_in_dump 2 text ≡ Ok own → IsAnswer table display own given
    → IsRead (Pair true table) text given
dumps_read table text display own given first second made = (display, own, first, second, made)

-- what is passed on, and the speakers in it
pub spoken_made : (port : ℕ) (bytes passed seen new kept : List ℕ) (passing : Passing) → passing ≡ in_port port true
    → (e : Edid) × IsPassedOn bytes passing e × (passed ≡ edid_bytes e) → seen ≡ passed → IsSpoken seen new → kept ≡ new → IsSpokenIn port bytes kept
spoken_made port bytes passed seen new kept passing of (e, given, spelled) same spoken held = (
  e,
  subst (λ (p : Passing). IsPassedOn bytes p e) of given,
  subst (λ (b : List ℕ). IsSpoken (edid_bytes e) b) (sym held) (subst (λ (b : List ℕ). IsSpoken b new) (same ∙ spelled) spoken),
)

-- another count leaves a block as long as it is
pub counted_long : (bytes : List ℕ) (count : ℕ) → 128 ≤ length bytes → 128 ≤ length (with_count bytes count)
counted_long bytes count h =
    let front : length (take 126 bytes) ≡ 126 = length-take-le 126 bytes (omega (arith, h)) in
    omega (
      arith,
      front,
      length-append (take 126 bytes) (count ∷ balance (get_or bytes 126 0) (get_or bytes 127 0) count ∷ drop 128 bytes),
    )
