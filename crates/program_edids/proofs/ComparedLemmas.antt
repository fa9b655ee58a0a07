-- Two EDIDs that are alike.
use Rattle.std.proofs.Common.{◌≡◌, ◌∙◌, sym, subst, ℕ, arith, refl, List, [], length, min, Option, Ok, true, false}
use Rattle.std.proofs.lemmas.List.{nil_from_length}
use Rattle.std.specs.Io.KnownBytes.{Appends}
use Rattle.text_core.specs.Cut.{reported_count}
use Rattle.edid_core.specs.Bytes.{edid_bytes}
use Rattle.edid_core.specs.declared.edid.Edid.{Edid}
use Rattle.edid_dump.specs.Nth.{nth_in_dump}
use Rattle.edid_difference.specs.Records.{difference_text}
use Rattle.record_core.specs.declared.cell.Form.{Form}
use Rattle.program_edids.specs.Edids.{display_half, own_half}
use Rattle.program_edids.specs.Compared.{AreAlike, ShowsAlike}

-- a text of no byte is empty
none_told : (n : ℕ) → min n 340282366920938463463374607431768211455 ≡ 0 → n ≡ 0
none_told n e = omega (arith, e)

pub is_empty : (text : List ℕ) (count : ℕ) → count ≡ reported_count (length text) → count ≡ 0 → text ≡ []
is_empty text count is zero = nil_from_length text (none_told (length text) (sym is ∙ zero))

pub dumps_alike : (form : Form) (text first second : List ℕ) (old new : Option (List ℕ)) → nth_in_dump 1 text ≡ Ok first → nth_in_dump 2 text ≡ Ok second
    → AreAlike form first second old new → ShowsAlike true form text old new
dumps_alike form text first second old new one two (e, spelled, (f, spelled_too, told)) = (
  difference_text form e.base e.extensions.items f.base f.extensions.items,
  (
    e,
    f,
    (subst (λ (b : List ℕ). nth_in_dump 1 text ≡ Ok b) (sym spelled) one, subst (λ (b : List ℕ). nth_in_dump 2 text ≡ Ok b) (sym spelled_too) two),
    told.0,
    refl,
  ),
  told.1,
)

pub halves_alike : (form : Form) (input first second : List ℕ) (old new : Option (List ℕ)) → first ≡ display_half input → second ≡ own_half input
    → AreAlike form first second old new → ShowsAlike false form input old new
halves_alike form input first second old new one two (e, spelled, (f, spelled_too, told)) = (
  difference_text form e.base e.extensions.items f.base f.extensions.items,
  (e, f, (spelled ∙ one, spelled_too ∙ two), told.0, refl),
  told.1,
)
