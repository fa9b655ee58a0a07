use Rattle.std.proofs.Common.{◌≡◌, ◌∙◌, ap, ℕ, List, IfOk, subst}
use Rattle.edid_core.specs.Bytes.{edid_bytes}
use Rattle.edid_core.specs.declared.edid.Edid.{Edid}
use Rattle.edid_texts.specs.Lines.{edid_text}
use Rattle.edid_spelling.specs.Canonical.{canonical_text}
use Rattle.program_edids.proofs.edid_given.given_of_words.Goals as goal

pub returns : goal.returns
returns c =
    let P : List ℕ → Type 0 = λ p. IfOk c.bytes_of_words.result (λ given. (e : Edid) × (edid_text e ≡ p) × (given.items ≡ edid_bytes e)) in
    let plain = c.as_slice.ensures.value ∙ c.in_ok-plain.ensures in
    subst P (c.as_slice-3.ensures.value ∙ (c.in_ok-canonical.ensures ∙ ap canonical_text plain)) c.bytes_of_words.ensures
