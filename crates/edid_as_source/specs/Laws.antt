-- A law of what a source takes.
use Rattle.std.specs.Prelude.{◌≡◌, ℕ, List, Ok}
use Rattle.edid_core.specs.Bytes.{IsRefused}
use Rattle.edid_core.specs.declared.bytes.EdidError.{EdidError}
use Rattle.edid_as_source.specs.Source.{as_source}

-- the strict reader refuses it for no reason
abbrev pub IsTakenStrictly : Type 0
IsTakenStrictly = (bytes mended : List ℕ) → as_source bytes ≡ Ok mended → (cause : EdidError) → IsRefused mended cause → ⊥
