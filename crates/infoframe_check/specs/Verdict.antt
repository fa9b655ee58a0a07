-- What has been written, and whether all is right (own).
use Rattle.std.specs.Prelude.{◌≡◌, ℕ, Bool, true, List, Option, Result, Ok, Err}
use Rattle.std.specs.Io.KnownBytes.{Appends}
use Rattle.text_core.specs.Cut.{CutOff}
use Rattle.text_core.specs.declared.sink.WriteFault.{WriteFault}

-- a text was written whole, and the verdict is answered, or a fault cut the text off and the sink is stuck
abbrev pub WritesVerdict : Option (List ℕ) → Option (List ℕ) → Bool → Bool → List ℕ → Bool → Result Bool WriteFault → Type 0
WritesVerdict old new was is text verdict (Ok v) = (v ≡ verdict) × Appends old new text × (is ≡ was)
WritesVerdict old new was is text verdict (Err fault) = CutOff old new text fault × (is ≡ true)
