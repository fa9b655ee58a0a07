-- The version and the revision (E-EDID Release A, section 3.5).
use Rattle.std.specs.Prelude.{ℕ, List, [], ◌∷◌}
use Rattle.edid_base.specs.declared.base.Revision.{Revision}
use Rattle.edid_base.specs.declared.base.Revision.TheVariants.{Three, Four}

-- version 1, and the revision
abbrev pub revision_bytes : Revision → List ℕ
revision_bytes Three = 1 ∷ 3 ∷ []
revision_bytes Four = 1 ∷ 4 ∷ []
