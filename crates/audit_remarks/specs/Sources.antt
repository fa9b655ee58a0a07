-- Active sources of which nobody reports the physical address (CEC 11.2, Active Source; CEC 10.1, Report Physical Address):
-- known at the end of a capture, since a report may come later.
use Rattle.std.specs.Prelude.{ℕ, Bool, false, not, nat_lt, ◌&&◌, ◌||◌, if◌then◌else◌, List, [], ◌∷◌, ◌++◌, length, Option, Some, None}
use Rattle.text_core.specs.declared.phys.Phys.{Phys}
use Rattle.audit_remarks.specs.declared.sources.Mention.{Mention}
use Rattle.audit_remarks.specs.declared.sources.Sources.{Sources}
use Rattle.audit_remarks.specs.Places.{claimed_address, reported_address, same_phys}

-- ---- addresses that frames name, each once, with where the reading ended that first did so; 64 at most (own)

abbrev pub is_among : List Mention → Phys → Bool
is_among [] phys = false
is_among (m ∷ ms) phys = same_phys m.phys phys || is_among ms phys

abbrev pub with_mention : ℕ → Option Phys → List Mention → List Mention
with_mention at None ms = ms
with_mention at (Some phys) ms = if is_among ms phys || not (nat_lt (length ms) 64) then ms else ms ++ record { phys = phys; since = at } ∷ []

-- ---- what was reported, and what active sources have

abbrev pub sources_of : List Mention → List Mention → Sources
sources_of reported active = record { reported = record { items = reported }; active = record { items = active } }

abbrev pub no_sources : Sources
no_sources = sources_of [] []

abbrev pub with_sources : List ℕ → ℕ → Sources → Sources
with_sources frame at s = sources_of (with_mention at (reported_address frame) s.reported.items) (with_mention at (claimed_address frame) s.active.items)

-- nobody reported it in the whole capture; of one that reports 64 addresses nothing is said (own)
abbrev pub is_unreported : List Mention → Phys → Bool
is_unreported reported phys = nat_lt (length reported) 64 && not (is_among reported phys)
