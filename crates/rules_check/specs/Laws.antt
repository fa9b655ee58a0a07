-- The law of findings (own): a finding is listed if and only if its rule is broken, and none is listed twice.
use Rattle.std.specs.Prelude.{◌≡◌, ◌↔◌, ℕ, zero, suc, Bool, false, IsTrue, ◌⊎◌, List, [], ◌∷◌}
use Rattle.edid_base.specs.declared.base.Base.{Base}
use Rattle.edid_base.specs.declared.timing.Timing.{Timing}
use Rattle.edid_cta.specs.declared.raw.Ext.{Ext}
use Rattle.rules_values.specs.ExtParts.{timings_of}
use Rattle.rules_check.specs.Rules.{is_broken}
use Rattle.rules_check.specs.TimingRules.{breaks}
use Rattle.rules_check.specs.Findings.{findings}
use Rattle.rules_check.specs.declared.rule.Origin.{Origin}
use Rattle.rules_check.specs.declared.rule.Rule.{Rule}
use Rattle.rules_check.specs.declared.rule.TimingRule.{TimingRule}
use Rattle.rules_check.specs.declared.rule.Finding.TheVariants.{Edid, Timing as OfTiming}

-- it is one of them
abbrev pub IsAmong : {X : Type 0} → X → List X → Type 0
IsAmong x [] = ⊥
IsAmong x (y ∷ ys) = (x ≡ y) ⊎ IsAmong x ys

-- none of them is one of those after it
abbrev pub NoneTwice : {X : Type 0} → List X → Type 0
NoneTwice [] = Unit {0}
NoneTwice (x ∷ xs) = (IsAmong x xs → ⊥) × NoneTwice xs

-- a timing stands at this place, from 0, and breaks a rule
abbrev pub breaks_at : Base → List Ext → TimingRule → List Timing → ℕ → Bool
breaks_at b xs rule [] place = false
breaks_at b xs rule (t ∷ ts) zero = breaks rule b xs t
breaks_at b xs rule (t ∷ ts) (suc place) = breaks_at b xs rule ts place

-- Of the rules of an EDID those are listed that it breaks, of those of a timing those that the timing with that number
-- breaks, from 1, and nothing else.
pub record ListsTheBroken (o : Origin) (b : Base) (xs : List Ext) : Type 0 where
  pub edid : (rule : Rule) → IsAmong (Edid rule) (findings o b xs) ↔ IsTrue (is_broken o rule b xs)
  pub timing : (place : ℕ) (rule : TimingRule) → IsAmong (OfTiming (suc place) rule) (findings o b xs) ↔ IsTrue (breaks_at b xs rule (timings_of b xs) place)
  pub from_one : (rule : TimingRule) → IsAmong (OfTiming 0 rule) (findings o b xs) → ⊥
  pub once : NoneTwice (findings o b xs)
