-- What is found wrong with an EDID: each rule that is broken, in the order of the rules, and then for each detailed
-- timing, in the order of the bytes, each rule that it breaks (own).
use Rattle.std.specs.Prelude.{ℕ, ◌+◌, List, [], ◌∷◌, ◌++◌, map, filter}
use Rattle.edid_base.specs.declared.base.Base.{Base}
use Rattle.edid_base.specs.declared.timing.Timing.{Timing}
use Rattle.edid_cta.specs.declared.raw.Ext.{Ext}
use Rattle.rules_values.specs.ExtParts.{timings_of}
use Rattle.rules_check.specs.Rules.{rules, is_broken}
use Rattle.rules_check.specs.TimingRules.{timing_rules, breaks}
use Rattle.rules_check.specs.declared.rule.Origin.{Origin}
use Rattle.rules_check.specs.declared.rule.Rule.{Rule}
use Rattle.rules_check.specs.declared.rule.TimingRule.{TimingRule}
use Rattle.rules_check.specs.declared.rule.Finding.{Finding}
use Rattle.rules_check.specs.declared.rule.Finding.TheVariants.{Edid, Timing as OfTiming}

-- those of some rules that are broken
abbrev pub rule_findings : Origin → Base → List Ext → List Rule → List Finding
rule_findings o b xs rs = map Edid (filter (λ rule. is_broken o rule b xs) rs)

-- those of some rules that the timing with this number breaks
abbrev pub timing_findings : Base → List Ext → ℕ → Timing → List TimingRule → List Finding
timing_findings b xs number t rs = map (OfTiming number) (filter (λ rule. breaks rule b xs t) rs)

-- of all rules
unfoldable pub edid_findings : Origin → Base → List Ext → List Finding
edid_findings o b xs = rule_findings o b xs rules

-- of all rules for the timing with this number
unfoldable pub one_timing_findings : Base → List Ext → ℕ → Timing → List Finding
one_timing_findings b xs number t = timing_findings b xs number t timing_rules

-- of timings that are numbered from this number on
abbrev pub numbered_findings : Base → List Ext → ℕ → List Timing → List Finding
numbered_findings b xs number [] = []
numbered_findings b xs number (t ∷ ts) = one_timing_findings b xs number t ++ numbered_findings b xs (number + 1) ts

abbrev pub findings : Origin → Base → List Ext → List Finding
findings o b xs = edid_findings o b xs ++ numbered_findings b xs 1 (timings_of b xs)
