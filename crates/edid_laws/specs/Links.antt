-- What `link-clock` finds in what a receiver answers with (own): nothing, where the formats are left out that the link does not carry.
use Rattle.std.specs.Prelude.{◌≡◌, ℕ, true}
use Rattle.conversion_fit.specs.Answers.{IsPassed, leaves_out}
use Rattle.edid_core.specs.declared.edid.Edid.{Edid as EdidValue}
use Rattle.edid_merge.specs.declared.table.Table.{Table}
use Rattle.rules_check.specs.Findings.{findings}
use Rattle.rules_check.specs.Laws.{IsAmong}
use Rattle.rules_check.specs.declared.rule.Finding.TheVariants.{Edid, Timing}
use Rattle.rules_check.specs.declared.rule.Origin.{Origin}
use Rattle.rules_check.specs.declared.rule.Rule.TheVariants.{FormatsCarried}
use Rattle.rules_check.specs.declared.rule.TimingRule.TheVariants.{Carried}

pub record IsOnItsLink (o : Origin) (e : EdidValue) : Type 0 where
  pub formats : IsAmong (Edid FormatsCarried) (findings o e.base e.extensions.items) → ⊥
  pub timings : (number : ℕ) → IsAmong (Timing number Carried) (findings o e.base e.extensions.items) → ⊥

-- whatever was made of a display's EDID and of a receiver's own
abbrev pub StayOnTheirLinks : Type 0
StayOnTheirLinks = (t : Table) (own merged answer : EdidValue) (o : Origin) → leaves_out t.formats own ≡ true → IsPassed t own merged answer → IsOnItsLink o answer
