-- What is fitted to its link breaks no rule of the link.
use Rattle.std.proofs.Common.{◌≡◌, ℕ, zero, suc, Bool, true, false, ◌||◌, ◌&&◌, cond, List, [], ◌∷◌}
use Rattle.std.proofs.lemmas.Bool.{or_left, or_right}
use Rattle.std.specs.List.{list_any}
use Rattle.conversion_fit.specs.Answers.{IsPassedBy, leaves_out}
use Rattle.conversion_fit.specs.Laws.{IsCarried}
use Rattle.conversion_fit.proofs.Law as fit
use Rattle.edid_base.specs.declared.base.Base.{Base}
use Rattle.edid_base.specs.declared.timing.Timing.{Timing as TimingValue}
use Rattle.edid_core.specs.declared.edid.Edid.{Edid as EdidValue}
use Rattle.edid_cta.specs.declared.raw.Ext.{Ext}
use Rattle.rules_check.specs.Findings.{findings}
use Rattle.rules_check.specs.Laws.{IsAmong, breaks_at}
use Rattle.rules_check.specs.declared.rule.Finding.TheVariants.{Edid as OfEdid, Timing as OfTiming}
use Rattle.rules_check.specs.declared.rule.Origin.{Origin}
use Rattle.rules_check.specs.declared.rule.Rule.TheVariants.{FormatsCarried}
use Rattle.rules_check.specs.declared.rule.TimingRule.TheVariants.{Carried}
use Rattle.rules_check.proofs.LawLemmas as check
use Rattle.rules_link.specs.Offers.{has_format_beyond, is_of_hdmi, is_timing_beyond}
use Rattle.rules_values.specs.ExtParts.{timings_of}
use Rattle.edid_laws.specs.Links.{IsOnItsLink, StayOnTheirLinks}

second : (a b : Bool) → (a && b) ≡ true → b ≡ true
second true b h = h
second false b h = let no : ⊥ = cc in absurd no

any_at : (b : Base) (xs : List Ext) (ts : List TimingValue) (place : ℕ) → breaks_at b xs Carried ts place ≡ true → list_any (is_timing_beyond xs) ts ≡ true
any_at b xs [] place h = let no : ⊥ = cc in absurd no
any_at b xs (t ∷ ts) zero h = or_left (is_timing_beyond xs t) (list_any (is_timing_beyond xs) ts) (second (is_of_hdmi b) (is_timing_beyond xs t) h)
any_at b xs (t ∷ ts) (suc place) h = or_right (is_timing_beyond xs t) (list_any (is_timing_beyond xs) ts) (any_at b xs ts place h)

both : (a : Bool) → a ≡ true → a ≡ false → ⊥
both a h k = cc

no_timing : (o : Origin) (e : EdidValue) → IsCarried e → (number : ℕ) → IsAmong (OfTiming number Carried) (findings o e.base e.extensions.items) → ⊥
no_timing o e fits zero h = (check.law o e.base e.extensions.items).from_one Carried h
no_timing o e fits (suc place) h =
    let breaks = ((check.law o e.base e.extensions.items).timing place Carried).0 h in
    both (list_any (is_timing_beyond e.extensions.items) (timings_of e.base e.extensions.items))
    (any_at e.base e.extensions.items (timings_of e.base e.extensions.items) place breaks) fits.timings

no_format : (o : Origin) (e : EdidValue) → IsCarried e → IsAmong (OfEdid FormatsCarried) (findings o e.base e.extensions.items) → ⊥
no_format o e fits h =
    let broken = ((check.law o e.base e.extensions.items).edid FormatsCarried).0 h in
    both (has_format_beyond e.extensions.items) (second (is_of_hdmi e.base) (has_format_beyond e.extensions.items) broken) fits.formats

carried : (o : Origin) (e : EdidValue) → IsCarried e → IsOnItsLink o e
carried o e fits = record { formats = no_format o e fits; timings = no_timing o e fits }

chosen : (o : Origin) (c : Bool) (merged answer : EdidValue) → c ≡ true → IsPassedBy c merged answer → IsOnItsLink o answer
chosen o true merged answer h of = carried o answer (fit.law merged answer of)
chosen o false merged answer h of = let no : ⊥ = cc in absurd no

pub on_links : StayOnTheirLinks
on_links t own merged answer o h of = chosen o (leaves_out t.formats own) merged answer h of
