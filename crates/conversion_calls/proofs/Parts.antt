-- An EDID that is passed on, and what is wrong with it, by its parts.
use Rattle.std.proofs.Common.{◌≡◌, List, ap, refl, sym, ◌∙◌}
use Rattle.edid_cta.specs.declared.raw.Ext.{Ext}
use Rattle.edid_base.specs.declared.base.Base.{Base}
use Rattle.edid_core.specs.declared.edid.Edid.{Edid}
use Rattle.rules_check.specs.Findings.{findings}
use Rattle.rules_check.specs.declared.rule.Origin.{Origin}
use Rattle.conversion_calls.specs.Form.{form_text, parts_text}
use Rattle.conversion_calls.specs.declared.form.EdidForm.{EdidForm}
use Rattle.conversion_calls.specs.declared.form.EdidForm.TheVariants.{Text, Hex, Bytes, C, Xml}

-- an EDID is written as its parts are
pub form_whole : (form : EdidForm) (p : Edid) → parts_text form p.base p.extensions.items ≡ form_text form p
form_whole Text p = refl
form_whole Hex p = refl
form_whole Bytes p = refl
form_whole C p = refl
form_whole Xml p = refl

pub same_form : (form : EdidForm) (base : Base) (exts : List Ext) (p : Edid) → p.base ≡ base → p.extensions.items ≡ exts → parts_text form base exts ≡ form_text form p
same_form form base exts p of_base of_exts =
    sym (ap (λ (b : Base). parts_text form b p.extensions.items) of_base ∙ ap (λ (xs : List Ext). parts_text form base xs) of_exts) ∙ form_whole form p

pub same_findings : (origin : Origin) (base : Base) (exts : List Ext) (p : Edid) → p.base ≡ base → p.extensions.items ≡ exts
    → findings origin base exts ≡ findings origin p.base p.extensions.items
same_findings origin base exts p of_base of_exts =
    sym (ap (λ (b : Base). findings origin b p.extensions.items) of_base ∙ ap (λ (xs : List Ext). findings origin base xs) of_exts)
