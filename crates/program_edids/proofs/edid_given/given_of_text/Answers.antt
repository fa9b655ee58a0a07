use Rattle.std.proofs.Common.{◌≡◌, Result, IfErr, IfOk, subst, sym, ◌∙◌}
use Rattle.edid_core.specs.declared.edid.Edid.{Edid}
use Rattle.edid_texts.specs.Cut.{lines_with_feeds}
use Rattle.edid_texts.specs.Lines.{edid_text}
use Rattle.edid_texts.specs.Refusal.{IsRefusal}
use Rattle.edid_texts.specs.declared.parse.TextError.{TextError}
use Rattle.program_edids.proofs.FaultLemmas.{not_both, text_fault}
use Rattle.program_edids.proofs.edid_given.given_of_text.Goals as goal

pub returns-in-Err-clause-refused : goal.returns-in-Err-clause-refused
returns-in-Err-clause-refused c =
    let P : Result Edid TextError → Type 0 = λ r. IfErr r (λ e. IsRefusal (lines_with_feeds c.args.text.now) e) in
    text_fault c.args.text.now c.in-Err.error c.fault_of.result (subst P c.in-Err.is c.parse_text.ensures.refused)
    (λ e h. not_both c.parse_text.result c.in-Err.error e c.in-Err.is (c.parse_text.ensures.only e (sym h))) c.fault_of.ensures

pub returns-in-Ok-to_vec-clause-ok : goal.returns-in-Ok-to_vec-clause-ok
returns-in-Ok-to_vec-clause-ok c =
    let P : Result Edid TextError → Type 0 = λ r. IfOk r (λ e. edid_text e ≡ c.args.text.now) in
    let found = subst P c.in-Ok.is c.parse_text.ensures.found in
    (c.in-Ok.edid, found, c.in-Ok-to_vec.ensures.items_if_clones_equal (λ x y e. e) ∙ (c.as_slice.ensures.value ∙ c.edid_to_bytes.ensures))
