-- A run and its capture are judged alike.
use Rattle.std.proofs.Common.{◌≡◌, ℕ, ◌==◌, length, List, [], Option, Some, Result, Ok, Err, sym, ap, ◌∙◌}
use Rattle.text_core.specs.declared.at.At.{At}
use Rattle.capture_core.specs.Edges.{Captured}
use Rattle.capture_core.specs.declared.fault.Cause.{Cause}
use Rattle.capture_forms.specs.Captures.{capture_in}
use Rattle.capture_forms.specs.declared.form.CaptureForm.TheVariants.{Edges}
use Rattle.record_core.specs.declared.cell.Form.TheVariants.{Text}
use Rattle.room_run.specs.Emulate.{TextsHaveOneLine}
use Rattle.expect_remarks.specs.Kept.{audit_remarks}
use Rattle.expect_remarks.specs.Met.{WhatIsShownWasMet, remarks_met, shown_remarks}
use Rattle.audit_expect.specs.Alike.{NoRemarkIsJudgedAlike}
use Rattle.audit_expect.specs.Wanted.{pattern_in}

abbrev told_by : Option (List ℕ) → Result Captured (At Cause) → List ℕ
told_by pattern (Ok capture) = shown_remarks Text (remarks_met pattern (audit_remarks capture))
told_by pattern (Err fault) = []

pub no_remark_is_judged_alike : TextsHaveOneLine → WhatIsShownWasMet → NoRemarkIsJudgedAlike
no_remark_is_judged_alike one shown topology plain pattern told edges totals capture h run read =
    let same = one Edges topology plain h.edges edges h.totals totals h.run run in
    let told_is : told ≡ told_by (pattern_in pattern) (Ok capture) =
    h.told_is ∙ sym (ap (told_by (pattern_in pattern)) h.read) ∙ ap (λ text. told_by (pattern_in pattern) (capture_in Edges [] text)) same.0 ∙ ap (told_by (pattern_in pattern)) read in
    ap (λ text. Some (length text == 0)) told_is ∙ ap Some (shown Text (remarks_met (pattern_in pattern) (audit_remarks capture)))
