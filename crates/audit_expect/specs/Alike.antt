-- A run and its capture (own).
use Rattle.std.specs.Prelude.{◌≡◌, ℕ, List, [], Some, Ok}
use Rattle.capture_core.specs.Edges.{Captured}
use Rattle.capture_forms.specs.Captures.{capture_in}
use Rattle.capture_forms.specs.declared.form.CaptureForm.TheVariants.{Edges}
use Rattle.room_run.specs.Emulate.{IsEdgeTraceOf}
use Rattle.room_run.specs.declared.run.Totals.{Totals}
use Rattle.expect_judge.specs.Judged.{unremarked_judged}
use Rattle.expect_remarks.specs.Kept.{audit_remarks}
use Rattle.expect_run.specs.States.{IsRemarkedOf}
use Rattle.expect_run.specs.States.StateView.{Said}
use Rattle.audit_expect.specs.Wanted.{holds_of, pattern_in}
use Rattle.audit_expect.specs.Wanted.WantedRemarks.{NoRemark}

-- `no-remark` holds of a run exactly where it does of the capture of the run's line
abbrev pub NoRemarkIsJudgedAlike : Type 0
NoRemarkIsJudgedAlike = (topology plain pattern told edges : List ℕ) (totals : Totals) (capture : Captured) → IsRemarkedOf Said topology plain (pattern_in pattern) told
    → IsEdgeTraceOf topology plain edges totals → capture_in Edges [] edges ≡ Ok capture → (unremarked_judged told).holds ≡ Some (holds_of (audit_remarks capture) (NoRemark pattern))
