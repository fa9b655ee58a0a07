-- What is told of the audit of a run.
use Rattle.std.proofs.Common.{◌≡◌, ℕ, List, [], ◌++◌, Option, Some, Ok, sym, ap, ◌∙◌}
use Rattle.std.specs.Io.KnownBytes.{Appends}
use Rattle.capture_core.specs.Edges.{Captured}
use Rattle.capture_forms.specs.Captures.{capture_in}
use Rattle.capture_forms.specs.declared.form.CaptureForm.TheVariants.{Edges}
use Rattle.room_run.specs.Emulate.{IsEdgeTraceOf}
use Rattle.room_run.specs.declared.run.Totals.{Totals}
use Rattle.expect_remarks.specs.Kept.{audit_remarks}
use Rattle.expect_remarks.specs.Met.{remarks_met, shown_remarks}
use Rattle.expect_run.specs.States.{IsRemarkedOf, StateView, remarks_form}

pub remarked : (view : StateView) (topology plain held edges lent text told : List ℕ) (totals : Totals) (pattern : Option (List ℕ)) (capture : Captured) → held ≡ [] → IsEdgeTraceOf topology plain text totals → Appends (Some held) (Some edges) text → lent ≡ edges
    → capture_in Edges [] lent ≡ Ok capture → told ≡ shown_remarks (remarks_form view) (remarks_met pattern (audit_remarks capture)) → IsRemarkedOf view topology plain pattern told
remarked view topology plain held edges lent text told totals pattern capture empty run written same read is = record {
  edges = text;
  totals = totals;
  run = run;
  capture = capture;
  read = ap (capture_in Edges []) (sym (same ∙ written ∙ ap (λ h. h ++ text) empty)) ∙ read;
  told_is = is;
}
