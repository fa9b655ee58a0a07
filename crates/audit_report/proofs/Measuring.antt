-- What is counted of one reading.
use Rattle.std.proofs.Common.{◌≡◌, ℕ, Bool, false, ◌||◌, List, Option, sym, ap, ap₂, ◌∙◌}
use Rattle.line_reading.specs.Readings.{Listed}
use Rattle.audit_widths.specs.declared.low.Low.{Low}
use Rattle.audit_remarks.specs.declared.free.FreeTaken.{FreeTaken}
use Rattle.audit_notes.specs.Lines.{has_remark}
use Rattle.audit_core.specs.Audit.{Tape, come_to, remark_lines, tape_after}
use Rattle.audit_core.specs.Measured.{free_of, measured_of, waits_of}
use Rattle.audit_contents.specs.Contents.{after_reading as noted}
use Rattle.audit_contents.specs.declared.contents.Contents.{Contents}
use Rattle.audit_report.specs.declared.parties.Parties.{Parties}
use Rattle.audit_report.specs.declared.row.Row.{Row}
use Rattle.audit_report.specs.Charges.{answers_of, free_charges, lines_charges, measured_charges, rows_with, with_charge}
use Rattle.audit_report.specs.Hearing.{rows_both}
use Rattle.audit_report.specs.Parties.{parties_of, sender_of, taker_of}
use Rattle.audit_report.specs.Report.{Kept, after_reading}
use Rattle.audit_report.specs.Rows.Told.{Sent, Took}

-- what is measured of it
pub measured_are : (t : Tape) (x : Listed) (sender taker : Option ℕ) (lows : List Low) (free : Option FreeTaken) (waits : List ℕ) (r s u v w : List Row)
    → sender ≡ sender_of x.reported.bits → taker ≡ taker_of x.reported.bits → lows ≡ measured_of t x → free ≡ free_of t x → waits ≡ waits_of t x
    → s ≡ with_charge sender (Sent x.reported.ending x.reported.bits lows) r → u ≡ with_charge taker (Took x.reported.ending x.reported.bits lows) s
    → v ≡ rows_with (free_charges sender free) u → w ≡ rows_with (answers_of sender waits) v → w ≡ rows_with (measured_charges t x) r
measured_are t x sender taker lows free waits r s u v w es et el ef ew sent took waited answered =
    answered ∙ ap₂ (λ (o : Option ℕ) (l : List ℕ). rows_with (answers_of o l) v) es ew
    ∙ ap (rows_with (answers_of (sender_of bits) (waits_of t x)))
    (waited ∙ ap₂ (λ (o : Option ℕ) (f : Option FreeTaken). rows_with (free_charges o f) u) es ef
    ∙ ap (rows_with (free_charges (sender_of bits) (free_of t x)))
    (took ∙ ap₂ (λ (o : Option ℕ) (l : List Low). with_charge o (Took x.reported.ending bits l) s) et el
    ∙ ap (with_charge (taker_of bits) (Took x.reported.ending bits (measured_of t x)))
    (sent ∙ ap₂ (λ (o : Option ℕ) (l : List Low). with_charge o (Sent x.reported.ending bits l) r) es el)))
    ∙ sym (rows_both (free_charges (sender_of bits) (free_of t x)) (answers_of (sender_of bits) (waits_of t x))
    (with_charge (taker_of bits) (Took x.reported.ending bits (measured_of t x)) (with_charge (sender_of bits) (Sent x.reported.ending bits (measured_of t x)) r)))
  where
    bits : List Bool
    bits = x.reported.bits

abbrev pub kept_as : Tape → List Row → Contents → Bool → Kept
kept_as tape rows contents remarked = record { tape = tape; rows = rows; contents = contents; remarked = remarked }

abbrev rows_by : Listed → Kept → Parties → Tape → List Row
rows_by x k p t = rows_with (lines_charges p (remark_lines false t x)) (rows_with (measured_charges t x) k.rows)

-- all of it, with what is said of it
pub taken_as : (x : Listed) (k : Kept) (t u : Tape) (p : Parties) (r s : List Row) (q : Contents) (b : Bool)
    → t ≡ come_to x k.tape → p ≡ parties_of x.reported.bits → r ≡ rows_with (measured_charges t x) k.rows → u ≡ tape_after x t
    → s ≡ rows_with (lines_charges p (remark_lines false t x)) r → q ≡ noted x k.contents → b ≡ (k.remarked || has_remark (remark_lines false t x))
    → kept_as u s q b ≡ after_reading x k
taken_as x k t u p r s q b at parties measured after said contents remarked =
    ap (λ (v : Tape). kept_as v s q b) (after ∙ ap (tape_after x) at)
    ∙ ap (λ (rows : List Row). kept_as (tape_after x here) rows q b)
    (said ∙ ap (rows_with (lines_charges p (remark_lines false t x))) measured ∙ ap₂ (rows_by x k) parties at
    ∙ sym (rows_both (measured_charges here x) (lines_charges (parties_of x.reported.bits) (remark_lines false here x)) k.rows))
    ∙ ap (λ (z : Contents). kept_as (tape_after x here) (after_reading x k).rows z b) contents
    ∙ ap (kept_as (tape_after x here) (after_reading x k).rows (noted x k.contents)) (remarked ∙ ap (λ (v : Tape). k.remarked || has_remark (remark_lines false v x)) at)
  where
    here : Tape
    here = come_to x k.tape
