-- What is kept of all readings of a capture.
use Rattle.std.proofs.Common.{◌≡◌, ℕ, Bool, false, ◌||◌, List, [], ◌∷◌, map, refl, sym, ap, ap₂, ◌∙◌}
use Rattle.line_reading.specs.Readings.{Listed}
use Rattle.capture_core.specs.Edges.{Captured}
use Rattle.audit_notes.specs.Lines.{has_remark}
use Rattle.audit_notes.specs.Lines.AuditLine.{Reading}
use Rattle.audit_notes.specs.Hearing.{both_found, none_found}
use Rattle.audit_core.specs.Audit.{Tape, after, after_all, audit_lines, come_to, first_tape, heard_all, heard_lines, summary_lines}
use Rattle.audit_contents.specs.Contents.{after_readings, contents_of}
use Rattle.audit_contents.specs.declared.contents.Contents.{Contents}
use Rattle.audit_report.specs.declared.row.Row.{Row}
use Rattle.audit_report.specs.Charges.{charges_all, lines_charges, no_rows, reading_charges, rows_of, rows_with}
use Rattle.audit_report.specs.Hearing.{rows_both}
use Rattle.audit_report.specs.Parties.{nobody}
use Rattle.audit_report.specs.Report.{Kept, Whole, after_lines, after_reading, before_all, report_of, with_end}

-- after these readings
abbrev kept : Kept → List Listed → Kept
kept k xs = after_lines k (map Reading xs)

tape_is : (k : Kept) (xs : List Listed) → (kept k xs).tape ≡ after_all k.tape xs
tape_is k [] = refl
tape_is k (x ∷ xs) = tape_is (after_reading x k) xs

rows_are : (k : Kept) (xs : List Listed) → (kept k xs).rows ≡ rows_with (charges_all k.tape xs) k.rows
rows_are k [] = refl
rows_are k (x ∷ xs) =
    rows_are (after_reading x k) xs ∙ sym (rows_both (reading_charges (come_to x k.tape) x) (charges_all (after x k.tape) xs) k.rows)

contents_are : (k : Kept) (xs : List Listed) → (kept k xs).contents ≡ after_readings xs k.contents
contents_are k [] = refl
contents_are k (x ∷ xs) = contents_are (after_reading x k) xs

remarked_is : (k : Kept) (xs : List Listed) → (kept k xs).remarked ≡ (k.remarked || has_remark (heard_all false k.tape xs))
remarked_is k [] = none_found k.remarked
remarked_is k (x ∷ xs) =
    both_found k.remarked (after_reading x k).remarked (kept (after_reading x k) xs).remarked (heard_lines false k.tape x)
    (heard_all false (after x k.tape) xs) refl (remarked_is (after_reading x k) xs)

-- ---- at the end

abbrev whole : List Row → Contents → Bool → Whole
whole rows contents remarked = record { rows = rows; contents = contents; remarked = remarked }

abbrev with_summary : ℕ → Tape → List Row → List Row
with_summary end t rows = rows_with (lines_charges nobody (summary_lines end t)) rows

pub all_counted : (c : Captured) (xs : List Listed) → with_end c.end (after_lines (before_all c.edges) (map Reading xs)) ≡ report_of c xs
all_counted c xs =
    ap₂ (λ (r : List Row) (d : Contents). whole r d ((kept k xs).remarked || has_remark (summary_lines c.end (kept k xs).tape))) rows (contents_are k xs)
    ∙ ap (whole (rows_of c xs) (contents_of xs)) remarked
  where
    k : Kept
    k = before_all c.edges

    t : Tape
    t = after_all (first_tape c.edges) xs

    tape : (kept k xs).tape ≡ t
    tape = tape_is k xs

    rows : with_summary c.end (kept k xs).tape (kept k xs).rows ≡ rows_of c xs
    rows =
        ap₂ (with_summary c.end) tape (rows_are k xs)
        ∙ sym (rows_both (charges_all (first_tape c.edges) xs) (lines_charges nobody (summary_lines c.end t)) no_rows)

    remarked : ((kept k xs).remarked || has_remark (summary_lines c.end (kept k xs).tape)) ≡ has_remark (audit_lines false c xs)
    remarked =
        both_found false (kept k xs).remarked ((kept k xs).remarked || has_remark (summary_lines c.end (kept k xs).tape))
        (heard_all false (first_tape c.edges) xs) (summary_lines c.end t) (remarked_is k xs)
        (ap (λ (s : Tape). (kept k xs).remarked || has_remark (summary_lines c.end s)) tape)
