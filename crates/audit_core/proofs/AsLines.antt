-- The text of an audit, and that of readings, is that of its lines.
use Rattle.std.proofs.Common.{◌≡◌, ℕ, Bool, List, [], ◌∷◌, ◌++◌, map, refl, ap, ◌∙◌}
use Rattle.std.proofs.lemmas.Grind.{flat_map-append}
use Rattle.line_reading.specs.Readings.{Listed}
use Rattle.capture_core.specs.Edges.{Captured}
use Rattle.record_core.specs.declared.cell.Form.TheVariants.{Text}
use Rattle.capture_monitor.specs.Watch.{listed_line, readings_text}
use Rattle.audit_notes.specs.Lines.{AuditLine, line_text, lines_text}
use Rattle.audit_notes.specs.Lines.AuditLine.{Reading}
use Rattle.audit_core.specs.Audit.{AuditsAreLines, Tape, after, after_all, audit_lines, audit_text_of, first_tape, heard_all, heard_lines, line_and_remarks, reported_all, summary_lines, summary_text}

heard_text : (timing : Bool) (t : Tape) (xs : List Listed) → lines_text Text (heard_all timing t xs) ≡ reported_all timing t xs
heard_text timing t [] = refl
heard_text timing t (x ∷ xs) =
    flat_map-append (line_text Text) (heard_lines timing t x) (heard_all timing (after x t) xs) ∙ ap (λ (l : List ℕ). line_and_remarks timing t x ++ l) (heard_text timing (after x t) xs)

pub are_lines : AuditsAreLines
are_lines timing c xs =
    flat_map-append (line_text Text) (heard_all timing (first_tape c.edges) xs) (summary_lines c.end (after_all (first_tape c.edges) xs))
    ∙ ap (λ (l : List ℕ). l ++ summary_text c.end (after_all (first_tape c.edges) xs)) (heard_text timing (first_tape c.edges) xs)

pub readings_lines : (xs : List Listed) → lines_text Text (map Reading xs) ≡ readings_text xs
readings_lines [] = refl
readings_lines (x ∷ xs) = ap (λ (l : List ℕ). listed_line x ++ l) (readings_lines xs)
