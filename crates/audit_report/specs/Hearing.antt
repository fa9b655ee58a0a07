-- What is counted of lines is counted of lines after lines.
use Rattle.std.specs.Prelude.{◌≡◌, List, [], ◌∷◌, ◌++◌}
use Rattle.std.proofs.Common.{refl, sym, ap, ◌∙◌}
use Rattle.std.proofs.lemmas.Grind.{flat_map-append}
use Rattle.audit_notes.specs.Lines.{AuditLine}
use Rattle.audit_report.specs.declared.parties.Parties.{Parties}
use Rattle.audit_report.specs.declared.row.Row.{Row}
use Rattle.audit_report.specs.Charges.{Charge, line_charges, lines_charges, rows_with, with_charge}
use Rattle.audit_report.specs.Report.{Kept, after_line, after_lines}

pub rows_both : (cs ds : List Charge) (rows : List Row) → rows_with (cs ++ ds) rows ≡ rows_with ds (rows_with cs rows)
rows_both [] ds rows = refl
rows_both (c ∷ cs) ds rows = rows_both cs ds (with_charge c.who c.told rows)

pub none_counted : (p : Parties) (rows : List Row) → (p ≡ p) × (rows ≡ rows_with (lines_charges p []) rows)
none_counted p rows = (refl, refl)

pub both_counted : (p q r : Parties) (a b c : List Row) (xs ys : List AuditLine)
    → (q ≡ p) × (b ≡ rows_with (lines_charges p xs) a) → (r ≡ q) × (c ≡ rows_with (lines_charges q ys) b) → (r ≡ p) × (c ≡ rows_with (lines_charges p (xs ++ ys)) a)
both_counted p q r a b c xs ys first second = (
  second.0 ∙ first.0,
  second.1 ∙ ap (λ (o : Parties). rows_with (lines_charges o ys) b) first.0 ∙ ap (rows_with (lines_charges p ys)) first.1
      ∙ sym (rows_both (lines_charges p xs) (lines_charges p ys) a) ∙ ap (λ (cs : List Charge). rows_with cs a) (sym (flat_map-append (line_charges p) xs ys)),
)

-- ---- of what hears readings

lines_both : (k : Kept) (xs ys : List AuditLine) → after_lines k (xs ++ ys) ≡ after_lines (after_lines k xs) ys
lines_both k [] ys = refl
lines_both k (x ∷ xs) ys = lines_both (after_line x k) xs ys

pub none_taken : (k : Kept) → k ≡ after_lines k []
none_taken k = refl

pub both_taken : (a b c : Kept) (xs ys : List AuditLine) → b ≡ after_lines a xs → c ≡ after_lines b ys → c ≡ after_lines a (xs ++ ys)
both_taken a b c xs ys first second = second ∙ ap (λ (k : Kept). after_lines k ys) first ∙ sym (lines_both a xs ys)
