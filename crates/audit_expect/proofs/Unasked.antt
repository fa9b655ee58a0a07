-- Tests where no line speaks of remarks.
use Rattle.std.proofs.Common.{◌≡◌, ℕ, ◌+◌, ◌||◌, Bool, true, false, is_some, List, [], ◌∷◌, Option, Some, None, refl, sym, ap, ◌∙◌}
use Rattle.audit_notes.specs.declared.note.AuditNote.{AuditNote}
use Rattle.record_core.specs.declared.cell.Form.{Form}
use Rattle.expect_run.specs.Report.{Report}
use Rattle.audit_expect.specs.Wanted.{WantedRemarks, is_any_wanted, wanted_of, with_wanted, with_wanted_lines}

or_left : (a b : Bool) → (a || b) ≡ false → a ≡ false
or_left true b h = cc
or_left false b h = refl

or_right : (a b : Bool) → (a || b) ≡ false → b ≡ false
or_right true b h = cc
or_right false b h = h

unwanted : (form : Form) (remarks : List AuditNote) (r : Report) (number : ℕ) (line : List ℕ) (o : Option WantedRemarks) → is_some o ≡ false → with_wanted form remarks r number line o ≡ r
unwanted form remarks r number line None h = refl
unwanted form remarks r number line (Some wanted) h = cc

pub none_wanted : (form : Form) (remarks : List AuditNote) (r : Report) (number : ℕ) (lines : List (List ℕ)) → is_any_wanted lines ≡ false → with_wanted_lines form remarks r number lines ≡ r
none_wanted form remarks r number [] h = refl
none_wanted form remarks r number (line ∷ lines) h =
    ap (λ (q : Report). with_wanted_lines form remarks q (number + 1) lines) (unwanted form remarks r number line (wanted_of line) (or_left (is_some (wanted_of line)) (is_any_wanted lines) h))
    ∙ none_wanted form remarks r (number + 1) lines (or_right (is_some (wanted_of line)) (is_any_wanted lines) h)

pub none_asked : (b : Bool) (form : Form) (remarks : List AuditNote) (r : Report) (lines : List (List ℕ)) → b ≡ is_any_wanted lines → b ≡ false → r ≡ with_wanted_lines form remarks r 1 lines
none_asked b form remarks r lines is h = sym (none_wanted form remarks r 1 lines (sym is ∙ h))
