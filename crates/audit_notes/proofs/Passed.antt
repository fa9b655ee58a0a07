-- A line that is no bad start, after what was held.
use Rattle.std.proofs.Common.{◌≡◌, Bool, false, if◌then◌else◌, List, [], ◌∷◌, ◌++◌, Option, Some, None, sym, ap, ◌∙◌, append_assoc}
use Rattle.audit_notes.specs.Lines.{AuditLine}
use Rattle.audit_notes.specs.Folded.{Run, closed, folded_after, held_as, is_bad_start, with_bad}
use Rattle.audit_notes.specs.declared.folding.HeldRun.{HeldRun}

pub passed : (run : Option Run) (line : AuditLine) (held : Option HeldRun) → is_bad_start line ≡ false → held ≡ None → (rest : List AuditLine)
    → folded_after run ((line ∷ []) ++ rest) ≡ (closed run ++ line ∷ []) ++ folded_after (held_as held) rest
passed run line held e none rest =
    ap (λ (b : Bool). if b then folded_after (Some (with_bad run line)) rest else closed run ++ (line ∷ folded_after None rest)) e
    ∙ sym (append_assoc (closed run) (line ∷ []) (folded_after None rest))
    ∙ ap (λ (h : Option HeldRun). (closed run ++ line ∷ []) ++ folded_after (held_as h) rest) (sym none)
