-- Counts of lines after lines.
use Rattle.std.specs.Prelude.{◌≡◌, ℕ, List, [], ◌∷◌, ◌++◌}
use Rattle.std.proofs.Common.{refl, ap, ◌∙◌}
use Rattle.audit_notes.specs.Lines.{AuditLine}
use Rattle.capture_advice.specs.Counts.{Counts, counted_after, one_more}

after_both : (n : ℕ) (xs ys : List AuditLine) → counted_after (counted_after n xs) ys ≡ counted_after n (xs ++ ys)
after_both n [] ys = refl
after_both n (x ∷ xs) ys = after_both (one_more n x) xs ys

pub none_counted : (n : ℕ) → Counts n [] n
none_counted n = refl

pub both_counted : (a b c : ℕ) (xs ys : List AuditLine) → Counts a xs b → Counts b ys c → Counts a (xs ++ ys) c
both_counted a b c xs ys first second = second ∙ ap (λ (n : ℕ). counted_after n ys) first ∙ after_both a xs ys
