-- Lines that are written as they are heard, and whether one of them says that the standard has something otherwise (own).
use Rattle.std.specs.Prelude.{◌≡◌, Bool, true, false, ◌||◌, List, [], ◌∷◌, ◌++◌}
use Rattle.std.proofs.Common.{refl, sym, subst, ap, ◌∙◌, append_assoc, Option}
use Rattle.std.proofs.lemmas.Grind.{flat_map-append}
use Rattle.text_core.specs.Adds.{Adds, Tally}
use Rattle.text_core.proofs.Adding.{nothing, then}
use Rattle.record_core.specs.declared.cell.Form.{Form}
use Rattle.audit_notes.specs.Folded.{Run, folded_after}
use Rattle.audit_notes.specs.Lines.{AuditLine, has_remark, line_text, lines_text, says_remark}

-- ---- the laws of what writes

pub none_written : (form : Form) (a : Tally) → Adds a a (lines_text form [])
none_written form a = nothing a

pub both_written : (form : Form) (a b c : Tally) (xs ys : List AuditLine) → Adds a b (lines_text form xs) → Adds b c (lines_text form ys) → Adds a c (lines_text form (xs ++ ys))
both_written form a b c xs ys first second =
    subst (λ text. Adds a c text) (sym (flat_map-append (line_text form) xs ys)) (then a b c (lines_text form xs) (lines_text form ys) first second)

-- ---- of what looks for remarks

or_none : (b : Bool) → b ≡ (b || false)
or_none true = refl
or_none false = refl

or_both : (a b c : Bool) → ((a || b) || c) ≡ (a || (b || c))
or_both true b c = refl
or_both false b c = refl

any_both : (xs ys : List AuditLine) → (has_remark xs || has_remark ys) ≡ has_remark (xs ++ ys)
any_both [] ys = refl
any_both (x ∷ xs) ys = or_both (says_remark x) (has_remark xs) (has_remark ys) ∙ ap (λ (b : Bool). says_remark x || b) (any_both xs ys)

pub none_found : (b : Bool) → b ≡ (b || has_remark [])
none_found b = or_none b

pub both_found : (a b c : Bool) (xs ys : List AuditLine) → b ≡ (a || has_remark xs) → c ≡ (b || has_remark ys) → c ≡ (a || has_remark (xs ++ ys))
both_found a b c xs ys e f = f ∙ ap (λ (d : Bool). d || has_remark ys) e ∙ or_both a (has_remark xs) (has_remark ys) ∙ ap (λ (d : Bool). a || d) (any_both xs ys)

-- ---- of what writes in a form that stays

pub none_by : (form : Form) (a : Tally) → (form ≡ form) × Adds a a (lines_text form [])
none_by form a = (refl, nothing a)

pub both_by : (f g h : Form) (a b c : Tally) (xs ys : List AuditLine) → (g ≡ f) × Adds a b (lines_text f xs) → (h ≡ g) × Adds b c (lines_text g ys) → (h ≡ f) × Adds a c (lines_text f (xs ++ ys))
both_by f g h a b c xs ys first second =
    (second.0 ∙ first.0, both_written f a b c xs ys first.1 (subst (λ (form : Form). Adds b c (lines_text form ys)) first.0 second.1))

-- ---- of what folds bad starts

pub fold_none : (a : Option Run) (rest : List AuditLine) → folded_after a ([] ++ rest) ≡ [] ++ folded_after a rest
fold_none a rest = refl

pub fold_both : (a b c : Option Run) (xs ys done more : List AuditLine) → ((rest : List AuditLine) → folded_after a (xs ++ rest) ≡ done ++ folded_after b rest) → ((rest : List AuditLine) → folded_after b (ys ++ rest) ≡ more ++ folded_after c rest)
    → (rest : List AuditLine) → folded_after a ((xs ++ ys) ++ rest) ≡ (done ++ more) ++ folded_after c rest
fold_both a b c xs ys done more first second rest =
    ap (folded_after a) (append_assoc xs ys rest) ∙ first (ys ++ rest) ∙ ap (λ (ls : List AuditLine). done ++ ls) (second rest) ∙ sym (append_assoc done more (folded_after c rest))
