-- Lines of remarks.
use Rattle.std.proofs.Common.{◌≡◌, ℕ, suc, ◌-◌, ◌==◌, Bool, true, false, if◌then◌else◌, codes, drop, filter, length, take, List, [], ◌∷◌, ◌++◌, refl, sym, ap, ◌∙◌, append-nil, append_assoc, arith}
use Rattle.std.proofs.lemmas.Bool.Decides.{nat_tests}
use Rattle.std.proofs.lemmas.List.Splits.{join_with_byte-slice_split}
use Rattle.text_core.specs.Words.{text_of, words_of}
use Rattle.record_core.specs.Cells.{line_only}
use Rattle.record_core.specs.Records.{record_text}
use Rattle.record_core.specs.Values.{string}
use Rattle.record_core.specs.declared.cell.Form.{Form}
use Rattle.record_core.specs.declared.cell.Form.TheVariants.{Text, Json}
use Rattle.audit_notes.specs.Kinds.{is_remark}
use Rattle.audit_notes.specs.Lines.{lines_text}
use Rattle.audit_notes.specs.Lines.AuditLine.{Note}
use Rattle.audit_notes.specs.Notes.{kind_of}
use Rattle.audit_notes.specs.declared.note.AuditNote.{AuditNote}
use Rattle.expect_remarks.specs.Kept.{KeepsRemarks}
use Rattle.expect_remarks.specs.Met.{WhatIsShownWasMet, is_met, said_of, shown_remark, shown_remarks}

-- ---- the line of a remark

one_less : (n : ℕ) → suc n - 1 ≡ n
one_less n = omega arith

before_last : (said : List ℕ) → take (length (said ++ 10 ∷ []) - 1) (said ++ 10 ∷ []) ≡ said
before_last [] = refl
before_last (x ∷ []) = refl
before_last (x ∷ y ∷ said) =
    ap (λ (n : ℕ). take n (x ∷ y ∷ (said ++ 10 ∷ []))) (one_less (suc (length (said ++ 10 ∷ []))))
    ∙ sym (ap (λ (n : ℕ). x ∷ take n (y ∷ (said ++ 10 ∷ []))) (one_less (length (said ++ 10 ∷ []))))
    ∙ ap (λ (text : List ℕ). x ∷ text) (before_last (y ∷ said))

-- without its end
pub without_last : (line : List ℕ) (note : AuditNote) → line ≡ lines_text Text (Note note ∷ []) → take (length line - 1) line ≡ said_of note
without_last line note e = ap (λ (text : List ℕ). take (length text - 1) text) (e ∙ append-nil (said_of note ++ 10 ∷ [])) ∙ before_last (said_of note)

-- ---- words of a pattern

-- the text of the words of a text is that text
pub left_again : (text : List ℕ) → text ≡ text_of (words_of text)
left_again text = sym (join_with_byte-slice_split 32 text)

-- ---- remarks that are kept

pub passed : (notes : List AuditNote) (full : Bool) (note : AuditNote) → is_remark (kind_of note) ≡ false → KeepsRemarks notes full (Note note ∷ []) notes full
passed notes full note e = λ room. (room, sym (ap (λ (b : Bool). notes ++ ((if b then note ∷ [] else []) ++ [])) e ∙ append-nil notes))

pub kept : (old new : List AuditNote) (was is : Bool) (note : AuditNote) → is_remark (kind_of note) ≡ true → (is ≡ false → (was ≡ false) × (new ≡ old ++ note ∷ [])) → KeepsRemarks old was (Note note ∷ []) new is
kept old new was is note e keeps = λ room. ((keeps room).0, (keeps room).1 ∙ sym (ap (λ (b : Bool). old ++ ((if b then note ∷ [] else []) ++ [])) e))

-- ---- remarks that meet a pattern

-- one more is kept
pub more_met : (pattern : List ℕ) (met all new rest others : List AuditNote) (note : AuditNote) → rest ≡ note ∷ others → is_met pattern note ≡ true → new ≡ met ++ note ∷ []
    → met ++ filter (is_met pattern) rest ≡ all → new ++ filter (is_met pattern) others ≡ all
more_met pattern met all new rest others note split e put before =
    ap (λ (notes : List AuditNote). notes ++ filter (is_met pattern) others) put ∙ append_assoc met (note ∷ []) (filter (is_met pattern) others)
    ∙ sym (ap (λ (b : Bool). met ++ (if b then note ∷ filter (is_met pattern) others else filter (is_met pattern) others)) e)
    ∙ sym (ap (λ (notes : List AuditNote). met ++ filter (is_met pattern) notes) split) ∙ before

-- ---- what is shown

pub shown_as : (form : Form) (old new said : List ℕ) (note : AuditNote) → said ≡ said_of note → new ≡ old ++ record_text form (codes "other") (line_only (codes "# ") (string said) ∷ [])
    → new ≡ old ++ shown_remark form note
shown_as form old new said note is made = made ∙ ap (λ t. old ++ record_text form (codes "other") (line_only (codes "# ") (string t) ∷ [])) is

some_length : (n : ℕ) → (suc n == 0) ≡ false
some_length n = grind (arith, nat_tests)

pub what_is_shown_was_met : WhatIsShownWasMet
what_is_shown_was_met form [] = refl
what_is_shown_was_met Text (note ∷ remarks) = some_length (length (drop 1 (shown_remarks Text (note ∷ remarks)))) ∙ sym (some_length (length remarks))
what_is_shown_was_met Json (note ∷ remarks) = some_length (length (drop 1 (shown_remarks Json (note ∷ remarks)))) ∙ sym (some_length (length remarks))
