-- Other text before a dump is passed over.
use Rattle.std.proofs.Common.{◌≡◌, ℕ, ◌+◌, ◌%◌, ◌==◌, ◌&&◌, not, nat_lt, Bool, true, false, if◌then◌else◌, List, [], ◌∷◌, ◌++◌, length, Option, Some, None, Result, Ok, Err, All, refl, ap, ◌∙◌, append_assoc}
use Rattle.std.proofs.lemmas.List.Elements.{All-head, All-tail}
use Rattle.text_core.specs.Lines.{lines_of}
use Rattle.edid_dump.specs.declared.rows.DumpForm.{DumpForm}
use Rattle.edid_dump.specs.declared.dump.DumpError.{DumpError}
use Rattle.edid_dump.specs.declared.dump.DumpError.TheVariants.{Cut, Long}
use Rattle.edid_dump.specs.Rows.{form_of, is_repeat, next_form, row}
use Rattle.edid_dump.specs.Dump.{dumped_from, bytes_of_rows, gathered_by, left_out, ordered, with_repeats, with_row}
use Rattle.edid_dump.specs.Printed.{TextBeforeIsPassedOver, text_of}
use Rattle.edid_dump.proofs.Printing.{IsLine, line_before}

abbrev Bytes : Type 0
Bytes = Result (List ℕ) DumpError

-- ---- bytes that are read do not depend on the line's number

ended_so : (c : Bool) (n m : ℕ) (bytes out : List ℕ) → (if c then Ok bytes else Err (Cut n)) ≡ Ok out → (if c then Ok bytes else Err (Cut m)) ≡ Ok out
ended_so true n m bytes out h = h
ended_so false n m bytes out h = let no : ⊥ = cc in absurd no

room_so : (c : Bool) (n m : ℕ) (now out : List ℕ) (p q : List ℕ → Bytes) → (p now ≡ Ok out → q now ≡ Ok out) → (if c then Err (Long n) else p now) ≡ Ok out → (if c then Err (Long m) else q now) ≡ Ok out
room_so true n m now out p q later h = let no : ⊥ = cc in absurd no
room_so false n m now out p q later h = later h

row_so : (form : DumpForm) (n m : ℕ) (skips : Bool) (bytes line out : List ℕ) (next : Option (List ℕ)) (p q : List ℕ → Bytes) → ((now : List ℕ) → p now ≡ Ok out → q now ≡ Ok out)
    → with_row form n skips bytes line next p ≡ Ok out → with_row form m skips bytes line next q ≡ Ok out
row_so form n m skips bytes line out None p q later h = ended_so (not skips && (length bytes % 128 == 0)) n m bytes out h
row_so form n m skips bytes line out (Some next) p q later h =
    let now = with_repeats (left_out form skips bytes line) bytes ++ next in
    room_so (nat_lt 512 (length bytes + left_out form skips bytes line + length next)) n m now out p q (later now) h

line_so : (form : DumpForm) (repeats : Bool) (n m : ℕ) (skips : Bool) (bytes line out : List ℕ) (next : Option (List ℕ)) (p q : Bool → List ℕ → Bytes) → ((s : Bool) (now : List ℕ) → p s now ≡ Ok out → q s now ≡ Ok out)
    → (if repeats then p true bytes else with_row form n skips bytes line next (p false)) ≡ Ok out → (if repeats then q true bytes else with_row form m skips bytes line next (q false)) ≡ Ok out
line_so form true n m skips bytes line out next p q later h = later true bytes h
line_so form false n m skips bytes line out next p q later h = row_so form n m skips bytes line out next (p false) (q false) (later false) h

gathered_so : (form : DumpForm) (n m : ℕ) (skips : Bool) (bytes : List ℕ) (lines : List (List ℕ)) (out : List ℕ) → bytes_of_rows form n skips bytes lines ≡ Ok out → bytes_of_rows form m skips bytes lines ≡ Ok out
gathered_so form n m skips bytes [] out h = ended_so (not skips && (length bytes % 128 == 0)) n m bytes out h
gathered_so form n m skips bytes (line ∷ lines) out h =
    line_so form (is_repeat form line) n m skips bytes line out (row form line) (λ s now. bytes_of_rows (next_form form) (n + 1) s now lines) (λ s now. bytes_of_rows (next_form form) (m + 1) s now lines)
    (λ s now k. gathered_so (next_form form) (n + 1) (m + 1) s now lines out k) h

ordered_so : (form : DumpForm) (a b : Bytes) (out : List ℕ) → ((now : List ℕ) → a ≡ Ok now → b ≡ Ok now) → ordered form a ≡ Ok out → ordered form b ≡ Ok out
ordered_so form (Ok now) b out later h = ap (ordered form) (later now refl) ∙ h
ordered_so form (Err e) b out later h = let no : ⊥ = cc in absurd no

form_so : (o : Option DumpForm) (n m : ℕ) (lines : List (List ℕ)) (a b : Bytes) (out : List ℕ) → (a ≡ Ok out → b ≡ Ok out) → gathered_by o n lines a ≡ Ok out → gathered_by o m lines b ≡ Ok out
form_so None n m lines a b out later h = later h
form_so (Some form) n m lines a b out later h = ordered_so form (bytes_of_rows form n false [] lines) (bytes_of_rows form m false [] lines) out (λ now k. gathered_so form n m false [] lines now k) h

dumped_so : (n m : ℕ) (lines : List (List ℕ)) (out : List ℕ) → dumped_from n lines ≡ Ok out → dumped_from m lines ≡ Ok out
dumped_so n m [] out h = let no : ⊥ = cc in absurd no
dumped_so n m (line ∷ lines) out h =
    form_so (form_of line) n m (line ∷ lines) (dumped_from (n + 1) lines) (dumped_from (m + 1) lines) out (λ k. dumped_so (n + 1) (m + 1) lines out k) h

-- ---- lines on which no EDID begins

abbrev IsNone : List ℕ → Type 0
IsNone line = form_of line ≡ None

passed_over : (lines rest : List (List ℕ)) (n : ℕ) (out : List ℕ) → All IsNone lines → ((m : ℕ) → dumped_from m rest ≡ Ok out) → dumped_from n (lines ++ rest) ≡ Ok out
passed_over [] rest n out h later = later n
passed_over (line ∷ lines) rest n out h later =
    ap (λ o. gathered_by o n (line ∷ (lines ++ rest)) (dumped_from (n + 1) (lines ++ rest))) (All-head IsNone line lines h)
    ∙ passed_over lines rest (n + 1) out (All-tail IsNone line lines h) later

lines_before : (lines : List (List ℕ)) (text : List ℕ) → All IsLine lines → lines_of (text_of lines ++ text) ≡ lines ++ lines_of text
lines_before [] text h = refl
lines_before (line ∷ lines) text h =
    ap lines_of (append_assoc (line ++ 10 ∷ []) (text_of lines) text ∙ append_assoc line (10 ∷ []) (text_of lines ++ text))
    ∙ line_before line (text_of lines ++ text) (All-head IsLine line lines h)
    ∙ ap (λ l. line ∷ l) (lines_before lines text (All-tail IsLine line lines h))

pub text_before : TextBeforeIsPassedOver
text_before lines text bytes are h =
    ap (dumped_from 1) (lines_before lines text are.plain) ∙ passed_over lines (lines_of text) 1 bytes are.none (λ m. dumped_so 1 m (lines_of text) bytes h)
