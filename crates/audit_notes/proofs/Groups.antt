-- What stands for lines one by one is what stands for the groups.
use Rattle.std.proofs.Common.{◌≡◌, ℕ, suc, ◌+◌, ◌==◌, ◌&&◌, ◌||◌, Bool, true, false, if◌then◌else◌, length, List, [], ◌∷◌, ◌++◌, Option, Some, None, refl, sym, ap, ◌∙◌, append_assoc, append-nil, arith}
use Rattle.std.specs.List.{flat_map, list_any}
use Rattle.audit_notes.specs.Lines.{AuditLine}
use Rattle.audit_notes.specs.Folded.{Folding, Run, close_of, closed, counted, folded, folded_after, folded_if, group_lines, groups_of, is_bad_start, last_of, run_of, shown_after, with_bad, with_group}

-- ---- groups

-- a line that is no bad start stands alone
alone : (line : AuditLine) (groups : List (List AuditLine)) → is_bad_start line ≡ false → with_group line groups ≡ (line ∷ []) ∷ groups
alone line [] e = refl
alone line ([] ∷ groups) e = refl
alone line ((next ∷ lines) ∷ groups) e =
    ap (λ b. if b && is_bad_start next then (line ∷ next ∷ lines) ∷ groups else (line ∷ []) ∷ (next ∷ lines) ∷ groups) e

-- a bad start joins those after it
joins : (line next : AuditLine) (lines : List AuditLine) (groups : List (List AuditLine)) → is_bad_start line ≡ true → is_bad_start next ≡ true
    → with_group line ((next ∷ lines) ∷ groups) ≡ (line ∷ next ∷ lines) ∷ groups
joins line next lines groups e f =
    ap (λ b. if b && is_bad_start next then (line ∷ next ∷ lines) ∷ groups else (line ∷ []) ∷ (next ∷ lines) ∷ groups) e
    ∙ ap (λ b. if b then (line ∷ next ∷ lines) ∷ groups else (line ∷ []) ∷ (next ∷ lines) ∷ groups) f

with_lines : (line : AuditLine) (groups : List (List AuditLine)) → flat_map (λ group. group) (with_group line groups) ≡ line ∷ flat_map (λ group. group) groups
with_lines line [] = refl
with_lines line ([] ∷ groups) = refl
with_lines line ((next ∷ lines) ∷ groups) = by (is_bad_start line && is_bad_start next)
  where
    by : (b : Bool) → flat_map (λ group. group) (if b then (line ∷ next ∷ lines) ∷ groups else (line ∷ []) ∷ (next ∷ lines) ∷ groups)
        ≡ line ∷ flat_map (λ group. group) ((next ∷ lines) ∷ groups)
    by true = refl
    by false = refl

all_lines : (lines : List AuditLine) → flat_map (λ group. group) (groups_of lines) ≡ lines
all_lines [] = refl
all_lines (line ∷ lines) = with_lines line (groups_of lines) ∙ ap (λ ls. line ∷ ls) (all_lines lines)

or_left : (a b : Bool) → (a || b) ≡ false → a ≡ false
or_left true b h = cc
or_left false b h = refl

or_right : (a b : Bool) → (a || b) ≡ false → b ≡ false
or_right true b h = cc
or_right false b h = h

none_bad : (lines : List AuditLine) → list_any is_bad_start lines ≡ false → folded lines ≡ lines
none_bad [] h = refl
none_bad (line ∷ lines) h =
    ap (flat_map group_lines) (alone line (groups_of lines) (or_left (is_bad_start line) (list_any is_bad_start lines) h))
    ∙ ap (λ (ls : List AuditLine). line ∷ ls) (none_bad lines (or_right (is_bad_start line) (list_any is_bad_start lines) h))

-- ---- line by line

abbrev AllBad : List AuditLine → Type 0
AllBad [] = Unit {0}
AllBad (line ∷ lines) = (is_bad_start line ≡ true) × AllBad lines

bad_more : (lines : List AuditLine) (next : AuditLine) → AllBad lines → is_bad_start next ≡ true → AllBad (lines ++ next ∷ [])
bad_more [] next bad e = (e, tt)
bad_more (line ∷ lines) next bad e = (bad.0, bad_more lines next bad.1 e)

-- a run of bad starts is a group, up to a line that is none
before_other : (line : AuditLine) (lines : List AuditLine) (other : AuditLine) (rest : List AuditLine) → AllBad (line ∷ lines) → is_bad_start other ≡ false
    → groups_of ((line ∷ lines) ++ other ∷ rest) ≡ (line ∷ lines) ∷ (other ∷ []) ∷ groups_of rest
before_other line [] other rest bad e =
    ap (with_group line) (alone other (groups_of rest) e)
    ∙ ap (λ b. if b && is_bad_start other then (line ∷ other ∷ []) ∷ groups_of rest else (line ∷ []) ∷ (other ∷ []) ∷ groups_of rest) bad.0
    ∙ ap (λ b. if b then (line ∷ other ∷ []) ∷ groups_of rest else (line ∷ []) ∷ (other ∷ []) ∷ groups_of rest) e
before_other line (next ∷ lines) other rest bad e =
    ap (with_group line) (before_other next lines other rest bad.1 e) ∙ joins line next lines ((other ∷ []) ∷ groups_of rest) bad.0 bad.1.0

at_end : (line : AuditLine) (lines : List AuditLine) → AllBad (line ∷ lines) → groups_of (line ∷ lines) ≡ (line ∷ lines) ∷ []
at_end line [] bad = refl
at_end line (next ∷ lines) bad = ap (with_group line) (at_end next lines bad.1) ∙ joins line next lines [] bad.0 bad.1.0

last_more : (line : AuditLine) (lines : List AuditLine) (next : AuditLine) → last_of line (lines ++ next ∷ []) ≡ next
last_more line [] next = refl
last_more line (x ∷ lines) next = last_more x lines next

length_more : (lines : List AuditLine) (next : AuditLine) → length (lines ++ next ∷ []) ≡ length lines + 1
length_more [] next = refl
length_more (line ∷ lines) next = let more = length_more lines next in omega (arith, more)

count_more : (lines : List AuditLine) (next : AuditLine) → counted (counted (length lines + 1) + 1) ≡ counted (length (lines ++ next ∷ []) + 1)
count_more lines next = let more = length_more lines next in omega (arith, more)

run_more : (line : AuditLine) (lines : List AuditLine) (next : AuditLine) → with_bad (Some (run_of line lines)) next ≡ run_of line (lines ++ next ∷ [])
run_more line lines next =
    ap (λ n. let r : Run = record { first = line; to = close_of next; count = n } in r) (count_more lines next)
    ∙ ap (λ (l : AuditLine). let r : Run = record { first = line; to = close_of l; count = counted (length (lines ++ next ∷ []) + 1) } in r) (sym (last_more line lines next))

-- what is written line by line, of no run and after one
abbrev Written : List AuditLine → Type 0
Written rest =
    (folded_after None rest ≡ folded rest)
    × ((line : AuditLine) (lines : List AuditLine) → AllBad (line ∷ lines) → folded_after (Some (run_of line lines)) rest ≡ folded ((line ∷ lines) ++ rest))

written_more : (next : AuditLine) (rest : List AuditLine) (b : Bool) → is_bad_start next ≡ b → Written rest → Written (next ∷ rest)
written_more next rest true e w = (
  ap (λ b. if b then folded_after (Some (with_bad None next)) rest else closed None ++ (next ∷ folded_after None rest)) e ∙ w.1 next [] (e, tt),
  λ line lines bad.
      ap (λ b. if b then folded_after (Some (with_bad (Some (run_of line lines)) next)) rest else closed (Some (run_of line lines)) ++ (next ∷ folded_after None rest)) e
      ∙ ap (λ r. folded_after (Some r) rest) (run_more line lines next)
      ∙ w.1 line (lines ++ next ∷ []) (bad.0, bad_more lines next bad.1 e)
      ∙ ap (λ ls. folded (line ∷ ls)) (append_assoc lines (next ∷ []) rest),
)
written_more next rest false e w = (
  ap (λ b. if b then folded_after (Some (with_bad None next)) rest else closed None ++ (next ∷ folded_after None rest)) e
      ∙ ap (λ (ls : List AuditLine). next ∷ ls) w.0
      ∙ sym (ap (flat_map group_lines) (alone next (groups_of rest) e)),
  λ line lines bad.
      ap (λ b. if b then folded_after (Some (with_bad (Some (run_of line lines)) next)) rest else closed (Some (run_of line lines)) ++ (next ∷ folded_after None rest)) e
      ∙ ap (λ (ls : List AuditLine). closed (Some (run_of line lines)) ++ (next ∷ ls)) w.0
      ∙ sym (ap (flat_map group_lines) (before_other line lines next rest bad e)),
)

written : (rest : List AuditLine) → Written rest
written [] = (
  refl,
  λ line lines bad.
      sym (append-nil (closed (Some (run_of line lines)))) ∙ sym (ap (flat_map group_lines) (ap (λ ls. groups_of (line ∷ ls)) (append-nil lines) ∙ at_end line lines bad)),
)
written (next ∷ rest) = written_more next rest (is_bad_start next) refl (written rest)

-- what was held when no line is left
whole : (lines done : List AuditLine) (run : Option Run) → ((rest : List AuditLine) → folded_after None (lines ++ rest) ≡ done ++ folded_after run rest) → done ++ closed run ≡ folded lines
whole lines done run heard = sym (heard []) ∙ ap (folded_after None) (append-nil lines) ∙ (written lines).0

-- folded or not
shown_whole : (folds : Bool) (lines : List AuditLine) → shown_after folds None lines ≡ folded_if folds lines
shown_whole true lines = (written lines).0
shown_whole false lines = refl

pub folding : Folding
folding = record { lines = all_lines; same = none_bad; ended = whole; whole = shown_whole }
