-- Counts that stay at their greatest value.
use Rattle.std.proofs.Common.{◌≡◌, ℕ, ◌+◌, ◌-◌, ◌<◌, ◌≤◌, min, List, [], ◌∷◌, map, refl, sym, ◌∙◌, ap, subst, arith}
use Rattle.std.proofs.Math.Nat.{min-le_right}
use Rattle.line_reading.specs.Windows.{wider}
use Rattle.line_reading.specs.declared.times.Windows.{Windows}
use Rattle.capture_core.specs.Edges.{Captured}
use Rattle.capture_monitor.specs.Watch.{captured_by}
use Rattle.audit_notes.specs.Lines.{AuditLine}
use Rattle.audit_notes.specs.Lines.AuditLine.{Group, Note, Reading, Word}
use Rattle.capture_advice.specs.declared.widening.Widening.{Widening}
use Rattle.capture_advice.specs.Counts.{Counts, IsCounted, ReadsMore, capped, complete_at, complete_in, count_in, count_of, counted_after, most_count, one_more}

zero_more : (n : ℕ) → capped n ≡ capped (n + 0)
zero_more n = omega arith

zero_first : (n : ℕ) → capped (0 + n) ≡ capped n
zero_first n = omega arith

capped_once : (n k : ℕ) → capped (min (n + k) most_count) ≡ capped (n + k)
capped_once n k = omega arith

capped_more : (a b x y : ℕ) → capped b ≡ capped (a + x) → capped (b + y) ≡ capped (a + (x + y))
capped_more a b x y e = omega (arith, e)

one_capped : (n : ℕ) (line : AuditLine) → capped (one_more n line) ≡ capped (n + count_in line)
one_capped n (Reading x) = capped_once n (count_of x.reported.ending)
one_capped n (Group group) = zero_more n
one_capped n (Word word) = zero_more n
one_capped n (Note note) = zero_more n

capped_along : (n : ℕ) (lines : List AuditLine) → capped (counted_after n lines) ≡ capped (n + complete_in lines)
capped_along n [] = zero_more n
capped_along n (x ∷ xs) = capped_along (one_more n x) xs ∙ capped_more n (one_more n x) (count_in x) (complete_in xs) (one_capped n x)

one_most : (n : ℕ) (line : AuditLine) → n ≤ most_count → one_more n line ≤ most_count
one_most n (Reading x) h = min-le_right (n + count_of x.reported.ending) most_count
one_most n (Group group) h = h
one_most n (Word word) h = h
one_most n (Note note) h = h

after_most : (n : ℕ) (lines : List AuditLine) → n ≤ most_count → counted_after n lines ≤ most_count
after_most n [] h = h
after_most n (x ∷ xs) h = after_most (one_more n x) xs (one_most n x h)

zero_most : 0 ≤ most_count
zero_most = omega arith

pub within_most : (n : ℕ) (lines : List AuditLine) → Counts 0 lines n → n ≤ most_count
within_most n lines counts = subst (λ (m : ℕ). m ≤ most_count) (sym counts) (after_most 0 lines zero_most)

pub same_windows : (n margin : ℕ) (windows : Windows) (c : Captured) → windows ≡ wider margin → Counts 0 (map Reading (captured_by windows c)) n → capped n ≡ capped (complete_at margin c)
same_windows n margin windows c e counts =
    ap (λ (j : ℕ). capped j) counts ∙ capped_along 0 (map Reading (captured_by windows c)) ∙ zero_first (complete_in (map Reading (captured_by windows c)))
    ∙ ap (λ (w : Windows). capped (complete_in (map Reading (captured_by w c)))) e

-- what two counts say is what is read
pub more_counted : (a b n m x : ℕ) → a ≤ most_count → b ≤ most_count → capped a ≡ capped m → capped b ≡ capped n → x ≡ a - b → x ≡ capped m - capped n
more_counted a b n m x within few e f more = omega (arith, within, few, e, f, more)

pub none_more : (n : ℕ) → 0 ≡ capped n - capped n
none_more n = omega arith

more_read : (n m x : ℕ) → x ≡ capped m - capped n → 0 < x → n < m
more_read n m x e more = omega (arith, e, more)

-- what is counted is more
pub reads_more : (c : Captured) (w : Widening) → IsCounted c w → ReadsMore c w
reads_more c w counted = λ more. more_read (complete_at 0 c) (complete_at w.margin c) w.more counted more
