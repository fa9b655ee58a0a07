-- Readings of which some are joined, as lines.
use Rattle.std.proofs.Common.{◌≡◌, ℕ, ◌||◌, ◌<◌, Bool, true, false, nat_lt, if◌then◌else◌, List, [], ◌∷◌, ◌++◌, map, Option, Some, None, append_assoc, refl, sym, ap, ◌∙◌, arith}
use Rattle.std.proofs.lemmas.Bool.Decides.{nat_tests}
use Rattle.line_reading.specs.Readings.{Listed}
use Rattle.audit_notes.specs.Lines.{AuditLine}
use Rattle.audit_notes.specs.Lines.AuditLine.{Group, Reading}
use Rattle.audit_notes.specs.declared.reading.ReadingGroup.TheVariants.{Joined}
use Rattle.capture_join.specs.Joined.{AreOneLine, BeginBefore, HeldReadingsAreOneLine, has_begun, has_joined, joined_lines, lines_from, opened}

pub or_assoc : (a b c : Bool) → ((a || b) || c) ≡ (a || (b || c))
or_assoc true b c = refl
or_assoc false b c = refl

pub or_none : (b : Bool) → (b || false) ≡ b
or_none true = refl
or_none false = refl

true_or : (b : Bool) → true ≡ (b || true)
true_or true = refl
true_or false = refl

pub has_more : (t : ℕ) (xs ys : List Listed) → has_joined t (xs ++ ys) ≡ (has_joined t xs || has_joined t ys)
has_more t [] ys = refl
has_more t (x ∷ xs) ys = ap (λ b. nat_lt x.begin t || b) (has_more t xs ys) ∙ sym (or_assoc (nat_lt x.begin t) (has_joined t xs) (has_joined t ys))

abbrev lead : ℕ → Bool → List AuditLine
lead t b = if b then [] else Group (Joined t) ∷ []

pub joined_more : (t : ℕ) (b : Bool) (xs ys : List Listed) → joined_lines t b (xs ++ ys) ≡ joined_lines t b xs ++ joined_lines t (b || has_joined t xs) ys
joined_more t b [] ys = ap (λ c. joined_lines t c ys) (sym (or_none b))
joined_more t b (x ∷ xs) ys = by (nat_lt x.begin t) (joined_more t true xs ys) (joined_more t b xs ys)
  where
    by : (c : Bool) → joined_lines t true (xs ++ ys) ≡ joined_lines t true xs ++ joined_lines t true ys → joined_lines t b (xs ++ ys) ≡ joined_lines t b xs ++ joined_lines t (b || has_joined t xs) ys
        → (if c then lead t b ++ joined_lines t true (xs ++ ys) else Reading x ∷ joined_lines t b (xs ++ ys))
        ≡ (if c then lead t b ++ joined_lines t true xs else Reading x ∷ joined_lines t b xs) ++ joined_lines t (b || (c || has_joined t xs)) ys
    by true one other =
        ap (λ l. lead t b ++ l) one ∙ sym (append_assoc (lead t b) (joined_lines t true xs) (joined_lines t true ys))
        ∙ ap (λ c. (lead t b ++ joined_lines t true xs) ++ joined_lines t c ys) (true_or b)
    by false one other = ap (λ l. Reading x ∷ l) other

-- none is joined up to 0
pub none_joined : (b : Bool) (xs : List Listed) → joined_lines 0 b xs ≡ map Reading xs
none_joined b [] = refl
none_joined b (x ∷ xs) = let late : nat_lt x.begin 0 ≡ false = grind (arith, nat_tests) in rw late (ap (λ l. Reading x ∷ l) (none_joined b xs))

-- ---- where the instant is perhaps not known

pub begun_none : (start : Option ℕ) → has_begun start [] ≡ false
begun_none None = refl
begun_none (Some t) = refl

pub no_lines_from : (start : Option ℕ) (b : Bool) → lines_from start b [] ≡ []
no_lines_from None b = refl
no_lines_from (Some t) b = refl

pub begun_more : (start : Option ℕ) (xs ys : List Listed) → has_begun start (xs ++ ys) ≡ (has_begun start xs || has_begun start ys)
begun_more None [] ys = refl
begun_more None (x ∷ xs) ys = refl
begun_more (Some t) xs ys = has_more t xs ys

pub lines_from_more : (start : Option ℕ) (b : Bool) (xs ys : List Listed) → lines_from start b (xs ++ ys) ≡ lines_from start b xs ++ lines_from start (b || has_begun start xs) ys
lines_from_more None b xs ys = refl
lines_from_more (Some t) b xs ys = joined_more t b xs ys

-- ---- readings that begin before it

all_joined : (t : ℕ) (xs : List Listed) → BeginBefore t xs → joined_lines t true xs ≡ []
all_joined t [] h = refl
all_joined t (x ∷ xs) h = let sooner = h.0 in let is : nat_lt x.begin t ≡ true = grind (arith, nat_tests) in rw is (all_joined t xs h.1)

pub one_line : HeldReadingsAreOneLine
one_line t [] h = record { lines = refl; begun = refl }
one_line t (x ∷ xs) h =
    let sooner = h.0 in
    let is : nat_lt x.begin t ≡ true = grind (arith, nat_tests) in
    record {
      lines = rw is (ap (λ ls. Group (Joined t) ∷ ls) (all_joined t xs h.1));
      begun = rw is refl;
    }
