-- Rows, and their counts.
use Rattle.std.proofs.Common.{◌≡◌, ℕ, zero, suc, ◌≤◌, Bool, true, false, if◌then◌else◌, List, [], ◌∷◌, length, take, drop, Option, Some, None, IsSome, is_some, refl, sym, ap, ◌∙◌, arith}
use Rattle.std.specs.Option.{option_map}
use Rattle.std.specs.Str.{bytes_eq}
use Rattle.std.proofs.lemmas.Bool.{false≢true}
use Rattle.edid_dump.specs.declared.rows.DumpForm.{DumpForm}
use Rattle.edid_dump.specs.Digits.{bytes_with_row}
use Rattle.edid_dump.specs.Rows.{begins_with, counted_bytes, digits_read, digits_start, may_have, row, row_from}

-- the count of a row, from that of its pairs
abbrev pub chosen : DumpForm → Option ℕ → Option ℕ
chosen form None = None
chosen form (Some n) = if may_have form n then Some n else None

counts : (form : DumpForm) (o : Option (List ℕ)) → option_map length (counted_bytes form o) ≡ chosen form (option_map length o)
counts form None = refl
counts form (Some bytes) = by (may_have form (length bytes))
  where
    by : (b : Bool) → option_map length (if b then Some bytes else None) ≡ (if b then Some (length bytes) else None)
    by true = refl
    by false = refl

pub row_by_count : (form : DumpForm) (line : List ℕ) (start : ℕ) (body : List ℕ) (count : Option ℕ) → Some start ≡ digits_start form line
    → body ≡ drop start line → count ≡ option_map length (digits_read form body) → option_map length (row form line) ≡ chosen form count
row_by_count form line start body count h b e =
    let same : digits_read form body ≡ digits_read form (drop start line) = ap (digits_read form) b in
    ap (λ s. option_map length (row_from form line s)) (sym h) ∙ counts form (digits_read form (drop start line))
    ∙ ap (λ o. chosen form (option_map length o)) (sym same) ∙ ap (chosen form) (sym e)

pub chosen_all : (form : DumpForm) (n : ℕ) → may_have form n ≡ true → chosen form (Some n) ≡ Some n
chosen_all form n h = ap (λ b. if b then Some n else None) h

pub chosen_none : (form : DumpForm) (n : ℕ) → may_have form n ≡ false → chosen form (Some n) ≡ None
chosen_none form n h = ap (λ b. if b then Some n else None) h

pub counted_some : (o : Option (List ℕ)) (n : ℕ) → Some n ≡ option_map length o → IsSome o
counted_some None n h = cc
counted_some (Some bytes) n h = refl

-- a row's bytes are those of its pairs
whole : (form : DumpForm) (o : Option (List ℕ)) → IsSome (counted_bytes form o) → counted_bytes form o ≡ o
whole form None h = refl
whole form (Some bytes) h = by (may_have form (length bytes)) h
  where
    by : (b : Bool) → IsSome (if b then Some bytes else None) → (if b then Some bytes else None) ≡ Some bytes
    by true h = refl
    by false h = absurd (false≢true h)

pub row_pairs : (form : DumpForm) (line : List ℕ) (start : ℕ) → digits_start form line ≡ Some start → IsSome (row form line) → row form line ≡ digits_read form (drop start line)
row_pairs form line start h some =
    let at : row form line ≡ counted_bytes form (digits_read form (drop start line)) = ap (row_from form line) h in
    at ∙ whole form (digits_read form (drop start line)) (ap is_some (sym at) ∙ some)

pub row_absent : (form : DumpForm) (line : List ℕ) → digits_start form line ≡ None → row form line ≡ None
row_absent form line h = ap (row_from form line) h

-- a front of a front
take_again : (n m : ℕ) (xs : List ℕ) → n ≤ m → take n (take m xs) ≡ take n xs
take_again zero m xs h = refl
take_again (suc n) zero xs h = absurd (omega arith)
take_again (suc n) (suc m) [] h = refl
take_again (suc n) (suc m) (x ∷ xs) h = ap (λ l. x ∷ l) (take_again n m xs (omega arith))

-- the header, from the front of a row
pub header_of : (front : List ℕ) (o : Option (List ℕ)) (bytes : List ℕ) → bytes_with_row [] o ≡ Some bytes → begins_with front o ≡ bytes_eq (take 8 bytes) front
header_of front None bytes h = cc
header_of front (Some next) bytes h =
    let e : take 512 next ≡ bytes = cc in
    ap (λ l. bytes_eq l front) (sym (take_again 8 512 next (omega arith)) ∙ ap (take 8) e)

-- no count, so no row
pub begins_absent : (front : List ℕ) (o : Option (List ℕ)) → None ≡ option_map length o → false ≡ begins_with front o
begins_absent front None h = refl
begins_absent front (Some bytes) h = cc
