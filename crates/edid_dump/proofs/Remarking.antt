-- Lists with remarks, and their counts.
use Rattle.std.proofs.Common.{◌≡◌, ℕ, ◌==◌, Bool, true, false, if◌then◌else◌, List, [], ◌∷◌, length, take, drop, Option, Some, None, IsSome, is_some, refl, sym, ap, ◌∙◌, arith}
use Rattle.std.proofs.lemmas.Bool.{false≢true}
use Rattle.std.proofs.lemmas.Bool.Decides.{nat_tests}
use Rattle.std.specs.List.{list_all}
use Rattle.std.specs.Option.{option_map}
use Rattle.edid_dump.specs.Digits.{is_between, listed}
use Rattle.edid_dump.specs.Remarks.{are_signs, code_before, code_bytes, is_last, remark_at, some_bytes, some_count}

-- what stands after a remark
pub signs_after : (others : List ℕ) (o : Option (List ℕ)) → Some others ≡ o → list_all is_between others ≡ are_signs o
signs_after others o h = ap are_signs h

pub never_closed : (o : Option (List ℕ)) → None ≡ o → false ≡ are_signs o
never_closed o h = ap are_signs h

some_counted : (o : Option (List ℕ)) → some_count (option_map length o) ≡ option_map length (some_bytes o)
some_counted None = refl
some_counted (Some []) = refl
some_counted (Some (b ∷ bytes)) =
    let some : (length (b ∷ bytes) == 0) ≡ false = grind (arith, nat_tests) in
    ap (λ c. if c then None else Some (length (b ∷ bytes))) some

-- a list without a remark
pub code_plain : (text : List ℕ) (n : Option ℕ) → None ≡ remark_at 0 text → n ≡ option_map length (listed text) → n ≡ option_map length (code_bytes text)
code_plain text n h k = k ∙ ap (λ o. option_map length (code_before o text)) h

-- one with text after its remark, and with a remark at its end
pub code_open : (text : List ℕ) (place : ℕ) → Some place ≡ remark_at 0 text → is_last (drop place text) ≡ false → None ≡ option_map length (code_bytes text)
code_open text place h k =
    ap (λ b. option_map length (if b then some_bytes (listed (take place text)) else None)) (sym k) ∙ ap (λ o. option_map length (code_before o text)) h

pub code_counted : (text : List ℕ) (place : ℕ) (n m : Option ℕ) → Some place ≡ remark_at 0 text → is_last (drop place text) ≡ true → n ≡ option_map length (listed (take place text))
    → m ≡ some_count n → m ≡ option_map length (code_bytes text)
code_counted text place n m h k e f =
    f ∙ ap some_count e ∙ some_counted (listed (take place text)) ∙ ap (λ b. option_map length (if b then some_bytes (listed (take place text)) else None)) (sym k)
    ∙ ap (λ o. option_map length (code_before o text)) h

some_same : (o : Option (List ℕ)) → IsSome (some_bytes o) → some_bytes o ≡ o
some_same None h = absurd (false≢true h)
some_same (Some []) h = absurd (false≢true h)
some_same (Some (b ∷ bytes)) h = refl

chosen_same : (c : Bool) (o : Option (List ℕ)) → IsSome (if c then some_bytes o else None) → (if c then some_bytes o else None) ≡ o
chosen_same true o h = some_same o h
chosen_same false o h = absurd (false≢true h)

-- what can be read is what stands before the remark
pub code_is : (text : List ℕ) (place : ℕ) → Some place ≡ remark_at 0 text → IsSome (code_bytes text) → code_bytes text ≡ listed (take place text)
code_is text place h some =
    let at : code_bytes text ≡ code_before (Some place) text = ap (λ o. code_before o text) (sym h) in
    at ∙ chosen_same (is_last (drop place text)) (listed (take place text)) (ap is_some (sym at) ∙ some)

pub plain_is : (text : List ℕ) → None ≡ remark_at 0 text → code_bytes text ≡ listed text
plain_is text h = ap (λ o. code_before o text) (sym h)
